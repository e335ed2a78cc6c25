-- What each placement keeps: its entries are entries of the table, and each is a follower of the one before.
use Rattle.std.proofs.Common.{◌≡◌, ℕ, zero, suc, ◌+◌, ◌-◌, ◌<◌, ◌≤◌, true, false, List, [], ◌∷◌, ◌++◌, Option, Some, None, map, length, take, get_or, refl, sym, ap, subst, ◌∙◌, ◌⊎◌, inl, inr, ⊎_elim, arith}
use Rattle.std.specs.Prelude.{slice_index, slice_get, nat_eq, Contains, ◌==◌}
use Rattle.std.specs.List.{list_any, filter_map}
use Rattle.std.proofs.lemmas.Bool.{false≢true, cases_lt, ne_eqb, eqb-true, eq-eqb, or_cases, or_left, or_right, and_parts}
use Rattle.std.proofs.lemmas.List.{take_more, map-append, get_or_push, length-append}
use Rattle.std.proofs.lemmas.List.Elements.{All-contains}
use Rattle.std.proofs.lemmas.Option.{none-some, slice_get-get_or, slice_get_within, get_or_from_slice_get}
use Rattle.edi_tables.specs.declared.tag.Tag.{Tag}
use Rattle.edi_tables.specs.declared.table.Node.{Node}
use Rattle.edi_tables.specs.Rows.{IsTable}
use Rattle.edi_tables.specs.Walk.{read_node, tag_at, parent_at, is_group_at, is_trigger_at, is_repeat, groups_round, candidates_of}
use Rattle.edi_tables.specs.Placement.{group_count, entry_count, last_placed, IsPlacement}
use Rattle.edi_tables.specs.Collisions.{is_follower, followers_of}
use Rattle.edi_tables.proofs.NodeReads.{tag_at_is, is_group_at_is}
use Rattle.edi_tables.proofs.GroupLaws.{groups_fail}
use Rattle.edi_tables.proofs.TableLaws.{HasTableLaws, table_laws}
use Rattle.edi_tables.proofs.Stepping.{is_round, Steps, round_none, candidates_step_so}
use Rattle.edi_tables.proofs.Counting.{group_counted, entry_counted, follower_of_rank}
use Rattle.edi_tables.proofs.Places.{kept}

-- what is read past the tags
pub blank : Tag
blank = record { octets = [] }

pub filter_some : (xs : List ℕ) → filter_map (λ (p : Option ℕ). p) (map Some xs) ≡ xs
filter_some [] = refl
filter_some (x ∷ xs) = ap (λ rest. x ∷ rest) (filter_some xs)

pub last_index : (front : List ℕ) (x : ℕ) → slice_index (front ++ x ∷ []) (length (front ++ x ∷ []) - 1) ≡ x
last_index front x =
    let long : length (front ++ x ∷ []) ≡ length front + 1 = length-append front (x ∷ []) in
    get_or_push front x 0 (length (front ++ x ∷ []) - 1) (omega arith)

-- the entry that was placed last
pub last_of : (entries : List ℕ) (k : ℕ) → k < length entries → last_placed (map Some (take (k + 1) entries)) ≡ slice_index entries k
last_of entries k within =
    ap (λ (xs : List ℕ). slice_index xs (length xs - 1)) (filter_some (take (k + 1) entries) ∙ take_more entries k 0 within)
    ∙ last_index (take k entries) (slice_index entries k)

-- one entry more is placed
pub placed_more : (entries : List ℕ) (k : ℕ) → k < length entries → map Some (take (k + 1) entries) ≡ map Some (take k entries) ++ Some (slice_index entries k) ∷ []
placed_more entries k within = ap (map Some) (take_more entries k 0 within) ∙ map-append Some (take k entries) (slice_index entries k ∷ [])

any_before : (c : ℕ) (groups : List ℕ) → list_any (λ g. g + 1 == c) groups ≡ true → list_any (nat_eq (c - 1)) groups ≡ true
any_before c [] some = absurd (false≢true some)
any_before c (g ∷ groups) some = ⊎_elim
    (λ here. let same : c - 1 ≡ g = omega (arith, eqb-true (g + 1) c here) in or_left (nat_eq (c - 1) g) (list_any (nat_eq (c - 1)) groups) (eq-eqb (c - 1) g same))
    (λ later. or_right (nat_eq (c - 1) g) (list_any (nat_eq (c - 1)) groups) (any_before c groups later))
    (or_cases (g + 1 == c) (list_any (λ h. h + 1 == c) groups) some)

module _ (nodes : List Node) (table : IsTable nodes) where
  laws : HasTableLaws nodes
  laws = table_laws nodes table

  -- a repeated group is round the entry
  pub repeat_round : (f c : ℕ) → is_repeat nodes f c ≡ true → is_round nodes f (c - 1) ≡ true
  repeat_round f c repeat = any_before c (groups_round nodes f) (and_parts (is_trigger_at nodes c) _ repeat).1

  -- a group is before what it is round
  pub round_below : (c g : ℕ) → is_round nodes c g ≡ true → g < c
  round_below c g round = ⊎_elim (λ below. below)
      (λ past. absurd (false≢true (sym (groups_fail nodes laws (nat_eq g) c (λ h before. ne_eqb g h (λ same. omega arith))) ∙ round)))
      (cases_lt g c)

  -- no group is round the first node
  pub first_outside : (found : Option ℕ) → parent_at nodes 0 ≡ found → parent_at nodes 0 ≡ None
  first_outside None is = is
  first_outside (Some g) is = absurd (omega (arith, laws.parent_before 0 g is))

  -- a node with a tag is an entry of the table
  pub tagged : (i : ℕ) (tag : Tag) (found : Option Node) → slice_get nodes i ≡ found → tag_at nodes i ≡ Some tag → (is_group_at nodes i ≡ false) × (i < length nodes)
  tagged i tag None at is =
      let nothing : tag_at nodes i ≡ None = rw (read_node, at) refl in
      absurd (none-some tag (sym nothing ∙ is))
  tagged i tag (Some node) at is = (
    is_group_at_is nodes i node at ∙ ap (λ (o : Option Tag). elim o [ None ↦ true | Some t ↦ false ]) (sym (tag_at_is nodes i node at) ∙ is),
    slice_get_within nodes i node at,
  )

  module _ (tags : List Tag) (entries : List ℕ) (placement : IsPlacement nodes tags entries) where
    -- each group round the entry at k has been counted after its placement
    abbrev pub Counted : ℕ → Type 0
    Counted k = (g : ℕ) → is_round nodes (slice_index entries k) g ≡ true → 1 ≤ group_count nodes (map Some (take (k + 1) entries)) g

    pub first_entry : slice_index entries 0 ≡ 0
    first_entry = get_or_from_slice_get entries 0 0 0 placement.first

    counted_first : Counted 0
    counted_first g round =
        absurd (false≢true (sym (ap (λ (c : ℕ). is_round nodes c g) first_entry ∙ round_none nodes table 0 g (first_outside (parent_at nodes 0) refl)) ∙ round))

    counted_more : (k : ℕ) → k + 1 < length entries → Counted k → Counted (k + 1)
    counted_more k within counted g round =
        let c : ℕ = slice_index entries (k + 1) in
        let steps = All-contains (Steps nodes (slice_index entries k)) (candidates_of nodes (slice_index entries k)) c (candidates_step_so nodes table (slice_index entries k)) (placement.candidate k within) in
        let from : (1 ≤ group_count nodes (map Some (take (k + 1) entries)) g) ⊎ (c ≡ g + 1) = ⊎_elim (λ stays. inl (counted g stays)) (λ trigger. inr trigger) (steps g round) in
        let below : g < c = round_below c g round in
        let now = group_counted nodes (map Some (take (k + 1) entries)) c g (λ h up same. omega (arith, laws.parent_before g h up, below, same)) from in
        omega (arith, now, ap (λ (placed : List (Option ℕ)). group_count nodes placed g) (placed_more entries (k + 1) within))

    pub counted : (k : ℕ) → k < length entries → Counted k
    counted zero within = counted_first
    counted (suc k) within =
        let more : k + 1 ≡ suc k = omega arith in
        subst Counted more (counted_more k (omega arith) (counted k (omega arith)))

    -- each entry but the first is a follower of the one before
    pub follows : (k : ℕ) → k + 1 < length entries → is_follower nodes (slice_index entries k) (slice_index entries (k + 1)) ≡ true
    follows k within =
        let placed : List (Option ℕ) = map Some (take (k + 1) entries) in
        let c : ℕ = slice_index entries (k + 1) in
        let is : last_placed placed ≡ slice_index entries k = last_of entries k (omega arith) in
        let group : is_repeat nodes (last_placed placed) c ≡ true → 1 ≤ group_count nodes placed (c - 1) =
        λ repeat. counted k (omega arith) (c - 1) (ap (λ (f : ℕ). is_round nodes f (c - 1)) (sym is) ∙ repeat_round (last_placed placed) c repeat) in
        let own : 1 ≤ entry_count nodes placed (last_placed placed) =
        omega (arith, entry_counted nodes (map Some (take k entries)) (slice_index entries k), ap (λ (p : List (Option ℕ)). entry_count nodes p (slice_index entries k)) (placed_more entries k (omega arith)), ap (entry_count nodes placed) is) in
        sym (ap (λ (f : ℕ). is_follower nodes f c) is) ∙ follower_of_rank nodes placed c (placement.rank k within) group own

    pub in_followers : (k : ℕ) → k + 1 < length entries → Contains (followers_of nodes (slice_index entries k)) (slice_index entries (k + 1))
    unfolding followers_of
    in_followers k within =
        let found = placement.candidate k within in
        kept (is_follower nodes (slice_index entries k)) (candidates_of nodes (slice_index entries k)) (slice_index entries (k + 1)) found.0 found.1 found.2 (follows k within)

    pub tag_known : (k : ℕ) → k + 1 < length entries → tag_at nodes (slice_index entries (k + 1)) ≡ Some (get_or tags (k + 1) blank)
    tag_known k within = placement.tag k within ∙ slice_get-get_or tags (k + 1) blank (omega (arith, placement.long))

    abbrev pub IsEntry : ℕ → Type 0
    IsEntry k = (is_group_at nodes (slice_index entries k) ≡ false) × (slice_index entries k < length nodes)

    entry_more : (k : ℕ) → k + 1 < length entries → IsEntry (k + 1)
    entry_more k within = tagged (slice_index entries (k + 1)) (get_or tags (k + 1) blank) (slice_get nodes (slice_index entries (k + 1))) refl (tag_known k within)

    pub entry_is : (k : ℕ) → k < length entries → IsEntry k
    entry_is zero within =
        tagged (slice_index entries 0) _ (slice_get nodes (slice_index entries 0)) refl (ap (tag_at nodes) first_entry ∙ laws.first_tag)
    entry_is (suc k) within =
        let more : k + 1 ≡ suc k = omega arith in
        subst IsEntry more (entry_more k (omega arith))
