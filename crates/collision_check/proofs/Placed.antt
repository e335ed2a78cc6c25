-- The front of an entry and a follower after it are a placement of their tags.
use Rattle.std.proofs.Common.{◌≡◌, ℕ, zero, suc, ◌+◌, ◌-◌, ◌<◌, ◌≤◌, Bool, true, false, cond, List, [], ◌∷◌, ◌++◌, Option, Some, None, map, length, take, drop, get_or, refl, sym, ap, subst, ◌∙◌, inl, inr, arith}
use Rattle.std.specs.Prelude.{nat_le, not, ◌&&◌, ◌==◌, filter, slice_get, count_by, codes, Contains, if◌then◌else◌}
use Rattle.std.specs.List.{All, filter_map, range_with_len}
use Rattle.std.proofs.lemmas.Bool.{cases_lt, eqb-true, leb-true, lt-leb, and_parts, and_left, false≢true, not-true}
use Rattle.std.proofs.lemmas.List.{length-append, get_or_push, get_or_append_left}
use Rattle.std.proofs.Math.Seq.{take-append_seam}
use Rattle.std.proofs.lemmas.List.Elements.{All-head, All-tail, All-push, All-weaker, All-get_or}
use Rattle.std.proofs.lemmas.Option.{slice_get-get_or, slice_get_cases}
use Rattle.std.proofs.lemmas.Slice.Eq.{bytes_eq-Decides}
use Rattle.edi_tables.specs.declared.tag.Tag.{Tag}
use Rattle.edi_tables.specs.declared.table.Node.{Node}
use Rattle.edi_tables.specs.Rows.{has_name, IsTable}
use Rattle.edi_tables.specs.Walk.{tag_at, parent_at, max_at, is_group_at, is_repeat, candidates_of, missing_between}
use Rattle.edi_tables.specs.Placement.{is_at, placed_since, placed_after, entry_count, group_count, last_placed, is_over, rank_of, IsPlacement}
use Rattle.edi_tables.specs.Filled.{is_filled}
use Rattle.edi_tables.specs.Collisions.{is_in_front, front_of, is_follower, are_same_tag}
use Rattle.edi_tables.proofs.NodeReads.{tag_at_is, is_group_at_is}
use Rattle.edi_tables.proofs.TableLaws.{HasTableLaws, table_laws}
use Rattle.collision_check.proofs.Pairs.{filter_push}
use Rattle.edi_tables.proofs.Stepping.{round_none}
use Rattle.edi_tables.proofs.Placements.{last_of, tagged, first_outside}
use Rattle.edi_tables.proofs.Places.{Passes, passing_each, AreNeighbours, neighbours, starts_with, count_once, count_drop}
use Rattle.collision_check.proofs.Fronts.{front_entry, in_front, front_itself, IsNextCandidate, next_is}

-- where each entry has a tag, their tags are in the same places
module _ (tag : ℕ → Option Tag) where
  -- an entry with a tag
  abbrev pub HasTag : ℕ → Type 0
  HasTag x = (t : Tag) × (tag x ≡ Some t)

  -- there are as many tags as entries
  length_tags : (xs : List ℕ) → All HasTag xs → length (filter_map tag xs) ≡ length xs
  length_tags [] have = refl
  length_tags (x ∷ xs) have =
      let head = All-head HasTag x xs have in
      rw head.1 (ap suc (length_tags xs (All-tail HasTag x xs have)))

  -- the tag at a place is that of the entry there
  tags_at : (xs : List ℕ) → All HasTag xs → (k : ℕ) (d : Tag) → k < length xs → Some (get_or (filter_map tag xs) k d) ≡ tag (get_or xs k 0)
  tags_at [] have k d within = absurd (omega arith)
  tags_at (x ∷ xs) have zero d within =
      let head = All-head HasTag x xs have in
      rw head.1
  tags_at (x ∷ xs) have (suc k) d within =
      let head = All-head HasTag x xs have in
      rw head.1 (tags_at xs (All-tail HasTag x xs have) k d (omega arith))

-- a tag to read past the end
blank : Tag
blank = record { octets = [] }

-- what is no group has a tag
tag_or : (found : Option Tag) → (elim found [ None ↦ true | Some t ↦ false ]) ≡ false → (t : Tag) × (found ≡ Some t)
tag_or None plain = absurd (false≢true (sym plain))
tag_or (Some t) plain = (t, refl)

-- two entries with one tag have it both
pub same_tags : (a b : Option Tag) → are_same_tag a b ≡ true → (t : Tag) × (a ≡ Some t) × (b ≡ Some t)
same_tags None b same = absurd (false≢true same)
same_tags (Some a) None same = absurd (false≢true same)
same_tags (Some a) (Some b) same =
    (a, refl, ap (λ (o : List ℕ). Some (record { octets = o })) (sym ((bytes_eq-Decides a.octets b.octets).0 same)))

-- one placement at most is fewer than a count of two or more allows
too_few : (most count : ℕ) → count ≤ 1 → nat_le 2 most ≡ true → nat_le most count ≡ false
too_few most count few two = lt-leb most count (omega (arith, leb-true 2 most two))

-- where a second one is allowed and one at most was counted, the next isn't over
none_over : (repeat itself : Bool) (group_most group_is most is own : ℕ) → (if repeat then nat_le 2 group_most else (if itself then nat_le 2 own else true)) ≡ true
    → group_is ≤ 1 → is ≤ 1 → (itself ≡ true → own ≡ most) → (if repeat then nat_le group_most group_is else (itself && nat_le most is)) ≡ false
none_over true itself group_most group_is most is own again group entry same = too_few group_most group_is group again
none_over false true group_most group_is most is own again group entry same = too_few most is entry (ap (nat_le 2) (sym (same refl)) ∙ again)
none_over false false group_most group_is most is own again group entry same = refl

module _ (nodes : List Node) (placed : List (Option ℕ)) (e c : ℕ) (last : last_placed placed ≡ e) where
  -- the rank is 0 where nothing is missing and it is not over
  rank_none : is_over nodes placed c ≡ false → is_filled (missing_between nodes e c) ≡ false → rank_of nodes placed c ≡ 0
  unfolding rank_of
  rank_none over missing =
      ap (λ (b : Bool). (if b then 1 else 0) + (if is_filled (missing_between nodes (last_placed placed) c) then 2 else 0)) over
      ∙ ap (λ (b : Bool). 0 + (if b then 2 else 0)) (ap (λ (x : ℕ). is_filled (missing_between nodes x c)) last ∙ missing)

  -- what isn't the same entry and repeats no group is never over
  rank_of_other : is_repeat nodes e c ≡ false → (c == e) ≡ false → missing_between nodes e c ≡ [] → rank_of nodes placed c ≡ 0
  unfolding is_over
  rank_of_other repeats differs missing =
      rank_none
      (ap (λ (b : Bool). if b then nat_le (max_at nodes (c - 1)) (group_count nodes placed (c - 1)) else (c == last_placed placed && nat_le (max_at nodes c) (entry_count nodes placed c)))
      (ap (λ (x : ℕ). is_repeat nodes x c) last ∙ repeats)
      ∙ and_left (c == last_placed placed) (nat_le (max_at nodes c) (entry_count nodes placed c)) (ap (λ (x : ℕ). c == x) last ∙ differs))
      (ap is_filled missing)

  -- nor is a follower after entries that occur once each
  rank_of_follower : is_follower nodes e c ≡ true → group_count nodes placed (c - 1) ≤ 1 → entry_count nodes placed c ≤ 1 → rank_of nodes placed c ≡ 0
  unfolding is_over
  rank_of_follower follows group entry =
      let parts = and_parts (not (is_filled (missing_between nodes e c))) _ follows in
      rank_none
      (ap (λ (x : ℕ). if is_repeat nodes x c then nat_le (max_at nodes (c - 1)) (group_count nodes placed (c - 1)) else (c == x && nat_le (max_at nodes c) (entry_count nodes placed c))) last
      ∙ none_over (is_repeat nodes e c) (c == e) (max_at nodes (c - 1)) (group_count nodes placed (c - 1)) (max_at nodes c) (entry_count nodes placed c) (max_at nodes e) parts.1 group entry
      (λ same. ap (max_at nodes) (sym (eqb-true c e same))))
      (not-true (is_filled (missing_between nodes e c)) parts.0)

-- after the first few none is placed twice either
drop_once : (q : Option ℕ → Bool) (n : ℕ) (placed : List (Option ℕ)) → count_by q placed ≤ 1 → count_by q (drop n placed) ≤ 1
drop_once q n placed once = omega (arith, count_drop q n placed)

module _ (nodes : List Node) (placed : List (Option ℕ)) (once : (x : ℕ) → count_by (is_at x) placed ≤ 1) where
  -- nor since the trigger of a group
  since_once : (found : Option ℕ) (x : ℕ) → count_by (is_at x) (placed_since found placed) ≤ 1
  since_once None x = once x
  since_once (Some g) x = drop_once (is_at x) _ placed (once x)

  -- nor after it
  after_once : (found : Option ℕ) (x : ℕ) → count_by (is_at x) (placed_after found placed) ≤ 1
  after_once None x = once x
  after_once (Some g) x = drop_once (is_at x) _ placed (once x)

  -- the count of an entry is 1 at most
  entry_once : (c : ℕ) → entry_count nodes placed c ≤ 1
  unfolding entry_count
  entry_once c = since_once (parent_at nodes c) c

  -- the count of a group is 1 at most
  group_once : (g : ℕ) → group_count nodes placed g ≤ 1
  unfolding group_count
  group_once g = after_once (parent_at nodes g) (g + 1)

module _ (nodes : List Node) (table : IsTable nodes) where
  laws : HasTableLaws nodes
  laws = table_laws nodes table

  -- an entry of the table has a tag
  entry_tagged : (x : ℕ) → x < length nodes → is_group_at nodes x ≡ false → HasTag (tag_at nodes) x
  entry_tagged x within entry = elim ((slice_get_cases nodes x).1) [
    | inl some ↦ (let found = tag_or some.0.tag (sym (is_group_at_is nodes x some.0 some.2) ∙ entry) in (found.0, tag_at_is nodes x some.0 some.2 ∙ found.1))
    | inr past ↦ absurd (omega (arith, past.0))
  ]

  module _ (f : ℕ) (within : f < length nodes) (entry : is_group_at nodes f ≡ false) where
    -- UNH is in each front
    first_in_front : is_in_front nodes f 0 ≡ true
    first_in_front =
        in_front nodes table f 0 (tagged nodes table 0 _ (slice_get nodes 0) refl laws.first_tag).0 laws.first_must
        (λ g round. absurd (false≢true (sym (round_none nodes table 0 g (first_outside nodes table (parent_at nodes 0) refl)) ∙ round)))

    -- it comes first
    front_first : (rest : List ℕ) × (front_of nodes f ≡ 0 ∷ rest)
    unfolding front_of
    front_first = starts_with (is_in_front nodes f) (f + 1) (omega arith) first_in_front

    -- the entry itself comes last
    front_last : (before : List ℕ) × (front_of nodes f ≡ before ++ f ∷ [])
    unfolding front_of
    front_last = (
      filter (is_in_front nodes f) (range_with_len 0 f),
      filter_push (is_in_front nodes f) f
          ∙ ap (λ (b : Bool). filter (is_in_front nodes f) (range_with_len 0 f) ++ cond b (f ∷ []) []) (front_itself nodes table f entry),
    )

    -- each member of the front passes, and comes no later than the entry
    front_each : All (Passes (is_in_front nodes f) 0 (f + 1)) (front_of nodes f)
    unfolding front_of
    front_each = passing_each (is_in_front nodes f) (f + 1) 0 (f + 1) (omega arith)

    -- none occurs twice
    front_once : (x : ℕ) → count_by (is_at x) (map Some (front_of nodes f)) ≤ 1
    unfolding front_of
    front_once x = count_once (is_in_front nodes f) x (f + 1) 0

    -- two that are side by side are neighbours
    front_sides : (k : ℕ) → suc k < length (front_of nodes f) → AreNeighbours (is_in_front nodes f) (get_or (front_of nodes f) k 0) (get_or (front_of nodes f) (suc k) 0)
    unfolding front_of
    front_sides k below = neighbours (is_in_front nodes f) (f + 1) 0 k below

    -- each has a tag
    front_tagged : All (HasTag (tag_at nodes)) (front_of nodes f)
    front_tagged =
        All-weaker (Passes (is_in_front nodes f) 0 (f + 1)) (HasTag (tag_at nodes))
        (λ x here. entry_tagged x (omega (arith, here.1)) (front_entry nodes table f x here.2)) (front_of nodes f) front_each

    -- a candidate after f that is a follower
    abbrev pub IsFollower : ℕ → Type 0
    IsFollower c = Contains (candidates_of nodes f) c × (is_follower nodes f c ≡ true)

    module _ (c : ℕ) (follows : IsFollower c) (has : HasTag (tag_at nodes) c) where
      -- the front, and a follower after it
      abbrev entries : List ℕ
      entries = front_of nodes f ++ c ∷ []

      -- each of these has a tag
      entries_tagged : All (HasTag (tag_at nodes)) entries
      entries_tagged = All-push (HasTag (tag_at nodes)) (front_of nodes f) c front_tagged has

      -- and it is at its place
      tag_there : (k : ℕ) → k < length entries → tag_at nodes (get_or entries k 0) ≡ slice_get (filter_map (tag_at nodes) entries) k
      tag_there k below =
          sym (slice_get-get_or (filter_map (tag_at nodes) entries) k blank (omega (arith, length_tags (tag_at nodes) entries entries_tagged))
          ∙ tags_at (tag_at nodes) entries entries_tagged k blank below)

      -- the step to the entry after the one at k
      abbrev Goes : ℕ → Type 0
      Goes k = Contains (candidates_of nodes (get_or entries k 0)) (get_or entries (k + 1) 0) × (rank_of nodes (map Some (take (k + 1) entries)) (get_or entries (k + 1) 0) ≡ 0)

      -- within the front each step goes so
      goes_on : (k : ℕ) → k + 1 < length (front_of nodes f) → Goes k
      goes_on k below =
          let e : ℕ = get_or (front_of nodes f) k 0 in
          let next : ℕ = get_or (front_of nodes f) (suc k) 0 in
          let more : k + 1 ≡ suc k = omega arith in
          let at_e : get_or entries k 0 ≡ e = get_or_append_left (front_of nodes f) (c ∷ []) 0 k (omega arith) in
          let at_next : get_or entries (k + 1) 0 ≡ next = get_or_append_left (front_of nodes f) (c ∷ []) 0 (k + 1) below ∙ ap (λ (n : ℕ). get_or (front_of nodes f) n 0) more in
          let high = All-get_or (Passes (is_in_front nodes f) 0 (f + 1)) (front_of nodes f) (suc k) 0 (omega arith) front_each in
          let step : IsNextCandidate nodes table f e next (front_sides k (omega arith)) (omega (arith, high.1)) = next_is nodes table f e next (front_sides k (omega arith)) (omega (arith, high.1)) within in
          let long : k < length entries = omega (arith, length-append (front_of nodes f) (c ∷ [])) in (
            subst (λ (x : ℕ). Contains (candidates_of nodes x) (get_or entries (k + 1) 0)) (sym at_e) (subst (Contains (candidates_of nodes e)) (sym at_next) step.candidate),
            subst (λ (y : ℕ). rank_of nodes (map Some (take (k + 1) entries)) y ≡ 0) (sym at_next)
                (rank_of_other nodes (map Some (take (k + 1) entries)) e next (last_of entries k long ∙ at_e) step.repeats step.differs step.missing),
          )

      -- the step to the follower goes so too
      goes_last : (k : ℕ) → k + 1 ≡ length (front_of nodes f) → Goes k
      goes_last k same =
          let front : List ℕ = front_of nodes f in
          let before : List ℕ = front_last.0 in
          let pushed : length front ≡ length before + 1 = ap length front_last.1 ∙ length-append before (f ∷ []) in
          let at_f : get_or entries k 0 ≡ f =
          get_or_append_left front (c ∷ []) 0 k (omega arith) ∙ ap (λ (xs : List ℕ). get_or xs k 0) front_last.1 ∙ get_or_push before f 0 k (omega arith) in
          let at_c : get_or entries (k + 1) 0 ≡ c = get_or_push front c 0 (k + 1) (sym same) in
          let long : k < length entries = omega (arith, length-append front (c ∷ [])) in
          let placed : map Some (take (k + 1) entries) ≡ map Some front = ap (λ (n : ℕ). map Some (take n entries)) same ∙ ap (map Some) (take-append_seam front (c ∷ [])) in
          let last : last_placed (map Some front) ≡ f = sym (ap last_placed placed) ∙ last_of entries k long ∙ at_f in
          let rank : rank_of nodes (map Some front) c ≡ 0 =
          rank_of_follower nodes (map Some front) f c last follows.1 (group_once nodes (map Some front) front_once (c - 1)) (entry_once nodes (map Some front) front_once c) in (
            subst (λ (x : ℕ). Contains (candidates_of nodes x) (get_or entries (k + 1) 0)) (sym at_f) (subst (Contains (candidates_of nodes f)) (sym at_c) follows.0),
            ap (λ (xs : List (Option ℕ)). rank_of nodes xs (get_or entries (k + 1) 0)) placed ∙ ap (rank_of nodes (map Some front)) at_c ∙ rank,
          )

      -- each step goes so
      goes : (k : ℕ) → k + 1 < length entries → Goes k
      goes k below =
          let long : length entries ≡ length (front_of nodes f) + 1 = length-append (front_of nodes f) (c ∷ []) in
          elim (cases_lt (k + 1) (length (front_of nodes f))) [
            | inl before ↦ goes_on k before
            | inr past ↦ goes_last k (omega arith)
          ]

      -- the front and a follower after it are a placement of their tags
      pub placement : IsPlacement nodes (filter_map (tag_at nodes) entries) entries
      placement =
          let starts : entries ≡ 0 ∷ (front_first.0 ++ c ∷ []) = ap (λ (xs : List ℕ). xs ++ c ∷ []) front_first.1 in
          let some : 0 < length entries = omega (arith, length-append (front_of nodes f) (c ∷ [])) in
          let opening : slice_get (filter_map (tag_at nodes) entries) 0 ≡ Some (record { octets = codes "UNH" }) =
          sym (tag_there 0 some) ∙ ap (λ (xs : List ℕ). tag_at nodes (get_or xs 0 0)) starts ∙ laws.first_tag in
          record {
            long = sym (length_tags (tag_at nodes) entries entries_tagged);
            first = ap (λ (xs : List ℕ). slice_get xs 0) starts;
            opens = ap (has_name (codes "UNH")) opening;
            candidate = λ k below. (goes k below).0;
            tag = λ k below. tag_there (k + 1) below;
            rank = λ k below. (goes k below).1;
          }
