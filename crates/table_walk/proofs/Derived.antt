-- Where a table lists no collision, a derivation is the reading of its tags, and that has no structure error.
use Rattle.std.proofs.Common.{◌≡◌, ℕ, zero, suc, ◌+◌, ◌-◌, ◌<◌, ◌≤◌, Bool, true, false, List, [], ◌∷◌, ◌++◌, Option, Some, None, map, length, take, get_or, refl, sym, ap, subst, ◌∙◌, inl, inr, arith}
use Rattle.std.specs.Prelude.{Contains, filter, slice_get, slice_index, if◌then◌else◌}
use Rattle.std.specs.List.{flat_map, range_with_len}
use Rattle.std.proofs.lemmas.Bool.{cases_eq, false≢true}
use Rattle.std.proofs.lemmas.List.{get_or-map, length-map, take-map}
use Rattle.std.proofs.lemmas.List.Elements.{All-filter, All-contains, All-contains_itself, filter_passes}
use Rattle.std.proofs.lemmas.Option.{slice_get-get_or}
use Rattle.std.proofs.lemmas.Slice.Eq.{bytes_eq-Decides}
use Rattle.edi_tables.specs.declared.tag.Tag.{Tag}
use Rattle.edi_tables.specs.declared.table.Node.{Node}
use Rattle.edi_tables.specs.Rows.{IsTable}
use Rattle.edi_tables.specs.Walk.{tag_at, candidates_of, is_repeat, missing_between, missing_past}
use Rattle.edi_tables.specs.Placement.{last_placed, entry_count, group_count, is_over, rank_of, IsPlacement, IsDerivation}
use Rattle.edi_tables.specs.Filled.{is_filled}
use Rattle.edi_tables.specs.Collisions.{are_same_tag, is_follower, followers_of, collisions_of}
use Rattle.edi_tables.specs.Extents.{tag_in}
use Rattle.edi_tables.proofs.Stepping.{is_round}
use Rattle.edi_tables.proofs.Counting.{zero_parts, entry_counted, follower_of_rank}
use Rattle.edi_tables.proofs.Places.{kept}
use Rattle.edi_tables.proofs.Placements.{blank, filter_some, last_of, placed_more, repeat_round, counted, in_followers, tag_known, entry_is}
use Rattle.collision_check.proofs.Single.{same_follower}
use Rattle.table_walk.specs.Reading.{has_tag, IsLeast, IsMember, member_at, IsReading, reading_of}
use Rattle.table_walk.specs.Errors.{StructureError, faults_of, faults_at, at_place, open_faults, errors_of_placed, structure_errors_of}
use Rattle.table_walk.specs.Errors.Fault.{Missing, Over}
use Rattle.table_walk.proofs.Readings.{some_read, reading_is, reading_once}

-- the only one of rank 0 is the least
contains_tail : (x c : ℕ) (xs : List ℕ) → (x ≡ c → ⊥) → Contains (x ∷ xs) c → Contains xs c
contains_tail x c xs differ (zero, within, is) = absurd (differ is)
contains_tail x c xs differ (suc k, within, is) = (k, omega (arith, within), is)

contains_more : (x d : ℕ) (xs : List ℕ) → Contains xs d → Contains (x ∷ xs) d
contains_more x d xs (k, within, is) = (suc k, omega (arith, within), is)

only_zero : (rank : ℕ → ℕ) (xs : List ℕ) (c : ℕ) → rank c ≡ 0 → Contains xs c → ((d : ℕ) → Contains xs d → rank d ≡ 0 → d ≡ c) → IsLeast rank xs c
only_zero rank [] c none (k, within, is) only = absurd (omega (arith, within))
only_zero rank (x ∷ xs) c none found only = elim (cases_eq (rank x) 0) [
  | inl zero_rank ↦ inl (sym (only x (0, omega arith, refl) zero_rank), λ k d within. omega (arith, zero_rank))
  | inr differ ↦ inr (
    omega (arith, none, differ),
    only_zero rank xs c none
        (contains_tail x c xs (λ same. differ (ap rank same ∙ none)) found) (λ d there. only d (contains_more x d xs there)),
  )
]

first_map : (entries : List ℕ) (x : ℕ) → slice_get entries 0 ≡ Some x → slice_get (map Some entries) 0 ≡ Some (Some x)
first_map [] x is = absurd (let no : ⊥ = cc in no)
first_map (y ∷ entries) x is = let same : y ≡ x = cc in ap (λ (n : ℕ). Some (Some n)) same

get_map : (tags : List Tag) (k : ℕ) (tag : Tag) → slice_get tags k ≡ Some tag → slice_get (map Some tags) k ≡ Some (Some tag)
get_map [] k tag is = absurd (let no : ⊥ = cc in no)
get_map (t ∷ tags) zero tag is = let same : t ≡ tag = cc in ap (λ x. Some (Some x)) same
get_map (t ∷ tags) (suc k) tag is = get_map tags k tag is

-- an entry with the same octets has the same tag
same_tag : (tag : Tag) (found : Option Tag) → are_same_tag (Some tag) found ≡ true → found ≡ Some tag
same_tag tag None same = absurd (false≢true same)
same_tag tag (Some other) same = ap (λ (o : List ℕ). let t : Tag = record { octets = o } in Some t) (sym ((bytes_eq-Decides tag.octets other.octets).0 same))

has_own : (tag : Tag) (found : Option Tag) → found ≡ Some tag → are_same_tag (Some tag) found ≡ true
has_own tag found is = ap (are_same_tag (Some tag)) is ∙ (bytes_eq-Decides tag.octets tag.octets).1 refl

flat_none : (made : ℕ → List StructureError) (n a : ℕ) → ((k : ℕ) → a ≤ k → k < a + n → made k ≡ []) → flat_map made (range_with_len a n) ≡ []
flat_none made zero a none = refl
flat_none made (suc n) a none =
    ap (λ front. front ++ flat_map made (range_with_len (a + 1) n)) (none a (omega arith) (omega arith))
    ∙ flat_none made n (a + 1) (λ k low high. none k (omega arith) (omega arith))

not_filled : (xs : List ℕ) → is_filled xs ≡ false → xs ≡ []
not_filled [] none = refl
not_filled (x ∷ xs) none = absurd (false≢true (sym none))

-- nothing is wrong with a member of rank 0
no_fault : (nodes : List Node) (placed : List (Option ℕ)) (c : ℕ) → rank_of nodes placed c ≡ 0 → faults_of nodes placed (Some c) ≡ []
unfolding rank_of
no_fault nodes placed c rank =
    let parts = zero_parts (is_over nodes placed c) (is_filled (missing_between nodes (last_placed placed) c)) rank in
    ap (λ (xs : List ℕ). map Missing xs ++ (if is_over nodes placed c then Over c ∷ [] else [])) (not_filled (missing_between nodes (last_placed placed) c) parts.1)
    ∙ ap (λ b. if b then Over c ∷ [] else []) parts.0

module _ (nodes : List Node) (table : IsTable nodes) (none : collisions_of nodes ≡ []) (tags : List Tag) (entries : List ℕ) (placement : IsPlacement nodes tags entries) where
  abbrev placed_to : ℕ → List (Option ℕ)
  placed_to k = map Some (take (k + 1) entries)

  abbrev at_entry : ℕ → ℕ
  at_entry k = slice_index entries k

  module _ (k : ℕ) (within : k + 1 < length entries) where
    last_is : last_placed (placed_to k) ≡ at_entry k
    last_is = last_of entries k (omega arith)

    -- a candidate of rank 0 is a follower
    follower : (d : ℕ) → Contains (candidates_of nodes (at_entry k)) d → rank_of nodes (placed_to k) d ≡ 0 → Contains (followers_of nodes (at_entry k)) d
    unfolding followers_of
    follower d found rank =
        let group : is_repeat nodes (last_placed (placed_to k)) d ≡ true → 1 ≤ group_count nodes (placed_to k) (d - 1) =
        λ repeat. counted nodes table tags entries placement k (omega arith) (d - 1) (ap (λ (f : ℕ). is_round nodes f (d - 1)) (sym last_is) ∙ repeat_round nodes table (last_placed (placed_to k)) d repeat) in
        let own : 1 ≤ entry_count nodes (placed_to k) (last_placed (placed_to k)) =
        omega (arith, entry_counted nodes (map Some (take k entries)) (at_entry k), ap (λ (p : List (Option ℕ)). entry_count nodes p (at_entry k)) (placed_more entries k (omega arith)), ap (entry_count nodes (placed_to k)) last_is) in
        kept (is_follower nodes (at_entry k)) (candidates_of nodes (at_entry k)) d found.0 found.1 found.2
        (sym (ap (λ (f : ℕ). is_follower nodes f d) last_is) ∙ follower_of_rank nodes (placed_to k) d rank group own)

    own_tag : Tag
    own_tag = get_or tags (k + 1) blank

    only : (d : ℕ) → Contains (filter (has_tag nodes (Some own_tag)) (candidates_of nodes (at_entry k))) d → rank_of nodes (placed_to k) d ≡ 0 → d ≡ at_entry (k + 1)
    unfolding own_tag
    only d found rank =
        let candidates : List ℕ = candidates_of nodes (at_entry k) in
        let passes : ℕ → Bool = has_tag nodes (Some own_tag) in
        let candidate : Contains candidates d = All-contains (Contains candidates) (filter passes candidates) d (All-filter passes (Contains candidates) candidates (All-contains_itself candidates)) found in
        let tag_d : tag_at nodes d ≡ Some own_tag = same_tag own_tag (tag_at nodes d) (All-contains (λ x. passes x ≡ true) (filter passes candidates) d (filter_passes passes candidates) found) in
        let entry = entry_is nodes table tags entries placement k (omega arith) in
        same_follower nodes table none (at_entry k) entry.1 entry.0 own_tag d (at_entry (k + 1)) (follower d candidate rank)
        (in_followers nodes table tags entries placement k within) tag_d (tag_known nodes table tags entries placement k within)

    least_next : IsLeast (rank_of nodes (placed_to k)) (filter (has_tag nodes (Some own_tag)) (candidates_of nodes (at_entry k))) (at_entry (k + 1))
    unfolding own_tag
    least_next =
        let found = placement.candidate k within in
        only_zero (rank_of nodes (placed_to k)) (filter (has_tag nodes (Some own_tag)) (candidates_of nodes (at_entry k))) (at_entry (k + 1)) (placement.rank k within)
        (kept (has_tag nodes (Some own_tag)) (candidates_of nodes (at_entry k)) (at_entry (k + 1)) found.0 found.1 found.2 (has_own own_tag (tag_at nodes (at_entry (k + 1))) (tag_known nodes table tags entries placement k within)))
        only

    member_next : IsMember nodes (take (k + 1) (map Some entries)) (tag_in (map Some tags) (k + 1)) (member_at (map Some entries) (k + 1))
    unfolding own_tag
    member_next =
        let front : placed_to k ≡ take (k + 1) (map Some entries) = sym (take-map Some (k + 1) entries) in
        let tag_here : Some own_tag ≡ tag_in (map Some tags) (k + 1) =
        sym (ap (λ (found : Option (Option Tag)). elim found [ None ↦ None | Some tag ↦ tag ])
        (get_map tags (k + 1) own_tag (slice_get-get_or tags (k + 1) blank (omega (arith, placement.long))))) in
        let here : Some (at_entry (k + 1)) ≡ member_at (map Some entries) (k + 1) = sym (get_or-map Some entries (k + 1) 0 None within) in
        let least : IsMember nodes (placed_to k) (Some own_tag) (Some (at_entry (k + 1))) =
        subst (λ (f : ℕ). IsLeast (rank_of nodes (placed_to k)) (filter (has_tag nodes (Some own_tag)) (candidates_of nodes f)) (at_entry (k + 1))) (sym last_is) least_next in
        subst (λ m. IsMember nodes (take (k + 1) (map Some entries)) (tag_in (map Some tags) (k + 1)) m) here
        (subst (λ t. IsMember nodes (take (k + 1) (map Some entries)) t (Some (at_entry (k + 1)))) tag_here
        (subst (λ p. IsMember nodes p (Some own_tag) (Some (at_entry (k + 1)))) front least))

    -- nothing is wrong with it
    free_next : faults_at nodes (map Some entries) (k + 1) ≡ []
    free_next =
        ap (λ p. faults_of nodes p (member_at (map Some entries) (k + 1))) (take-map Some (k + 1) entries)
        ∙ ap (faults_of nodes (placed_to k)) (get_or-map Some entries (k + 1) 0 None within)
        ∙ no_fault nodes (placed_to k) (at_entry (k + 1)) (placement.rank k within)

  pub placement_is : IsReading nodes (map Some tags) (map Some entries)
  placement_is = record {
    long = length-map entries Some ∙ placement.long ∙ sym (length-map tags Some);
    first = first_map entries 0 placement.first;
    next = λ k within. member_next k (omega (arith, within, length-map entries Some));
  }

  free_each : (k : ℕ) → 1 ≤ k → k < 1 + (length (map Some entries) - 1) → at_place k (faults_at nodes (map Some entries) k) ≡ []
  free_each zero low high = absurd (omega (arith, low))
  free_each (suc k) low high =
      let next : k + 1 ≡ suc k = omega arith in
      subst (λ (n : ℕ). at_place n (faults_at nodes (map Some entries) n) ≡ []) next
      (ap (at_place (k + 1)) (free_next k (omega (arith, high, length-map entries Some))))

  module _ (complete : missing_past nodes (slice_index entries (length entries - 1)) ≡ []) where
    last_whole : last_placed (map Some entries) ≡ slice_index entries (length entries - 1)
    last_whole = ap (λ (xs : List ℕ). slice_index xs (length xs - 1)) (filter_some entries)

    free_end : (closed : Bool) → open_faults nodes (map Some entries) closed ≡ []
    free_end true = refl
    free_end false = ap (λ (f : ℕ). map Missing (missing_past nodes f)) last_whole ∙ ap (map Missing) complete

    pub placed_free : (closed : Bool) → errors_of_placed nodes (map Some entries) closed ≡ []
    placed_free closed =
        ap (λ front. front ++ at_place (length (map Some entries) - 1) (open_faults nodes (map Some entries) closed))
        (flat_none (λ k. at_place k (faults_at nodes (map Some entries) k)) (length (map Some entries) - 1) 1 free_each)
        ∙ ap (at_place (length (map Some entries) - 1)) (free_end closed)

module _ (nodes : List Node) (table : IsTable nodes) (none : collisions_of nodes ≡ []) (tags : List (Option Tag)) (placed : List (Option ℕ)) (is : placed ≡ reading_of nodes tags) where
  -- a derivation is the reading of its tags, which has no structure error
  pub derived : 0 < length tags → (names : List Tag) (entries : List ℕ) → map Some names ≡ tags → IsDerivation nodes names entries
      → (placed ≡ map Some entries) × ((closed : Bool) → structure_errors_of nodes tags closed ≡ [])
  unfolding structure_errors_of
  derived some names entries same derivation =
      let reading : IsReading nodes tags (map Some entries) = subst (λ ts. IsReading nodes ts (map Some entries)) same (placement_is nodes table none names entries derivation.placement) in
      let one : reading_of nodes tags ≡ map Some entries = reading_once nodes tags (reading_of nodes tags) (map Some entries) (reading_is nodes tags some) reading in (
        is ∙ one,
        λ closed. ap (λ p. errors_of_placed nodes p closed) one ∙ placed_free nodes table none names entries derivation.placement derivation.complete closed,
      )

module _ (nodes : List Node) (table : IsTable nodes) (none : collisions_of nodes ≡ []) (tags : List (Option Tag)) where
  -- the same of the reading itself, since tags with a derivation are at least that of UNH
  pub derived_reading : (names : List Tag) (entries : List ℕ) → map Some names ≡ tags → IsDerivation nodes names entries
      → (reading_of nodes tags ≡ map Some entries) × ((closed : Bool) → structure_errors_of nodes tags closed ≡ [])
  derived_reading names entries same derivation =
      let reading : IsReading nodes tags (map Some entries) = subst (λ ts. IsReading nodes ts (map Some entries)) same (placement_is nodes table none names entries derivation.placement) in
      derived nodes table none tags (reading_of nodes tags) refl (omega (arith, reading.long, some_read nodes tags (map Some entries) reading)) names entries same derivation
