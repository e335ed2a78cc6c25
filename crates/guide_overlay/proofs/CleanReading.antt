-- A message without a structure error has a derivation: the entries of its reading.
use Rattle.std.proofs.Common.{◌≡◌, ℕ, zero, suc, ◌+◌, ◌-◌, ◌<◌, Bool, true, false, List, [], ◌∷◌, Option, Some, None, map, length, take, get_or, refl, sym, ap, subst, ◌∙◌, inl, inr, arith}
use Rattle.std.specs.Prelude.{codes, Contains, filter, nat_lt, slice_get, slice_index, ◌&&◌, if◌then◌else◌}
use Rattle.std.specs.List.{filter_map, flat_map, list_any, range_with_len}
use Rattle.std.proofs.lemmas.Bool.{cases_eq, false≢true}
use Rattle.std.proofs.lemmas.List.{get_or-map, length-map, take-map}
use Rattle.std.proofs.lemmas.Option.{slice_get_within}
use Rattle.std.proofs.lemmas.Slice.Eq.{bytes_eq-Decides}
use Rattle.edi_tables.specs.declared.tag.Tag.{Tag}
use Rattle.edi_tables.specs.declared.table.Node.{Node}
use Rattle.edi_tables.specs.Collisions.{are_same_tag}
use Rattle.edi_tables.specs.Extents.{tag_in}
use Rattle.edi_tables.specs.Filled.{is_filled}
use Rattle.edi_tables.specs.Rows.{has_name, IsTable}
use Rattle.edi_tables.specs.Walk.{tag_at, is_must_at, are_siblings, groups_round, candidates_of, later_nodes, missing_between, missing_past}
use Rattle.edi_tables.specs.Placement.{last_placed, is_over, rank_of, IsPlacement, IsDerivation}
use Rattle.edi_tables.proofs.Faults.{nil-append}
use Rattle.edi_tables.proofs.Lawful.{named_is}
use Rattle.edi_tables.proofs.Placements.{filter_some, last_of}
use Rattle.edi_tables.proofs.Stretches.{passing_end}
use Rattle.edi_tables.proofs.TableLaws.{HasTableLaws, table_laws}
use Rattle.table_walk.specs.Reading.{IsMember, member_at, IsReading}
use Rattle.table_walk.specs.Errors.{Fault, StructureError, faults_of, faults_at, at_place, open_faults, errors_of_placed}
use Rattle.table_walk.specs.Errors.Fault.{Missing, Over, Unplaced}
use Rattle.table_walk.proofs.Sound.{member_fits}
use Rattle.guide_overlay.proofs.ListMembers.{in_range}

-- what comes of each member, where nothing comes of all
flat_none : {A : Type 0} (made : ℕ → List A) (xs : List ℕ) (x : ℕ) → flat_map made xs ≡ [] → Contains xs x → made x ≡ []
flat_none made [] x none found = absurd (omega (arith, found.1))
flat_none made (y ∷ xs) x none (zero, within, is) = ap made (sym is) ∙ (nil-append (made y) (flat_map made xs) none).0
flat_none made (y ∷ xs) x none (suc k, within, is) = flat_none made xs x (nil-append (made y) (flat_map made xs) none).1 (k, omega (arith, within), is)

map_none : {A B : Type 0} (made : A → B) (xs : List A) → map made xs ≡ [] → xs ≡ []
map_none made [] none = refl
map_none made (x ∷ xs) none = cc

some_only : {A : Type 0} (x : A) → x ∷ [] ≡ [] → ⊥
some_only x none = cc

-- a list of which each member is there
pub all_there : {A : Type 0} (xs : List (Option A)) → ((k : ℕ) → k < length xs → (x : A) × (get_or xs k None ≡ Some x)) → map Some (filter_map (λ (p : Option A). p) xs) ≡ xs
all_there [] each = refl
all_there (None ∷ xs) each = let here = each 0 (omega arith) in absurd (let no : ⊥ = cc (here.1) in no)
all_there (Some x ∷ xs) each = ap (λ more. Some x ∷ more) (all_there xs (λ k within. each (suc k) (omega arith)))

pub tag_in_some : (names : List Tag) (k : ℕ) → tag_in (map Some names) k ≡ slice_get names k
tag_in_some [] k = refl
tag_in_some (name ∷ names) zero = refl
tag_in_some (name ∷ names) (suc k) = tag_in_some names k

pub tag_in_is : (tags : List (Option Tag)) (k : ℕ) → tag_in tags k ≡ get_or tags k None
tag_in_is [] k = refl
tag_in_is (tag ∷ tags) zero = refl
tag_in_is (tag ∷ tags) (suc k) = tag_in_is tags k

-- two tags that are the same are there, and one
pub same_tags : (a b : Option Tag) → are_same_tag a b ≡ true → (tag : Tag) × (a ≡ Some tag) × (b ≡ a)
same_tags None b same = absurd (false≢true same)
same_tags (Some a) None same = absurd (false≢true same)
same_tags (Some a) (Some b) same = (a, refl, ap (λ (o : List ℕ). let t : Tag = record { octets = o } in Some t) (sym ((bytes_eq-Decides a.octets b.octets).0 same)))

none_over : (over : Bool) (c : ℕ) → (if over then Over c ∷ [] else []) ≡ [] → over ≡ false
none_over true c none = absurd (some_only (Over c) none)
none_over false c none = refl

module _ (nodes : List Node) where
  -- a member with which nothing is wrong is at an entry, with rank 0
  rank_of_none : (placed : List (Option ℕ)) (c : ℕ) → faults_of nodes placed (Some c) ≡ [] → rank_of nodes placed c ≡ 0
  unfolding rank_of
  rank_of_none placed c none =
      let parts = nil-append (map Missing (missing_between nodes (last_placed placed) c)) (if is_over nodes placed c then Over c ∷ [] else []) none in
      ap (λ (b : Bool). (if b then 1 else 0) + (if is_filled (missing_between nodes (last_placed placed) c) then 2 else 0)) (none_over (is_over nodes placed c) c parts.1)
      ∙ ap (λ (xs : List ℕ). 0 + (if is_filled xs then 2 else 0)) (map_none Missing (missing_between nodes (last_placed placed) c) parts.0)

  pub placed_of_none : (placed : List (Option ℕ)) (member : Option ℕ) → faults_of nodes placed member ≡ [] → (c : ℕ) × (member ≡ Some c)
  placed_of_none placed None none = absurd (some_only Unplaced none)
  placed_of_none placed (Some c) none = (c, refl)

  module _ (placed : List (Option ℕ)) (closed : Bool) (clean : errors_of_placed nodes placed closed ≡ []) where
    abbrev errors_at : ℕ → List StructureError
    errors_at k = at_place k (faults_at nodes placed k)

    parts : (flat_map errors_at (range_with_len 1 (length placed - 1)) ≡ []) × (at_place (length placed - 1) (open_faults nodes placed closed) ≡ [])
    parts = nil-append (flat_map errors_at (range_with_len 1 (length placed - 1))) (at_place (length placed - 1) (open_faults nodes placed closed)) clean

    -- nothing is wrong with any segment
    pub none_at : (k : ℕ) → k + 1 < length placed → faults_at nodes placed (k + 1) ≡ []
    none_at k within =
        map_none (λ (fault : Fault). let error : StructureError = record { at = k + 1; fault = fault } in error) (faults_at nodes placed (k + 1))
        (flat_none errors_at (range_with_len 1 (length placed - 1)) (k + 1) parts.0 (in_range 1 (length placed - 1) (k + 1) (omega arith) (omega arith)))

    -- nor at the end
    pub none_open : open_faults nodes placed closed ≡ []
    none_open = map_none (λ (fault : Fault). let error : StructureError = record { at = length placed - 1; fault = fault } in error) (open_faults nodes placed closed) parts.1

  module _ (table : IsTable nodes) where
    laws : HasTableLaws nodes
    laws = table_laws nodes table

    -- nothing comes later than the last node
    past_last : (e : ℕ) → e + 1 ≡ length nodes → missing_past nodes e ≡ []
    unfolding missing_past later_nodes
    past_last e last =
        let none : later_nodes nodes e ≡ [] =
        passing_end (λ j. list_any (λ i. nat_lt i j && are_siblings nodes i j) (e ∷ groups_round nodes e)) (e + 1) (length nodes) (omega arith) in
        ap (filter (is_must_at nodes)) none

    module _ (names : List Tag) (entries : List ℕ) (closed : Bool) (reading : IsReading nodes (map Some names) (map Some entries)) (clean : errors_of_placed nodes (map Some entries) closed ≡ []) where
      long : length entries ≡ length names
      long = sym (length-map entries Some) ∙ reading.long ∙ length-map names Some

      first : (xs : List ℕ) → slice_get (map Some xs) 0 ≡ Some (Some 0) → slice_get xs 0 ≡ Some 0
      first [] is = absurd (let no : ⊥ = cc in no)
      first (x ∷ xs) is = let same : x ≡ 0 = cc in ap Some same

      module _ (k : ℕ) (within : k + 1 < length entries) where
        here : member_at (map Some entries) (k + 1) ≡ Some (slice_index entries (k + 1))
        here = get_or-map Some entries (k + 1) 0 None within

        before : take (k + 1) (map Some entries) ≡ map Some (take (k + 1) entries)
        before = take-map Some (k + 1) entries

        member : IsMember nodes (map Some (take (k + 1) entries)) (tag_in (map Some names) (k + 1)) (Some (slice_index entries (k + 1)))
        member =
            subst (λ m. IsMember nodes (map Some (take (k + 1) entries)) (tag_in (map Some names) (k + 1)) m) here
            (subst (λ p. IsMember nodes p (tag_in (map Some names) (k + 1)) (member_at (map Some entries) (k + 1))) before
            (reading.next k (omega (arith, within, length-map entries Some))))

        candidate : Contains (candidates_of nodes (slice_index entries k)) (slice_index entries (k + 1))
        candidate =
            subst (λ (f : ℕ). Contains (candidates_of nodes f) (slice_index entries (k + 1))) (last_of entries k (omega arith))
            (member_fits nodes (map Some (take (k + 1) entries)) (tag_in (map Some names) (k + 1)) (slice_index entries (k + 1)) member).0

        tag : tag_at nodes (slice_index entries (k + 1)) ≡ slice_get names (k + 1)
        tag =
            (same_tags (tag_in (map Some names) (k + 1)) (tag_at nodes (slice_index entries (k + 1)))
            (member_fits nodes (map Some (take (k + 1) entries)) (tag_in (map Some names) (k + 1)) (slice_index entries (k + 1)) member).1).2
            ∙ tag_in_some names (k + 1)

        rank : rank_of nodes (map Some (take (k + 1) entries)) (slice_index entries (k + 1)) ≡ 0
        rank =
            rank_of_none (map Some (take (k + 1) entries)) (slice_index entries (k + 1))
            (sym (ap (faults_of nodes (map Some (take (k + 1) entries))) here) ∙ sym (ap (λ p. faults_of nodes p (member_at (map Some entries) (k + 1))) before)
            ∙ none_at (map Some entries) closed clean k (omega (arith, within, length-map entries Some)))

      pub placement_of : has_name (codes "UNH") (slice_get names 0) ≡ true → IsPlacement nodes names entries
      placement_of opens = record { long = long; first = first entries reading.first; opens = opens; candidate = candidate; tag = tag; rank = rank }

      -- UNT is at the last node
      tag_last : has_name (codes "UNH") (slice_get names 0) ≡ true → has_name (codes "UNT") (slice_get names (length names - 1)) ≡ true → has_name (codes "UNT") (tag_at nodes (slice_index entries (length entries - 1))) ≡ true
      tag_last opens closes = elim (cases_eq (length entries) 1) [
        | inl one ↦
            let only : length names - 1 ≡ 0 = omega (arith, long, one) in
            absurd (false≢true (subst (λ found. has_name (codes "UNT") found ≡ true) (ap (slice_get names) only ∙ named_is (codes "UNH") (slice_get names 0) opens) closes))
        | inr more ↦
            let some = slice_get_within entries 0 0 (first entries reading.first) in
            let k : ℕ = length entries - 2 in
            let last : k + 1 ≡ length entries - 1 = omega arith in
            ap (has_name (codes "UNT")) (ap (λ (n : ℕ). tag_at nodes (slice_index entries n)) (sym last) ∙ tag k (omega arith) ∙ ap (slice_get names) (let same : k + 1 ≡ length names - 1 = omega (arith, long) in same)) ∙ closes
      ]

      complete_by : (is_closed : Bool) → is_closed ≡ closed → has_name (codes "UNH") (slice_get names 0) ≡ true → (closed ≡ true → has_name (codes "UNT") (slice_get names (length names - 1)) ≡ true)
          → missing_past nodes (slice_index entries (length entries - 1)) ≡ []
      complete_by true is opens closes = past_last (slice_index entries (length entries - 1)) (laws.last_only (slice_index entries (length entries - 1)) (tag_last opens (closes (sym is))))
      complete_by false is opens closes =
          sym (ap (λ (xs : List ℕ). missing_past nodes (slice_index xs (length xs - 1))) (filter_some entries))
          ∙ map_none Missing (missing_past nodes (last_placed (map Some entries))) (ap (open_faults nodes (map Some entries)) is ∙ none_open (map Some entries) closed clean)

      -- entries that are read without an error are a derivation
      pub derivation_of : has_name (codes "UNH") (slice_get names 0) ≡ true → (closed ≡ true → has_name (codes "UNT") (slice_get names (length names - 1)) ≡ true) → IsDerivation nodes names entries
      derivation_of opens closes = record { placement = placement_of opens; complete = complete_by closed refl opens closes }
