-- Where segments are, and what is missing, are nodes of a table; and the numbers of its groups.
use Rattle.std.proofs.Common.{◌≡◌, ℕ, zero, suc, ◌+◌, ◌-◌, ◌<◌, ◌≤◌, Bool, true, false, cond, List, [], ◌∷◌, ◌++◌, length, get_or, Option, Some, None, refl, sym, ap, ◌∙◌, arith, add-one, length-append}
use Rattle.std.specs.Prelude.{map, All, if◌then◌else◌}
use Rattle.std.specs.List.{filter, range_with_len, slice_get}
use Rattle.std.specs.Option.{option_map}
use Rattle.std.proofs.lemmas.Option.{get_or_from_slice_get, slice_get-map}
use Rattle.std.proofs.lemmas.List.Elements.{All-cons, All-filter, All-nil, filter-append}
use Rattle.std.proofs.lemmas.List.FromFn.{get_or-map-range_with_len, length-map-range_with_len, map-range_with_len_more}
use Rattle.edi_tables.specs.declared.tag.Tag.{Tag}
use Rattle.edi_tables.specs.declared.table.Node.{Node}
use Rattle.edi_tables.specs.Rows.{IsTable}
use Rattle.edi_tables.specs.Walk.{is_group_at, is_must_at, is_trigger_at, later_nodes, missing_between, missing_past}
use Rattle.edi_tables.specs.Pairs.{count_in, entry_in}
use Rattle.table_walk.specs.Steps.{IsShaped, member_in, missing_in}
use Rattle.table_walk.proofs.Placing.{member_entry}
use Rattle.error_ledger.specs.declared.tree.GroupMark.{GroupMark}
use Rattle.segment_records.specs.Places.{group_number, opened_by}
use Rattle.segment_records.specs.Groups.{numbers_in}

range_below : (most a n : ℕ) → a + n ≤ most → All (λ j. j < most) (range_with_len a n)
range_below most a zero low = All-nil (λ j. j < most)
range_below most a (suc n) low = All-cons (λ j. j < most) a (range_with_len (a + 1) n) (omega arith) (range_below most (a + 1) n (omega arith))

module _ (nodes : List Node) where
  abbrev InTable : ℕ → Type 0
  InTable j = j < length nodes

  later_within : (f : ℕ) → f < length nodes → All InTable (later_nodes nodes f)
  unfolding later_nodes
  later_within f within = All-filter _ InTable _ (range_below (length nodes) (f + 1) (length nodes - (f + 1)) (omega arith))

  pub past_within : (f : ℕ) → f < length nodes → All InTable (missing_past nodes f)
  unfolding missing_past
  past_within f within = All-filter (is_must_at nodes) InTable (later_nodes nodes f) (later_within f within)

  between_within : (f c : ℕ) → f < length nodes → All InTable (missing_between nodes f c)
  unfolding missing_between
  between_within f c within = All-filter _ InTable (later_nodes nodes f) (later_within f within)

  -- what going to a member passes
  pub missing_within : (pairs : List (ℕ × ℕ)) → IsShaped nodes pairs → (member : Option ℕ) → All InTable (missing_in nodes pairs member)
  missing_within pairs shaped None = All-nil InTable
  missing_within pairs shaped (Some c) = between_within (entry_in pairs) c shaped.within

  -- and the member
  pub member_within : (pairs : List (ℕ × ℕ)) → IsShaped nodes pairs → IsTable nodes → (tag : Option Tag) (member : Option ℕ) (c : ℕ)
      → member ≡ member_in nodes pairs tag → member ≡ Some c → c < length nodes
  member_within pairs shaped table tag member c is found = (member_entry nodes pairs tag table c (sym found ∙ is)).1

range_more : (a n : ℕ) → range_with_len a (suc n) ≡ range_with_len a n ++ (a + n) ∷ []
range_more a zero = let here : a ≡ a + 0 = omega arith in ap (λ (k : ℕ). k ∷ []) here
range_more a (suc n) =
    let there : (a + 1) + n ≡ a + suc n = omega arith in
    ap (λ (xs : List ℕ). a ∷ xs) (range_more (a + 1) n ∙ ap (λ (k : ℕ). range_with_len (a + 1) n ++ k ∷ []) there)

one_of : (b : Bool) (i : ℕ) → length (cond b (i ∷ []) []) ≡ (if b then 1 else 0)
one_of true i = refl
one_of false i = refl

pub at_most_one : (b : Bool) → (if b then 1 else 0) ≤ 1
at_most_one true = omega arith
at_most_one false = omega arith

-- how many groups there are up to the next node
pub groups_more : (nodes : List Node) (i count after : ℕ) → count ≡ length (filter (is_group_at nodes) (range_with_len 0 i))
    → after ≡ count + (if is_group_at nodes i then 1 else 0) → after ≡ length (filter (is_group_at nodes) (range_with_len 0 (i + 1)))
groups_more nodes i count after count_is after_is =
    let test = is_group_at nodes in
    let here : 0 + i ≡ i = omega arith in
    let range : range_with_len 0 (i + 1) ≡ range_with_len 0 i ++ i ∷ [] = ap (range_with_len 0) (add-one i) ∙ range_more 0 i ∙ ap (λ (k : ℕ). range_with_len 0 i ++ k ∷ []) here in
    let split : length (filter test (range_with_len 0 (i + 1))) ≡ length (filter test (range_with_len 0 i)) + length (filter test (i ∷ [])) =
    ap (λ (xs : List ℕ). length (filter test xs)) range ∙ ap length (filter-append test (range_with_len 0 i) (i ∷ []))
    ∙ length-append (filter test (range_with_len 0 i)) (filter test (i ∷ [])) in
    omega (arith, one_of (test i) i)

-- the numbers up to the next node
pub numbers_more : (nodes : List Node) (i count : ℕ) (before after : List ℕ) → before ≡ map (group_number nodes) (range_with_len 0 i)
    → count ≡ length (filter (is_group_at nodes) (range_with_len 0 (i + 1))) → after ≡ before ++ count ∷ []
    → after ≡ map (group_number nodes) (range_with_len 0 (i + 1))
numbers_more nodes i count before after before_is count_is after_is =
    after_is ∙ ap (λ (xs : List ℕ). xs ++ count ∷ []) before_is
    ∙ ap (λ (n : ℕ). map (group_number nodes) (range_with_len 0 i) ++ n ∷ []) count_is
    ∙ sym (map-range_with_len_more (group_number nodes) 0 i i (omega arith))

pub length_numbers : (nodes : List Node) → length (numbers_in nodes) ≡ length nodes
length_numbers nodes = length-map-range_with_len (group_number nodes) 0 (length nodes)

-- the numbers of a table
pub numbers_got : (tables : List (List Node)) (numbers : List (List ℕ)) (i : ℕ) (table : List Node) (d : List ℕ) → numbers ≡ map numbers_in tables
    → slice_get tables i ≡ Some table → get_or numbers i d ≡ numbers_in table
numbers_got tables numbers i table d is at =
    ap (λ (xs : List (List ℕ)). get_or xs i d) is
    ∙ get_or_from_slice_get (map numbers_in tables) i (numbers_in table) d (slice_get-map numbers_in tables i ∙ ap (option_map numbers_in) at)

-- the group that a trigger opens
pub opens_is : (nodes : List Node) (numbers : List ℕ) (pairs : List (ℕ × ℕ)) (entry number count : ℕ) → is_trigger_at nodes entry ≡ true → entry < length nodes
    → numbers ≡ numbers_in nodes → number ≡ get_or numbers (entry - 1) 0 → count ≡ count_in pairs (entry - 1)
    → (let o : Option GroupMark = Some (record { number = number; count = count + 1 }) in o ≡ opened_by nodes (λ group. count_in pairs group + 1) entry)
opens_is nodes numbers pairs entry number count trigger within numbers_is number_is count_is =
    let got : number ≡ group_number nodes (entry - 1) =
    number_is ∙ ap (λ (xs : List ℕ). get_or xs (entry - 1) 0) numbers_is
    ∙ get_or-map-range_with_len (group_number nodes) 0 (length nodes) (entry - 1) (entry - 1) 0 (omega arith) (omega arith) in
    (λ i. Some (record { number = got i; count = count_is i + 1 }))
    ∙ sym (ap (λ (b : Bool). let o : Option GroupMark = if b then Some (record { number = group_number nodes (entry - 1); count = count_in pairs (entry - 1) + 1 }) else None in o) trigger)
