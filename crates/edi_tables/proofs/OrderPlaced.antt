-- Segments placed in the table of the test order: what the definitions on placing come to.
use Rattle.std.proofs.Common.{◌≡◌, ℕ, zero, suc, ◌+◌, ◌<◌, true, false, List, [], ◌∷◌, Option, Some, None, map, take, refl, arith, lit<}
use Rattle.std.specs.Prelude.{codes, slice_index, slice_get, Contains}
use Rattle.edi_tables.specs.declared.tag.Tag.{Tag}
use Rattle.edi_tables.specs.Walk.{tag_at, later_siblings, groups_round, candidates_of, later_nodes, missing_between, missing_past}
use Rattle.edi_tables.specs.Placement.{entry_count, group_count, last_placed, is_over, rank_of, IsPlacement, IsDerivation}
use Rattle.edi_tables.specs.Collisions.{followers_of, front_of, shared_pairs, collisions_of}
use Rattle.edi_tables.proofs.TestOrder.{test_order}

-- two lines, the first with a quantity, a price and its date, the second with a price; a segment after BGM fits nowhere
two_lines : List (Option ℕ)
two_lines = Some 0 ∷ Some 1 ∷ None ∷ Some 2 ∷ Some 7 ∷ Some 8 ∷ Some 10 ∷ Some 11 ∷ Some 7 ∷ Some 10 ∷ []

-- of the second line there is no quantity, and one price; there are two lines
no_quantity : entry_count test_order two_lines 8 ≡ 0
unfolding test_order two_lines entry_count
no_quantity = refl

one_price : group_count test_order two_lines 9 ≡ 1
unfolding test_order two_lines group_count
one_price = refl

lines_so_far : group_count test_order two_lines 6 ≡ 2
unfolding test_order two_lines group_count
lines_so_far = refl

-- what fits nowhere isn't the last placed
last_is_date : last_placed (Some 0 ∷ Some 1 ∷ Some 2 ∷ None ∷ []) ≡ 2
last_is_date = refl

-- a third line isn't one too many, a fourth is
third_line : is_over test_order two_lines 7 ≡ false
unfolding test_order two_lines is_over groups_round group_count
third_line = refl

fourth_line : is_over test_order (Some 0 ∷ Some 1 ∷ Some 2 ∷ Some 7 ∷ Some 7 ∷ Some 7 ∷ []) 7 ≡ true
unfolding test_order is_over groups_round group_count
fourth_line = refl

-- a third date of the head is one too many alone; without UNS, UNT misses something alone
third_date : rank_of test_order (Some 0 ∷ Some 1 ∷ Some 2 ∷ Some 2 ∷ []) 2 ≡ 1
unfolding test_order rank_of is_over entry_count missing_between later_nodes groups_round
third_date = refl

trailer_without_control : rank_of test_order two_lines 14 ≡ 2
unfolding test_order two_lines rank_of is_over missing_between later_nodes groups_round
trailer_without_control = refl

control_after_price : rank_of test_order two_lines 12 ≡ 0
unfolding test_order two_lines rank_of is_over missing_between later_nodes groups_round
control_after_price = refl

-- after the date of a price: another price, another line, UNS; a second date is too many, and MOA and UNT miss UNS
followers_of_price_date : followers_of test_order 11 ≡ 10 ∷ 7 ∷ 12 ∷ []
unfolding test_order followers_of candidates_of later_siblings groups_round missing_between later_nodes
followers_of_price_date = refl

-- the shortest way to it: UNH, BGM, DTM, LIN, PRI and itself; no party, whose group is conditional, and no quantity
front_of_price_date : front_of test_order 11 ≡ 0 ∷ 1 ∷ 2 ∷ 7 ∷ 10 ∷ 11 ∷ []
unfolding test_order front_of groups_round
front_of_price_date = refl

no_collision : collisions_of test_order ≡ []
unfolding test_order collisions_of shared_pairs followers_of front_of candidates_of later_siblings groups_round missing_between later_nodes
no_collision = refl

abbrev tag : List ℕ → Tag
tag name = record { octets = name }

-- an order with one line
tags : List Tag
tags = tag (codes "UNH") ∷ tag (codes "BGM") ∷ tag (codes "DTM") ∷ tag (codes "LIN") ∷ tag (codes "UNS") ∷ tag (codes "UNT") ∷ []

entries : List ℕ
entries = 0 ∷ 1 ∷ 2 ∷ 7 ∷ 12 ∷ 14 ∷ []

each_candidate : (k : ℕ) → k + 1 < 6 → Contains (candidates_of test_order (slice_index entries k)) (slice_index entries (k + 1))
unfolding test_order entries candidates_of later_siblings groups_round
each_candidate zero within = (1, lit< tt, refl)
each_candidate (suc zero) within = (1, lit< tt, refl)
each_candidate (suc (suc zero)) within = (2, lit< tt, refl)
each_candidate (suc (suc (suc zero))) within = (3, lit< tt, refl)
each_candidate (suc (suc (suc (suc zero)))) within = (2, lit< tt, refl)
each_candidate (suc (suc (suc (suc (suc k))))) within = absurd (omega arith)

each_tag : (k : ℕ) → k + 1 < 6 → tag_at test_order (slice_index entries (k + 1)) ≡ slice_get tags (k + 1)
unfolding test_order entries tags
each_tag zero within = refl
each_tag (suc zero) within = refl
each_tag (suc (suc zero)) within = refl
each_tag (suc (suc (suc zero))) within = refl
each_tag (suc (suc (suc (suc zero)))) within = refl
each_tag (suc (suc (suc (suc (suc k))))) within = absurd (omega arith)

each_rank : (k : ℕ) → k + 1 < 6 → rank_of test_order (map Some (take (k + 1) entries)) (slice_index entries (k + 1)) ≡ 0
unfolding test_order entries rank_of is_over entry_count group_count missing_between later_nodes groups_round
each_rank zero within = refl
each_rank (suc zero) within = refl
each_rank (suc (suc zero)) within = refl
each_rank (suc (suc (suc zero))) within = refl
each_rank (suc (suc (suc (suc zero)))) within = refl
each_rank (suc (suc (suc (suc (suc k))))) within = absurd (omega arith)

is_placement : IsPlacement test_order tags entries
unfolding tags entries
is_placement = record { long = refl; first = refl; opens = refl; candidate = each_candidate; tag = each_tag; rank = each_rank }

-- it ends with UNT, so nothing is missing after it
is_derivation : IsDerivation test_order tags entries
unfolding test_order entries missing_past later_nodes groups_round
is_derivation = record { placement = is_placement; complete = refl }
