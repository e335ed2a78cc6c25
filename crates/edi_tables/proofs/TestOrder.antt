-- The table of the test order, a small order with a group of parties and a group of lines that holds a group of prices: what the definitions come to on it.
use Rattle.std.proofs.Common.{◌≡◌, ℕ, Bool, true, false, List, [], ◌∷◌, Option, Some, None, refl, sym, ap, ◌∙◌}
use Rattle.std.specs.Prelude.{codes}
use Rattle.edi_tables.specs.declared.tag.Tag.{Tag}
use Rattle.edi_tables.specs.declared.segment.TableRow.{TableRow}
use Rattle.edi_tables.specs.declared.table.Node.{Node}
use Rattle.edi_tables.specs.Rows.{parent_of, end_of, table_faults, nodes_of, rows_of, IsTable}
use Rattle.edi_tables.specs.Walk.{parent_at, end_at, later_siblings, groups_round, candidates_of, later_nodes, missing_between, missing_past}
use Rattle.edi_tables.specs.Extents.{Extent, message_extents, group_extents}

abbrev pub tag_of : List ℕ → Option Tag
tag_of name = Some (record { octets = name })

abbrev row : Option Tag → Bool → ℕ → ℕ → TableRow
row tag must max depth = record { tag = tag; must = must; max = max; depth = depth }

abbrev node : Option Tag → Bool → ℕ → Option ℕ → ℕ → Node
node tag must max parent end = record { tag = tag; must = must; max = max; parent = parent; end = end }

pub test_order_rows : List TableRow
test_order_rows =
    row (tag_of (codes "UNH")) true 1 0 ∷ row (tag_of (codes "BGM")) true 1 0 ∷ row (tag_of (codes "DTM")) true 2 0
    ∷ row None false 2 0 ∷ row (tag_of (codes "NAD")) true 1 1 ∷ row (tag_of (codes "CTA")) false 1 1
    ∷ row None false 3 0 ∷ row (tag_of (codes "LIN")) true 1 1 ∷ row (tag_of (codes "QTY")) false 1 1
    ∷ row None false 2 1 ∷ row (tag_of (codes "PRI")) true 1 2 ∷ row (tag_of (codes "DTM")) false 1 2
    ∷ row (tag_of (codes "UNS")) true 1 0 ∷ row (tag_of (codes "MOA")) false 1 0 ∷ row (tag_of (codes "UNT")) true 1 0 ∷ []

unfoldable pub test_order : List Node
test_order =
    node (tag_of (codes "UNH")) true 1 None 1 ∷ node (tag_of (codes "BGM")) true 1 None 2 ∷ node (tag_of (codes "DTM")) true 2 None 3
    ∷ node None false 2 None 6 ∷ node (tag_of (codes "NAD")) true 1 (Some 3) 5 ∷ node (tag_of (codes "CTA")) false 1 (Some 3) 6
    ∷ node None false 3 None 12 ∷ node (tag_of (codes "LIN")) true 1 (Some 6) 8 ∷ node (tag_of (codes "QTY")) false 1 (Some 6) 9
    ∷ node None false 2 (Some 6) 12 ∷ node (tag_of (codes "PRI")) true 1 (Some 9) 11 ∷ node (tag_of (codes "DTM")) false 1 (Some 9) 12
    ∷ node (tag_of (codes "UNS")) true 1 None 13 ∷ node (tag_of (codes "MOA")) false 1 None 14 ∷ node (tag_of (codes "UNT")) true 1 None 15 ∷ []

test_order_lawful : table_faults test_order_rows ≡ []
unfolding test_order_rows table_faults
test_order_lawful = refl

test_order_made : test_order ≡ nodes_of test_order_rows
unfolding test_order test_order_rows parent_of end_of
test_order_made = refl

-- its nodes give the rows back
test_order_back : rows_of test_order ≡ test_order_rows
unfolding test_order test_order_rows rows_of groups_round
test_order_back = refl

-- it is a segment table
pub test_order_is : IsTable test_order
test_order_is = (ap table_faults test_order_back ∙ test_order_lawful, test_order_made ∙ ap nodes_of (sym test_order_back))

-- the prices are held by the lines, and both end before UNS
parent_of_price : parent_at test_order 10 ≡ Some 9
unfolding test_order
parent_of_price = refl

parent_of_prices : parent_at test_order 9 ≡ Some 6
unfolding test_order
parent_of_prices = refl

end_of_prices : end_at test_order 9 ≡ 12
unfolding test_order
end_of_prices = refl

end_of_lines : end_at test_order 6 ≡ 12
unfolding test_order
end_of_lines = refl

-- after QTY is the group of prices, in the group of lines
siblings_of_quantity : later_siblings test_order 8 ≡ 9 ∷ []
unfolding test_order later_siblings
siblings_of_quantity = refl

groups_round_price : groups_round test_order 10 ≡ 9 ∷ 6 ∷ []
unfolding test_order groups_round
groups_round_price = refl

-- after the DTM of the head: itself, a party, a line, UNS, MOA, UNT
candidates_after_date : candidates_of test_order 2 ≡ 2 ∷ 4 ∷ 7 ∷ 12 ∷ 13 ∷ 14 ∷ []
unfolding test_order candidates_of later_siblings groups_round
candidates_after_date = refl

-- after the DTM of a price: itself, another price, another line, UNS, MOA, UNT
candidates_after_price_date : candidates_of test_order 11 ≡ 11 ∷ 10 ∷ 7 ∷ 12 ∷ 13 ∷ 14 ∷ []
unfolding test_order candidates_of later_siblings groups_round
candidates_after_price_date = refl

-- from the DTM of the head to UNT the UNS is passed, from QTY to UNS nothing mandatory
missing_before_trailer : missing_between test_order 2 14 ≡ 12 ∷ []
unfolding test_order missing_between later_nodes groups_round
missing_before_trailer = refl

missing_after_quantity : missing_between test_order 8 12 ≡ []
unfolding test_order missing_between later_nodes groups_round
missing_after_quantity = refl

-- a message that stops after the DTM of the head lacks UNS and UNT, one that stops after MOA lacks UNT
missing_past_date : missing_past test_order 2 ≡ 12 ∷ 14 ∷ []
unfolding test_order missing_past later_nodes groups_round
missing_past_date = refl

missing_past_amount : missing_past test_order 13 ≡ 14 ∷ []
unfolding test_order missing_past later_nodes groups_round
missing_past_amount = refl

abbrev extent : ℕ → ℕ → Bool → Extent
extent first last closed = record { first = first; last = last; closed = closed }

-- the first of two messages has no UNT
two_messages : message_extents (tag_of (codes "UNB") ∷ tag_of (codes "UNH") ∷ tag_of (codes "BGM") ∷ tag_of (codes "UNH") ∷ tag_of (codes "UNT") ∷ tag_of (codes "UNZ") ∷ [])
    ≡ extent 2 3 false ∷ extent 4 5 true ∷ []
unfolding message_extents
two_messages = refl

-- a message without any closing segment runs to the last
open_message : message_extents (tag_of (codes "UNB") ∷ tag_of (codes "UNH") ∷ None ∷ []) ≡ extent 2 3 false ∷ []
unfolding message_extents
open_message = refl

closed_group : group_extents (tag_of (codes "UNB") ∷ tag_of (codes "UNG") ∷ tag_of (codes "UNH") ∷ tag_of (codes "UNT") ∷ tag_of (codes "UNE") ∷ tag_of (codes "UNZ") ∷ []) ≡ extent 2 5 true ∷ []
unfolding group_extents
closed_group = refl

-- the end of the interchange stops a group, and doesn't close it
open_group : group_extents (tag_of (codes "UNB") ∷ tag_of (codes "UNG") ∷ tag_of (codes "UNH") ∷ tag_of (codes "UNZ") ∷ []) ≡ extent 2 3 false ∷ []
unfolding group_extents
open_group = refl
