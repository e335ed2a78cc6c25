-- Worked cases, which the checker computes.
use Rattle.std.proofs.Common.{◌≡◌, [], ◌++◌, length, refl}
use Rattle.std.specs.Prelude.{codes}
use Rattle.std.specs.Fmt.{digits}
use Rattle.edi_tables.specs.Collisions.{shared_pairs, followers_of, front_of, collisions_of}
use Rattle.edi_tables.specs.Rows.{parent_of, end_of, nodes_of}
use Rattle.edi_tables.specs.Walk.{later_siblings, groups_round, candidates_of, later_nodes, missing_between}
use Rattle.drill_maker.specs.Edit.{edit_of, number_at}
use Rattle.drill_maker.specs.Interchange.{closing_text, end_text, head_text, interchange_text, line_text, drill_message, opening_text}
use Rattle.drill_maker.specs.Reduced.{order_rows}

-- one order of one line
one_line : interchange_text 1 0
    ≡ codes "UNB+UNOA:3+BUYER:14+SELLER:14+960105:0930+R1'" ++ codes "UNH+1+TSTORD:D:96A:UN'BGM+220+PO1+9'DTM+137:19960105:102'" ++ codes "LIN+1'QTY+21:1'" ++ codes "UNS+S'UNT+7+1'UNZ+1+R1'"
unfolding interchange_text opening_text drill_message head_text line_text end_text closing_text digits
one_line = refl

one_line_long : length (interchange_text 1 0) ≡ 140
unfolding interchange_text opening_text drill_message head_text line_text end_text closing_text digits
one_line_long = refl

-- one order of two lines
two_lines_long : length (interchange_text 1 1) ≡ 155
unfolding interchange_text opening_text drill_message head_text line_text end_text closing_text digits
two_lines_long = refl

-- the first pair puts a release character, and takes it away at the same place
first_put : edit_of 0 0 140 ≡ record { at = 78; cut = 0; put = codes "?" }
unfolding number_at
first_put = refl

first_cut : edit_of 1 0 141 ≡ record { at = 78; cut = 1; put = [] }
unfolding number_at
first_cut = refl

-- the second pair puts a segment
second_put : edit_of 2 0 140 ≡ record { at = 61; cut = 0; put = codes "QTY+21:5'" }
unfolding number_at
second_put = refl

-- no list of segments can be placed in two ways in the table of an order
no_collision : collisions_of (nodes_of order_rows) ≡ []
unfolding collisions_of shared_pairs followers_of front_of candidates_of later_siblings groups_round missing_between later_nodes parent_of end_of
no_collision = refl
