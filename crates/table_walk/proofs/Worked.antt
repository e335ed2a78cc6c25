-- Readings worked by hand: what the definitions come to on them.
use Rattle.std.proofs.Common.{◌≡◌, ℕ, Bool, true, false, List, [], ◌∷◌, Option, Some, None, map, refl}
use Rattle.std.specs.Prelude.{codes}
use Rattle.edi_tables.specs.declared.tag.Tag.{Tag}
use Rattle.edi_tables.specs.declared.table.Node.{Node}
use Rattle.edi_tables.specs.Walk.{later_siblings, groups_round, candidates_of, later_nodes, missing_between, missing_past}
use Rattle.edi_tables.specs.Placement.{entry_count, group_count, is_over, rank_of}
use Rattle.edi_tables.specs.Pairs.{pairs_of}
use Rattle.edi_tables.proofs.TestOrder.{test_order}
use Rattle.table_walk.specs.Reading.{reading_of}
use Rattle.table_walk.specs.Errors.{StructureError, Fault, structure_errors_of}
use Rattle.table_walk.specs.Errors.Fault.{Missing, Over}

abbrev tag : List ℕ → Option Tag
tag name = Some (record { octets = name })

abbrev node : List ℕ → Bool → ℕ → ℕ → Node
node name must max end = record { tag = tag name; must = must; max = max; parent = None; end = end }

abbrev error : ℕ → Fault → StructureError
error at fault = record { at = at; fault = fault }

abbrev unh : Option Tag
unh = tag (codes "UNH")

abbrev bgm : Option Tag
bgm = tag (codes "BGM")

abbrev dtm : Option Tag
dtm = tag (codes "DTM")

abbrev unt : Option Tag
unt = tag (codes "UNT")

-- a date before a mandatory reference, and one after it
two_dates : List Node
two_dates =
    node (codes "UNH") true 1 1 ∷ node (codes "DTM") true 1 2 ∷ node (codes "RFF") true 1 3 ∷ node (codes "DTM") false 1 4 ∷ node (codes "UNT") true 1 5 ∷ []

-- the second date is one too many, which ranks before the date that misses the reference
second_date : reading_of two_dates (unh ∷ dtm ∷ dtm ∷ unt ∷ []) ≡ Some 0 ∷ Some 1 ∷ Some 1 ∷ Some 4 ∷ []
unfolding two_dates candidates_of later_siblings groups_round later_nodes missing_between entry_count group_count is_over rank_of
second_date = refl

-- so the reference is missing before UNT
second_date_errors : structure_errors_of two_dates (unh ∷ dtm ∷ dtm ∷ unt ∷ []) true ≡ error 2 (Over 1) ∷ error 3 (Missing 2) ∷ []
unfolding two_dates candidates_of later_siblings groups_round later_nodes missing_between entry_count group_count is_over rank_of structure_errors_of
second_date_errors = refl

-- five dates, an optional reference, and one date more
six_dates : List Node
six_dates =
    node (codes "UNH") true 1 1 ∷ node (codes "BGM") true 1 2 ∷ node (codes "DTM") false 5 3 ∷ node (codes "RFF") false 1 4 ∷ node (codes "DTM") false 1 5 ∷ node (codes "UNT") true 1 6 ∷ []

-- the sixth date is the other one
sixth_date : reading_of six_dates (unh ∷ bgm ∷ dtm ∷ dtm ∷ dtm ∷ dtm ∷ dtm ∷ dtm ∷ []) ≡ map Some (0 ∷ 1 ∷ 2 ∷ 2 ∷ 2 ∷ 2 ∷ 2 ∷ 4 ∷ [])
unfolding six_dates candidates_of later_siblings groups_round later_nodes missing_between entry_count group_count is_over rank_of
sixth_date = refl

-- a line with two prices in the test order; it stops before UNS, which is missing then, as UNT is
abbrev prices : List (Option Tag)
prices = unh ∷ bgm ∷ dtm ∷ tag (codes "LIN") ∷ tag (codes "PRI") ∷ tag (codes "PRI") ∷ dtm ∷ []

prices_read : reading_of test_order prices ≡ map Some (0 ∷ 1 ∷ 2 ∷ 7 ∷ 10 ∷ 10 ∷ 11 ∷ [])
unfolding test_order candidates_of later_siblings groups_round later_nodes missing_between entry_count group_count is_over rank_of
prices_read = refl

prices_errors : structure_errors_of test_order prices false ≡ error 6 (Missing 12) ∷ error 6 (Missing 14) ∷ []
unfolding test_order candidates_of later_siblings groups_round later_nodes missing_between missing_past entry_count group_count is_over rank_of structure_errors_of
prices_errors = refl

-- the pairs there: the group of lines, the group of prices, and the price's date
prices_pairs : pairs_of test_order (map Some (0 ∷ 1 ∷ 2 ∷ 7 ∷ 10 ∷ 10 ∷ 11 ∷ [])) ≡ (6, 1) ∷ (9, 2) ∷ (11, 1) ∷ []
unfolding test_order groups_round entry_count group_count pairs_of
prices_pairs = refl
