-- A text worked by hand: where its segments are, what is wrong in the structure of its messages, and its modes.
use Rattle.std.proofs.Common.{◌≡◌, ℕ, List, [], ◌∷◌, None, Some, map, refl}
use Rattle.std.specs.Prelude.{codes}
use Rattle.edi_tables.specs.Extents.{message_extents, message_at, message_closed_at}
use Rattle.edi_tables.specs.Pairs.{pairs_of}
use Rattle.edi_tables.specs.Placement.{entry_count, group_count, is_over, rank_of}
use Rattle.edi_tables.specs.Rows.{end_of, parent_of}
use Rattle.edi_tables.specs.Walk.{later_siblings, groups_round, candidates_of, later_nodes, missing_between, missing_past}
use Rattle.error_ledger.specs.declared.tree.TreePlace.{TreePlace}
use Rattle.error_ledger.specs.declared.tree.TreePlace.TheVariants as place
use Rattle.dir_compile.specs.declared.parts.Parts.{Parts}
use Rattle.seg_lexer.specs.Fields.{Component}
use Rattle.table_walk.specs.Errors.{Fault, structure_errors_of}
use Rattle.table_walk.specs.Errors.Fault.{Missing, Unplaced}
use Rattle.segment_records.specs.Heads.{given_by}
use Rattle.segment_records.specs.Messages.{structure_errors_at, mode_after, position_at}
use Rattle.segment_records.specs.Places.{place_at}
use Rattle.segment_records.specs.Segments.{Segment}
use Rattle.segment_records.specs.declared.mode.Mode.TheVariants.{Outside, Untabled, Within}

-- a directory without messages has CONTRL's table
abbrev dir : Parts
dir = record {
  version = codes "D";
  release = codes "96A";
  agency = codes "UN";
  elements = [];
  lists = [];
  composites = [];
  segments = [];
  messages = [];
}

abbrev segment : List ℕ → List Component → Segment
segment name components =
    record { from = 0; start = 0; end = 0; components = components; tag = Some (record { octets = name }) }

abbrev component : ℕ → List ℕ → Component
component k octets = record { element = 2; repetition = 1; component = k; octets = octets }

-- UNH of a message with this name, version, release and agency
abbrev unh : List ℕ → List ℕ → Segment
unh name release =
    segment (codes "UNH")
    (component 1 name ∷ component 2 (codes "D") ∷ component 3 release ∷ component 4 (codes "UN") ∷ [])

-- an acknowledgement without UCI and with an unknown segment, a message without a table, and an acknowledgement that the text's end cuts off
abbrev segments : List Segment
segments =
    segment (codes "UNB") [] ∷ unh (codes "CONTRL") (codes "3") ∷ segment (codes "UCM") [] ∷ segment (codes "ZZZ") []
    ∷ segment (codes "UCM") [] ∷ segment (codes "UNT") [] ∷ unh (codes "ORDERS") (codes "96A") ∷ segment (codes "BGM") []
    ∷ unh (codes "CONTRL") (codes "3") ∷ segment (codes "UCI") [] ∷ []

-- UCM is the trigger of the first group, and opens it twice
abbrev opens_first : ℕ → TreePlace
opens_first count = place.Placed 3 1 (Some (record { number = 1; count = count }))

places : map (place_at dir segments) (0 ∷ 1 ∷ 2 ∷ 3 ∷ 4 ∷ 5 ∷ 6 ∷ 7 ∷ 8 ∷ 9 ∷ [])
    ≡ place.Outside ∷ place.Placed 0 0 None ∷ opens_first 1 ∷ place.Unplaced ∷ opens_first 2 ∷ place.Placed 14 0 None
    ∷ place.Untabled ∷ place.Untabled ∷ place.Placed 0 0 None ∷ place.Placed 1 0 None ∷ []
unfolding place_at position_at message_at message_extents candidates_of later_siblings groups_round later_nodes missing_between entry_count group_count is_over rank_of end_of parent_of
places = refl

-- the faults at a place
abbrev faults : ℕ → List Fault
faults i = map (λ error. error.fault) (structure_errors_at dir segments i)

-- UCI is missing before the first UCM, and UNT where the text ends
told : map faults (0 ∷ 1 ∷ 2 ∷ 3 ∷ 4 ∷ 5 ∷ 6 ∷ 7 ∷ 8 ∷ 9 ∷ [])
    ≡ [] ∷ [] ∷ (Missing 1 ∷ []) ∷ (Unplaced ∷ []) ∷ [] ∷ [] ∷ [] ∷ [] ∷ [] ∷ (Missing 14 ∷ []) ∷ []
unfolding structure_errors_at position_at message_at message_extents structure_errors_of candidates_of later_siblings groups_round later_nodes missing_between missing_past entry_count group_count is_over rank_of end_of parent_of
told = refl

-- after both UCM the first group was opened twice, and UCM was placed once in its group
modes : map (mode_after dir segments) (0 ∷ 5 ∷ 6 ∷ 7 ∷ 10 ∷ [])
    ≡ Outside ∷ Within 0 ((2, 2) ∷ (3, 1) ∷ []) ∷ Outside ∷ Untabled ∷ Within 0 ((1, 1) ∷ []) ∷ []
unfolding mode_after position_at message_at message_closed_at message_extents candidates_of later_siblings groups_round later_nodes missing_between entry_count group_count is_over rank_of pairs_of end_of parent_of
modes = refl

abbrev first : List ℕ → Component
first octets = record { element = 1; repetition = 1; component = 1; octets = octets }

-- UNH+1+ORDERS gives a reference and a type of message
unh_gives : given_by (Some (record { octets = codes "UNH" })) (first (codes "1") ∷ component 1 (codes "ORDERS") ∷ [])
    ≡ Some (record { reference = codes "1"; other = codes "ORDERS" })
unh_gives = refl

-- UNT+14+1 gives a count and a reference
unt_gives : given_by (Some (record { octets = codes "UNT" })) (first (codes "14") ∷ component 1 (codes "1") ∷ [])
    ≡ Some (record { reference = codes "1"; other = codes "14" })
unt_gives = refl

-- another segment gives none
bgm_gives : given_by (Some (record { octets = codes "BGM" })) (first (codes "220") ∷ []) ≡ None
bgm_gives = refl
