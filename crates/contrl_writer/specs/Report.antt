-- The report of a message: a UCM, and for each segment with errors its UCS and UCD.
use Rattle.std.specs.Prelude.{ℕ, ◌+◌, ◌-◌, min, Bool, true, false, ◌==◌, List, [], ◌∷◌, map, filter, take, codes, decimal}
use Rattle.std.specs.List.{flat_map, range_with_len}
use Rattle.edi_tables.specs.Octets.{Octets}
use Rattle.error_ledger.specs.declared.kind.Kind.{Kind}
use Rattle.error_ledger.specs.declared.kind.Kind.TheVariants.{NoTable, Reference, Count}
use Rattle.error_ledger.specs.Kinds.{is_of_element, is_of_segment}
use Rattle.contrl_writer.specs.declared.level.Levelled.{Levelled}
use Rattle.contrl_segments.specs.declared.summary.MessageHead.{MessageHead}
use Rattle.contrl_segments.specs.Written.{Element, Segment, alone}
use Rattle.contrl_segments.specs.Details.{code_told, is_near, position_of}
use Rattle.contrl_segments.specs.Service.{answer, rejected}
use Rattle.contrl_writer.specs.Levels.{first_error}

-- S009 of a message: its type, version, release, agency and association assigned code
abbrev pub identifier_of : MessageHead → Element
identifier_of m = m.kind ∷ m.version ∷ m.release ∷ m.agency ∷ m.association ∷ []

-- kinds that tell of a message as a whole
abbrev pub is_of_message : Kind → Bool
is_of_message NoTable = true
is_of_message Reference = true
is_of_message Count = true
is_of_message _ = false

-- the errors of a message as a whole
abbrev pub whole_errors : List Levelled → List Levelled
whole_errors errors = filter (λ x. is_of_message x.error.kind) errors

-- the errors of a segment as a whole
abbrev pub segment_errors : List Levelled → List Levelled
segment_errors errors = filter (λ x. is_of_segment x.error.kind) errors

-- the errors of elements and components
abbrev pub element_errors : List Levelled → List Levelled
element_errors errors = filter (λ x. is_of_element x.error.kind) errors

-- UCM: a message, and its first error as a whole, if it has one
abbrev pub ucm : MessageHead → List Levelled → Segment
ucm m errors =
    answer (codes "UCM") (alone m.reference ∷ identifier_of m ∷ []) rejected (first_error (whole_errors errors))

-- UCS: the position of a segment in its message, where UNH has position 1, and a code
abbrev pub ucs : ℕ → Octets → Segment
ucs position code = record { tag = codes "UCS"; elements = alone (decimal position) ∷ alone code ∷ [] }

-- UCD: the code and the place of an error of an element
abbrev pub ucd : Levelled → Segment
ucd x = record { tag = codes "UCD"; elements = alone (code_told x.error) ∷ position_of x.error ∷ [] }

-- the UCS of a segment: one for each error of the segment as a whole; one without a code where it has errors of
-- elements alone
abbrev pub heads_of : ℕ → List Levelled → List Levelled → List Segment
heads_of position [] [] = []
heads_of position [] (y ∷ ys) = ucs position [] ∷ []
heads_of position (x ∷ xs) ys = map (λ z. ucs position (code_told z.error)) (x ∷ xs)

-- the UCD of a segment: at most 99, for those errors of elements that are near enough
abbrev pub details_in : List Levelled → List Segment
details_in errors = take 99 (map ucd (filter (λ x. is_near x.error) errors))

-- each UCS is a block, and the UCD are in the block of the last
abbrev pub blocks_of : List Segment → List Segment → List (List Segment)
blocks_of [] details = []
blocks_of (head ∷ []) details = (head ∷ details) ∷ []
blocks_of (head ∷ next ∷ heads) details = (head ∷ []) ∷ blocks_of (next ∷ heads) details

-- the blocks of a segment with these errors
abbrev pub segment_blocks : ℕ → List Levelled → List (List Segment)
segment_blocks position errors =
    blocks_of (heads_of position (segment_errors errors) (element_errors errors)) (details_in (element_errors errors))

-- the errors of the segment with this position in a message
abbrev pub errors_of_position : MessageHead → ℕ → List Levelled → List Levelled
errors_of_position m position errors = filter (λ x. x.error.segment + 1 == m.first + position) errors

-- the positions of the segments of a message, as far as they have at most six digits
abbrev pub positions_of : MessageHead → List ℕ
positions_of m = range_with_len 1 (min 999999 (m.last + 1 - m.first))

-- the blocks of a message with these errors, segment by segment
abbrev pub message_blocks : MessageHead → List Levelled → List (List Segment)
message_blocks m errors =
    flat_map (λ position. segment_blocks position (errors_of_position m position errors)) (positions_of m)

-- the report of a message with these errors: at most 999 blocks
unfoldable pub report : MessageHead → List Levelled → List Segment
report m errors = ucm m errors ∷ flat_map (λ block. block) (take 999 (message_blocks m errors))
