-- All errors of a text, by a directory.
use Rattle.std.specs.Prelude.{ℕ, ◌+◌, Bool, not, List, [], ◌∷◌, ◌++◌, length, slice_get, Option, Some, None, codes, if◌then◌else◌}
use Rattle.std.specs.List.{flat_map, enumerate_from}
use Rattle.dir_compile.specs.Directory.{Directory}
use Rattle.edi_tables.specs.Octets.{Octets}
use Rattle.edi_tables.specs.Rows.{has_name, when}
use Rattle.seg_lexer.specs.Context.{context_of}
use Rattle.seg_lexer.specs.Segments.{tail_of}
use Rattle.seg_lexer.specs.Service.{service_of}
use Rattle.seg_lexer.specs.declared.context.Context.{Context}
use Rattle.error_ledger.specs.declared.error.ErrorLine.{ErrorLine}
use Rattle.error_ledger.specs.declared.kind.Kind.TheVariants as kind
use Rattle.envelope_check.specs.Envelope.{envelope_errors_of}
use Rattle.envelope_check.specs.declared.head.SegmentMark.{SegmentMark}
use Rattle.segment_records.specs.Segments.{Segment, segments_by, segments_of_text, value_in}
use Rattle.segment_records.specs.Errors.{error_of, error_with, is_unknown, levels, segment_lines, versions}
use Rattle.segment_records.specs.Heads.{heads_of, marks_of}
use Rattle.error_ledger.specs.Order.{in_order}

-- a place of a text where no tag is read
abbrev pub untagged : ℕ → SegmentMark
untagged start = record { start = start; tag = None }

-- UNB names a level (0001) or a version (0002) that there isn't
abbrev pub opening_lines : Segment → List ErrorLine
opening_lines segment =
    when (is_unknown (value_in segment.components 1 1) levels) (error_of 1 segment 1 1 kind.Syntax)
    ++ when (is_unknown (value_in segment.components 1 2) versions) (error_of 1 segment 1 2 kind.Syntax)

-- the first segment, where it is UNB, is judged so
abbrev pub syntax_lines : Option Segment → List ErrorLine
syntax_lines None = []
syntax_lines (Some segment) = if has_name (codes "UNB") segment.tag then opening_lines segment else []

-- what is left after the last segment
abbrev pub tail_lines : ℕ → Option ℕ → List ErrorLine
tail_lines count None = []
tail_lines count (Some start) = error_with (count + 1) (untagged start) 0 0 kind.Tail ∷ []

-- a service string advice that can't be used
abbrev pub advice_lines : Bool → List ErrorLine
advice_lines sound = when (not sound) (error_with 0 (untagged 0) 0 0 kind.BadUna)

-- the first segment of a text, cut without repetitions
abbrev pub first_segment : Octets → Option Segment
first_segment text = slice_get (segments_by (service_of text) text) 0

-- the errors of a text with these segments and this context, whose first segment is this one when it is cut without
-- repetitions
abbrev pub errors_in : Directory → Context → List Segment → Option Segment → Option ℕ → List ErrorLine
errors_in dir context segments first tail =
    envelope_errors_of (heads_of dir segments) (marks_of segments)
    ++ advice_lines context.service.sound
    ++ tail_lines (length segments) tail
    ++ syntax_lines first
    ++ flat_map (segment_lines dir context segments) (enumerate_from 0 segments)

-- the errors of a text, as they are found
unfoldable pub errors_found : Directory → Octets → List ErrorLine
errors_found dir text =
    errors_in dir (context_of text) (segments_of_text text) (first_segment text) (tail_of (service_of text) text)

-- the errors of a text, in ascending order of segment, element, component, number of the kind, and node
unfoldable pub errors_of : Directory → Octets → List ErrorLine
errors_of dir text = in_order (errors_found dir text)
