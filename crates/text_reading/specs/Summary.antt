-- What an acknowledgement tells of a text: its opening, its functional groups and messages, and its errors.
use Rattle.std.specs.Prelude.{ℕ, ◌-◌, List, [], map, find, slice_get, Option, Some, None, codes, if◌then◌else◌}
use Rattle.std.specs.List.{enumerate_from}
use Rattle.std.specs.Option.{option_map}
use Rattle.dir_compile.specs.Directory.{Directory}
use Rattle.edi_tables.specs.Octets.{Octets}
use Rattle.edi_tables.specs.Extents.{Extent, group_extents, lies_in, message_extents}
use Rattle.edi_tables.specs.Rows.{has_name}
use Rattle.seg_lexer.specs.Context.{context_of}
use Rattle.seg_lexer.specs.Fields.{Component}
use Rattle.seg_lexer.specs.declared.context.Context.{Context}
use Rattle.element_check.specs.Local.{local_errors_of}
use Rattle.contrl_writer.specs.declared.answer.Contrl.{Contrl}
use Rattle.contrl_segments.specs.declared.stamp.Stamp.{Stamp}
use Rattle.contrl_segments.specs.declared.summary.GroupHead.{GroupHead}
use Rattle.contrl_segments.specs.declared.summary.MessageHead.{MessageHead}
use Rattle.contrl_segments.specs.declared.summary.Opening.{Opening}
use Rattle.contrl_segments.specs.declared.summary.Opening.TheVariants.{NoUnb}
use Rattle.contrl_segments.specs.declared.summary.Summary.{Summary}
use Rattle.contrl_writer.specs.Contrl.{answer_to}
use Rattle.segment_records.specs.Segments.{Segment, segments_of_text, tags_in}
use Rattle.segment_records.specs.Openers.{group_head_of, message_head_of, opening_by}
use Rattle.text_reading.specs.Errors.{errors_of}

-- what opens an interchange with this first segment
abbrev pub opening_in : Directory → Context → Option Segment → Opening
opening_in dir context None = NoUnb
opening_in dir context (Some segment) =
    if has_name (codes "UNB") segment.tag
    then opening_by context segment.components (local_errors_of dir context segment.components)
    else NoUnb

-- the components of the segment that opens an extent
abbrev pub opening_components : List Segment → Extent → List Component
opening_components segments e =
    elim (slice_get segments (e.first - 1)) [ None ↦ [] | Some segment ↦ segment.components ]

-- the place of the functional group that a segment lies in among these, from 0
abbrev pub group_of : List Extent → ℕ → Option ℕ
group_of groups i = option_map (λ p. p.0) (find (λ p. lies_in i p.1) (enumerate_from 0 groups))

-- the functional groups of segments, in order
abbrev pub groups_in : List Segment → List GroupHead
groups_in segments =
    map (λ e. group_head_of e (opening_components segments e)) (group_extents (tags_in segments))

-- their messages, in order; a message is in the group that its UNH lies in
abbrev pub messages_in : List Segment → List MessageHead
messages_in segments =
    let groups = group_extents (tags_in segments) in
    map (λ e. message_head_of (group_of groups (e.first - 1)) e (opening_components segments e))
    (message_extents (tags_in segments))

-- what an acknowledgement tells of a text, by a directory
unfoldable pub summary_of : Directory → Octets → Summary
summary_of dir text = let segments = segments_of_text text in record {
  opening = opening_in dir (context_of text) (slice_get segments 0);
  groups = groups_in segments;
  messages = messages_in segments;
  errors = errors_of dir text;
}

-- the acknowledgement of a text by a directory, made at a time, with a reference of its own
unfoldable pub contrl_to : Directory → Octets → Stamp → Octets → Contrl
contrl_to dir text stamp reference = answer_to (summary_of dir text) stamp reference
