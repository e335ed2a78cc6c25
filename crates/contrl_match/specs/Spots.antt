-- What the segments of an acknowledgement lead to in the text that it answers: each is found by looking back from it.
use Rattle.std.specs.Prelude.{ℕ, ◌+◌, ◌-◌, ◌==◌, ◌&&◌, nat_eq, nat_le, List, [], Option, Some, None, find, reverse, slice_get, codes, if◌then◌else◌}
use Rattle.std.specs.List.{enumerate_from, range_with_len}
use Rattle.std.specs.Option.{option_and_then, option_eq, option_map}
use Rattle.std.specs.Str.{bytes_eq}
use Rattle.edi_tables.specs.Octets.{Octets}
use Rattle.edi_tables.specs.Extents.{tag_in}
use Rattle.edi_tables.specs.Rows.{has_name}
use Rattle.edi_octets.specs.Decimal.{decimal_in}
use Rattle.seg_lexer.specs.Fields.{Component}
use Rattle.contrl_segments.specs.declared.summary.GroupHead.{GroupHead}
use Rattle.contrl_segments.specs.declared.summary.MessageHead.{MessageHead}
use Rattle.contrl_segments.specs.declared.summary.Summary.{Summary}
use Rattle.segment_records.specs.Segments.{Segment, tags_in, value_in}

-- a number of 1 to 19 digits that isn't zero
abbrev pub number_named : Octets → Option ℕ
number_named value = elim (decimal_in value) [ None ↦ None | Some n ↦ if n == 0 then None else Some n ]

-- the first functional group with this reference, and its place among the groups of the text, from 0
abbrev pub group_named : List GroupHead → Octets → Option (ℕ × GroupHead)
group_named groups reference = find (λ p. bytes_eq p.1.reference reference) (enumerate_from 0 groups)

-- the first message with this reference among those of a group, or of none
abbrev pub message_named : List MessageHead → Option ℕ → Octets → Option MessageHead
message_named messages group reference =
    find (λ m. option_eq nat_eq m.group group && bytes_eq m.reference reference) messages

-- the segment of a message that has this position, where its UNH has position 1
abbrev pub segment_with : MessageHead → ℕ → Option ℕ
segment_with m position = if nat_le position (m.last + 1 - m.first) then Some (m.first + position - 1) else None

-- the same by the value of 0096
abbrev pub segment_placed : Octets → MessageHead → Option ℕ
segment_placed position m = option_and_then (segment_with m) (number_named position)

-- the place of the last segment of this name before place i, from 0
abbrev pub last_before : Octets → List Segment → ℕ → Option ℕ
last_before name segments i =
    find (λ j. has_name name (tag_in (tags_in segments) j)) (reverse (range_with_len 0 i))

-- what the segment at a place says
abbrev pub components_in : List Segment → ℕ → List Component
components_in segments i = elim (slice_get segments i) [ None ↦ [] | Some segment ↦ segment.components ]

-- its first component of element 1: a reference, or a position
abbrev pub first_value_in : List Segment → ℕ → Octets
first_value_in segments i = value_in (components_in segments i) 1 1

-- the group of the last UCF before place i; none where there is no UCF, or it leads to no group
abbrev pub group_before : Summary → List Segment → ℕ → Option ℕ
group_before s segments i =
    option_and_then (λ j. option_map (λ p. p.0) (group_named s.groups (first_value_in segments j)))
    (last_before (codes "UCF") segments i)

-- the message of the last UCM before place i, among those of the group of the last UCF before that UCM
abbrev pub message_before : Summary → List Segment → ℕ → Option MessageHead
message_before s segments i =
    option_and_then (λ j. message_named s.messages (group_before s segments j) (first_value_in segments j))
    (last_before (codes "UCM") segments i)

-- the segment of the last UCS before place i, in the message of the last UCM before that UCS
abbrev pub segment_before : Summary → List Segment → ℕ → Option ℕ
segment_before s segments i =
    option_and_then (λ j. option_and_then (segment_placed (first_value_in segments j)) (message_before s segments j))
    (last_before (codes "UCS") segments i)

-- what a segment of an acknowledgement is about, by those before it: a group, a message, and a segment
pub record Spot : Type 0 where
  pub group : Option ℕ
  pub message : Option MessageHead
  pub segment : Option ℕ

-- what the segment at place i is about: what the last UCF, the last UCM and the last UCS before it lead to
abbrev pub spot_at : Summary → List Segment → ℕ → Spot
spot_at s segments i = record {
  group = group_before s segments i;
  message = message_before s segments i;
  segment = segment_before s segments i;
}
