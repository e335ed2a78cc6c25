-- For bodies and their invariants: errors that are reported for a group or a message as it is come to.
use Rattle.std.specs.Prelude.{ℕ, ◌||◌, codes, if◌then◌else◌}
use Rattle.edi_tables.specs.Rows.{has_name}
use Rattle.contrl_writer.specs.declared.level.ErrorLevel.TheVariants.{Group, Message}
use Rattle.contrl_writer.specs.declared.level.Levelled.{Levelled}
use Rattle.contrl_segments.specs.declared.summary.GroupHead.{GroupHead}
use Rattle.contrl_segments.specs.declared.summary.MessageHead.{MessageHead}
use Rattle.contrl_writer.specs.Levels.{is_among, is_at_ends, is_in_message, is_of_group, is_of_interchange}

-- the number of the segment that an error is at
abbrev pub segment_of : Levelled → ℕ
segment_of x = x.error.segment

-- an error is reported for a group, unless its kind tells of the interchange
abbrev pub part_raised : Levelled → Levelled
part_raised x = if is_of_interchange x.error.kind then x else record x { level = Group }

-- the same of an error at a UNE
abbrev pub closing_raised : Levelled → Levelled
closing_raised x = if has_name (codes "UNE") x.error.tag then part_raised x else x

-- an error at segment k, which opens a group, is reported for that group, unless its kind tells of the interchange
abbrev pub first_raised : ℕ → Levelled → Levelled
first_raised k x = if is_among k k x.error.segment then part_raised x else x

-- an error at segment k, the last of a group, is reported for that group if it is at a UNE, with the same exception
abbrev pub last_raised : ℕ → Levelled → Levelled
last_raised k x = if is_among k k x.error.segment then closing_raised x else x

-- an error at the UNG of a group, or at the UNE that closes it, is reported for that group, with the same exception
abbrev pub group_raised : GroupHead → Levelled → Levelled
group_raised g x = if is_at_ends x.error g then part_raised x else x

-- an error is reported for a message, unless its kind tells of the interchange or of a group
abbrev pub lower_raised : Levelled → Levelled
lower_raised x = if is_of_interchange x.error.kind || is_of_group x.error.kind then x else record x { level = Message }

-- an error at a segment of a message is reported for that message, with the same exceptions
abbrev pub message_raised : MessageHead → Levelled → Levelled
message_raised m x = if is_in_message x.error.segment m then lower_raised x else x
