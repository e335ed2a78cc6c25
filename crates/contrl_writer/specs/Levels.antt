-- At which level of an acknowledgement errors are reported.
use Rattle.std.specs.Prelude.{ℕ, Bool, true, false, ◌&&◌, ◌||◌, ◌==◌, nat_le, List, [], ◌∷◌, map, filter, Option, Some, None, codes, if◌then◌else◌}
use Rattle.std.specs.List.{list_any}
use Rattle.edi_tables.specs.Rows.{has_name}
use Rattle.error_ledger.specs.declared.error.ErrorLine.{ErrorLine}
use Rattle.error_ledger.specs.declared.kind.Kind.{Kind}
use Rattle.error_ledger.specs.Kinds.{number_of}
use Rattle.contrl_writer.specs.declared.level.ErrorLevel.{ErrorLevel}
use Rattle.contrl_writer.specs.declared.level.ErrorLevel.TheVariants.{Interchange, Group, Message}
use Rattle.contrl_writer.specs.declared.level.Levelled.{Levelled}
use Rattle.contrl_segments.specs.declared.summary.GroupHead.{GroupHead}
use Rattle.contrl_segments.specs.declared.summary.MessageHead.{MessageHead}
use Rattle.contrl_segments.specs.declared.summary.Summary.{Summary}
use Rattle.error_ledger.specs.Order.{in_order}

-- kinds that tell of the interchange, wherever they are found: 1 to 10
abbrev pub is_of_interchange : Kind → Bool
is_of_interchange kind = nat_le (number_of kind) 10

-- kinds that tell of a functional group, wherever they are found: 13 to 15
abbrev pub is_of_group : Kind → Bool
is_of_group kind = nat_le 13 (number_of kind) && nat_le (number_of kind) 15

-- segment k is one of first..last
abbrev pub is_among : ℕ → ℕ → ℕ → Bool
is_among first last k = nat_le first k && nat_le k last

-- segment k is one of a message
abbrev pub is_in_message : ℕ → MessageHead → Bool
is_in_message k m = is_among m.first m.last k

-- an error is at the segment that opens a group, its first, or at the one that closes it: its last, where that is a UNE
abbrev pub is_at_ends : ErrorLine → GroupHead → Bool
is_at_ends e g = e.segment == g.first || e.segment == g.last && has_name (codes "UNE") e.tag

-- the level of an error of an interchange with these groups and messages, by the first rule that fits
abbrev pub level_of : List GroupHead → List MessageHead → ErrorLine → ErrorLevel
level_of groups messages e =
    if is_of_interchange e.kind then Interchange
    else if is_of_group e.kind then Group
    else if list_any (is_in_message e.segment) messages then Message
    else if list_any (is_at_ends e) groups then Group
    else Interchange

-- an error with its level
abbrev pub with_level : List GroupHead → List MessageHead → ErrorLine → Levelled
with_level groups messages e = record { error = e; level = level_of groups messages e }

-- the errors of a summary in order, each with its level
abbrev pub levelled : Summary → List Levelled
levelled s = map (with_level s.groups s.messages) (in_order s.errors)

-- two levels are the same
abbrev pub is_level : ErrorLevel → ErrorLevel → Bool
is_level Interchange Interchange = true
is_level Group Group = true
is_level Message Message = true
is_level _ _ = false

-- the errors at the segments first..last
abbrev pub errors_among : ℕ → ℕ → List Levelled → List Levelled
errors_among first last errors = filter (λ x. is_among first last x.error.segment) errors

-- the errors at message level of a message
abbrev pub message_errors : MessageHead → List Levelled → List Levelled
message_errors m errors = filter (λ x. is_level Message x.level) (errors_among m.first m.last errors)

-- the errors at group level of a group
abbrev pub group_errors : GroupHead → List Levelled → List Levelled
group_errors g errors = filter (λ x. is_level Group x.level) (errors_among g.first g.last errors)

-- the errors at interchange level
abbrev pub interchange_errors : List Levelled → List Levelled
interchange_errors errors = filter (λ x. is_level Interchange x.level) errors

-- the first of some errors
abbrev pub first_error : List Levelled → Option ErrorLine
first_error [] = None
first_error (x ∷ xs) = Some x.error
