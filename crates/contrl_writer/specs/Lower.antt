-- For bodies and their invariants: the segments of which the first are put, and what is reported for a message.
use Rattle.std.specs.Prelude.{ℕ, ◌-◌, Bool, ◌&&◌, IsTrue, Option, Some, None, List, [], ◌++◌, All, length, map, filter, take}
use Rattle.std.specs.List.{flat_map, list_any}
use Rattle.error_ledger.specs.declared.error.ErrorLine.{ErrorLine}
use Rattle.error_ledger.specs.Kinds.{is_of_element, is_of_segment}
use Rattle.contrl_writer.specs.declared.level.ErrorLevel.TheVariants.{Message}
use Rattle.contrl_writer.specs.declared.level.Levelled.{Levelled}
use Rattle.contrl_writer.specs.declared.lower.Lower.{Lower}
use Rattle.contrl_segments.specs.declared.summary.MessageHead.{MessageHead}
use Rattle.contrl_segments.specs.Details.{code_told, is_near}
use Rattle.contrl_writer.specs.Levels.{errors_among, is_among, is_level}
use Rattle.contrl_writer.specs.Report.{is_of_message, ucd, ucs}
use Rattle.contrl_segments.specs.Written.{Segment, contrl_text}

-- what is put and left after these segments
abbrev pub with_segments : Lower → List Segment → Lower
with_segments w segments =
    record { text = w.text ++ contrl_text (take w.left segments); left = w.left - length segments }

-- the errors that are reported for a message
abbrev pub told : List Levelled → List Levelled
told errors = filter (λ x. is_level Message x.level) errors

-- errors at the segments of a message
abbrev pub AreInMessage : MessageHead → List Levelled → Type 0
AreInMessage m errors = All (λ x. IsTrue (is_among m.first m.last x.error.segment)) errors

-- an error of a message as a whole that is reported for it
abbrev pub is_whole : Levelled → Bool
is_whole x = is_level Message x.level && is_of_message x.error.kind

-- an error of a segment as a whole that is reported for a message: a UCS gives it
abbrev pub is_head : Levelled → Bool
is_head x = is_level Message x.level && is_of_segment x.error.kind

-- an error of an element that is reported for a message: a UCD may give it
abbrev pub is_detail : Levelled → Bool
is_detail x = is_level Message x.level && is_of_element x.error.kind

-- the UCS of the errors of a segment as a whole
abbrev pub heads_at : ℕ → List Levelled → List Segment
heads_at position errors = map (λ x. ucs position (code_told x.error)) (filter is_head errors)

-- the UCD of the errors of elements that are near enough, however many they are
abbrev pub details_at : List Levelled → List Segment
details_at errors = map ucd (filter (λ x. is_detail x && is_near x.error) errors)

-- blocks one after another
abbrev pub joined : List (List Segment) → List Segment
joined blocks = flat_map (λ block. block) blocks

-- a message has an error that is reported for it
abbrev pub has_told : List Levelled → MessageHead → Bool
has_told errors m = list_any (λ x. is_level Message x.level) (errors_among m.first m.last errors)

-- what is reported below an interchange: nothing where it is rejected for an error
abbrev pub segments_below : Option ErrorLine → List Segment → List Segment
segments_below (Some e) segments = []
segments_below None segments = segments
