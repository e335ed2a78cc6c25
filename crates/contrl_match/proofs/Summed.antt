-- What the law of answers that are led back asks of a summary.
use Rattle.std.proofs.Common.{◌≡◌, true, None, []}
use Rattle.error_ledger.specs.Kinds.{is_of_segment}
use Rattle.error_ledger.specs.declared.error.ErrorLine.{ErrorLine}
use Rattle.contrl_segments.specs.declared.summary.MessageHead.{MessageHead}
use Rattle.contrl_segments.specs.declared.summary.Summary.{Summary}
use Rattle.contrl_writer.specs.Levels.{levelled}
use Rattle.contrl_writer.specs.declared.level.Levelled.{Levelled}
use Rattle.text_reading.proofs.Each.{Each}
use Rattle.text_reading.proofs.Lawful.{IsPlacedLevelled}

-- an error of a segment as a whole names no element
abbrev pub IsWhole : ErrorLine → Type 0
IsWhole e = is_of_segment e.kind ≡ true → e.element ≡ 0

abbrev pub IsWholeLevelled : Levelled → Type 0
IsWholeLevelled x = IsWhole x.error

-- a message is in no functional group
abbrev pub IsAlone : MessageHead → Type 0
IsAlone m = m.group ≡ None

-- an error of an element names it, one of a segment as a whole names none, and in a text without functional groups each
-- message is in none
pub record IsSummed (s : Summary) : Type 0 where
  pub placed : Each IsPlacedLevelled (levelled s)
  pub whole : Each IsWholeLevelled (levelled s)
  pub alone : s.groups ≡ [] → Each IsAlone s.messages
