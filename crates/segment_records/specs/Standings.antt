-- The entry that a segment stands at, and whether it is one too many there. Only bodies and proofs need this.
use Rattle.std.specs.Prelude.{ℕ, Bool, true, false, Option, None, Some}
use Rattle.segment_records.specs.declared.step.Standing.{Standing}
use Rattle.segment_records.specs.declared.step.Standing.TheVariants.{Nowhere, At, Over}

-- the entry that a segment is at
abbrev pub entry_at : Standing → Option ℕ
entry_at Nowhere = None
entry_at (At entry) = Some entry
entry_at (Over entry) = Some entry

-- it is one too many there
abbrev pub is_over_at : Standing → Bool
is_over_at Nowhere = false
is_over_at (At entry) = false
is_over_at (Over entry) = true
