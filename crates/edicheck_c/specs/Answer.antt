-- What a call answers, and what its caller finds then.
use Rattle.std.specs.Prelude.{◌≡◌, ◌⊎◌, ◌<◌, ◌≤◌, ℕ, [], ◌++◌, length, drop}
use Rattle.edi_tables.specs.Octets.{Octets}
use Rattle.edicheck_c.specs.declared.answer.Answer.{Answer}
use Rattle.edicheck_c.specs.declared.code.TheConstants.{NO_MEMORY, NO_ROOM}

-- octets are printed, with this code; the number is how many they are
abbrev pub printing : ℕ → Octets → Answer
printing code octets = record { code = code; printed = octets; number = length octets }

-- nothing is printed, with this code and this number
abbrev pub refusing : ℕ → ℕ → Answer
refusing code number = record { code = code; printed = []; number = number }

-- memory was refused
abbrev pub no_memory_answer : Answer
no_memory_answer = refusing NO_MEMORY 0

-- what a caller finds: its buffer before the call and after it, the number `needed` after it, and the code
pub record Handed : Type 0 where
  pub before : Octets
  pub after : Octets
  pub needed : ℕ
  pub code : ℕ

-- the buffer begins with what is printed, and is as it was after that; the number and the code are those of the answer
abbrev pub IsGiven : Answer → Handed → Type 0
IsGiven answer handed =
    (handed.code ≡ answer.code) × (handed.needed ≡ answer.number)
    × (handed.after ≡ answer.printed ++ drop (length answer.printed) handed.before)

-- the buffer is as it was, and the number says how many octets it has to have
abbrev pub IsTooSmall : Answer → Handed → Type 0
IsTooSmall answer handed =
    (handed.code ≡ NO_ROOM) × (handed.needed ≡ length answer.printed) × (handed.after ≡ handed.before)

-- an answer is given where the buffer has room for it, and nowhere else
abbrev pub IsHandedOut : Answer → Handed → Type 0
IsHandedOut answer handed =
    (length answer.printed ≤ length handed.before → IsGiven answer handed)
    × (length handed.before < length answer.printed → IsTooSmall answer handed)

-- the caller got this answer, or that memory was refused, which may come at any time
abbrev pub IsCallAnswered : Answer → Handed → Type 0
IsCallAnswered answer handed = IsHandedOut answer handed ⊎ IsHandedOut no_memory_answer handed

-- the caller got an answer of which this is true, or that memory was refused
abbrev pub IsCallAnsweredAs : (Answer → Type 0) → Handed → Type 0
IsCallAnsweredAs IsDue handed =
    ((answer : Answer) × IsDue answer × IsHandedOut answer handed) ⊎ IsHandedOut no_memory_answer handed
