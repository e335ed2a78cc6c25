-- What may be due: what was made, or what comes in its place.
use Rattle.std.specs.Prelude.{◌≡◌, ◌⊎◌, Option, IfSome}
use Rattle.run_outcome.specs.Outcome.{Outcome, memory_refused, read_failed}

-- what was made: something possible, and by what is known of the inputs, where it is known
abbrev pub IsMade : Type 0 → Option Outcome → Outcome → Type 0
IsMade Possible made due = Possible × IfSome made (λ m. due ≡ m)

-- what was made; or a read fault, where an object failed; or want of memory, where memory is needed
abbrev pub IsOneOf : Type 0 → Option Outcome → Type 0 → Type 0 → Outcome → Type 0
IsOneOf Possible made Failed Needed due =
    IsMade Possible made due ⊎ ((due ≡ read_failed) × Failed) ⊎ ((due ≡ memory_refused) × Needed)
