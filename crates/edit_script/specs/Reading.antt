-- What the functions below a reader of commands answer.
use Rattle.std.specs.Prelude.{◌≡◌, ◌<◌, ◌≤◌, ◌+◌, ℕ, [], ◌∷◌, length, take, Option, Some, IfSome, Result, Ok, Err}
use Rattle.edi_tables.specs.Octets.{Octets}
use Rattle.edi_ports.specs.Read.{HasTaken}
use Rattle.edi_ports.specs.declared.source.Source as source
use Rattle.edit_script.specs.declared.stop.Halt.{Halt}
use Rattle.edit_script.specs.declared.stop.Halt.TheVariants.{Bad, Cut, TooLong, Fault, Memory}
use Rattle.edit_script.specs.Beginnings.{IsPartOf, IsBadOf}

-- what the octets of a script are taken from: the rest of an input, where it tells that, and how many may be taken
pub record Supply : Type 0 where
  pub rest : Option Octets
  pub allowance : ℕ

-- an input of which so many octets may be taken
abbrev pub supply_of : {I : Type 0} → source.Ghosts I → I → ℕ → Supply
supply_of input i allowance = record { rest = input.rest i; allowance = allowance }

-- where the source tells what it holds, nothing is left of it
abbrev pub IsAtEnd : Option Octets → Option Octets → Type 0
IsAtEnd before now = IfSome before (λ _. now ≡ Some [])

-- these octets were taken from the front of the rest, and so many fewer may be taken now
pub record Takes (before now : Supply) (taken : Octets) : Type 0 where
  pub from_front : HasTaken before.rest taken now.rest
  pub counted : now.allowance + length taken ≡ before.allowance

-- why no octet was taken
abbrev pub IsIdle : Type 0 → ℕ → Halt → Type 0
IsIdle at_end after Bad = ⊥
IsIdle at_end after Cut = (0 < after) × at_end
IsIdle at_end after TooLong = after ≡ 0
IsIdle at_end after Fault = 0 < after
IsIdle at_end after Memory = ⊥

-- no octet was taken
abbrev pub TakesNone : Supply → Supply → Halt → Type 0
TakesNone before now halt = Takes before now [] × IsIdle (IsAtEnd before.rest now.rest) now.allowance halt

-- one octet was taken, or none
abbrev pub TakesOctet : Supply → Supply → Result ℕ Halt → Type 0
TakesOctet before now (Ok octet) = Takes before now (octet ∷ [])
TakesOctet before now (Err halt) = TakesNone before now halt

-- the buffer's first n octets were taken, one at least and at most so many, or none
abbrev pub TakesPiece : Supply → Supply → Octets → ℕ → Result ℕ Halt → Type 0
TakesPiece before now buffer due (Ok n) =
    (0 < n) × (n ≤ due) × (n ≤ length buffer) × Takes before now (take n buffer)
TakesPiece before now buffer due (Err halt) = TakesNone before now halt

-- why what was taken is no text of the kind
abbrev pub IsHalt : (Octets → Type 0) → Type 0 → ℕ → Octets → Halt → Type 0
IsHalt IsText at_end after taken Bad = IsBadOf IsText taken
IsHalt IsText at_end after taken Cut = IsPartOf IsText taken × (0 < after) × at_end
IsHalt IsText at_end after taken TooLong = IsPartOf IsText taken × (after ≡ 0)
IsHalt IsText at_end after taken Fault = IsPartOf IsText taken × (0 < after)
IsHalt IsText at_end after taken Memory = IsPartOf IsText taken

-- a text of some value
abbrev pub IsSomeText : {V : Type 0} → (V → Octets → Type 0) → Octets → Type 0
IsSomeText {V} IsTextOf text = (v : V) × IsTextOf v text

-- what was taken is the text of the value, or no text of any value
abbrev pub Reads : {V : Type 0} → (V → Octets → Type 0) → Supply → Supply → Result V Halt → Type 0
Reads IsTextOf before now (Ok v) = (taken : Octets) × Takes before now taken × IsTextOf v taken
Reads IsTextOf before now (Err halt) =
    (taken : Octets) × Takes before now taken
    × IsHalt (IsSomeText IsTextOf) (IsAtEnd before.rest now.rest) now.allowance taken halt
