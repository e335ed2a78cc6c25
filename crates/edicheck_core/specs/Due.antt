-- What a run may come to, by its words and its inputs.
use Rattle.std.specs.Prelude.{◌≡◌, ◌⊎◌, ◌<◌, ◌≤◌, true, [], Option, Some, IfSome}
use Rattle.edi_tables.specs.Octets.{Octets}
use Rattle.edi_ports.specs.Faults.{HasRisen}
use Rattle.edi_ports.specs.Read.{TakesFront}
use Rattle.run_outcome.specs.Outcome.{Outcome}
use Rattle.run_outcome.specs.declared.status.Status.TheVariants.{Done, TooLarge}
use Rattle.run_outcome.specs.declared.status.Status.{Status}
use Rattle.edicheck_core.specs.Form.{Asked, Text, needs_of}
use Rattle.edicheck_core.specs.OneOf.{IsOneOf}
use Rattle.edicheck_core.specs.Inputs.{Inputs}
use Rattle.edicheck_core.specs.Made.{IsPossible, made_by}
use Rattle.edi_octets.specs.declared.octets.TheConstants.{LONGEST_TEXT}

-- an object that the words need has failed in this run
abbrev pub HasFailed : Option Asked → Inputs → Inputs → Type 0
HasFailed asked before now =
    (((needs_of asked).input ≡ true) × HasRisen before.input_faults now.input_faults)
    ⊎ (((needs_of asked).shelf ≡ true) × HasRisen before.shelf_faults now.shelf_faults)

-- what a run may come to
abbrev pub IsDue : Option Asked → Inputs → Inputs → Outcome → Type 0
IsDue asked before now due =
    IsOneOf (IsPossible asked due) (made_by asked before)
    (HasFailed asked before now) ((needs_of asked).memory ≡ true) due

-- what was taken of a text: all where it was printed, more than the limit where it is too large, else at most the limit
abbrev pub TakesText : Status → Option Octets → Option Octets → Type 0
TakesText Done before now = IfSome before (λ text. now ≡ Some [])
TakesText TooLarge before now = TakesFront before now (λ n. LONGEST_TEXT < n)
TakesText status before now = TakesFront before now (λ n. n ≤ LONGEST_TEXT)

-- what was taken from the input, by the status that was due
abbrev pub Takes : Option Asked → Status → Option Octets → Option Octets → Type 0
Takes (Some (Text detail)) status before now = TakesText status before now
Takes asked status before now = now ≡ before
