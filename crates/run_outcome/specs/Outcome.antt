-- What a run comes to before its first octet is put.
use Rattle.std.specs.Prelude.{[], ◌∷◌, ◌++◌, codes}
use Rattle.edi_tables.specs.Octets.{Octets}
use Rattle.run_outcome.specs.declared.status.Status.{Status}
use Rattle.run_outcome.specs.declared.status.Status.TheVariants.{Done, Found, Words, ReadFault, TooLarge, Memory}

-- a status, and the whole output that goes with it
pub record Outcome : Type 0 where
  pub status : Status
  pub output : Octets

-- all was done, and this is printed
abbrev pub done : Octets → Outcome
done output = record { status = Done; output = output }

-- all was done, something was found in a text, and this is printed
abbrev pub found : Octets → Outcome
found output = record { status = Found; output = output }

-- a refusal: one line that says it
abbrev pub refused : Status → Octets → Outcome
refused status text = record { status = status; output = text ++ 10 ∷ [] }

-- the words are of no form
abbrev pub no_form : Outcome
no_form = refused Words (codes "fault words")

-- the input or the shelf failed
abbrev pub read_failed : Outcome
read_failed = refused ReadFault (codes "fault read")

-- memory was refused
abbrev pub memory_refused : Outcome
memory_refused = refused Memory (codes "fault memory")

-- the file of that name is too large; the input is called `-`
abbrev pub too_large : Octets → Outcome
too_large name = refused TooLarge (codes "fault large " ++ name)
