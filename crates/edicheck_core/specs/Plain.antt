-- For bodies: what a run makes whole, by what its words ask for.
use Rattle.std.specs.Prelude.{⊤, Option, Some}
use Rattle.edicheck_core.specs.Form.{Asked, Script}

-- words that ask for something that is made whole before its first octet is put: all but a script
abbrev pub IsPlain : Option Asked → Type 0
IsPlain (Some (Script kind manifest text)) = ⊥
IsPlain _ = ⊤
