-- Octets that were put one after the other.
use Rattle.std.specs.Prelude.{◌≡◌, ◌++◌, Bool, true, false, Option, Some, IfSome}
use Rattle.edi_tables.specs.Octets.{Octets}
use Rattle.edi_ports.specs.Sink.{IsCut}

-- all of the octets were appended, or, where the sink failed, a proper prefix of them
abbrev pub IsPutOut : Option Octets → Option Octets → Octets → Bool → Type 0
IsPutOut before now octets true = IfSome before (λ held. now ≡ Some (held ++ octets))
IsPutOut before now octets false = IsCut before now octets
