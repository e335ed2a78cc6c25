-- Octets in order: a text, or a part of one, as a name or a value.
use Rattle.std.specs.Prelude.{ℕ, List}

-- octets, each told by its number
abbrev pub Octets : Type 0
Octets = List ℕ
