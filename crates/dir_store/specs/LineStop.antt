-- What a stop inside a store says.
use Rattle.std.specs.Prelude.{ℕ, Option, Some, None}
use Rattle.dir_store.specs.declared.line_stop.Stop.{Stop}
use Rattle.dir_store.specs.declared.line_stop.Stop.TheVariants.{Fault, Memory}

-- the place of the fault, given by how many octets there are from it on; there is none where memory ran out
abbrev pub left_in : Stop → Option ℕ
left_in (Fault left) = Some left
left_in Memory = None
