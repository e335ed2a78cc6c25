-- What only bodies and invariants need: the pieces of a text.
use Rattle.std.specs.Prelude.{◌≡◌, ℕ, ◌<◌, List, length, take, drop, All}
use Rattle.std.specs.List.{concat}
use Rattle.edi_tables.specs.Octets.{Octets}

-- no piece is empty: so there are no more pieces than octets
pub record AreFull (pieces : List Octets) : Type 0 where
  pub each : All (λ piece. 0 < length piece) pieces

-- the pieces of the octets before a place, and those of the others
pub record IsSplit (pieces : List Octets) (at : ℕ) (front back : List Octets) : Type 0 where
  pub front_octets : concat front ≡ take at (concat pieces)
  pub back_octets : concat back ≡ drop at (concat pieces)
  pub full_front : AreFull front
  pub full_back : AreFull back
