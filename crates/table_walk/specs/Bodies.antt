-- What bodies and their invariants need alone.
use Rattle.std.specs.Prelude.{◌+◌, ℕ, Bool, false, Option, Some, None}
use Rattle.edi_tables.specs.Placement.{is_at}

-- a segment is at the trigger of this group
abbrev pub opens_in : Option ℕ → Option ℕ → Bool
opens_in None member = false
opens_in (Some group) member = is_at (group + 1) member

-- the rank of the best so far, and more than each rank where there is none
abbrev pub bound_of : (ℕ → ℕ) → Option ℕ → ℕ
bound_of rank None = 4
bound_of rank (Some best) = rank best
