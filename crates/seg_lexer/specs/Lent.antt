-- For bodies and their invariants: what a text has lent of a stretch.
use Rattle.std.specs.Prelude.{ℕ, ◌≡◌, ◌+◌, ◌≤◌, length, slice_range}
use Rattle.edi_tables.specs.Octets.{Octets}

-- the octets of a text from place `at` on, as many as were lent, and none past the stretch at..to
pub record IsLent (text : Octets) (at to : ℕ) (part : Octets) : Type 0 where
  pub ordered : at ≤ to
  pub within : to ≤ length text
  pub inside : at + length part ≤ to
  pub reads : part ≡ slice_range text at (at + length part)
