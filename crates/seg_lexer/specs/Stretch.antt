-- Stretches of a list: the places from one up to another, which isn't part of it.
use Rattle.std.specs.Prelude.{ℕ, ◌+◌, ◌-◌, Bool, List, filter, slice_range}
use Rattle.std.specs.List.{range_with_len}
use Rattle.edi_tables.specs.Octets.{Octets}

-- a stretch: the places from `from` up to `to`, which isn't one of them
pub record Stretch : Type 0 where
  pub from : ℕ
  pub to : ℕ

-- what a list holds at the places of a stretch
abbrev pub octets_in : Octets → Stretch → Octets
octets_in xs p = slice_range xs p.from p.to

-- a stretch that lies n places further on
abbrev pub moved : ℕ → Stretch → Stretch
moved n p = record { from = n + p.from; to = n + p.to }

-- the places from a up to b that pass a test
unfoldable pub places_that : (ℕ → Bool) → ℕ → ℕ → List ℕ
places_that p a b = filter p (range_with_len a (b - a))
