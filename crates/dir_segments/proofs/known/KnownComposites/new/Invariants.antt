use Rattle.std.proofs.Common.{◌≡◌, ℕ, List, take}
use Rattle.std.specs.HashMap.{get}
use Rattle.std.specs.Str.{bytes_eq}
use Rattle.dir_segments.specs.Segments.{known_place}
use Rattle.dir_segments.proofs.known.KnownComposites.new.Given as goal

-- the places of the codes so far
abbrev pub invariant-loop-place : goal.invariant-loop-place
invariant-loop-place l =
    (code : List ℕ) → get bytes_eq l.places code ≡ known_place (take l.place l.composites) code
