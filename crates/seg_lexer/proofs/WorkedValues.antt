-- Worked values, each computed by hand first: what the definition gives.
use Rattle.std.proofs.Common.{◌≡◌, Some, refl}
use Rattle.std.specs.Prelude.{codes}
use Rattle.seg_lexer.specs.Released.{is_released, run_before, value_of}
use Rattle.seg_lexer.specs.Stretch.{places_that}

-- a release character that is released itself is an octet of the value
value-even_run : value_of (Some 63) (codes "A??") ≡ codes "A?"
unfolding value_of places_that is_released run_before
value-even_run = refl
