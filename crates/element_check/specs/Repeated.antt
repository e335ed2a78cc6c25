-- For bodies and their invariants: the repetitions of an element, one after another.
use Rattle.std.specs.Prelude.{ℕ, Bool, List}
use Rattle.std.specs.List.{list_any, range_with_len}
use Rattle.edi_tables.specs.Octets.{Octets}
use Rattle.seg_lexer.specs.Fields.{Component}
use Rattle.element_check.specs.Local.{values_in}

-- some repetition of an element passes a test, of so many from a first number on
abbrev pub some_in : (List Octets → Bool) → List Component → ℕ → ℕ → ℕ → Bool
some_in passes components element first count =
    list_any (λ r. passes (values_in components element r)) (range_with_len first count)
