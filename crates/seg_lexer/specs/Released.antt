-- Released octets: a release character takes away the meaning of the octet after it, unless it is released itself.
use Rattle.std.specs.Prelude.{ℕ, ◌%◌, Bool, false, not, ◌&&◌, ◌==◌, length, map, slice_index, slice_range, Option, Some, None}
use Rattle.std.specs.List.{suffix_len}
use Rattle.edi_tables.specs.Octets.{Octets}
use Rattle.seg_lexer.specs.Stretch.{places_that}

-- an octet is the release character, if there is one
abbrev pub is_release : Option ℕ → ℕ → Bool
is_release None x = false
is_release (Some r) x = x == r

-- the run of release characters that ends directly before place i and begins at or after place a
unfoldable pub run_before : Option ℕ → Octets → ℕ → ℕ → ℕ
run_before release xs a i = suffix_len (is_release release) (slice_range xs a i)

-- the octet at place i is released by octets from place a on: that run has odd length
unfoldable pub is_released : Option ℕ → Octets → ℕ → ℕ → Bool
is_released release xs a i = run_before release xs a i % 2 == 1

-- place i holds an unreleased release character
abbrev pub is_releasing : Option ℕ → Octets → ℕ → Bool
is_releasing release xs i = is_release release (slice_index xs i) && not (is_released release xs 0 i)

-- the value of a component: its octets without the unreleased release characters
unfoldable pub value_of : Option ℕ → Octets → Octets
value_of release xs = map (slice_index xs) (places_that (λ i. not (is_releasing release xs i)) 0 (length xs))
