-- Line breaks: CR and LF, which belong to no segment where they come before one.
use Rattle.std.specs.Prelude.{ℕ, ◌+◌, Bool, ◌||◌, ◌==◌, slice_range}
use Rattle.std.specs.List.{prefix_len}
use Rattle.edi_tables.specs.Octets.{Octets}

-- CR or LF
abbrev pub is_break : ℕ → Bool
is_break x = x == 13 || x == 10

-- the first place from a up to b that holds neither CR nor LF, or else b
unfoldable pub lead : Octets → ℕ → ℕ → ℕ
lead text a b = a + prefix_len is_break (slice_range text a b)
