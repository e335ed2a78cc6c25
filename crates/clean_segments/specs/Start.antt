-- For bodies and their invariants: where a component may begin in a segment that has neither release
-- character nor repetition separator.
use Rattle.std.specs.Prelude.{ℕ, ◌+◌, ◌≤◌, ◌≡◌, ◌⊎◌, List, [], length, map, slice_index, Option, Some, None}
use Rattle.edi_tables.specs.Octets.{Octets}
use Rattle.seg_lexer.specs.Fields.{Component, unplaced}
use Rattle.seg_lexer.specs.Place.{fields_from, place_by}
use Rattle.seg_lexer.specs.declared.service.Separators.{Separators}
use Rattle.clean_segments.specs.declared.fields.Start.{Start}

-- a component may begin there: its numbers are no greater than its place allows
pub record IsStart (xs : Octets) (s : Start) : Type 0 where
  pub within : s.at ≤ length xs
  pub element : s.element ≤ s.at
  pub component : s.component ≤ s.at + 1

-- a place has a separator
abbrev pub IsSeparator : Separators → Octets → ℕ → Type 0
IsSeparator sp xs i = (slice_index xs i ≡ sp.element) ⊎ (slice_index xs i ≡ sp.component)

-- the components of a segment from there on
abbrev pub plain_rest : Separators → Octets → Option Start → List Component
plain_rest sp xs None = []
plain_rest sp xs (Some s) = map unplaced (fields_from sp xs (place_by s.element 1 s.component s.at))

-- how many octets of a segment are in front of what is left of it
abbrev pub reached : Octets → Option Start → ℕ
reached xs None = length xs
reached xs (Some s) = s.at
