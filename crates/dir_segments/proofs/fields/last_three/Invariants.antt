use Rattle.std.proofs.Common.{◌≡◌, ℕ, List, ◌++◌}
use Rattle.edi_octets.specs.Left.{cells_left}
use Rattle.dir_segments.specs.Parts.{field_from_end}
use Rattle.dir_segments.proofs.fields.last_three.Given as goal

-- the fields so far, whose last three these are
abbrev pub invariant-loop-field : goal.invariant-loop-field
invariant-loop-field l = record {
  front : List (List ℕ);
  splits : cells_left l.fn.fields ≡ front ++ cells_left l.field-iterator;
  third : l.third ≡ field_from_end 3 front;
  before : l.before ≡ field_from_end 2 front;
  last : l.last ≡ field_from_end 1 front;
}
