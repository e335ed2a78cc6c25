use Rattle.std.proofs.Common.{◌≡◌, ◌≤◌, take}
use Rattle.contrl_segments.specs.Written.{is_empty_value, trimmed}
use Rattle.contrl_segments.specs.Lent.{value_lent}
use Rattle.contrl_segments.proofs.segment.kept_values.Given as goal

abbrev pub invariant-loop-i : goal.invariant-loop-i
invariant-loop-i l = record {
  within : l.kept ≤ l.i;
  trims : trimmed (λ v. is_empty_value (value_lent v)) (take l.i l.values) ≡ take l.kept l.values;
}
