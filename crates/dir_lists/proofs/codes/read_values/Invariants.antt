use Rattle.std.proofs.Common.{◌≡◌, [], map}
use Rattle.std.specs.List.{flat_map}
use Rattle.edi_octets.specs.Left.{line_shown}
use Rattle.edi_octets.specs.Profile.{with_earlier}
use Rattle.dir_lists.specs.Codes.{body_faults, values_of}
use Rattle.dir_lists.proofs.codes.read_values.Given as goal

abbrev pub invariant-loop-line : goal.invariant-loop-line
invariant-loop-line l = record {
  seen : l.seen ≡ values_of (map line_shown l.yielded);
  none : flat_map (λ p. body_faults p.0 p.1) (with_earlier (map line_shown l.yielded)) ≡ [];
}
