use Rattle.std.proofs.Common.{◌≡◌, [], map, is_some}
use Rattle.std.specs.List.{list_any, flat_map}
use Rattle.edi_octets.specs.Left.{line_shown}
use Rattle.edi_octets.specs.Profile.{with_earlier}
use Rattle.dir_lists.specs.Elements.{body_faults, is_repr_line, repr_of_entry}
use Rattle.dir_lists.proofs.elements.read_body.Given as goal

abbrev pub invariant-loop-line : goal.invariant-loop-line
invariant-loop-line l = record {
  found : l.found ≡ repr_of_entry (map line_shown l.yielded);
  any : is_some l.found ≡ list_any is_repr_line (map line_shown l.yielded);
  none : flat_map (λ p. body_faults p.0 p.1) (with_earlier (map line_shown l.yielded)) ≡ [];
}
