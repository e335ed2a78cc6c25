use Rattle.std.proofs.Common.{◌≡◌, [], map}
use Rattle.std.specs.List.{filter_map, flat_map}
use Rattle.edi_octets.specs.Head.{head_field}
use Rattle.edi_octets.specs.Left.{entry_shown}
use Rattle.edi_octets.specs.Profile.{with_earlier}
use Rattle.dir_lists.specs.Elements.{element_faults, element_of}
use Rattle.dir_lists.proofs.elements.read_elements.Given as goal

abbrev pub invariant-loop-entry : goal.invariant-loop-entry
invariant-loop-entry l = record {
  seen : l.seen ≡ map head_field (map entry_shown l.yielded);
  none : flat_map (λ p. element_faults p.0 p.1) (with_earlier (map entry_shown l.yielded)) ≡ [];
  elements : l.elements.items ≡ filter_map element_of (map entry_shown l.yielded);
}
