use Rattle.std.proofs.Common.{◌≡◌, ◌≤◌, [], map, length}
use Rattle.std.specs.List.{flat_map}
use Rattle.edi_octets.specs.Left.{line_shown}
use Rattle.edi_octets.specs.Profile.{with_earlier}
use Rattle.dir_load.specs.Manifest.{file_faults, files_on}
use Rattle.dir_load.proofs.manifest.read_files.Given as goal

abbrev pub invariant-loop-line : goal.invariant-loop-line
invariant-loop-line l = record {
  files : l.files.items ≡ files_on (map line_shown l.yielded);
  few : length l.files.items ≤ 400;
  each : length l.files.items ≡ length (map line_shown l.yielded);
  none : flat_map (λ p. file_faults p.0 p.1) (with_earlier (map line_shown l.yielded)) ≡ [];
}
