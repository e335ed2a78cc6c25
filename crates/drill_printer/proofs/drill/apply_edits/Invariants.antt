use Rattle.std.proofs.Common.{◌≡◌, ◌*◌, ◌^◌, ◌≤◌}
use Rattle.drill_maker.specs.Reduced.{drill_directory}
use Rattle.drill_printer.specs.Drill.{error_sum, text_drilled}
use Rattle.drill_printer.proofs.drill.apply_edits.Given as goal

abbrev pub invariant-loop-j : goal.invariant-loop-j
invariant-loop-j g l = record {
  directory : l.engine.directory ≡ drill_directory;
  text : l.engine.text ≡ text_drilled l.number l.j l.fn.engine.text;
  total : l.total ≡ error_sum l.number l.j l.fn.engine.text;
  small : l.total ≤ l.j * 2 ^ 64;
}
