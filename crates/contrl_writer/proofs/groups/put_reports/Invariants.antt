use Rattle.std.proofs.Common.{◌≡◌, drop}
use Rattle.contrl_writer.specs.Contrl.{reports_of}
use Rattle.contrl_writer.specs.Lower.{with_segments}
use Rattle.contrl_writer.proofs.groups.put_reports.Given as goal

abbrev pub invariant-loop-message : goal.invariant-loop-message
invariant-loop-message l = with_segments l.out (reports_of l.errors (drop l.message-index l.messages)) ≡ with_segments l.fn.out (reports_of l.errors l.messages)
