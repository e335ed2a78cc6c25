use Rattle.std.proofs.Common.{◌≡◌, ◌≤◌}
use Rattle.script_answers.proofs.RunLemmas.{IsProgress}
use Rattle.script_answers.proofs.EndedLemmas.{StillLeft}
use Rattle.script_answers.proofs.RoomLemmas.{StillRoomy}
use Rattle.script_answers.proofs.script.answer_script.Given as goal

abbrev pub invariant-commands : goal.invariant-commands
invariant-commands g l = record {
  grammar : l.reader.grammar ≡ g.A.Answering.grammar;
  progress : IsProgress {S = g.A.Answering.State} g.A.Answering.grammar g.A.Answering.IsStep (g.A.Answering.state l.fn.answering) (g.A.Answering.state l.answering) l.reader (g.I.Source.rest l.fn.input) (g.I.Source.rest l.input) (g.O.Sink.held l.fn.out) (g.O.Sink.held l.out);
  input : g.I.Source.faults l.fn.input ≤ g.I.Source.faults l.input;
  sink : g.O.Sink.faults l.fn.out ≤ g.O.Sink.faults l.out;
  steady : g.I.Source.is_steady l.fn.input → g.I.Source.is_steady l.input;
  still : StillLeft g.A.Answering.grammar (g.I.Source.rest l.fn.input) (g.I.Source.rest l.input) l.reader.left;
  roomy : StillRoomy {S = g.A.Answering.State} g.A.Answering.grammar g.A.Answering.IsStep (g.A.Answering.state l.fn.answering) (g.A.Answering.state l.answering) (g.I.Source.rest l.fn.input) (g.I.Source.rest l.input) l.reader.left (g.O.Sink.has_room l.fn.out) (g.O.Sink.has_room l.out);
}

abbrev pub decreases-commands : goal.decreases-commands
decreases-commands g l = l.reader.left
