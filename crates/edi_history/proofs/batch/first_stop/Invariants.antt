use Rattle.edi_history.proofs.Judged.{IsJudged}
use Rattle.edi_history.proofs.batch.first_stop.Given as goal

abbrev pub invariant-loop-i : goal.invariant-loop-i
invariant-loop-i l = IsJudged l.engine.text l.edits l.i l.length
