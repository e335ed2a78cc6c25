use Rattle.std.proofs.Common.{refl}
use Rattle.edi_history.proofs.Stops.{never_memory, told}
use Rattle.edi_history.proofs.history.History.batch.Goals as goal
use Rattle.edi_history.proofs.history.History.batch.Goals.{in-Range, in-TooLong, in-Memory}

pub returns-in-Some-clause-batch : goal.returns-in-Some-clause-batch
returns-in-Some-clause-batch g c =
    elim c.match-why.branch [
      | in-Range w ↦ rw (w.result-is, ← c.self.view_is) (told _ _ _ _ c.in-Some.ensures w.in-Range.is, refl)
      | in-TooLong w ↦ rw (w.result-is, ← c.self.view_is) (told _ _ _ _ c.in-Some.ensures w.in-TooLong.is, refl)
      | in-Memory w ↦ absurd (never_memory 1 c.self.inside.present.text c.args.edits.now c.in-Some.edit (told _ _ _ _ c.in-Some.ensures w.in-Memory.is))
    ]
