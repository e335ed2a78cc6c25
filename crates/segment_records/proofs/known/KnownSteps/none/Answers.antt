use Rattle.std.proofs.Common.{sym, subst}
use Rattle.segment_records.specs.Known.{AreKnown}
use Rattle.segment_records.proofs.Remembering.{none_added}
use Rattle.segment_records.proofs.known.KnownSteps.none.Goals as goal

pub loop-preserved : goal.loop-preserved
loop-preserved c = λ directory. subst (AreKnown directory) (sym c.in_ok-push.ensures.items) (none_added directory c.loop.places.items (c.loop.invariant directory))
