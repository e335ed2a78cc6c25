use Rattle.std.proofs.Common.{List, Option, Some, ◌∙◌, set, sym, ap, subst}
use Rattle.segment_records.specs.Known.{AreKnown}
use Rattle.segment_records.specs.declared.known.KnownStep.{KnownStep}
use Rattle.segment_records.proofs.Remembering.{known_put}
use Rattle.segment_records.proofs.known.KnownSteps.put.Goals as goal

pub returns : goal.returns
returns c = λ directory are is.
    subst (AreKnown directory) (sym (c.put_at.ensures ∙ ap (λ (places : List (Option KnownStep)). set places c.from.result (Some c.args.known)) c.go_to.ensures))
    (known_put directory c.args.self.now c.from.result c.args.known are is)
