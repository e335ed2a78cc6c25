use Rattle.guide_overlay.specs.Guide.{narrow_of}
use Rattle.edicheck_core.proofs.GuideLemmas.{guide_refused-steady, narrowed_not, narrowed_to}
use Rattle.edicheck_core.proofs.guided.tell_narrowed.Goals as goal

pub returns-in-Ok-clause-due : goal.returns-in-Ok-clause-due
returns-in-Ok-clause-due g c =
    narrowed_to c.args.guide.now c.args.text.now (g.S.Shelf.files c.args.shelf.now) _ c.check_named.result (narrow_of c.args.directory.now c.args.octets.now) c.in-Ok.narrower
    c.in-Ok.ensures.narrowed c.check_named.ensures.due

pub returns-in-Err-Fault-clause-due : goal.returns-in-Err-Fault-clause-due
returns-in-Err-Fault-clause-due g c =
    narrowed_not c.args.guide.now c.args.text.now (g.S.Shelf.files c.args.shelf.now) _ c.refuse_guide.result (narrow_of c.args.directory.now c.args.octets.now)
    (record { line = c.in-Err-Fault.line; kind = c.in-Err-Fault.kind }) (rw c.in-Err-Fault.field-0-is at c.in-Err-Fault.ensures.narrowed) c.refuse_guide.ensures

pub returns-in-Err-Fault-clause-steady : goal.returns-in-Err-Fault-clause-steady
returns-in-Err-Fault-clause-steady g c =
    λ steady. guide_refused-steady c.args.guide.now (record { line = c.in-Err-Fault.line; kind = c.in-Err-Fault.kind }) c.refuse_guide.result c.refuse_guide.ensures
