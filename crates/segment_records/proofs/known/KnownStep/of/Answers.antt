use Rattle.std.proofs.Common.{refl, ◌∙◌}
use Rattle.segment_records.proofs.Remembering.{known_placed}
use Rattle.segment_records.proofs.known.KnownStep.of.Goals as goal

pub returns : goal.returns
returns c = λ directory is.
    known_placed directory c.args.table c.args.state.now c.copy.result c.copy-2.result c.args.tag c.in_ok-tag.field-0 c.args.next.now c.in_ok-next.field-0 is
    c.in_ok-tag.was c.in_ok-next.was (c.if-not-is_well_placed.ensures.over refl) (c.if-not-is_well_placed.ensures.missing refl)
    (c.copy.ensures ∙ c.in_ok-before.ensures) (c.copy-2.ensures ∙ c.in_ok-after.ensures)
