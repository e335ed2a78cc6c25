use Rattle.std.proofs.Common.{ℕ, ◌<◌, ◌∙◌, length, sym, subst}
use Rattle.std.specs.Prelude.{All}
use Rattle.segment_records.proofs.Nodes.{member_within, missing_within}
use Rattle.edi_engine.proofs.structure.put_walked.Goals as goal

pub put_missing-requires : goal.put_missing-requires
put_missing-requires c =
    let nodes = c.args.table.now in
    let kept = c.args.seen.now.record.now in
    subst (All (λ (j : ℕ). j < length nodes)) (sym (c.missing.ensures ∙ c.requires.missing)) (missing_within nodes c.args.state.now c.requires.shaped kept.step.entry)

pub is_trigger-requires : goal.is_trigger-requires
is_trigger-requires c =
    let nodes = c.args.table.now in
    let kept = c.args.seen.now.record.now in
    subst (λ (j : ℕ). j < length nodes) (sym c.from.ensures)
    (member_within nodes c.args.state.now c.requires.shaped c.nodes-nodes.ensures.lawful kept.tag kept.step.entry c.in-Some.entry c.requires.entry (sym c.entry.ensures ∙ c.in-Some.is))
