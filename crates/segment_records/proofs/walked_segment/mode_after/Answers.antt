use Rattle.std.proofs.Common.{sym, ◌∙◌, arith}
use Rattle.segment_records.proofs.Skipping.{mode_before_place}
use Rattle.segment_records.proofs.walked_segment.mode_after.Goals as goal

pub returns : goal.returns
returns g c =
    c.mode.ensures
    ∙ sym (mode_before_place c.args.before.now c.args.records.now c.args.count c.at.result.now (omega arith) c.at.ensures.is)
