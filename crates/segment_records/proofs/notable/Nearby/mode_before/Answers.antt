use Rattle.std.proofs.Common.{sym, ◌∙◌, arith}
use Rattle.segment_records.proofs.Skipping.{mode_before_place}
use Rattle.segment_records.proofs.notable.Nearby.mode_before.Goals as goal

pub returns-clause-is : goal.returns-clause-is
returns-clause-is g c =
    let near = c.args.self.now in
    c.mode.ensures
    ∙ sym (mode_before_place near.before.now near.records.now c.args.place c.record_at.result.now (omega arith) c.record_at.ensures.is)
