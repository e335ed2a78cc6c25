use Rattle.std.proofs.Common.{◌+◌, sym, arith}
use Rattle.std.proofs.lemmas.Option.{slice_get_past}
use Rattle.segment_records.proofs.Skipping.{place_short}
use Rattle.segment_records.proofs.notable.Nearby.record_after.Goals as goal

pub overflow_add-place : goal.overflow_add-place
overflow_add-place g c =
    let near = c.args.self.now in
    let short = place_short near.from near.records.now c.args.place near.stretches (omega arith) in omega arith

pub returns-then-place-len-clause-is : goal.returns-then-place-len-clause-is
returns-then-place-len-clause-is g c =
    sym (slice_get_past c.args.self.now.records.now (c.args.place + 1) (omega arith))
