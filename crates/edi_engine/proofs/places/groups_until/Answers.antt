use Rattle.std.proofs.Common.{Bool, ◌+◌, ◌∙◌, ap, arith}
use Rattle.std.specs.Prelude.{if◌then◌else◌}
use Rattle.segment_records.proofs.Nodes.{at_most_one, groups_more, numbers_more}
use Rattle.edi_engine.proofs.places.groups_until.Goals as goal

pub loop-i-preserved : goal.loop-i-preserved
loop-i-preserved c =
    let nodes = c.args.table.now in
    let i = c.loop-i.i in
    let next = c.count_on-count.ensures ∙ ap (λ (b : Bool). c.loop-i.count + (if b then 1 else 0)) c.is_group.ensures in
    let count = groups_more nodes i c.loop-i.count c.count_on-count.result c.loop-i.invariant.count next in
    record {
      numbers = numbers_more nodes i c.count_on-count.result c.loop-i.numbers.items c.push.new.self.items c.loop-i.invariant.numbers count c.in_ok-push.ensures.items;
      count = count;
      few = omega (arith, c.count_on-count.ensures, at_most_one c.is_group.result, c.loop-i.invariant.few);
    }
