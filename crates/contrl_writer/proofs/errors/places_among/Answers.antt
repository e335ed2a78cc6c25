use Rattle.std.proofs.Common.{leb, ltb, arith, rules, tests}
use Rattle.std.proofs.lemmas.List.Sorted.{IsPartitionedBy-leb, IsPartitionedBy-ltb, IsPartitionPoint-from_clause}
use Rattle.contrl_writer.specs.Raising.{segment_of}
use Rattle.contrl_writer.proofs.RangeLemmas.{range-among}
use Rattle.contrl_writer.proofs.errors.places_among.Goals as goal

pub returns-clause-among : goal.returns-clause-among
returns-clause-among c =
    let errors = c.args.errors.now in
    let from = c.partition_point-from.result in
    let to = c.partition_point-to.result in
    let low = IsPartitionPoint-from_clause (λ x. ltb x.error.segment c.args.first) errors from c.partition_point-from.ensures.partitioned (IsPartitionedBy-ltb segment_of errors c.args.first c.requires) (λ a r f k. search (rules, tests)) in
    let high = IsPartitionPoint-from_clause (λ x. leb x.error.segment c.args.last) errors to c.partition_point-to.ensures.partitioned (IsPartitionedBy-leb segment_of errors c.args.last c.requires) (λ a r f k. search (rules, tests)) in
    range-among segment_of errors c.args.first c.args.last from to c.partition_point-from.ensures.bound c.partition_point-to.ensures.bound low high c.max.result
    (omega arith) (omega arith) (omega arith) (λ below. omega arith)
