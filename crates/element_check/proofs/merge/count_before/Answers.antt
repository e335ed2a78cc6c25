use Rattle.std.proofs.Common.{rules, tests}
use Rattle.std.proofs.lemmas.List.Sorted.{IsPartitionPoint-from_clause}
use Rattle.element_check.specs.Merging.{is_before}
use Rattle.element_check.proofs.MergeLemmas.{ascending-partitioned}
use Rattle.element_check.proofs.merge.count_before.Goals as goal

pub returns-clause-point : goal.returns-clause-point
returns-clause-point c =
    IsPartitionPoint-from_clause (λ x. is_before x c.args.error.now) c.args.known.now c.partition_point.result c.partition_point.ensures.partitioned
    (ascending-partitioned c.args.error.now c.args.known.now c.requires)
    (λ a r f k. search (rules, tests))
