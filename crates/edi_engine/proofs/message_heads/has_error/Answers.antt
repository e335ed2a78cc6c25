use Rattle.std.proofs.Common.{leb, ltb, rules, tests}
use Rattle.std.proofs.lemmas.List.Sorted.{IsPartitionedBy-leb, IsPartitionedBy-ltb, IsPartitionPoint-from_clause}
use Rattle.error_ledger.specs.declared.error.ErrorLine.{ErrorLine}
use Rattle.contrl_writer.proofs.LevelLemmas.{errors-rise}
use Rattle.edi_engine.proofs.Asked.{some_among}
use Rattle.edi_engine.proofs.message_heads.has_error.Goals as goal

pub returns : goal.returns
returns c =
    let errors = c.args.errors.now in
    let from = c.partition_point-from.result in
    let to = c.partition_point-to.result in
    let rise = errors-rise errors c.requires in
    let low = IsPartitionPoint-from_clause (λ e. ltb e.segment c.args.first) errors from c.partition_point-from.ensures.partitioned (IsPartitionedBy-ltb (λ (e : ErrorLine). e.segment) errors c.args.first rise) (λ a r f k. search (rules, tests)) in
    let high = IsPartitionPoint-from_clause (λ e. leb e.segment c.args.last) errors to c.partition_point-to.ensures.partitioned (IsPartitionedBy-leb (λ (e : ErrorLine). e.segment) errors c.args.last rise) (λ a r f k. search (rules, tests)) in
    some_among (λ (e : ErrorLine). e.segment) errors c.args.first c.args.last from to c.partition_point-from.ensures.bound c.partition_point-to.ensures.bound low high
