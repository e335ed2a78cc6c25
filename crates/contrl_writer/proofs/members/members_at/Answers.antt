use Rattle.std.proofs.Common.{◌-◌, ap, leb, ltb, map, arith, ◌∙◌, rules, tests}
use Rattle.std.proofs.lemmas.List.Sorted.{IsPartitionedBy-leb, IsPartitionedBy-ltb, IsPartitionPoint-from_clause}
use Rattle.contrl_writer.specs.Members.{group_of}
use Rattle.contrl_writer.specs.declared.members.Member.{Member}
use Rattle.contrl_writer.proofs.LevelLemmas.{among-one}
use Rattle.contrl_writer.proofs.MemberLemmas.{filter-same}
use Rattle.contrl_writer.proofs.RangeLemmas.{filter-range, range-among}
use Rattle.contrl_writer.proofs.members.members_at.Goals as goal

pub returns : goal.returns
returns c =
    let members = c.args.members.now in
    let from = c.partition_point-from.result in
    let to = c.partition_point-to.result in
    let low = IsPartitionPoint-from_clause (λ (x : Member). ltb x.group c.args.i) members from c.partition_point-from.ensures.partitioned (IsPartitionedBy-ltb group_of members c.args.i c.requires) (λ a r f k. search (rules, tests)) in
    let high = IsPartitionPoint-from_clause (λ (x : Member). leb x.group c.args.i) members to c.partition_point-to.ensures.partitioned (IsPartitionedBy-leb group_of members c.args.i c.requires) (λ a r f k. search (rules, tests)) in
    let range = range-among group_of members c.args.i c.args.i from to c.partition_point-from.ensures.bound c.partition_point-to.ensures.bound low high c.max.result (omega arith) (omega arith) (omega arith) (λ below. omega arith) in
    ap (map (λ (x : Member). x.message.now)) (filter-range _ members from (c.max.result - from) range ∙ filter-same _ _ (λ (x : Member). among-one c.args.i x.group) members)
