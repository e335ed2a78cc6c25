use Rattle.std.proofs.Common.{[], take, ◌∙◌}
use Rattle.error_ledger.specs.Order.{in_order}
use Rattle.contrl_writer.proofs.LevelLemmas.{group-step, levelled-rise, message-step}
use Rattle.contrl_writer.proofs.errors.LevelledErrors.of.Goals as goal

pub raise_to_group-requires : goal.raise_to_group-requires
raise_to_group-requires c =
    levelled-rise (take c.loop-group.group-index c.args.summary.now.groups) [] c.args.summary.now.errors c.deref_mut.result.now (c.deref_mut.ensures.value ∙ c.loop-group.invariant)

pub loop-group-preserved : goal.loop-group-preserved
loop-group-preserved c =
    group-step (in_order c.args.summary.now.errors) c.deref_mut.result.now c.raise_to_group.new.errors c.loop-group.items.items c.loop-group.items.len
    c.deref_mut.ensures.len c.deref_mut.ensures.value c.loop-group.group-index c.args.summary.now.groups c.items-group-items.result.now c.group-item.result
    c.items-group-items.ensures c.loop-group-test.true c.group-item.is c.loop-group.invariant c.raise_to_group.ensures

pub raise_to_message-requires : goal.raise_to_message-requires
raise_to_message-requires c =
    levelled-rise c.args.summary.now.groups (take c.loop-message.message-index c.args.summary.now.messages) c.args.summary.now.errors c.deref_mut-in-loop-message.result.now
    (c.deref_mut-in-loop-message.ensures.value ∙ c.loop-message.invariant)

pub loop-message-preserved : goal.loop-message-preserved
loop-message-preserved c =
    message-step (in_order c.args.summary.now.errors) c.deref_mut-in-loop-message.result.now c.raise_to_message.new.errors c.loop-message.items.items c.loop-message.items.len
    c.deref_mut-in-loop-message.ensures.len c.deref_mut-in-loop-message.ensures.value c.loop-message.message-index c.args.summary.now.groups c.args.summary.now.messages
    c.items-message-items.result.now c.message-item.result c.items-message-items.ensures c.loop-message-test.true c.message-item.is c.loop-message.invariant c.raise_to_message.ensures

pub invariant_of-result : goal.invariant_of-result
invariant_of-result c =
    levelled-rise c.args.summary.now.groups (take c.loop-message.message-index c.args.summary.now.messages) c.args.summary.now.errors c.loop-message.items.items c.loop-message.invariant
