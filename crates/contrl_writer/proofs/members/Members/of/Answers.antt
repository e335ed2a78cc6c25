use Rattle.std.proofs.Common.{ap, refl, ◌∙◌, rules}
use Rattle.std.proofs.lemmas.List.{take_all}
use Rattle.std.proofs.lemmas.List.Sorted.{IsNonDecreasingBy-from_sort_by_key, answers_always, length_permutation}
use Rattle.contrl_writer.specs.Contrl.{members_of}
use Rattle.contrl_writer.specs.Members.{group_of}
use Rattle.contrl_writer.proofs.MemberLemmas.{heads-stable, member-passed, member-put, none-found}
use Rattle.contrl_writer.proofs.members.Members.of.Goals as goal
use Rattle.contrl_writer.proofs.members.Members.of.Goals.{in-Some+in_ok-push, in_default}

pub loop-message-preserved : goal.loop-message-preserved
loop-message-preserved c =
    let m = c.message-item.result in
    elim c.match-message.branch [
      | in-Some+in_ok-push w ↦
          member-put c.loop-message.items.items c.args.messages.now c.loop-message.message-index m c.loop-message-test.true c.message-item.is c.loop-message.invariant
          c.match-message.items.items _ w.in-Some.is refl (ap (λ v. v.items) w.items-is ∙ w.in_ok-push.ensures.items)
      | in_default w ↦
          member-passed c.loop-message.items.items c.args.messages.now c.loop-message.message-index m c.loop-message-test.true c.message-item.is c.loop-message.invariant
          c.match-message.items.items (none-found m.group w.in_default.not-Some) (ap (λ v. v.items) w.items-is)
    ]

pub invariant_of-result : goal.invariant_of-result
invariant_of-result c = IsNonDecreasingBy-from_sort_by_key group_of _ c.in_ok-sort_by_key.ensures.sorted (λ a r f k. search rules)

pub returns : goal.returns
returns c = λ i.
    heads-stable c.loop-message.items.items c.sort_by_key.new.self.items (length_permutation c.loop-message.items.items c.sort_by_key.new.self.items c.sort_by_key.ensures.permutation) (c.sort_by_key.ensures.stable group_of (answers_always _ _ _ (λ f a r g k. search rules))) i
    ∙ (c.loop-message.invariant i ∙ ap (members_of i) (take_all c.loop-message.message-index c.args.messages.now c.loop-message-test.false))
