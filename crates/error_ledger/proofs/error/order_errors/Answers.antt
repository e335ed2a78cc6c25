use Rattle.std.proofs.Common.{rules, sym, ◌∙◌, subst, true≢false}
use Rattle.std.proofs.lemmas.List.Sorted.{answers_always}
use Rattle.std.proofs.lemmas.Result.{on_ok_weaker}
use Rattle.error_ledger.specs.Order.{key_of, IsAscending}
use Rattle.std.proofs.Common.{refl}
use Rattle.error_ledger.proofs.Sorting.{ordered-is}
use Rattle.error_ledger.proofs.error.order_errors.Goals as goal

pub returns-clause-ascending : goal.returns-clause-ascending
returns-clause-ascending c =
    on_ok_weaker c.sort_by_key.result (λ sorted. sorted key_of (answers_always _ _ _ (λ f a r g called. search rules))) c.sort_by_key.ensures.sorted

pub returns-clause-ties : goal.returns-clause-ties
returns-clause-ties c = c.sort_by_key.ensures.stable key_of (answers_always _ _ _ (λ f a r g called. search rules))

pub returns-clause-ready : goal.returns-clause-ready
returns-clause-ready c = λ ascending.
    let here = subst IsAscending (sym c.deref.ensures.value) ascending in
    absurd (true≢false (sym (c.is_in_order.ensures.1 here) ∙ c.if-is_in_order.false))

pub returns-then-is_in_order-clause-ordered : goal.returns-then-is_in_order-clause-ordered
returns-then-is_in_order-clause-ordered c =
    ordered-is c.args.list.now.items c.args.list.now.items (subst IsAscending c.deref.ensures.value (c.is_in_order.ensures.0 c.if-is_in_order.true)) (λ z. refl)

pub returns-clause-ordered : goal.returns-clause-ordered
returns-clause-ordered c =
    on_ok_weaker c.sort_by_key.result (λ sorted. ordered-is c.args.list.now.items c.sort_by_key.new.self.items (sorted key_of (answers_always _ _ _ (λ f a r g called. search rules))) (c.sort_by_key.ensures.stable key_of (answers_always _ _ _ (λ f a r g called. search rules)))) c.sort_by_key.ensures.sorted
