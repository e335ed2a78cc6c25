use Rattle.std.proofs.Common.{rules}
use Rattle.std.proofs.lemmas.List.Sorted.{answers_always}
use Rattle.error_ledger.specs.Order.{key_of}
use Rattle.error_ledger.proofs.ErrorOrder.{ascending-tested}
use Rattle.error_ledger.proofs.error.is_in_order.Goals as goal

pub returns : goal.returns
returns c =
    ascending-tested c.args.list.now c.is_sorted_by_key.result
    (c.is_sorted_by_key.ensures.cases key_of (answers_always _ _ _ (λ f a r g called. search rules)))
