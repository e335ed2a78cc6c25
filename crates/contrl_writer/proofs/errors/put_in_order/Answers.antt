use Rattle.std.proofs.Common.{ap, ◌∙◌}
use Rattle.error_ledger.specs.Order.{in_order}
use Rattle.contrl_writer.proofs.errors.put_in_order.Goals as goal

pub returns : goal.returns
returns c =
    let copied = c.in_ok-ordered.ensures.items_if_clones_equal (λ x y same. same) in
    c.in_ok-order_errors.ensures.ordered ∙ ap in_order copied
