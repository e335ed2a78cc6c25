use Rattle.std.proofs.Common.{◌∙◌, ap}
use Rattle.error_ledger.specs.Order.{in_order}
use Rattle.text_reading.specs.Errors.{errors_of}
use Rattle.edi_engine.proofs.errors.list_errors.Goals as goal

pub returns-clause-exact : goal.returns-clause-exact
unfolding errors_of
returns-clause-exact c = c.in_ok-order_errors.ensures.ordered ∙ ap in_order c.in_ok-list.ensures
