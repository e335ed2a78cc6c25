use Rattle.element_check.proofs.value.test_value.Goals as goal

pub returns : goal.returns
returns g c = c.results_of.ensures c.args.context.now _ _ c.scan-found.ensures c.is_unlisted.ensures
