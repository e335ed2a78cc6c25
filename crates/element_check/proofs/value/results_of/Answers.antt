use Rattle.std.proofs.Common.{ℕ, ltb, ap}
use Rattle.element_check.proofs.TallyLemmas.{results-found}
use Rattle.element_check.proofs.value.results_of.Goals as goal

pub returns : goal.returns
returns c context list value is unlisted_is =
    results-found context c.args.repr list value c.args.found _ _ _ _ is c.is_no_number.ensures
    (ap (λ (n : ℕ). ltb n c.args.found.counted) c.from.ensures) c.is_too_short.ensures unlisted_is
