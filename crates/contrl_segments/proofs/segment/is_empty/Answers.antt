use Rattle.std.proofs.Common.{rules, tests}
use Rattle.std.proofs.lemmas.Iterator.{YieldsList-from_slice}
use Rattle.std.proofs.lemmas.Iterator.Search.{all_from_yields_List}
use Rattle.std.proofs.lemmas.List.Folds.{list_all-map}
use Rattle.contrl_segments.specs.Written.{is_empty_value}
use Rattle.contrl_segments.specs.Lent.{value_lent}
use Rattle.contrl_segments.proofs.segment.is_empty.Goals as goal

pub returns : goal.returns
returns c =
    rw (list_all-map is_empty_value value_lent c.args.element.now)
    (all_from_yields_List (λ v. is_empty_value (value_lent v)) _ _ _ c.all.ensures.ran (YieldsList-from_slice c.args.element.now (cc)) (λ x b q k. search (rules, tests)))
