use Rattle.std.proofs.Common.{◌==◌, rules, tests, le-leb}
use Rattle.std.proofs.lemmas.Iterator.{YieldsList-from_slice}
use Rattle.std.proofs.lemmas.Iterator.Search.{all_from_yields_List}
use Rattle.edi_octets.proofs.profile.is_rule.Goals as goal

pub returns-then-field-ge-LEAST_DASHES : goal.returns-then-field-ge-LEAST_DASHES
returns-then-field-ge-LEAST_DASHES c =
    let long = le-leb 10 _ c.if-field-ge-LEAST_DASHES.true in
    rw long (all_from_yields_List (λ x. x == 45) _ _ _ c.all.ensures.ran (YieldsList-from_slice c.args.field.now (cc)) (λ x b q k. search (rules, tests)))
