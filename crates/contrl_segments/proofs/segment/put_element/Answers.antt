use Rattle.std.proofs.Common.{map, rules, sym}
use Rattle.std.proofs.lemmas.List.{append-nil, append_assoc, take_all}
use Rattle.contrl_segments.specs.Lent.{value_lent}
use Rattle.contrl_segments.proofs.TextLemmas.{element_text-none, element_text-some}
use Rattle.contrl_segments.proofs.segment.put_element.Goals as goal

pub returns-in_default-clause-ok : goal.returns-in_default-clause-ok
returns-in_default-clause-ok c =
    rw (element_text-none (map value_lent c.args.element.now) c.kept_values.result.now c.kept_values.ensures c.in_default.ensures.cases) (sym (append-nil c.args.out.now))

pub returns-clause-ok : goal.returns-clause-ok
returns-clause-ok c =
    let all = take_all c.loop-value.value-index c.in-Some.later.now c.loop-value-test.false in
    rw (element_text-some (map value_lent c.args.element.now) c.kept_values.result.now c.in-Some.first.now c.in-Some.later.now c.kept_values.ensures c.in-Some.ensures.cases.0)
    (search (rules, all, append_assoc))
