use Rattle.std.proofs.Common.{◌∙◌, ap, sym, not, Some, None, ltb, ◌≡◌, true, false, arith}
use Rattle.std.proofs.lemmas.Bool.Decides.{nat_tests}
use Rattle.element_check.proofs.PassLemmas.{at_list, at_long, at_short, fails_is}
use Rattle.element_check.proofs.value.passes_admitted.Goals as goal

pub returns-in_default : goal.returns-in_default
returns-in_default c =
    ap not (sym (fails_is c.args.context.now c.args.repr c.args.list c.args.octets.now None (sym c.in_default.is ∙ c.typed_length.ensures)))

pub returns-then-length-from : goal.returns-then-length-from
returns-then-length-from c =
    let long : ltb c.args.repr.max c.in-Some.length ≡ true = grind (arith, nat_tests, c.if-length-from.true, c.from.ensures) in
    ap not
    (sym (fails_is c.args.context.now c.args.repr c.args.list c.args.octets.now (Some c.in-Some.length) (sym c.in-Some.is ∙ c.typed_length.ensures)
    ∙ at_long c.args.context.now c.args.repr c.args.list c.args.octets.now c.in-Some.length long))

pub returns-then-is_too_short : goal.returns-then-is_too_short
returns-then-is_too_short c =
    ap not
    (sym (fails_is c.args.context.now c.args.repr c.args.list c.args.octets.now (Some c.in-Some.length) (sym c.in-Some.is ∙ c.typed_length.ensures)
    ∙ at_short c.args.context.now c.args.repr c.args.list c.args.octets.now c.in-Some.length (sym c.is_too_short.ensures ∙ c.if-is_too_short.true)))

pub returns : goal.returns
returns c =
    let fits : ltb c.args.repr.max c.in-Some.length ≡ false = grind (arith, nat_tests, c.if-length-from.false, c.from.ensures) in
    ap not
    (c.is_slice_unlisted.ensures
    ∙ sym (fails_is c.args.context.now c.args.repr c.args.list c.args.octets.now (Some c.in-Some.length) (sym c.in-Some.is ∙ c.typed_length.ensures)
    ∙ at_list c.args.context.now c.args.repr c.args.list c.args.octets.now c.in-Some.length c.requires.admitted fits (sym c.is_too_short.ensures ∙ c.if-is_too_short.false)))
