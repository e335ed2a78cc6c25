use Rattle.std.proofs.Common.{sym, ap, ◌∙◌, arith}
use Rattle.std.specs.List.{prefix_len}
use Rattle.seg_lexer.specs.Breaks.{is_break, lead}
use Rattle.seg_lexer.proofs.StretchLemmas.{breaks-end}
use Rattle.seg_lexer.proofs.scan.skip_breaks.Goals as goal

pub returns-then-not-is_break : goal.returns-then-not-is_break
unfolding lead
returns-then-not-is_break g c =
    let none = breaks-end _ _ _ c.in-Some.ensures.steps (sym c.is_break.ensures ∙ c.if-not-is_break.true) in
    let same = c.loop-octet.invariant.same in
    omega arith

pub returns : goal.returns
unfolding lead
returns g c =
    let same = c.loop-octet.invariant.same in
    omega (arith, ap (prefix_len is_break) c.in-None.ensures.steps.0)
