use Rattle.std.proofs.Common.{sym, ◌∙◌}
use Rattle.seg_lexer.proofs.StretchLemmas.{kept-none, kept-plain, kept-released}
use Rattle.seg_lexer.proofs.value.next_kept.Goals as goal

pub returns-in_err-octet : goal.returns-in_err-octet
returns-in_err-octet g c = kept-none c.args.release _ _ _ c.from_residual.ensures c.in_err-octet.ensures.steps

pub returns-then-is_release : goal.returns-then-is_release
returns-then-is_release g c =
    kept-released c.args.release _ _ _ c.in_ok-octet.ensures.steps _ _ (sym c.is_release.ensures ∙ c.if-is_release.true) c.next_released.ensures

pub returns : goal.returns
returns g c = kept-plain c.args.release _ _ _ c.in_ok-octet.ensures.steps (sym c.is_release.ensures ∙ c.if-is_release.false)
