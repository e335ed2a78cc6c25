use Rattle.std.proofs.Common.{sym, ◌∙◌}
use Rattle.seg_lexer.proofs.ScanLemmas.{not-turned, turned-back, turned-start}
use Rattle.seg_lexer.proofs.scan.is_released_in.Goals as goal

pub returns-then-not-is_release : goal.returns-then-not-is_release
returns-then-not-is_release c =
    sym (not-turned c.args.release c.args.released c.loop-last.odd _ _ _ c.in-Some.ensures.cases.0 (sym c.is_release.ensures ∙ c.if-not-is_release.true)) ∙ c.loop-last.invariant

pub loop-last-preserved : goal.loop-last-preserved
loop-last-preserved c =
    sym (turned-back c.args.release c.args.released c.loop-last.odd _ _ _ c.in-Some.ensures.cases.0 (sym c.is_release.ensures ∙ c.if-not-is_release.false)) ∙ c.loop-last.invariant

pub returns : goal.returns
returns c = turned-start c.args.release c.args.released c.loop-last.odd _ c.in_default.ensures.cases ∙ c.loop-last.invariant
