use Rattle.std.proofs.Common.{sym, ◌∙◌}
use Rattle.guide_overlay.specs.Kept.{detail_seen}
use Rattle.guide_overlay.proofs.ReadingLemmas.{without_head, other_head, is_twice, by_base, not_false, not_true}
use Rattle.guide_overlay.proofs.judge.judge_detail.Goals as goal

pub returns-in_default-clause-first : goal.returns-in_default-clause-first
returns-in_default-clause-first c = without_head c.args.parts.now c.args.reading.now (detail_seen c.args.detail) c.requires.kept c.in_default.is

pub returns-then-not-is_under-clause-first : goal.returns-then-not-is_under-clause-first
returns-then-not-is_under-clause-first c =
    other_head c.args.parts.now c.args.reading.now (detail_seen c.args.detail) c.in-Some.topic c.in-Some.name c.in-Some.is (sym c.is_under.ensures ∙ c.if-not-is_under.true)

pub returns-then-not-branch-clause-first : goal.returns-then-not-branch-clause-first
returns-then-not-branch-clause-first c =
    is_twice c.args.parts.now c.args.reading.now (detail_seen c.args.detail) c.in-Some.topic c.in-Some.name c.in-Some.is (sym c.is_under.ensures ∙ c.if-not-is_under.false)
    (not_false _ (sym c.in_ok-add_detail.ensures.new ∙ c.if-not-branch.true))

pub returns-clause-first : goal.returns-clause-first
returns-clause-first c =
    by_base c.args.parts.now c.args.reading.now (detail_seen c.args.detail) c.in-Some.topic c.in-Some.name c.in-Some.is (sym c.is_under.ensures ∙ c.if-not-is_under.false)
    (not_true _ (sym c.in_ok-add_detail.ensures.new ∙ c.if-not-branch.false)) c.base_kind.result c.base_kind.ensures
