use Rattle.std.proofs.Common.{not, sym, ap, ◌∙◌}
use Rattle.guide_overlay.proofs.ReadingLemmas.{heads_seen}
use Rattle.guide_overlay.proofs.sections.Reading.add_head.Goals as goal

pub returns-then-not-branch-clause-new : goal.returns-then-not-branch-clause-new
returns-then-not-branch-clause-new c =
    sym c.if-not-branch.true ∙ c.in_ok-add_word.ensures.new ∙ ap not (heads_seen c.args.self.now c.args.topic c.args.name.now c.requires.kept c.requires.named)

pub returns-clause-new : goal.returns-clause-new
returns-clause-new c =
    sym c.if-not-branch.false ∙ c.in_ok-add_word.ensures.new ∙ ap not (heads_seen c.args.self.now c.args.topic c.args.name.now c.requires.kept c.requires.named)
