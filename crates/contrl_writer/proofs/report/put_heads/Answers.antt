use Rattle.std.proofs.Common.{sym, ◌∙◌}
use Rattle.contrl_segments.specs.Details.{code_told}
use Rattle.contrl_writer.specs.Lower.{is_head}
use Rattle.contrl_writer.specs.Report.{ucs}
use Rattle.contrl_writer.proofs.LowerLemmas.{picked-end, picked-step}
use Rattle.contrl_writer.proofs.report.put_heads.Goals as goal

pub loop-x-preserved : goal.loop-x-preserved
loop-x-preserved c =
    picked-step (λ x. ucs c.args.position (code_told x.error)) is_head c.loop-x.out c.put_head.new.out c.loop-x.left c.in_ok-left.left c.args.errors.now c.loop-x.x-index _ c.loop-x-test.true
    c.in_ok-left.ensures.ok c.in_ok-left.ensures.left ∙ c.loop-x.invariant

pub returns : goal.returns
returns c = sym (picked-end (λ x. ucs c.args.position (code_told x.error)) is_head c.loop-x.out c.loop-x.left c.args.errors.now c.loop-x.x-index c.loop-x-test.false) ∙ c.loop-x.invariant
