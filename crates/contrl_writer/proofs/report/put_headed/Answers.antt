use Rattle.std.proofs.Common.{List, take, sym, ap, ◌∙◌, arith}
use Rattle.contrl_writer.specs.declared.lower.Lower.{Lower}
use Rattle.contrl_writer.specs.Lower.{details_at, heads_at, with_segments}
use Rattle.contrl_segments.specs.Written.{Segment}
use Rattle.contrl_writer.proofs.BlockLemmas.{headed-all, headed-few}
use Rattle.contrl_writer.proofs.LowerLemmas.{with_segments-append}
use Rattle.contrl_writer.proofs.report.put_headed.Goals as goal

pub returns-in_ok-put_details : goal.returns-in_ok-put_details
returns-in_ok-put_details c =
    let heads : List Segment = take c.args.blocks (heads_at c.args.position c.args.errors.now) in
    let details : List Segment = take 99 (details_at c.args.errors.now) in
    let count = c.count_heads.ensures in
    c.in_ok-put_details.ensures
    ∙ (ap (λ (w : Lower). with_segments w details) c.in_ok-put_heads.ensures
    ∙ (with_segments-append c.args.out.now heads details
    ∙ ap (with_segments c.args.out.now) (sym (headed-all c.args.position c.args.errors.now c.requires c.args.blocks (omega arith)))))

pub returns-else-count_heads-blocks : goal.returns-else-count_heads-blocks
returns-else-count_heads-blocks c =
    let count = c.count_heads.ensures in
    c.in_ok-put_heads.ensures ∙ ap (with_segments c.args.out.now) (sym (headed-few c.args.position c.args.errors.now c.requires c.args.blocks (omega arith)))
