use Rattle.std.proofs.Common.{length, ap, ◌∙◌, arith}
use Rattle.contrl_writer.specs.Lower.{with_segments}
use Rattle.contrl_writer.proofs.BlockLemmas.{headed-count, no-block, nothing-put, plain-block, plain-put}
use Rattle.contrl_writer.proofs.report.put_blocks.Goals as goal

pub returns-then-heads-gt0-clause-left : goal.returns-then-heads-gt0-clause-left
returns-then-heads-gt0-clause-left c =
    let count = c.count_heads-heads.ensures in
    let blocks = headed-count c.args.position c.args.errors.now (omega arith) in
    omega arith

pub returns-then-count_details-eq0-clause-ok : goal.returns-then-count_details-eq0-clause-ok
returns-then-count_details-eq0-clause-ok c =
    let heads = c.count_heads-heads.ensures in
    let details = c.count_details.ensures in
    nothing-put c.args.position c.args.errors.now c.args.out.now c.args.blocks (no-block c.args.position c.args.errors.now (omega arith) (omega arith))

pub returns-then-count_details-eq0-clause-left : goal.returns-then-count_details-eq0-clause-left
returns-then-count_details-eq0-clause-left c =
    let heads = c.count_heads-heads.ensures in
    let details = c.count_details.ensures in
    let none = ap length (no-block c.args.position c.args.errors.now (omega arith) (omega arith)) in
    omega arith

pub returns-clause-ok : goal.returns-clause-ok
returns-clause-ok c =
    let heads = c.count_heads-heads.ensures in
    let details = c.count_details.ensures in
    c.in_ok-put_plain.ensures ∙ ap (with_segments c.args.out.now) (plain-put c.args.position c.args.errors.now c.args.blocks (omega arith) (omega arith) (omega arith))

pub returns-clause-left : goal.returns-clause-left
returns-clause-left c =
    let heads = c.count_heads-heads.ensures in
    let details = c.count_details.ensures in
    let one = ap length (plain-block c.args.position c.args.errors.now (omega arith) (omega arith)) in
    omega arith
