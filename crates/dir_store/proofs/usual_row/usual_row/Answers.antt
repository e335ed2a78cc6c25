use Rattle.std.proofs.Common.{arith}
use Rattle.dir_store.proofs.UsualLemmas.{usual-row}
use Rattle.dir_store.proofs.usual_row.usual_row.Goals as goal

pub returns : goal.returns
returns c =
    usual-row c.args.known.now.segments.now c.in_ok-depth.depth c.in_ok-tag.tag c.in_ok-must.must c.in_ok-max.max c.args.octets.now c.in_ok-depth.rest.now c.in_ok-tag.rest.now c.in_ok-must.rest.now c.in_ok-max.rest.now
    c.in_ok-depth.ensures.word c.in_ok-tag.ensures c.in_ok-must.ensures c.in_ok-max.ensures.word c.if-depth-gt16.false (omega (arith, c.if-max-eq0.false)) c.in_ok-max.ensures.small
