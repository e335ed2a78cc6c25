use Rattle.std.proofs.Common.{refl, ap, arith}
use Rattle.seg_lexer.specs.declared.context.Context.{Context}
use Rattle.seg_lexer.specs.Segments.{boundaries_of}
use Rattle.listing_printer.proofs.LinesLemmas.{lines_next, tail_within}
use Rattle.listing_printer.proofs.text.list_segments.Goals as goal

pub loop-start-init : goal.loop-start-init
unfolding boundaries_of
loop-start-init g c = record { service = ap (λ (context : Context). context.service) c.read_context.ensures.context; usable = c.read_context.ensures.usable; boundary = refl; few = omega arith; lines = rw c.empty-lines.ensures refl }

pub loop-start-preserved : goal.loop-start-preserved
loop-start-preserved g c =
    let lexed = c.in-Ended.ensures.lexed c.loop-start.count c.loop-start.invariant.boundary in
    let low = lexed.low in
    let high = lexed.ordered in
    let few = c.loop-start.invariant.few in
    record {
      service = c.loop-start.invariant.service;
      usable = c.loop-start.invariant.usable;
      boundary = lexed.next;
      few = omega arith;
      lines = lines_next _ _ _ _ _ _ _ _ _ lexed.segment c.loop-start.invariant.lines c.in_ok-put_segment-in-Ended.ensures;
    }

pub put_tail-requires : goal.put_tail-requires
put_tail-requires g c =
    let lexed = c.in-Tail.ensures.lexed c.loop-start.count c.loop-start.invariant.boundary in
    let within = tail_within _ _ _ lexed.1 in omega arith
