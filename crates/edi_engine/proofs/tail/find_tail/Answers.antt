use Rattle.std.proofs.Common.{length, sym, arith}
use Rattle.seg_lexer.specs.Segments.{ends_of}
use Rattle.segment_records.proofs.Tails.{last_at, none_past, tail_within}
use Rattle.edi_engine.proofs.tail.find_tail.Goals as goal

pub next_segment-requires-clause-boundary : goal.next_segment-requires-clause-boundary
next_segment-requires-clause-boundary g c =
    let s = c.args.service.now in
    let text = g.O.Octets.octets c.args.text.now in
    (length (ends_of s text), last_at s text c.args.from c.requires.last)

pub overflow_cast-result : goal.overflow_cast-result
overflow_cast-result g c =
    let s = c.args.service.now in
    let text = g.O.Octets.octets c.args.text.now in
    let it = c.in-Tail.ensures.lexed (length (ends_of s text)) (last_at s text c.args.from c.requires.last) in
    let within = tail_within s text c.in-Tail.start it.1 in
    let short = c.requires.short in
    omega arith

pub returns-in-Tail : goal.returns-in-Tail
returns-in-Tail g c =
    let s = c.args.service.now in
    let text = g.O.Octets.octets c.args.text.now in
    sym (c.in-Tail.ensures.lexed (length (ends_of s text)) (last_at s text c.args.from c.requires.last)).1

pub returns-in-Nothing : goal.returns-in-Nothing
returns-in-Nothing g c =
    let s = c.args.service.now in
    let text = g.O.Octets.octets c.args.text.now in
    sym (c.in-Nothing.ensures.lexed (length (ends_of s text)) (last_at s text c.args.from c.requires.last)).1

pub unreachable-requires : goal.unreachable-requires
unreachable-requires g c =
    let s = c.args.service.now in
    let text = g.O.Octets.octets c.args.text.now in
    none_past s text c.args.from _ _ (c.in-Ended.ensures.lexed (length (ends_of s text)) (last_at s text c.args.from c.requires.last))
