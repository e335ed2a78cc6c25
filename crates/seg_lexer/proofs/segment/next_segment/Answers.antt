use Rattle.std.proofs.Common.{◌≤◌, length, arith}
use Rattle.seg_lexer.proofs.SegmentsLemmas.{boundary-high, ended-lexed, tail-lexed, nothing-lexed}
use Rattle.seg_lexer.proofs.segment.next_segment.Goals as goal

pub find_free-requires-clause-ordered : goal.find_free-requires-clause-ordered
find_free-requires-clause-ordered g c =
    let high : c.args.from ≤ length (g.O.Octets.octets c.args.text.now) = boundary-high _ _ c.requires.usable c.args.from c.requires.boundary in
    omega arith

pub skip_breaks-start-requires-clause-ordered : goal.skip_breaks-start-requires-clause-ordered
skip_breaks-start-requires-clause-ordered g c =
    let high : c.args.from ≤ length (g.O.Octets.octets c.args.text.now) = boundary-high _ _ c.requires.usable c.args.from c.requires.boundary in
    omega arith

pub returns-in-Some-clause-lexed : goal.returns-in-Some-clause-lexed
returns-in-Some-clause-lexed g c k h = ended-lexed _ _ c.requires.usable _ _ _ k c.len-len.ensures h c.in-Some.found.place c.in-Some.ensures.first c.skip_breaks.ensures

pub returns-then-start-len-clause-lexed : goal.returns-then-start-len-clause-lexed
returns-then-start-len-clause-lexed g c k h = tail-lexed _ _ c.requires.usable _ _ _ k c.len-len.ensures h c.in-None.ensures.first c.skip_breaks-start.ensures c.if-start-len.true

pub returns-else-start-len-clause-lexed : goal.returns-else-start-len-clause-lexed
returns-else-start-len-clause-lexed g c k h = nothing-lexed _ _ c.requires.usable _ _ _ k c.len-len.ensures h c.in-None.ensures.first c.skip_breaks-start.ensures c.if-start-len.false
