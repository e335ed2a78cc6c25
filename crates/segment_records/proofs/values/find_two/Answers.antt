use Rattle.std.proofs.Common.{ap}
use Rattle.std.specs.Prelude.{map}
use Rattle.seg_lexer.specs.Fields.{unplaced}
use Rattle.seg_lexer.proofs.OrderLemmas.{components_left-in_order}
use Rattle.segment_records.proofs.Found.{found-past}
use Rattle.segment_records.proofs.values.find_two.Goals as goal

pub returns-then-found-second-clause-first : goal.returns-then-found-second-clause-first
returns-then-found-second-clause-first g c =
    found-past _ _ c.args.first.0 c.args.first.1 _ _ _ (ap (map unplaced) c.in-Some.ensures.steps) c.if-found-first.true (components_left-in_order c.loop-found.found-iterator) c.loop-found.invariant.first

pub returns-then-found-second-clause-second : goal.returns-then-found-second-clause-second
returns-then-found-second-clause-second g c =
    found-past _ _ c.args.second.0 c.args.second.1 _ _ _ (ap (map unplaced) c.in-Some.ensures.steps) c.if-found-second.true (components_left-in_order c.loop-found.found-iterator) c.loop-found.invariant.second
