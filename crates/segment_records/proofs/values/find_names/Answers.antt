use Rattle.std.proofs.Common.{ap}
use Rattle.std.specs.Prelude.{map}
use Rattle.seg_lexer.specs.Fields.{unplaced}
use Rattle.seg_lexer.proofs.OrderLemmas.{components_left-in_order}
use Rattle.segment_records.proofs.Found.{found-past}
use Rattle.segment_records.proofs.values.find_names.Goals as goal

pub returns-then-found-gt2-clause-message : goal.returns-then-found-gt2-clause-message
returns-then-found-gt2-clause-message g c =
    found-past _ _ 2 1 _ _ _ (ap (map unplaced) c.in-Some.ensures.steps) c.if-found-gt2.true (components_left-in_order c.loop-found.found-iterator) c.loop-found.invariant.message

pub returns-then-found-gt2-clause-version : goal.returns-then-found-gt2-clause-version
returns-then-found-gt2-clause-version g c =
    found-past _ _ 2 2 _ _ _ (ap (map unplaced) c.in-Some.ensures.steps) c.if-found-gt2.true (components_left-in_order c.loop-found.found-iterator) c.loop-found.invariant.version

pub returns-then-found-gt2-clause-release : goal.returns-then-found-gt2-clause-release
returns-then-found-gt2-clause-release g c =
    found-past _ _ 2 3 _ _ _ (ap (map unplaced) c.in-Some.ensures.steps) c.if-found-gt2.true (components_left-in_order c.loop-found.found-iterator) c.loop-found.invariant.release

pub returns-then-found-gt2-clause-agency : goal.returns-then-found-gt2-clause-agency
returns-then-found-gt2-clause-agency g c =
    found-past _ _ 2 4 _ _ _ (ap (map unplaced) c.in-Some.ensures.steps) c.if-found-gt2.true (components_left-in_order c.loop-found.found-iterator) c.loop-found.invariant.agency
