use Rattle.std.proofs.Common.{◌≡◌, ◌+◌, length}
use Rattle.edi_tables.specs.Walk.{groups_round, later_nodes}
use Rattle.edi_tables.specs.Places.{IsPlace, musts_left}
use Rattle.edi_tables.proofs.missing.MissingIterator.next.Given as goal

abbrev pub invariant-loop-self : goal.invariant-loop-self
invariant-loop-self l = record {
  place : IsPlace l.self-inside.nodes.now l.self-inside.at l.self-inside.bound;
  left : musts_left l.self-inside.nodes.now l.self-inside.reached l.self-inside.at ≡ musts_left l.initial.self-inside.nodes.now l.initial.self-inside.reached l.initial.self-inside.at;
}

abbrev pub decreases-loop-self : goal.decreases-loop-self
decreases-loop-self l =
    length (later_nodes l.self-inside.nodes.now l.self-inside.at) + length (groups_round l.self-inside.nodes.now l.self-inside.at)
