use Rattle.std.proofs.Common.{◌≡◌, ◌++◌, map, take}
use Rattle.table_walk.specs.Errors.Fault.{Missing}
use Rattle.segment_records.specs.Line.{fault_lines}
use Rattle.segment_records.specs.Look.{seen_of}
use Rattle.edi_engine.proofs.structure.put_missing.Given as goal

abbrev pub invariant-loop-node : goal.invariant-loop-node
invariant-loop-node l = l.list.items ≡ l.initial.list.items ++ fault_lines l.table (seen_of l.seen) (map Missing (take l.node-index l.nodes))
