use Rattle.std.proofs.Common.{◌≡◌, ◌++◌, map, take}
use Rattle.segment_records.specs.Errors.{local_line}
use Rattle.segment_records.specs.Look.{seen_of}
use Rattle.segment_records.specs.WalkedSegments.{as_segment}
use Rattle.edi_engine.proofs.errors.put_local.Given as goal

abbrev pub invariant-loop-error : goal.invariant-loop-error
invariant-loop-error l =
    l.list.items ≡ l.initial.list.items ++ map (local_line (seen_of l.seen).number (as_segment (seen_of l.seen))) (take l.error-index l.error-items)
