-- For bodies: records with others in place of some of them.
use Rattle.std.specs.Prelude.{List, ◌++◌, take, drop}
use Rattle.segment_records.specs.Records.{Kept}
use Rattle.kept_text.specs.declared.change.Change.{Change}

-- the records before the change, those that were read and those placed again, and the records after it
abbrev pub changed_by : Change → List Kept → List Kept
changed_by change records =
    take change.first records ++ (change.read.items ++ change.again.items) ++ drop change.next records
