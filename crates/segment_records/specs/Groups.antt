-- The numbers of the groups of a table, for each node.
use Rattle.std.specs.Prelude.{ℕ, List, length, map}
use Rattle.std.specs.List.{range_with_len}
use Rattle.edi_tables.specs.declared.table.Node.{Node}
use Rattle.segment_records.specs.Places.{group_number}

-- how many groups there are up to each node, itself included
abbrev pub numbers_in : List Node → List ℕ
numbers_in nodes = map (group_number nodes) (range_with_len 0 (length nodes))
