-- What a guide changes in a segment table: the rows that are left, with their statuses and greatest counts.
use Rattle.std.specs.Prelude.{◌≡◌, ◌<◌, ◌≤◌, ◌+◌, ℕ, Bool, true, false, not, ◌==◌, ◌&&◌, nat_le, nat_lt, List, length, map, filter, find, slice_index_or, Option, Some, None}
use Rattle.std.specs.List.{list_any, range_with_len, enumerate_from}
use Rattle.edi_tables.specs.declared.segment.TableRow.{TableRow}
use Rattle.edi_tables.specs.declared.table.Node.{Node}
use Rattle.edi_tables.specs.Walk.{is_must_at, max_at, end_at}
use Rattle.edi_tables.specs.Rows.{nodes_of}

-- what a line says of a node of the base: it is dropped, or kept with this status and this greatest count
pub data NodeChange : Type 0 where
  Drop : NodeChange
  Keep : (must : Bool) → (max : ℕ) → NodeChange

-- what a guide says of the nodes of a segment table: lines, each with the number of a node of the base
abbrev pub TableChange : Type 0
TableChange = List (ℕ × NodeChange)

-- a node is left out by a line, for itself or for a group round it
abbrev pub is_left_out_by : List Node → ℕ → ℕ × NodeChange → Bool
is_left_out_by nodes i (d, Drop) = nat_le d i && nat_lt i (end_at nodes d)
is_left_out_by nodes i (d, Keep must max) = false

-- a node is left: no line leaves it out
abbrev pub is_left : List Node → TableChange → ℕ → Bool
is_left nodes lines i = not (list_any (is_left_out_by nodes i) lines)

-- a row as its line has it, if there is one
abbrev pub row_by_line : TableRow → Option (ℕ × NodeChange) → TableRow
row_by_line row None = row
row_by_line row (Some (i, Drop)) = row
row_by_line row (Some (i, Keep must max)) = record row { must = must; max = max }

-- a row with its number, as the first line on that number has it
abbrev pub changed_row : TableChange → ℕ × TableRow → TableRow
changed_row lines p = row_by_line p.1 (find (λ line. line.0 == p.0) lines)

-- the rows that are left, each as its line has it
unfoldable pub narrowed_rows : TableChange → List TableRow → List TableRow
narrowed_rows lines rows =
    map (changed_row lines) (filter (λ p. is_left (nodes_of rows) lines p.0) (enumerate_from 0 rows))

-- a line that a guide may have: it drops a conditional node, or keeps a node with no weaker status and with a greatest
-- count from 1 to the base's
abbrev pub IsNarrower : List Node → ℕ × NodeChange → Type 0
IsNarrower nodes (i, Drop) = is_must_at nodes i ≡ false
IsNarrower nodes (i, Keep must max) =
    (is_must_at nodes i ≡ true → must ≡ true) × (0 < max) × (max ≤ max_at nodes i)

-- the nodes that are left, by their numbers in the base
abbrev pub left_nodes : List Node → TableChange → List ℕ
left_nodes nodes lines = filter (is_left nodes lines) (range_with_len 0 (length nodes))

-- the node of the base that a node of the narrowed table is; past the last one, numbers past the base's
abbrev pub base_node : List Node → TableChange → ℕ → ℕ
base_node nodes lines i = slice_index_or (left_nodes nodes lines) i (length nodes + i)
