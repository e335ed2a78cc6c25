-- Which rows are a segment table, and the nodes that they make.
use Rattle.std.specs.Prelude.{◌≡◌, ◌-◌, ◌+◌, ℕ, Bool, true, false, not, ◌==◌, ◌&&◌, ◌||◌, nat_le, nat_lt, List, [], ◌∷◌, ◌++◌, length, map, reverse, find, slice_get, Option, Some, None, unwrap_or, Result, codes, if◌then◌else◌}
use Rattle.std.specs.List.{range_with_len, flat_map}
use Rattle.std.specs.Str.{bytes_eq}
use Rattle.edi_tables.specs.Octets.{Octets}
use Rattle.edi_tables.specs.declared.tag.Tag.{Tag}
use Rattle.edi_tables.specs.declared.segment.TableRow.{TableRow}
use Rattle.edi_tables.specs.declared.table.Node.{Node}
use Rattle.edi_tables.specs.declared.table.RowFault.{RowFault}
use Rattle.edi_tables.specs.declared.table.TableKind.{TableKind}
use Rattle.edi_tables.specs.declared.table.TableKind.TheVariants.{TooMany, NoUnhUnt, EnvelopeTag, BadMax, BadDepth, TooDeep, NoTrigger}
use Rattle.edi_tables.specs.declared.table.TableStop.{TableStop}
use Rattle.edi_tables.specs.declared.table.TableStop.TheVariants.{Fault, Memory}
use Rattle.edi_tables.specs.First.{unless_faulty}
use Rattle.edi_tables.specs.Walk.{groups_round}

-- a tag with this name
abbrev pub has_name : Octets → Option Tag → Bool
has_name name None = false
has_name name (Some tag) = bytes_eq tag.octets name

-- a row of a group has no tag
abbrev pub is_group_row : TableRow → Bool
is_group_row row = elim row.tag [ None ↦ true | Some tag ↦ false ]

-- the row of a segment that occurs exactly once, outside all groups
abbrev pub is_frame_row : Octets → TableRow → Bool
is_frame_row name row = has_name name row.tag && row.must && row.max == 1 && row.depth == 0

-- the first row is UNH M 1, and the last is UNT M 1, each outside all groups
abbrev pub breaks_frame : List TableRow → ℕ → TableRow → Bool
breaks_frame rows i row =
    (i == 0 && not (is_frame_row (codes "UNH") row)) || (i + 1 == length rows && not (is_frame_row (codes "UNT") row))

-- UNB, UNG, UNE and UNZ are in no table, UNH only first and UNT only last
abbrev pub breaks_envelope : List TableRow → ℕ → TableRow → Bool
breaks_envelope rows i row =
    has_name (codes "UNB") row.tag || has_name (codes "UNG") row.tag
    || has_name (codes "UNE") row.tag || has_name (codes "UNZ") row.tag
    || (has_name (codes "UNH") row.tag && not (i == 0))
    || (has_name (codes "UNT") row.tag && not (i + 1 == length rows))

-- a greatest count is from 1 to 999,999
abbrev pub breaks_max : TableRow → Bool
breaks_max row = row.max == 0 || nat_lt 999999 row.max

-- how deep the row after this one may be
abbrev pub depth_after : Option TableRow → ℕ
depth_after None = 0
depth_after (Some row) = if is_group_row row then row.depth + 1 else row.depth

-- the row before, if there is one
abbrev pub row_before : List TableRow → ℕ → Option TableRow
row_before rows i = if i == 0 then None else slice_get rows (i - 1)

-- a row is no deeper than the row before, or one deeper where that is a group
abbrev pub breaks_depth : List TableRow → ℕ → TableRow → Bool
breaks_depth rows i row = nat_lt (depth_after (row_before rows i)) row.depth

-- a trigger: a mandatory segment that occurs once, one deeper than its group
abbrev pub is_trigger_row : ℕ → Option TableRow → Bool
is_trigger_row depth None = false
is_trigger_row depth (Some row) = not (is_group_row row) && row.must && row.max == 1 && row.depth == depth + 1

-- the row directly after a group is its trigger
abbrev pub breaks_trigger : List TableRow → ℕ → TableRow → Bool
breaks_trigger rows i row = is_group_row row && not (is_trigger_row row.depth (slice_get rows (i + 1)))

-- one kind if its rule is broken, else none
abbrev pub when : {A : Type 0} → Bool → A → List A
when broken x = if broken then x ∷ [] else []

-- the rules that the row at i breaks, in judging order
abbrev pub row_faults : List TableRow → ℕ → TableRow → List TableKind
row_faults rows i row =
    when (breaks_frame rows i row) NoUnhUnt ++ when (breaks_envelope rows i row) EnvelopeTag
    ++ when (breaks_max row) BadMax ++ when (breaks_depth rows i row) BadDepth
    ++ when (nat_lt 16 row.depth) TooDeep ++ when (breaks_trigger rows i row) NoTrigger

-- the faults of the row at i, each with that place; past the last row there is none
abbrev pub row_faults_at : List TableRow → ℕ → Option TableRow → List RowFault
row_faults_at rows i None = []
row_faults_at rows i (Some row) = map (λ kind. record { at = i; kind = kind }) (row_faults rows i row)

-- all faults of rows in judging order: more than 2,000 rows are judged before any row, and no rows have no first one
unfoldable pub table_faults : List TableRow → List RowFault
table_faults rows =
    if nat_lt 2000 (length rows) then record { at = 2000; kind = TooMany } ∷ []
    else (if length rows == 0
    then record { at = 0; kind = NoUnhUnt } ∷ []
    else flat_map (λ i. row_faults_at rows i (slice_get rows i)) (range_with_len 0 (length rows)))

-- the depth of the row at i: the number of groups round it
abbrev pub depth_at : List TableRow → ℕ → ℕ
depth_at rows i = elim (slice_get rows i) [ None ↦ 0 | Some row ↦ row.depth ]

-- the last row before i that is less deep: the group that holds it
unfoldable pub parent_of : List TableRow → ℕ → Option ℕ
parent_of rows i = find (λ j. nat_lt (depth_at rows j) (depth_at rows i)) (reverse (range_with_len 0 i))

-- the first row after i that is no deeper: one past its last descendant
unfoldable pub end_of : List TableRow → ℕ → ℕ
end_of rows i =
    unwrap_or
    (find (λ j. nat_le (depth_at rows j) (depth_at rows i)) (range_with_len (i + 1) (length rows - (i + 1))))
    (length rows)

-- the node of the row at i
abbrev pub node_of : List TableRow → ℕ → TableRow → Node
node_of rows i row =
    record { tag = row.tag; must = row.must; max = row.max; parent = parent_of rows i; end = end_of rows i }

-- the nodes of these rows, of which the first is row i
abbrev pub nodes_from : List TableRow → ℕ → List TableRow → List Node
nodes_from rows i [] = []
nodes_from rows i (row ∷ more) = node_of rows i row ∷ nodes_from rows (i + 1) more

-- the nodes of rows, one a row
abbrev pub nodes_of : List TableRow → List Node
nodes_of rows = nodes_from rows 0 rows

-- the row of the node at i: it is as deep as groups are round it
abbrev pub row_of : List Node → ℕ → Node → TableRow
row_of nodes i node = record { tag = node.tag; must = node.must; max = node.max; depth = length (groups_round nodes i) }

-- the rows of these nodes, of which the first is node i
abbrev pub rows_from : List Node → ℕ → List Node → List TableRow
rows_from nodes i [] = []
rows_from nodes i (node ∷ more) = row_of nodes i node ∷ rows_from nodes (i + 1) more

-- the rows that nodes are made of, one a node
unfoldable pub rows_of : List Node → List TableRow
rows_of nodes = rows_from nodes 0 nodes

-- a segment table: its rows break no rule, and it has their nodes
abbrev pub IsTable : List Node → Type 0
IsTable nodes = (table_faults (rows_of nodes) ≡ []) × (nodes ≡ nodes_of (rows_of nodes))

-- the table of rows: their nodes where no rule is broken, else the first fault
abbrev pub table_of : List TableRow → Result (List Node) RowFault
table_of rows = unless_faulty (table_faults rows) (nodes_of rows)

-- the fault that a stop tells; want of memory tells none
abbrev pub fault_in : TableStop → Option RowFault
fault_in (Fault at kind) = Some (record { at = at; kind = kind })
fault_in Memory = None
