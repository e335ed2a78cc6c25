-- What bodies that narrow need of a guide's details: which is of a node, and that each count is no greater than the
-- count of what it narrows.
use Rattle.std.specs.Prelude.{◌≡◌, ◌≤◌, ◌+◌, ℕ, Bool, true, false, ◌==◌, List, Option, Some, None, AllPairs, find, slice_get, if◌then◌else◌}
use Rattle.edi_tables.specs.Forms.{reps_of}
use Rattle.edi_tables.specs.declared.segment.ItemDef.{ItemDef}
use Rattle.edi_tables.specs.declared.segment.TableRow.{TableRow}
use Rattle.guide_overlay.specs.Guide.{Detail, is_item, is_same_detail}
use Rattle.guide_overlay.specs.Guide.Detail.{Node, Item, Part, Value}
use Rattle.guide_overlay.specs.Rows.NodeChange.{Drop, Keep}

-- the node that a detail is of
abbrev pub node_in : Detail → Option ℕ
node_in (Node i change) = Some i
node_in (Item i must reps) = None
node_in (Part i must) = None
node_in (Value value) = None

-- a detail is of that node
abbrev pub is_node : ℕ → Detail → Bool
is_node i (Node j change) = j == i
is_node i (Item j must reps) = false
is_node i (Part j must) = false
is_node i (Value value) = false

-- the first detail of a node, where there is another one
abbrev pub line_after : ℕ → Option Detail → Detail → Option Detail
line_after i None detail = if is_node i detail then Some detail else None
line_after i (Some line) detail = Some line

-- a detail drops a node
abbrev pub is_dropped : Option Detail → Bool
is_dropped None = false
is_dropped (Some (Node i Drop)) = true
is_dropped (Some (Node i (Keep must max))) = false
is_dropped (Some (Item i must reps)) = false
is_dropped (Some (Part i must)) = false
is_dropped (Some (Value value)) = false

-- a row as a detail has it, if there is one
abbrev pub row_by_detail : TableRow → Option Detail → TableRow
row_by_detail row None = row
row_by_detail row (Some (Node i Drop)) = row
row_by_detail row (Some (Node i (Keep must max))) = record row { must = must; max = max }
row_by_detail row (Some (Item i must reps)) = row
row_by_detail row (Some (Part i must)) = row
row_by_detail row (Some (Value value)) = row

-- a detail counts a row no higher than it is counted
abbrev pub IsRowWithin : TableRow → Option Detail → Type 0
IsRowWithin row None = Unit {0}
IsRowWithin row (Some (Node i Drop)) = Unit {0}
IsRowWithin row (Some (Node i (Keep must max))) = max ≤ row.max
IsRowWithin row (Some (Item i must reps)) = Unit {0}
IsRowWithin row (Some (Part i must)) = Unit {0}
IsRowWithin row (Some (Value value)) = Unit {0}

-- a detail counts an item no higher than it is counted
abbrev pub IsItemWithin : ItemDef → Option Detail → Type 0
IsItemWithin item None = Unit {0}
IsItemWithin item (Some (Item i must reps)) = reps ≤ reps_of item
IsItemWithin item (Some (Node i change)) = Unit {0}
IsItemWithin item (Some (Part i must)) = Unit {0}
IsItemWithin item (Some (Value value)) = Unit {0}

-- the details of a table: the first of each row counts it no higher than it is counted, and no two are of one node
pub record AreRowsFitting (rows : List TableRow) (details : List Detail) : Type 0 where
  pub within : (i : ℕ) (row : TableRow) → slice_get rows i ≡ Some row → IsRowWithin row (find (is_node i) details)
  pub apart : AllPairs (λ earlier later. is_same_detail later earlier ≡ false) details

-- the details of a segment: the first of each item counts it no higher than it is counted
abbrev pub AreItemsFitting : List ItemDef → List Detail → Type 0
AreItemsFitting items details =
    (i : ℕ) (item : ItemDef) → slice_get items i ≡ Some item → IsItemWithin item (find (is_item (1 + i)) details)
