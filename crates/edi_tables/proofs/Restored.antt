-- A table gives its rows back: the depth of a node is the number of groups round it.
use Rattle.std.proofs.Common.{◌≡◌, ℕ, zero, suc, ◌+◌, ◌<◌, ◌≤◌, List, [], ◌∷◌, Option, Some, None, length, refl, sym, ap, ◌∙◌, arith}
use Rattle.std.specs.Prelude.{slice_get}
use Rattle.edi_tables.specs.declared.segment.TableRow.{TableRow}
use Rattle.edi_tables.specs.declared.table.Node.{Node}
use Rattle.edi_tables.specs.Rows.{depth_at, table_faults, node_of, nodes_from, nodes_of, row_of, rows_from, rows_of, IsTable}
use Rattle.edi_tables.specs.Walk.{parent_at, groups_round}
use Rattle.edi_tables.proofs.Depths.{parent_of_some, parent_of_at_none}
use Rattle.edi_tables.proofs.Lawful.{parent_group, outside_rows}
use Rattle.edi_tables.proofs.Made.{parent_at-nodes_of}
use Rattle.edi_tables.proofs.TableLaws.{HasTableLaws, table_laws_of_rows}
use Rattle.edi_tables.proofs.GroupLaws.{groups_round_none, groups_round_some}

module _ (rows : List TableRow) (lawful : table_faults rows ≡ []) where
  abbrev made : List Node
  made = nodes_of rows

  deeper_by_one : (i g : ℕ) → parent_at made i ≡ Some g → (g < i) × (depth_at rows i ≡ depth_at rows g + 1)
  deeper_by_one i g is =
      let parent = parent_of_some rows i g (sym (parent_at-nodes_of rows i) ∙ is) in
      (parent.before, (parent_group rows lawful i g parent).1)

  outside_all : (i : ℕ) → parent_at made i ≡ None → depth_at rows i ≡ 0
  outside_all i is = outside_rows rows lawful i (parent_of_at_none rows i (sym (parent_at-nodes_of rows i) ∙ is))

  -- the nodes of a table have its laws
  laws : HasTableLaws made
  laws = table_laws_of_rows rows lawful

  depth_from_group : (n i : ℕ) (found : Option ℕ) → parent_at made i ≡ found → i ≤ n → length (groups_round made i) ≡ depth_at rows i
  depth_from_group n i None is within = ap length (groups_round_none made laws i is) ∙ sym (outside_all i is)
  depth_from_group zero i (Some g) is within = absurd (omega (arith, (deeper_by_one i g is).0))
  depth_from_group (suc n) i (Some g) is within =
      let one = deeper_by_one i g is in
      let more : length (groups_round made i) ≡ suc (length (groups_round made g)) = ap length (groups_round_some made laws i g is) in
      omega (arith, one.1, depth_from_group n g (parent_at made g) refl (omega (arith, one.0)))

  pub depth_at-rows : (i : ℕ) → depth_at rows i ≡ length (groups_round made i)
  depth_at-rows i = sym (depth_from_group i i (parent_at made i) refl (omega arith))

row_of-node_of : (rows : List TableRow) (nodes : List Node) (i : ℕ) (x : TableRow) → x.depth ≡ length (groups_round nodes i) → row_of nodes i (node_of rows i x) ≡ x
row_of-node_of rows nodes i x deep = ap (λ (depth : ℕ). record x { depth = depth }) (sym deep)

rows_from-nodes_from : (rows : List TableRow) (nodes : List Node) (i : ℕ) (xs : List TableRow) → ((k n : ℕ) (row : TableRow) → i + k ≡ n → slice_get xs k ≡ Some row → row.depth ≡ length (groups_round nodes n)) → rows_from nodes i (nodes_from rows i xs) ≡ xs
rows_from-nodes_from rows nodes i [] deep = refl
rows_from-nodes_from rows nodes i (x ∷ xs) deep =
    ap (λ row. row ∷ rows_from nodes (i + 1) (nodes_from rows (i + 1) xs)) (row_of-node_of rows nodes i x (deep 0 i x (omega arith) refl))
    ∙ ap (λ more. x ∷ more) (rows_from-nodes_from rows nodes (i + 1) xs (λ k n row sum at. deep (suc k) n row (omega arith) at))

depth_of_row : (rows : List TableRow) → table_faults rows ≡ [] → (k n : ℕ) (row : TableRow) → k ≡ n → slice_get rows k ≡ Some row → row.depth ≡ length (groups_round (nodes_of rows) n)
depth_of_row rows lawful k n row same at = sym (rw (depth_at, at) refl) ∙ depth_at-rows rows lawful k ∙ ap (λ m. length (groups_round (nodes_of rows) m)) same

pub rows_of-nodes_of : (rows : List TableRow) → table_faults rows ≡ [] → rows_of (nodes_of rows) ≡ rows
unfolding rows_of
rows_of-nodes_of rows lawful = rows_from-nodes_from rows (nodes_of rows) 0 rows (λ k n row sum at. depth_of_row rows lawful k n row (omega arith) at)

-- the nodes of rows that break no rule are a table
pub table_of_rows : (rows : List TableRow) → table_faults rows ≡ [] → IsTable (nodes_of rows)
table_of_rows rows lawful =
    let back : rows_of (nodes_of rows) ≡ rows = rows_of-nodes_of rows lawful in
    (ap table_faults back ∙ lawful, ap nodes_of (sym back))
