-- The nodes of rows, one a row.
use Rattle.std.proofs.Common.{◌≡◌, ℕ, zero, suc, ◌+◌, ◌<◌, ◌≤◌, List, [], ◌∷◌, ◌++◌, Option, Some, None, length, get_or, take, refl, sym, ap, ◌∙◌, true, false, ⊎_elim, arith}
use Rattle.std.specs.Prelude.{slice_get}
use Rattle.std.specs.Option.{option_map}
use Rattle.std.proofs.lemmas.List.{take_more, length-take-le}
use Rattle.edi_tables.specs.declared.segment.TableRow.{TableRow}
use Rattle.edi_tables.specs.declared.table.Node.{Node}
use Rattle.std.proofs.lemmas.Bool.{cases_lt}
use Rattle.std.proofs.lemmas.Option.{slice_get_past}
use Rattle.edi_tables.specs.Rows.{is_group_row, parent_of, end_of, node_of, nodes_from, nodes_of}
use Rattle.edi_tables.specs.Walk.{read_node, tag_at, parent_at, is_must_at, max_at, end_at, is_group_at}
use Rattle.edi_tables.proofs.Depths.{depth_at_past, parent_of_none}
use Rattle.edi_tables.proofs.Lawful.{row_at, at_row}

length-nodes_from : (rows : List TableRow) (i : ℕ) (xs : List TableRow) → length (nodes_from rows i xs) ≡ length xs
length-nodes_from rows i [] = refl
length-nodes_from rows i (x ∷ xs) = ap suc (length-nodes_from rows (i + 1) xs)

pub length-nodes_of : (rows : List TableRow) → length (nodes_of rows) ≡ length rows
length-nodes_of rows = length-nodes_from rows 0 rows

nodes_from-append : (rows : List TableRow) (i n : ℕ) (xs ys : List TableRow) → i + length xs ≡ n → nodes_from rows i (xs ++ ys) ≡ nodes_from rows i xs ++ nodes_from rows n ys
nodes_from-append rows i n [] ys sum = ap (λ m. nodes_from rows m ys) (omega arith)
nodes_from-append rows i n (x ∷ xs) ys sum = ap (λ more. node_of rows i x ∷ more) (nodes_from-append rows (i + 1) n xs ys (omega arith))

pub made_more : (rows : List TableRow) (i : ℕ) (d : TableRow) (nodes : List Node) (parent : Option ℕ) (end : ℕ) → i < length rows → nodes ≡ nodes_from rows 0 (take i rows) → parent ≡ parent_of rows i → end ≡ end_of rows i
    → nodes ++ record { tag = (get_or rows i d).tag; must = (get_or rows i d).must; max = (get_or rows i d).max; parent = parent; end = end } ∷ [] ≡ nodes_from rows 0 (take (i + 1) rows)
made_more rows i d nodes parent end within made parent_is end_is =
    rw (made, parent_is, end_is, take_more rows i d within)
    (sym (nodes_from-append rows 0 i (take i rows) (get_or rows i d ∷ []) (omega (arith, length-take-le i rows (omega arith)))))

slice_get-nodes_from : (rows : List TableRow) (i n : ℕ) (xs : List TableRow) (k : ℕ) → i + k ≡ n → slice_get (nodes_from rows i xs) k ≡ option_map (node_of rows n) (slice_get xs k)
slice_get-nodes_from rows i n [] k sum = refl
slice_get-nodes_from rows i n (x ∷ xs) zero sum = ap (λ m. Some (node_of rows m x)) (omega arith)
slice_get-nodes_from rows i n (x ∷ xs) (suc k) sum = slice_get-nodes_from rows (i + 1) n xs k (omega arith)

-- the node of the row at i
pub slice_get-nodes_of : (rows : List TableRow) (i : ℕ) → slice_get (nodes_of rows) i ≡ option_map (node_of rows i) (slice_get rows i)
slice_get-nodes_of rows i = slice_get-nodes_from rows 0 i rows i (omega arith)

read_made : {A : Type 0} (default : A) (read : Node → A) → (rows : List TableRow) (i : ℕ) (row : TableRow) → slice_get rows i ≡ Some row → read_node default read (nodes_of rows) i ≡ read (node_of rows i row)
read_made default read rows i row at = rw (read_node, slice_get-nodes_of rows i, at) refl

read_past : {A : Type 0} (default : A) (read : Node → A) → (rows : List TableRow) (i : ℕ) → length rows ≤ i → read_node default read (nodes_of rows) i ≡ default
read_past default read rows i past = rw (read_node, slice_get-nodes_of rows i, slice_get_past rows i past) refl

module _ (rows : List TableRow) (i : ℕ) (within : i < length rows) where
  pub tag_at-nodes_of : tag_at (nodes_of rows) i ≡ (row_at rows i).tag
  tag_at-nodes_of = read_made None (λ n. n.tag) rows i (row_at rows i) (at_row rows i within)

  pub is_must_at-nodes_of : is_must_at (nodes_of rows) i ≡ (row_at rows i).must
  is_must_at-nodes_of = read_made false (λ n. n.must) rows i (row_at rows i) (at_row rows i within)

  pub max_at-nodes_of : max_at (nodes_of rows) i ≡ (row_at rows i).max
  max_at-nodes_of = read_made 0 (λ n. n.max) rows i (row_at rows i) (at_row rows i within)

  pub is_group_at-nodes_of : is_group_at (nodes_of rows) i ≡ is_group_row (row_at rows i)
  is_group_at-nodes_of = read_made false (λ n. elim n.tag [ None ↦ true | Some tag ↦ false ]) rows i (row_at rows i) (at_row rows i within)

  pub end_at-nodes_of : end_at (nodes_of rows) i ≡ end_of rows i
  end_at-nodes_of = read_made 0 (λ n. n.end) rows i (row_at rows i) (at_row rows i within)

  parent_at_made : parent_at (nodes_of rows) i ≡ parent_of rows i
  parent_at_made = read_made None (λ n. n.parent) rows i (row_at rows i) (at_row rows i within)

module _ (rows : List TableRow) (i : ℕ) (past : length rows ≤ i) where
  pub tag_at_past : tag_at (nodes_of rows) i ≡ None
  tag_at_past = read_past None (λ n. n.tag) rows i past

  pub max_at_past : max_at (nodes_of rows) i ≡ 0
  max_at_past = read_past 0 (λ n. n.max) rows i past

  pub is_group_at_past : is_group_at (nodes_of rows) i ≡ false
  is_group_at_past = read_past false (λ n. elim n.tag [ None ↦ true | Some tag ↦ false ]) rows i past

  pub end_at_past : end_at (nodes_of rows) i ≡ 0
  end_at_past = read_past 0 (λ n. n.end) rows i past

  parent_at_past : parent_at (nodes_of rows) i ≡ parent_of rows i
  parent_at_past = read_past None (λ n. n.parent) rows i past ∙ sym (parent_of_none rows i (λ k below. omega (arith, depth_at_past rows i past)))

pub parent_at-nodes_of : (rows : List TableRow) (i : ℕ) → parent_at (nodes_of rows) i ≡ parent_of rows i
parent_at-nodes_of rows i = ⊎_elim (parent_at_made rows i) (parent_at_past rows i) (cases_lt i (length rows))
