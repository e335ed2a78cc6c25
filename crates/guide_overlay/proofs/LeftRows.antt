-- The rows that a guide leaves: which rows of the base they are, and what of them stays.
use Rattle.std.proofs.Common.{◌≡◌, ℕ, suc, ◌+◌, ◌<◌, ◌≤◌, Bool, true, false, List, [], ◌∷◌, Option, Some, None, map, length, get_or, refl, sym, ap, subst, ◌∙◌, ⊎_elim, arith}
use Rattle.std.specs.Prelude.{AllPairs, Contains, filter, find, ◌==◌}
use Rattle.std.specs.List.{All, list_any, enumerate_from, range_with_len}
use Rattle.std.proofs.lemmas.Bool.{cases_lt, cond_both, eqb-true, or_cases, or_left, or_right}
use Rattle.std.proofs.lemmas.List.{get_or-map, get_or_default, get_or_past, length-map}
use Rattle.std.proofs.lemmas.List.Elements.{All-from_get_or, All-get_or, All-head, All-tail}
use Rattle.std.proofs.lemmas.List.FromFn.{length-range_with_len, get_or-range_with_len}
use Rattle.std.proofs.lemmas.List.Kept.{AllPairs-filter}
use Rattle.edi_tables.specs.declared.segment.TableRow.{TableRow}
use Rattle.edi_tables.specs.declared.table.Node.{Node}
use Rattle.edi_tables.specs.Rows.{nodes_of}
use Rattle.edi_tables.specs.Walk.{is_must_at, max_at}
use Rattle.edi_tables.proofs.Depths.{blank_row}
use Rattle.edi_tables.proofs.Lawful.{row_at}
use Rattle.edi_tables.proofs.Made.{length-nodes_of, is_must_at-nodes_of, max_at-nodes_of}
use Rattle.edi_tables.proofs.Places.{Passes, passing_each, kept}
use Rattle.guide_overlay.specs.Rows.{NodeChange, TableChange, is_left, row_by_line, changed_row, narrowed_rows, IsNarrower, left_nodes, base_node}
use Rattle.guide_overlay.specs.Rows.NodeChange.{Drop, Keep}

-- a row with its number
abbrev pub numbered : (ℕ → TableRow) → ℕ → ℕ × TableRow
numbered made n = (n, made n)

numbered_by : (test : ℕ → Bool) (made : ℕ → TableRow) (a : ℕ) (x : TableRow) (xs : List TableRow) (passes : Bool) → test a ≡ passes → made a ≡ x
    → filter (λ (p : ℕ × TableRow). test p.0) (enumerate_from (a + 1) xs) ≡ map (numbered made) (filter test (range_with_len (a + 1) (length xs)))
    → filter (λ (p : ℕ × TableRow). test p.0) (enumerate_from a (x ∷ xs)) ≡ map (numbered made) (filter test (range_with_len a (length (x ∷ xs))))
numbered_by test made a x xs true is here more = rw is (ap (λ (row : TableRow). let p : ℕ × TableRow = (a, row) in p ∷ filter (λ (p : ℕ × TableRow). test p.0) (enumerate_from (a + 1) xs)) (sym here) ∙ ap (λ rest. numbered made a ∷ rest) more)
numbered_by test made a x xs false is here more = rw is more

-- what passes of numbered rows, by their numbers
numbered_filter : (test : ℕ → Bool) (made : ℕ → TableRow) (a : ℕ) (xs : List TableRow) → ((k n : ℕ) → a + k ≡ n → k < length xs → made n ≡ get_or xs k blank_row)
    → filter (λ (p : ℕ × TableRow). test p.0) (enumerate_from a xs) ≡ map (numbered made) (filter test (range_with_len a (length xs)))
numbered_filter test made a [] reads = refl
numbered_filter test made a (x ∷ xs) reads =
    numbered_by test made a x xs (test a) refl (reads 0 a (omega arith) (omega arith))
    (numbered_filter test made (a + 1) xs (λ k n sum within. reads (suc k) n (omega arith) (omega arith)))

map_map : {A B C : Type 0} (f : B → C) (g : A → B) (xs : List A) → map f (map g xs) ≡ map (λ x. f (g x)) xs
map_map f g [] = refl
map_map f g (x ∷ xs) = ap (λ more. f (g x) ∷ more) (map_map f g xs)

-- what a line that was found says of the node at i
abbrev pub SaysOf : List Node → ℕ → Option (ℕ × NodeChange) → Type 0
SaysOf nodes i None = Unit {0}
SaysOf nodes i (Some line) = (line.0 ≡ i) × IsNarrower nodes line

says_of : (nodes : List Node) (i : ℕ) (lines : TableChange) → All (IsNarrower nodes) lines → SaysOf nodes i (find (λ (line : ℕ × NodeChange). line.0 == i) lines)
says_of nodes i [] all = tt
says_of nodes i (line ∷ lines) all =
    cond_both (line.0 == i) (Some line) (find (λ (line : ℕ × NodeChange). line.0 == i) lines) (SaysOf nodes i)
    (λ same. (eqb-true line.0 i same, All-head (IsNarrower nodes) line lines all))
    (λ _. says_of nodes i lines (All-tail (IsNarrower nodes) line lines all))

-- what of a row stays: its tag and its depth; it gets no weaker status, and a greatest count from 1 to its own
pub record IsChanged (before after : TableRow) : Type 0 where
  pub tag : after.tag ≡ before.tag
  pub depth : after.depth ≡ before.depth
  pub must : before.must ≡ true → after.must ≡ true
  pub low : 0 < before.max → 0 < after.max
  pub high : after.max ≤ before.max

changed_by : (nodes : List Node) (i : ℕ) (row : TableRow) → row.must ≡ is_must_at nodes i → row.max ≡ max_at nodes i → (found : Option (ℕ × NodeChange)) → SaysOf nodes i found → IsChanged row (row_by_line row found)
changed_by nodes i row must max None says = record { tag = refl; depth = refl; must = λ is. is; low = λ some. some; high = omega arith }
changed_by nodes i row must max (Some (k, Drop)) says = record { tag = refl; depth = refl; must = λ is. is; low = λ some. some; high = omega arith }
changed_by nodes i row must max (Some (k, Keep now most)) says = record {
  tag = refl;
  depth = refl;
  must = λ is. says.1.0 (ap (is_must_at nodes) says.0 ∙ sym must ∙ is);
  low = λ some. says.1.1;
  high = omega (arith, says.1.2, ap (max_at nodes) says.0, max);
}

-- what one line leaves out, another leaves out too
pub any_more : (P : ℕ × NodeChange → Type 0) (p q : ℕ × NodeChange → Bool) → ((line : ℕ × NodeChange) → P line → p line ≡ true → q line ≡ true) → (lines : TableChange) → All P lines → list_any p lines ≡ true → list_any q lines ≡ true
any_more P p q more [] all some = some
any_more P p q more (line ∷ lines) all some = ⊎_elim
    (λ here. or_left (q line) (list_any q lines) (more line (All-head P line lines all) here))
    (λ later. or_right (q line) (list_any q lines) (any_more P p q more lines (All-tail P line lines all) later))
    (or_cases (p line) (list_any p lines) some)

pub none_any : (lines : TableChange) → list_any (λ (line : ℕ × NodeChange). false) lines ≡ false
none_any [] = refl
none_any (line ∷ lines) = none_any lines

ascending_range : (a n : ℕ) → AllPairs (λ x y. x < y) (range_with_len a n)
ascending_range a n i j d less within =
    let long : length (range_with_len a n) ≡ n = length-range_with_len a n in
    let low : get_or (range_with_len a n) i d ≡ a + i = get_or-range_with_len a n i d (omega arith) in
    let high : get_or (range_with_len a n) j d ≡ a + j = get_or-range_with_len a n j d (omega arith) in
    omega arith

module _ (nodes : List Node) (lines : TableChange) where
  -- the nodes that are left, in ascending order, are nodes of the base
  pub left_passes : All (Passes (is_left nodes lines) 0 (length nodes)) (left_nodes nodes lines)
  left_passes = passing_each (is_left nodes lines) (length nodes) 0 (length nodes) (omega arith)

  pub node_there : (i : ℕ) → i < length (left_nodes nodes lines) → base_node nodes lines i ≡ get_or (left_nodes nodes lines) i 0
  node_there i within = get_or_default (left_nodes nodes lines) i (length nodes + i) 0 within

  node_past : (i : ℕ) → length (left_nodes nodes lines) ≤ i → base_node nodes lines i ≡ length nodes + i
  node_past i past = get_or_past (left_nodes nodes lines) i (length nodes + i) past

  pub node_passes : (i : ℕ) → i < length (left_nodes nodes lines) → (base_node nodes lines i < length nodes) × (is_left nodes lines (base_node nodes lines i) ≡ true)
  node_passes i within =
      let here = All-get_or (Passes (is_left nodes lines) 0 (length nodes)) (left_nodes nodes lines) i (length nodes + i) within left_passes in
      (here.1, here.2)

  pub node_rises : (i j : ℕ) → i < j → base_node nodes lines i < base_node nodes lines j
  node_rises i j less = ⊎_elim
      (λ inside.
      let pairs = AllPairs-filter (λ x y. x < y) (is_left nodes lines) (range_with_len 0 (length nodes)) (ascending_range 0 (length nodes)) i j 0 less inside in
      omega (arith, pairs, node_there i (omega arith), node_there j inside))
      (λ past. ⊎_elim
      (λ inside. omega (arith, (node_passes i inside).0, node_past j past))
      (λ early. omega (arith, node_past i early, node_past j past))
      (cases_lt i (length (left_nodes nodes lines))))
      (cases_lt j (length (left_nodes nodes lines)))

  -- each node that is left is one of them
  pub node_found : (k : ℕ) → k < length nodes → is_left nodes lines k ≡ true → (i : ℕ) × (i < length (left_nodes nodes lines)) × (base_node nodes lines i ≡ k)
  node_found k within passes =
      let at : get_or (range_with_len 0 (length nodes)) k k ≡ k = get_or-range_with_len 0 (length nodes) k k within ∙ (let sum : 0 + k ≡ k = omega arith in sum) in
      let found : Contains (left_nodes nodes lines) k = kept (is_left nodes lines) (range_with_len 0 (length nodes)) k k (omega (arith, length-range_with_len 0 (length nodes))) at passes in
      (found.0, found.1, get_or_default (left_nodes nodes lines) found.0 (length nodes + found.0) k found.1 ∙ found.2)

module _ (rows : List TableRow) (lines : TableChange) where
  narrowed_rows_are : narrowed_rows lines rows ≡ map (λ n. changed_row lines (numbered (row_at rows) n)) (left_nodes (nodes_of rows) lines)
  unfolding narrowed_rows
  narrowed_rows_are =
      ap (map (changed_row lines))
      (numbered_filter (is_left (nodes_of rows) lines) (row_at rows) 0 rows (λ k n sum within. ap (row_at rows) (let same : n ≡ k = omega arith in same)))
      ∙ map_map (changed_row lines) (numbered (row_at rows)) (filter (is_left (nodes_of rows) lines) (range_with_len 0 (length rows)))
      ∙ ap (λ (n : ℕ). map (λ n. changed_row lines (numbered (row_at rows) n)) (filter (is_left (nodes_of rows) lines) (range_with_len 0 n))) (sym (length-nodes_of rows))

  -- there are as many rows as nodes that are left
  pub narrowed_long : length (narrowed_rows lines rows) ≡ length (left_nodes (nodes_of rows) lines)
  narrowed_long = ap length narrowed_rows_are ∙ length-map (left_nodes (nodes_of rows) lines) (λ n. changed_row lines (numbered (row_at rows) n))

  -- each is the changed row of its node of the base
  pub narrowed_row : (i : ℕ) → i < length (left_nodes (nodes_of rows) lines) → row_at (narrowed_rows lines rows) i ≡ changed_row lines (numbered (row_at rows) (base_node (nodes_of rows) lines i))
  narrowed_row i within =
      ap (λ made. row_at made i) narrowed_rows_are
      ∙ get_or-map (λ n. changed_row lines (numbered (row_at rows) n)) (left_nodes (nodes_of rows) lines) i (length (nodes_of rows) + i) blank_row within

  module _ (narrower : All (IsNarrower (nodes_of rows)) lines) where
    pub narrowed_changed : (i : ℕ) → i < length (left_nodes (nodes_of rows) lines) → IsChanged (row_at rows (base_node (nodes_of rows) lines i)) (row_at (narrowed_rows lines rows) i)
    narrowed_changed i within =
        let k : ℕ = base_node (nodes_of rows) lines i in
        let inside : k < length rows = omega (arith, (node_passes (nodes_of rows) lines i within).0, length-nodes_of rows) in
        subst (IsChanged (row_at rows k)) (sym (narrowed_row i within))
        (changed_by (nodes_of rows) k (row_at rows k) (sym (is_must_at-nodes_of rows k inside)) (sym (max_at-nodes_of rows k inside)) (find (λ (line : ℕ × NodeChange). line.0 == k) lines)
        (says_of (nodes_of rows) k lines narrower))

    -- what each row of the base has, and a changed row keeps, each row that is left has
    pub narrowed_all : (P : TableRow → Type 0) → ((before after : TableRow) → IsChanged before after → P before → P after) → All P rows → All P (narrowed_rows lines rows)
    narrowed_all P keeps all =
        All-from_get_or P (narrowed_rows lines rows) blank_row (λ i within.
        let here : i < length (left_nodes (nodes_of rows) lines) = omega (arith, narrowed_long) in
        let k : ℕ = base_node (nodes_of rows) lines i in
        keeps (row_at rows k) (row_at (narrowed_rows lines rows) i) (narrowed_changed i here)
        (All-get_or P rows k blank_row (omega (arith, (node_passes (nodes_of rows) lines i here).0, length-nodes_of rows)) all))
