-- The rows that a guide leaves are a table that narrows the base.
use Rattle.std.proofs.Common.{◌≡◌, ℕ, ◌<◌, ◌≤◌, true, false, List, [], Option, Some, None, length, refl, sym, ap, ◌∙◌, ◌⊎◌, inl, inr, ⊎_elim, arith}
use Rattle.std.specs.List.{All, list_any}
use Rattle.std.specs.Option.{option_map}
use Rattle.std.proofs.lemmas.Bool.{and_from, and_parts, cases_Bool, cases_eq, cases_order, false≢true, leb-true, le-leb, lt-ltb, ltb-true, not-true, not_from_false}
use Rattle.std.proofs.lemmas.Option.{none-some, same_Some}
use Rattle.edi_tables.specs.declared.segment.TableRow.{TableRow}
use Rattle.edi_tables.specs.declared.table.Node.{Node}
use Rattle.edi_tables.specs.Rows.{depth_at, parent_of, table_faults, nodes_of}
use Rattle.edi_tables.specs.Walk.{parent_at, is_must_at, end_at}
use Rattle.edi_tables.proofs.Depths.{some_or_none, IsParent, parent_of_some, parent_of_at_none, parent_of_is, parent_of_none}
use Rattle.edi_tables.proofs.Lawful.{depth_row}
use Rattle.edi_tables.proofs.Made.{length-nodes_of, tag_at-nodes_of, is_must_at-nodes_of, max_at-nodes_of, parent_at-nodes_of}
use Rattle.edi_tables.proofs.TableLaws.{HasTableLaws, table_laws_of_rows}
use Rattle.guide_overlay.specs.Rows.{NodeChange, TableChange, is_left_out_by, is_left, narrowed_rows, IsNarrower, left_nodes, base_node}
use Rattle.guide_overlay.specs.Rows.NodeChange.{Drop, Keep}
use Rattle.guide_overlay.specs.Narrows.{Narrows}
use Rattle.guide_overlay.proofs.LeftRows.{any_more, none_any, node_passes, node_rises, node_found, narrowed_long, narrowed_changed}

module _ (base : List Node) (laws : HasTableLaws base) (lines : TableChange) (narrower : All (IsNarrower base) lines) where
  -- where each conditional node that holds i holds k too
  abbrev HeldToo : ℕ → ℕ → Type 0
  HeldToo i k = (d : ℕ) → d ≤ i → i < end_at base d → is_must_at base d ≡ false → (d ≤ k) × (k < end_at base d)

  out_too : (i k : ℕ) → HeldToo i k → (line : ℕ × NodeChange) → IsNarrower base line → is_left_out_by base i line ≡ true → is_left_out_by base k line ≡ true
  out_too i k held (d, Drop) conditional out =
      let parts = and_parts _ _ out in
      let there = held d (leb-true d i parts.0) (ltb-true i (end_at base d) parts.1) conditional in
      and_from _ _ (le-leb d k there.0) (lt-ltb k (end_at base d) there.1)
  out_too i k held (d, Keep must max) conditional out = absurd (false≢true out)

  -- i is left where k is
  left_too : (i k : ℕ) → HeldToo i k → is_left base lines k ≡ true → is_left base lines i ≡ true
  left_too i k held there = elim (cases_Bool (list_any (is_left_out_by base i) lines)) [
    | inl out ↦ absurd (false≢true (sym (not-true _ there) ∙ any_more (IsNarrower base) (is_left_out_by base i) (is_left_out_by base k) (out_too i k held) lines narrower out))
    | inr none ↦ not_from_false _ none
  ]

  -- the group of a node that is left is left
  pub group_left : (k g : ℕ) → parent_at base k ≡ Some g → is_left base lines k ≡ true → is_left base lines g ≡ true
  group_left k g is there =
      left_too g k (λ d from below conditional. (
        omega (arith, laws.parent_before k g is),
        elim (cases_eq d g) [
          | inl same ↦ omega (arith, laws.before_parent_end k g is, ap (end_at base) same)
          | inr differ ↦ omega (arith, laws.before_parent_end k g is, laws.ends_inside d g (omega arith) below)
        ],
      )) there

  -- where an conditional node holds a mandatory one, that one has a group, which it holds
  held_by : (j d : ℕ) → is_must_at base j ≡ true → d ≤ j → j < end_at base d → is_must_at base d ≡ false → (h : ℕ) × (d ≤ h) × (parent_at base j ≡ Some h)
  held_by j d must from below conditional = elim (cases_eq d j) [
    | inl same ↦ absurd (false≢true (sym conditional ∙ ap (is_must_at base) same ∙ must))
    | inr differ ↦ laws.held_inside d j (omega arith) below
  ]

  out_of_none : (j : ℕ) → is_must_at base j ≡ true → parent_at base j ≡ None → (line : ℕ × NodeChange) → IsNarrower base line → is_left_out_by base j line ≡ true → false ≡ true
  out_of_none j must outside (d, Drop) conditional out =
      let parts = and_parts _ _ out in
      let held = held_by j d must (leb-true d j parts.0) (ltb-true j (end_at base d) parts.1) conditional in
      absurd (none-some held.0 (sym outside ∙ held.2))
  out_of_none j must outside (d, Keep _ _) conditional out = out

  -- so a mandatory node outside all groups is left, and one whose group is left
  pub must_left : (j : ℕ) → is_must_at base j ≡ true → (parent_at base j ≡ None) ⊎ ((g : ℕ) × (is_left base lines g ≡ true) × (parent_at base j ≡ Some g)) → is_left base lines j ≡ true
  must_left j must (inl outside) = elim (cases_Bool (list_any (is_left_out_by base j) lines)) [
    | inl out ↦ absurd (false≢true (sym (none_any lines) ∙ any_more (IsNarrower base) (is_left_out_by base j) (λ line. false) (out_of_none j must outside) lines narrower out))
    | inr none ↦ not_from_false _ none
  ]
  must_left j must (inr (g, there, up)) =
      left_too j g (λ d from below conditional.
      let held = held_by j d must from below conditional in
      let same : held.0 ≡ g = same_Some held.0 g (sym held.2 ∙ up) in
      (omega (arith, held.1), omega (arith, laws.parent_before j g up))) there

  pub first_left : is_left base lines 0 ≡ true
  first_left = must_left 0 laws.first_must (inl (elim (some_or_none (parent_at base 0)) [
    | inl none ↦ none
    | inr some ↦ absurd (omega (arith, laws.parent_before 0 some.0 some.1))
  ]))

  pub node_first : base_node base lines 0 ≡ 0
  node_first =
      let found = node_found base lines 0 (omega (arith, laws.some)) first_left in
      elim (cases_eq found.0 0) [
        | inl same ↦ ap (base_node base lines) (sym same) ∙ found.2
        | inr later ↦ absurd (omega (arith, node_rises base lines 0 found.0 (omega arith), found.2))
      ]

  pub node_back : (i j : ℕ) → base_node base lines i < base_node base lines j → i < j
  node_back i j less = elim (cases_order i j) [
    | inl same ↦ absurd (omega (arith, ap (base_node base lines) same))
    | inr differ ↦ elim differ [
      | inl before ↦ before
      | inr after ↦ absurd (omega (arith, node_rises base lines j i after))
    ]
  ]

module _ (rows : List TableRow) (lines : TableChange) (lawful : table_faults rows ≡ []) (narrower : All (IsNarrower (nodes_of rows)) lines) where
  abbrev base : List Node
  base = nodes_of rows

  abbrev narrowed : List TableRow
  narrowed = narrowed_rows lines rows

  abbrev to : ℕ → ℕ
  to i = base_node (nodes_of rows) lines i

  abbrev many : ℕ
  many = length (left_nodes (nodes_of rows) lines)

  laws : HasTableLaws base
  laws = table_laws_of_rows rows lawful

  pub in_left : (i : ℕ) → i < length (nodes_of narrowed) → i < many
  in_left i within = omega (arith, length-nodes_of narrowed, narrowed_long rows lines)

  pub in_narrowed : (i : ℕ) → i < many → i < length narrowed
  in_narrowed i within = omega (arith, narrowed_long rows lines)

  pub in_base : (i : ℕ) → i < many → to i < length rows
  in_base i within = omega (arith, (node_passes base lines i within).0, length-nodes_of rows)

  -- the depths of the rows that are left stay
  pub depth_left : (i : ℕ) → i < many → depth_at narrowed i ≡ depth_at rows (to i)
  depth_left i within =
      depth_row narrowed i (in_narrowed i within) ∙ (narrowed_changed rows lines narrower i within).depth ∙ sym (depth_row rows (to i) (in_base i within))

  parent_by : (i : ℕ) (found : Option ℕ) → parent_of rows (to i) ≡ found → i < many → parent_of rows (to i) ≡ option_map to (parent_of narrowed i)
  parent_by i None is within =
      let none : parent_of narrowed i ≡ None =
      parent_of_none narrowed i (λ k before. omega (arith, depth_left i within, depth_left k (omega arith), parent_of_at_none rows (to i) is (to k) (node_rises base lines k i before))) in
      is ∙ sym (ap (option_map to) none)
  parent_by i (Some h) is within =
      let parent = parent_of_some rows (to i) h is in
      let there : is_left base lines h ≡ true = group_left base laws lines narrower (to i) h (parent_at-nodes_of rows (to i) ∙ is) (node_passes base lines i within).1 in
      let found = node_found base lines h (omega (arith, parent.before, in_base i within, length-nodes_of rows)) there in
      let same : to found.0 ≡ h = found.2 in
      let before : found.0 < i = node_back base laws lines narrower found.0 i (omega (arith, parent.before, same)) in
      let here : IsParent narrowed i found.0 = record {
        before = before;
        shallower = omega (arith, depth_left i within, depth_left found.0 found.1, parent.shallower, ap (depth_at rows) same);
        between = λ k past below. omega (arith, depth_left i within, depth_left k (omega arith), parent.between (to k) (omega (arith, node_rises base lines found.0 k past, same)) (node_rises base lines k i below));
      } in
      is ∙ ap Some (sym same) ∙ sym (ap (option_map to) (parent_of_is narrowed i found.0 here))

  -- the group of a row that is left is that of its row of the base
  pub parent_left : (i : ℕ) → i < many → parent_of rows (to i) ≡ option_map to (parent_of narrowed i)
  parent_left i within = parent_by i (parent_of rows (to i)) refl within

  left_by : (j : ℕ) → j < length base → is_left base lines j ≡ true → (i : ℕ) × (i < length (nodes_of narrowed)) × (to i ≡ j)
  left_by j within there =
      let found = node_found base lines j within there in
      (found.0, omega (arith, found.1, length-nodes_of narrowed, narrowed_long rows lines), found.2)

  -- a guide whose lines each make a node stricter leaves rows that narrow the table
  pub rows_narrow : Narrows (nodes_of rows) (nodes_of (narrowed_rows lines rows)) (base_node (nodes_of rows) lines)
  rows_narrow = record {
    rises = node_rises base lines;
    first = node_first base laws lines narrower;
    within = λ i within. (node_passes base lines i (in_left i within)).0;
    tag = λ i within. let here = in_left i within in
        tag_at-nodes_of narrowed i (in_narrowed i here) ∙ (narrowed_changed rows lines narrower i here).tag ∙ sym (tag_at-nodes_of rows (to i) (in_base i here));
    must = λ i within must. let here = in_left i within in
        is_must_at-nodes_of narrowed i (in_narrowed i here) ∙ (narrowed_changed rows lines narrower i here).must (sym (is_must_at-nodes_of rows (to i) (in_base i here)) ∙ must);
    max = λ i within. let here = in_left i within in
        omega (arith, max_at-nodes_of narrowed i (in_narrowed i here), (narrowed_changed rows lines narrower i here).high, max_at-nodes_of rows (to i) (in_base i here));
    parent = λ i within. parent_at-nodes_of rows (to i) ∙ parent_left i (in_left i within) ∙ sym (ap (option_map to) (parent_at-nodes_of narrowed i));
    left = λ j within must held. left_by j within (must_left base laws lines narrower j must (⊎_elim (λ outside. inl outside)
        (λ group. inr (to group.0, (node_passes base lines group.0 (in_left group.0 group.1)).1, group.2)) held));
  }
