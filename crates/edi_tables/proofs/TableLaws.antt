-- What holds of the nodes of each segment table.
use Rattle.std.proofs.Common.{◌≡◌, ℕ, ◌+◌, ◌<◌, ◌≤◌, true, false, List, [], Some, None, length, refl, sym, subst, ◌∙◌, inl, inr, ⊎_elim, arith}
use Rattle.std.specs.Prelude.{codes}
use Rattle.std.proofs.lemmas.Bool.{cases_lt, false≢true}
use Rattle.edi_tables.specs.declared.segment.TableRow.{TableRow}
use Rattle.edi_tables.specs.declared.table.Node.{Node}
use Rattle.edi_tables.specs.Rows.{has_name, is_group_row, depth_at, table_faults, nodes_of, rows_of, IsTable}
use Rattle.edi_tables.specs.Walk.{tag_at, parent_at, is_must_at, max_at, end_at, is_group_at, level_end}
use Rattle.edi_tables.proofs.Depths.{some_or_none, IsEnd, end_of_found, end_of_is, IsParent, parent_of_some, parent_of_at_none, parent_of_is, parent_of_none, held_in_rows, held_before_end, ends_nested, held_between, sibling_after}
use Rattle.edi_tables.proofs.Faults.{few_rows}
use Rattle.edi_tables.proofs.Lawful.{row_at, depth_row, named_is, first_frame, last_frame, two_rows, parent_group, outside_rows, IsTrigger, trigger_row, entry_row_end, max_row, only_first, only_last}
use Rattle.edi_tables.proofs.Made.{length-nodes_of, tag_at-nodes_of, is_must_at-nodes_of, max_at-nodes_of, is_group_at-nodes_of, end_at-nodes_of, parent_at-nodes_of, tag_at_past, max_at_past, is_group_at_past, end_at_past}

pub level_end_none : (nodes : List Node) (i : ℕ) → parent_at nodes i ≡ None → level_end nodes i ≡ length nodes
level_end_none nodes i is = rw (level_end, is) refl

pub level_end_some : (nodes : List Node) (i g : ℕ) → parent_at nodes i ≡ Some g → level_end nodes i ≡ end_at nodes g
level_end_some nodes i g is = rw (level_end, is) refl

-- the laws of a table with these nodes
pub record HasTableLaws (nodes : List Node) : Type 0 where
  -- it has from 2 to 2,000 nodes
  pub some : 2 ≤ length nodes
  pub small : length nodes ≤ 2000
  -- UNH is first and only there, exactly once
  pub first_tag : tag_at nodes 0 ≡ Some (record { octets = codes "UNH" })
  pub first_must : is_must_at nodes 0 ≡ true
  pub first_max : max_at nodes 0 ≡ 1
  pub first_only : (i : ℕ) → has_name (codes "UNH") (tag_at nodes i) ≡ true → i ≡ 0
  -- UNT is last and only there, exactly once, outside all groups
  pub last_tag : (i : ℕ) → i + 1 ≡ length nodes → tag_at nodes i ≡ Some (record { octets = codes "UNT" })
  pub last_must : (i : ℕ) → i + 1 ≡ length nodes → is_must_at nodes i ≡ true
  pub last_max : (i : ℕ) → i + 1 ≡ length nodes → max_at nodes i ≡ 1
  pub last_parent : (i : ℕ) → i + 1 ≡ length nodes → parent_at nodes i ≡ None
  pub last_only : (i : ℕ) → has_name (codes "UNT") (tag_at nodes i) ≡ true → i + 1 ≡ length nodes
  -- a greatest count is from 1 to 999,999
  pub max_low : (i : ℕ) → i < length nodes → 1 ≤ max_at nodes i
  pub max_high : (i : ℕ) → max_at nodes i ≤ 999999
  -- a parent is a group that is before what it holds
  pub parent_before : (i g : ℕ) → parent_at nodes i ≡ Some g → g < i
  pub parent_is_group : (i g : ℕ) → parent_at nodes i ≡ Some g → is_group_at nodes g ≡ true
  pub held_within : (i g : ℕ) → parent_at nodes i ≡ Some g → i < length nodes
  -- directly after a group is its trigger, a mandatory entry that occurs once
  pub trigger_within : (g : ℕ) → is_group_at nodes g ≡ true → g + 1 < length nodes
  pub trigger_is_entry : (g : ℕ) → is_group_at nodes g ≡ true → is_group_at nodes (g + 1) ≡ false
  pub trigger_must : (g : ℕ) → is_group_at nodes g ≡ true → is_must_at nodes (g + 1) ≡ true
  pub trigger_max : (g : ℕ) → is_group_at nodes g ≡ true → max_at nodes (g + 1) ≡ 1
  pub trigger_parent : (g : ℕ) → is_group_at nodes g ≡ true → parent_at nodes (g + 1) ≡ Some g
  -- a node ends after itself and within the table, an entry directly after itself
  pub end_after : (i : ℕ) → i < length nodes → i < end_at nodes i
  pub end_within : (i : ℕ) → end_at nodes i ≤ length nodes
  pub entry_end : (i : ℕ) → i < length nodes → is_group_at nodes i ≡ false → end_at nodes i ≡ i + 1
  -- what a group holds begins and ends before its end
  pub before_parent_end : (i g : ℕ) → parent_at nodes i ≡ Some g → i < end_at nodes g
  pub end_in_parent : (i g : ℕ) → parent_at nodes i ≡ Some g → end_at nodes i ≤ end_at nodes g
  -- a node between another and its end ends no later, and is held by that one or by a later group
  pub ends_inside : (i k : ℕ) → i < k → k < end_at nodes i → end_at nodes k ≤ end_at nodes i
  pub held_inside : (i k : ℕ) → i < k → k < end_at nodes i → (h : ℕ) × (i ≤ h) × (parent_at nodes k ≡ Some h)
  -- at the end of a node is its next sibling, or its siblings end there
  pub sibling_at_end : (i : ℕ) → i < length nodes → end_at nodes i < level_end nodes i → parent_at nodes (end_at nodes i) ≡ parent_at nodes i

module _ (rows : List TableRow) (lawful : table_faults rows ≡ []) where
  abbrev made : List Node
  made = nodes_of rows

  parent_row : (i g : ℕ) → parent_at made i ≡ Some g → IsParent rows i g
  parent_row i g is = parent_of_some rows i g (sym (parent_at-nodes_of rows i) ∙ is)

  parent_made : (i g : ℕ) → IsParent rows i g → parent_at made i ≡ Some g
  parent_made i g parent = parent_at-nodes_of rows i ∙ parent_of_is rows i g parent

  end_row : (i : ℕ) → i < length rows → IsEnd rows i (end_at made i)
  end_row i within = subst (IsEnd rows i) (sym (end_at-nodes_of rows i within)) (end_of_found rows i within)

  in_rows : (i : ℕ) → i < length made → i < length rows
  in_rows i within = omega (arith, length-nodes_of rows)

  last_in_rows : (i : ℕ) → i + 1 ≡ length made → i + 1 ≡ length rows
  last_in_rows i last = last ∙ length-nodes_of rows

  group_in_rows : (g : ℕ) → is_group_at made g ≡ true → g < length rows
  group_in_rows g group =
      ⊎_elim (λ within. within) (λ past. absurd (false≢true (sym (is_group_at_past rows g past) ∙ group))) (cases_lt g (length rows))

  named_in_rows : (name : List ℕ) (i : ℕ) → has_name name (tag_at made i) ≡ true → i < length rows
  named_in_rows name i named =
      ⊎_elim (λ within. within) (λ past. absurd (false≢true (subst (λ tag. has_name name tag ≡ true) (tag_at_past rows i past) named))) (cases_lt i (length rows))

  group_row : (g : ℕ) → is_group_at made g ≡ true → is_group_row (row_at rows g) ≡ true
  group_row g group = sym (is_group_at-nodes_of rows g (group_in_rows g group)) ∙ group

  -- the trigger of the group at g
  trigger_of_row : (g : ℕ) → is_group_at made g ≡ true → (g + 1 < length rows) × IsTrigger (depth_at rows g) (row_at rows (g + 1))
  trigger_of_row g group = trigger_row rows lawful g (group_in_rows g group) (group_row g group)

  trigger_held : (g : ℕ) → is_group_at made g ≡ true → IsParent rows (g + 1) g
  trigger_held g group =
      let trigger = trigger_of_row g group in
      let deeper = depth_row rows (g + 1) trigger.0 ∙ trigger.1.deeper in
      record { before = omega arith; shallower = omega (arith, deeper); between = λ k past below. absurd (omega arith) }

  first_in_rows : 0 < length rows
  first_in_rows = omega (arith, two_rows rows lawful)

  max_bound : (i : ℕ) → max_at made i ≤ 999999
  max_bound i = ⊎_elim
      (λ within. omega (arith, max_at-nodes_of rows i within, (max_row rows lawful i within).1))
      (λ past. omega (arith, max_at_past rows i past)) (cases_lt i (length rows))

  end_bound : (i : ℕ) → end_at made i ≤ length made
  end_bound i = ⊎_elim
      (λ within. omega (arith, (end_row i within).within, length-nodes_of rows))
      (λ past. omega (arith, end_at_past rows i past)) (cases_lt i (length rows))

  ends_held : (i g : ℕ) → parent_at made i ≡ Some g → end_at made i ≤ end_at made g
  ends_held i g is =
      let parent = parent_row i g is in
      let within = held_in_rows rows i g parent in
      ends_nested rows i g _ _ parent (end_row g (omega (arith, parent.before))) (end_row i within)

  held_in : (i k : ℕ) → i < k → k < end_at made i → (h : ℕ) × (i ≤ h) × (parent_at made k ≡ Some h)
  held_in i k past below =
      let within = in_rows i (omega (arith, end_bound i)) in
      let held = held_between rows i _ k (end_row i within) past below in
      (held.0, held.1, parent_made k held.0 held.2)

  inner_ends : (i k : ℕ) → i < k → k < end_at made i → end_at made k ≤ end_at made i
  inner_ends i k past below =
      let within = in_rows k (omega (arith, end_bound i)) in
      let outer = end_row i (omega arith) in
      let inner = end_row k within in
      ⊎_elim
      (λ further. absurd (omega (arith, inner.inside (end_at made i) below further, outer.inside k past below, outer.stops (omega (arith, inner.within)))))
      (λ nested. nested) (cases_lt (end_at made i) (end_at made k))

  sibling_in_group : (i g : ℕ) → i < length rows → parent_at made i ≡ Some g → end_at made i < end_at made g → parent_at made (end_at made i) ≡ Some g
  sibling_in_group i g within is below =
      let parent = parent_row i g is in
      parent_made _ g (sibling_after rows i g _ _ (parent_group rows lawful i g parent).1 parent (end_row i within) (end_row g (omega (arith, parent.before))) below)

  sibling_outside : (i : ℕ) → i < length rows → parent_at made i ≡ None → end_at made i < length made → parent_at made (end_at made i) ≡ None
  sibling_outside i within is below =
      let outside = outside_rows rows lawful i (parent_of_at_none rows i (sym (parent_at-nodes_of rows i) ∙ is)) in
      let stops = (end_row i within).stops (in_rows _ below) in
      parent_at-nodes_of rows _ ∙ parent_of_none rows _ (λ k before. omega arith)

  sibling_after_end : (i : ℕ) → i < length rows → end_at made i < level_end made i → parent_at made (end_at made i) ≡ parent_at made i
  sibling_after_end i within below = elim (some_or_none (parent_at made i)) [
    | inl none ↦ sibling_outside i within none (omega (arith, level_end_none made i none)) ∙ sym none
    | inr some ↦ sibling_in_group i some.0 within some.1 (omega (arith, level_end_some made i some.0 some.1)) ∙ sym some.1
  ]

  first_is_only : (i : ℕ) → has_name (codes "UNH") (tag_at made i) ≡ true → i ≡ 0
  first_is_only i named =
      let within = named_in_rows (codes "UNH") i named in
      only_first rows lawful i within (subst (λ tag. has_name (codes "UNH") tag ≡ true) (tag_at-nodes_of rows i within) named)

  last_is_only : (i : ℕ) → has_name (codes "UNT") (tag_at made i) ≡ true → i + 1 ≡ length made
  last_is_only i named =
      let within = named_in_rows (codes "UNT") i named in
      only_last rows lawful i within (subst (λ tag. has_name (codes "UNT") tag ≡ true) (tag_at-nodes_of rows i within) named)
      ∙ sym (length-nodes_of rows)

  last_outside : (i : ℕ) → i + 1 ≡ length rows → parent_at made i ≡ None
  last_outside i last =
      let outside = depth_row rows i (omega arith) ∙ (last_frame rows lawful i last).outside in
      parent_at-nodes_of rows i ∙ parent_of_none rows i (λ k below. omega arith)

  group_holds : (i g : ℕ) → parent_at made i ≡ Some g → is_group_at made g ≡ true
  group_holds i g is =
      let parent = parent_row i g is in
      is_group_at-nodes_of rows g (omega (arith, held_in_rows rows i g parent, parent.before)) ∙ (parent_group rows lawful i g parent).0

  entry_ends : (i : ℕ) → i < length rows → is_group_at made i ≡ false → end_at made i ≡ i + 1
  entry_ends i within entry =
      end_at-nodes_of rows i within ∙ end_of_is rows i (i + 1) within (entry_row_end rows lawful i within (sym (is_group_at-nodes_of rows i within) ∙ entry))

  held_before : (i g : ℕ) → parent_at made i ≡ Some g → i < end_at made g
  held_before i g is =
      let parent = parent_row i g is in
      held_before_end rows i g _ parent (end_row g (omega (arith, held_in_rows rows i g parent, parent.before)))

  pub table_laws_of_rows : HasTableLaws made
  table_laws_of_rows = record {
    some = omega (arith, two_rows rows lawful, length-nodes_of rows);
    small = omega (arith, few_rows rows lawful, length-nodes_of rows);
    first_tag = tag_at-nodes_of rows 0 first_in_rows ∙ named_is _ _ (first_frame rows lawful).named;
    first_must = is_must_at-nodes_of rows 0 first_in_rows ∙ (first_frame rows lawful).must;
    first_max = max_at-nodes_of rows 0 first_in_rows ∙ (first_frame rows lawful).once;
    first_only = first_is_only;
    last_tag = λ i last. tag_at-nodes_of rows i (omega (arith, last_in_rows i last)) ∙ named_is _ _ (last_frame rows lawful i (last_in_rows i last)).named;
    last_must = λ i last. is_must_at-nodes_of rows i (omega (arith, last_in_rows i last)) ∙ (last_frame rows lawful i (last_in_rows i last)).must;
    last_max = λ i last. max_at-nodes_of rows i (omega (arith, last_in_rows i last)) ∙ (last_frame rows lawful i (last_in_rows i last)).once;
    last_parent = λ i last. last_outside i (last_in_rows i last);
    last_only = last_is_only;
    max_low = λ i within. omega (arith, max_at-nodes_of rows i (in_rows i within), (max_row rows lawful i (in_rows i within)).0);
    max_high = max_bound;
    parent_before = λ i g is. (parent_row i g is).before;
    parent_is_group = group_holds;
    held_within = λ i g is. omega (arith, held_in_rows rows i g (parent_row i g is), length-nodes_of rows);
    trigger_within = λ g group. omega (arith, (trigger_of_row g group).0, length-nodes_of rows);
    trigger_is_entry = λ g group. is_group_at-nodes_of rows (g + 1) (trigger_of_row g group).0 ∙ (trigger_of_row g group).1.entry;
    trigger_must = λ g group. is_must_at-nodes_of rows (g + 1) (trigger_of_row g group).0 ∙ (trigger_of_row g group).1.must;
    trigger_max = λ g group. max_at-nodes_of rows (g + 1) (trigger_of_row g group).0 ∙ (trigger_of_row g group).1.once;
    trigger_parent = λ g group. parent_made (g + 1) g (trigger_held g group);
    end_after = λ i within. (end_row i (in_rows i within)).later;
    end_within = end_bound;
    entry_end = λ i within entry. entry_ends i (in_rows i within) entry;
    before_parent_end = held_before;
    end_in_parent = ends_held;
    ends_inside = inner_ends;
    held_inside = held_in;
    sibling_at_end = λ i within below. sibling_after_end i (in_rows i within) below;
  }

-- the laws hold in each table
pub table_laws : (nodes : List Node) → IsTable nodes → HasTableLaws nodes
table_laws nodes table = subst HasTableLaws (sym table.1) (table_laws_of_rows (rows_of nodes) table.0)
