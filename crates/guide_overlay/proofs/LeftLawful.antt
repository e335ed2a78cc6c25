-- The rows that a guide leaves break no rule of segment tables.
use Rattle.std.proofs.Common.{◌≡◌, ℕ, zero, suc, ◌+◌, ◌-◌, ◌<◌, ◌≤◌, Bool, true, false, List, [], ◌++◌, Option, Some, None, length, refl, sym, ap, subst, ◌∙◌, inl, inr, arith}
use Rattle.std.specs.Prelude.{codes, nat_lt, not, slice_get, ◌==◌, ◌&&◌, ◌||◌, if◌then◌else◌}
use Rattle.std.specs.List.{All}
use Rattle.std.specs.Option.{option_map}
use Rattle.std.proofs.lemmas.Bool.{and_from, cases_eq, eq-eqb, eqb-true, le-ltb, ne_eqb, not_from_false, not_from_true, or_from, or_parts}
use Rattle.edi_tables.specs.declared.tag.Tag.{Tag}
use Rattle.edi_tables.specs.declared.segment.TableRow.{TableRow}
use Rattle.edi_tables.specs.declared.table.Node.{Node}
use Rattle.edi_tables.specs.declared.table.TableKind.{TableKind}
use Rattle.edi_tables.specs.declared.table.TableKind.TheVariants.{NoUnhUnt, EnvelopeTag, BadMax, BadDepth, TooDeep, NoTrigger}
use Rattle.edi_tables.specs.Rows.{has_name, is_group_row, is_frame_row, breaks_frame, breaks_envelope, breaks_max, depth_after, row_before, breaks_depth, is_trigger_row, breaks_trigger, when, row_faults, depth_at, parent_of, table_faults, nodes_of}
use Rattle.edi_tables.specs.Walk.{is_group_at}
use Rattle.edi_tables.proofs.Depths.{parent_of_some, parent_of_at_none}
use Rattle.edi_tables.proofs.Faults.{KeepsRules, no_first_fault, no_faults_of_place}
use Rattle.edi_tables.proofs.Lawful.{row_at, at_row, depth_row, IsTrigger, IsFrame, keeps, depth_bound, first_frame, last_frame, parent_group, outside_rows, trigger_row, max_row, only_first, only_last}
use Rattle.edi_tables.proofs.Made.{length-nodes_of, is_group_at-nodes_of}
use Rattle.edi_tables.proofs.TableLaws.{HasTableLaws, table_laws_of_rows}
use Rattle.guide_overlay.specs.Rows.{TableChange, narrowed_rows, IsNarrower, left_nodes, base_node}
use Rattle.guide_overlay.proofs.LeftRows.{IsChanged, node_passes, node_rises, node_found, narrowed_long, narrowed_changed}
use Rattle.guide_overlay.proofs.RowsNarrow.{must_left, first_left, node_first, node_back, in_narrowed, in_base, depth_left, parent_left}

-- the faults of a row, by the rules that it breaks
abbrev faults_by : (frame envelope max depth deep trigger : Bool) → List TableKind
faults_by frame envelope max depth deep trigger =
    when frame NoUnhUnt ++ when envelope EnvelopeTag ++ when max BadMax ++ when depth BadDepth ++ when deep TooDeep ++ when trigger NoTrigger

-- a row that breaks no rule has no fault
none_broken : (rows : List TableRow) (i : ℕ) (row : TableRow) → KeepsRules rows i row → row_faults rows i row ≡ []
none_broken rows i row kept =
    ap (λ b. faults_by b (breaks_envelope rows i row) (breaks_max row) (breaks_depth rows i row) (nat_lt 16 row.depth) (breaks_trigger rows i row)) kept.frame
    ∙ ap (λ b. faults_by false b (breaks_max row) (breaks_depth rows i row) (nat_lt 16 row.depth) (breaks_trigger rows i row)) kept.envelope
    ∙ ap (λ b. faults_by false false b (breaks_depth rows i row) (nat_lt 16 row.depth) (breaks_trigger rows i row)) kept.max
    ∙ ap (λ b. faults_by false false false b (nat_lt 16 row.depth) (breaks_trigger rows i row)) kept.depth
    ∙ ap (λ b. faults_by false false false false b (breaks_trigger rows i row)) (le-ltb 16 row.depth kept.deep)
    ∙ ap (λ b. faults_by false false false false false b) kept.trigger

-- a row that is there once stays so
once_kept : (before after : TableRow) → IsChanged before after → before.max ≡ 1 → after.max ≡ 1
once_kept before after changed once = let some = changed.low (omega arith) in omega (arith, some, changed.high)

group_kept : (before after : TableRow) → IsChanged before after → is_group_row after ≡ is_group_row before
group_kept before after changed = ap (λ (tag : Option Tag). elim tag [ None ↦ true | Some t ↦ false ]) changed.tag

-- UNH and UNT stay
frame_kept : (name : List ℕ) (before after : TableRow) → IsChanged before after → IsFrame name before → is_frame_row name after ≡ true
frame_kept name before after changed frame =
    and_from _ _
    (and_from _ _ (and_from _ _ (ap (has_name name) changed.tag ∙ frame.named) (changed.must frame.must)) (eq-eqb after.max 1 (once_kept before after changed frame.once)))
    (eq-eqb after.depth 0 (changed.depth ∙ frame.outside))

-- a trigger stays one
trigger_row_kept : (depth : ℕ) (before after : TableRow) → IsChanged before after → IsTrigger depth before → is_trigger_row depth (Some after) ≡ true
trigger_row_kept depth before after changed trigger =
    and_from _ _
    (and_from _ _ (and_from _ _ (not_from_false _ (group_kept before after changed ∙ trigger.entry)) (changed.must trigger.must)) (eq-eqb after.max 1 (once_kept before after changed trigger.once)))
    (eq-eqb after.depth (depth + 1) (changed.depth ∙ trigger.deeper))

guard_none : (here : Bool) (kept : Bool) → (here ≡ true → kept ≡ true) → (here && not kept) ≡ false
guard_none true kept holds = not_from_true kept (holds refl)
guard_none false kept holds = refl

behind : (row : TableRow) (group : Bool) → is_group_row row ≡ group → depth_after (Some row) ≡ (if group then row.depth + 1 else row.depth)
behind row group is = ap (λ (b : Bool). if b then row.depth + 1 else row.depth) is

at_least : (group : Bool) (depth : ℕ) → depth ≤ (if group then depth + 1 else depth)
at_least true depth = omega arith
at_least false depth = omega arith

module _ (rows : List TableRow) (lines : TableChange) (lawful : table_faults rows ≡ []) (narrower : All (IsNarrower (nodes_of rows)) lines) where
  abbrev base : List Node
  base = nodes_of rows

  abbrev narrowed : List TableRow
  narrowed = narrowed_rows lines rows

  abbrev to : ℕ → ℕ
  to i = base_node (nodes_of rows) lines i

  abbrev many : ℕ
  many = length (left_nodes (nodes_of rows) lines)

  laws : HasTableLaws base
  laws = table_laws_of_rows rows lawful

  first : to 0 ≡ 0
  first = node_first base laws lines narrower

  last_by : (i j : ℕ) → i + 1 ≡ many → j < many → to j + 1 ≡ length base → to i + 1 ≡ length base
  last_by i j last within end = elim (cases_eq j i) [
    | inl same ↦ ap (λ (k : ℕ). base_node base lines k + 1) (sym same) ∙ end
    | inr differ ↦ absurd (omega (arith, node_rises base lines j i (omega arith), (node_passes base lines i (omega arith)).0))
  ]

  -- the last node is left, and is the last
  last_there : (i : ℕ) → i + 1 ≡ many → to i + 1 ≡ length rows
  last_there i last =
      let n : ℕ = length base - 1 in
      let end : n + 1 ≡ length base = omega (arith, laws.some) in
      let found = node_found base lines n (omega arith) (must_left base laws lines narrower n (laws.last_must n end) (inl (laws.last_parent n end))) in
      let there : to found.0 + 1 ≡ length base = omega (arith, found.2) in
      last_by i found.0 last found.1 there ∙ length-nodes_of rows

  last_back : (i : ℕ) → i < many → to i + 1 ≡ length rows → i + 1 ≡ many
  last_back i within last = elim (cases_eq (i + 1) many) [
    | inl same ↦ same
    | inr differ ↦ absurd (omega (arith, node_rises base lines i (i + 1) (omega arith), (node_passes base lines (i + 1) (omega arith)).0, last, length-nodes_of rows))
  ]

  first_back : (i : ℕ) → to i ≡ 0 → i ≡ 0
  first_back i is = elim (cases_eq i 0) [
    | inl same ↦ same
    | inr later ↦ absurd (omega (arith, node_rises base lines 0 i (omega arith), first))
  ]

  module _ (i : ℕ) (within : i < many) where
    abbrev row : TableRow
    row = row_at narrowed i

    abbrev before : TableRow
    before = row_at rows (to i)

    changed : IsChanged (row_at rows (to i)) (row_at narrowed i)
    changed = narrowed_changed rows lines narrower i within

    inside : to i < length rows
    inside = in_base rows lines lawful narrower i within

    base_keeps : KeepsRules rows (to i) (row_at rows (to i))
    base_keeps = keeps rows lawful (to i) inside

    keeps_frame : breaks_frame narrowed i row ≡ false
    keeps_frame =
        or_from _ _
        (guard_none (i == 0) (is_frame_row (codes "UNH") row) (λ is. frame_kept (codes "UNH") before row changed
        (subst (λ (n : ℕ). IsFrame (codes "UNH") (row_at rows n)) (sym (ap (base_node base lines) (eqb-true i 0 is) ∙ first)) (first_frame rows lawful))))
        (guard_none (i + 1 == length narrowed) (is_frame_row (codes "UNT") row) (λ is. frame_kept (codes "UNT") before row changed
        (last_frame rows lawful (to i) (last_there i (eqb-true (i + 1) (length narrowed) is ∙ narrowed_long rows lines)))))

    keeps_envelope : breaks_envelope narrowed i row ≡ false
    keeps_envelope =
        let two = or_parts _ _ base_keeps.envelope in
        let one = or_parts _ _ two.0 in
        or_from _ _
        (or_from _ _
        (ap (λ (tag : Option Tag). has_name (codes "UNB") tag || has_name (codes "UNG") tag || has_name (codes "UNE") tag || has_name (codes "UNZ") tag) changed.tag ∙ one.0)
        (guard_none (has_name (codes "UNH") row.tag) (i == 0) (λ named. eq-eqb i 0 (first_back i (only_first rows lawful (to i) inside (sym (ap (has_name (codes "UNH")) changed.tag) ∙ named))))))
        (guard_none (has_name (codes "UNT") row.tag) (i + 1 == length narrowed) (λ named. eq-eqb (i + 1) (length narrowed)
        (last_back i within (only_last rows lawful (to i) inside (sym (ap (has_name (codes "UNT")) changed.tag) ∙ named)) ∙ sym (narrowed_long rows lines))))

    keeps_max : breaks_max row ≡ false
    keeps_max =
        let bounds = max_row rows lawful (to i) inside in
        let low : 0 < row.max = changed.low (omega (arith, bounds.0)) in
        or_from _ _ (ne_eqb row.max 0 (λ none. omega arith)) (le-ltb 999999 row.max (omega (arith, bounds.1, changed.high)))

    same_depth : depth_at narrowed i ≡ row.depth
    same_depth = depth_row narrowed i (in_narrowed rows lines lawful narrower i within)

    keeps_deep : row.depth ≤ 16
    keeps_deep = omega (arith, same_depth, depth_left rows lines lawful narrower i within, depth_bound rows lawful (to i))

    -- the trigger of a group is left
    next_there : is_group_row (row_at rows (to i)) ≡ true → (i + 1 < many) × (to (i + 1) ≡ to i + 1)
    next_there group =
        let is : is_group_at base (to i) ≡ true = is_group_at-nodes_of rows (to i) inside ∙ group in
        let there = must_left base laws lines narrower (to i + 1) (laws.trigger_must (to i) is) (inr (to i, (node_passes base lines i within).1, laws.trigger_parent (to i) is)) in
        let found = node_found base lines (to i + 1) (laws.trigger_within (to i) is) there in
        let past : i < found.0 = node_back base laws lines narrower i found.0 (omega (arith, found.2)) in
        elim (cases_eq (i + 1) found.0) [
          | inl same ↦ (omega (arith, found.1), ap (base_node base lines) same ∙ found.2)
          | inr differ ↦ absurd (omega (arith, node_rises base lines i (i + 1) (omega arith), node_rises base lines (i + 1) found.0 (omega arith), found.2))
        ]

    keeps_trigger : breaks_trigger narrowed i row ≡ false
    keeps_trigger = guard_none (is_group_row row) (is_trigger_row row.depth (slice_get narrowed (i + 1))) (λ is.
        let group : is_group_row (row_at rows (to i)) ≡ true = sym (group_kept before row changed) ∙ is in
        let next = next_there group in
        let trigger = trigger_row rows lawful (to i) inside group in
        let depth : depth_at rows (to i) ≡ row.depth = sym (depth_left rows lines lawful narrower i within) ∙ same_depth in
        let there : IsTrigger row.depth (row_at rows (to (i + 1))) =
        subst (λ (n : ℕ). IsTrigger row.depth (row_at rows n)) (sym next.1) (subst (λ (d : ℕ). IsTrigger d (row_at rows (to i + 1))) depth trigger.1) in
        ap (is_trigger_row row.depth) (at_row narrowed (i + 1) (in_narrowed rows lines lawful narrower (i + 1) next.0))
        ∙ trigger_row_kept row.depth (row_at rows (to (i + 1))) (row_at narrowed (i + 1)) (narrowed_changed rows lines narrower (i + 1) next.0) there)

  -- a row that is left is no deeper than the row before it allows
  depth_by : (k : ℕ) → k + 1 < many → (found : Option ℕ) → parent_of narrowed (k + 1) ≡ found → depth_at narrowed (k + 1) ≤ depth_after (Some (row_at narrowed k))
  depth_by k within None is =
      let outer : parent_of rows (to (k + 1)) ≡ None = parent_left rows lines lawful narrower (k + 1) within ∙ ap (option_map to) is in
      let none = outside_rows rows lawful (to (k + 1)) (parent_of_at_none rows (to (k + 1)) outer) in
      omega (arith, none, depth_left rows lines lawful narrower (k + 1) within)
  depth_by k within (Some g) is =
      let parent = parent_of_some narrowed (k + 1) g is in
      let outer = parent_of_some rows (to (k + 1)) (to g) (parent_left rows lines lawful narrower (k + 1) within ∙ ap (option_map to) is) in
      let group = parent_group rows lawful (to (k + 1)) (to g) outer in
      let here : depth_at narrowed k ≡ (row_at narrowed k).depth = same_depth k (omega arith) in
      elim (cases_eq g k) [
        | inl same ↦
            let is_group : is_group_row (row_at narrowed k) ≡ true =
            group_kept (row_at rows (to k)) (row_at narrowed k) (changed k (omega arith)) ∙ ap (λ (n : ℕ). is_group_row (row_at rows (to n))) (sym same) ∙ group.0 in
            omega (arith, behind (row_at narrowed k) true is_group, here, group.1, depth_left rows lines lawful narrower (k + 1) within, depth_left rows lines lawful narrower k (omega arith), ap (λ (n : ℕ). depth_at rows (to n)) same)
        | inr differ ↦
            omega (arith, parent.between k (omega (arith, parent.before)) (omega arith), here, at_least (is_group_row (row_at narrowed k)) (row_at narrowed k).depth)
      ]

  keeps_depth : (i : ℕ) → i < many → breaks_depth narrowed i (row_at narrowed i) ≡ false
  keeps_depth zero within =
      let outside : depth_at rows 0 ≡ 0 = depth_row rows 0 (omega (arith, in_base rows lines lawful narrower 0 within)) ∙ (first_frame rows lawful).outside in
      le-ltb 0 (row_at narrowed 0).depth (omega (arith, same_depth 0 within, depth_left rows lines lawful narrower 0 within, ap (depth_at rows) first, outside))
  keeps_depth (suc k) within =
      let next : k + 1 ≡ suc k = omega arith in
      subst (λ (n : ℕ). breaks_depth narrowed n (row_at narrowed n) ≡ false) next
      (let here : k + 1 < many = omega arith in
      let is : row_before narrowed (k + 1) ≡ Some (row_at narrowed k) =
      ap (λ b. if b then None else slice_get narrowed ((k + 1) - 1)) (ne_eqb (k + 1) 0 (λ none. omega arith))
      ∙ ap (slice_get narrowed) (let back : (k + 1) - 1 ≡ k = omega arith in back) ∙ at_row narrowed k (in_narrowed rows lines lawful narrower k (omega arith)) in
      ap (λ (found : Option TableRow). nat_lt (depth_after found) (row_at narrowed (k + 1)).depth) is
      ∙ le-ltb (depth_after (Some (row_at narrowed k))) (row_at narrowed (k + 1)).depth
      (omega (arith, depth_by k here (parent_of narrowed (k + 1)) refl, same_depth (k + 1) here)))

  keeps_all : (i : ℕ) → i < many → KeepsRules narrowed i (row_at narrowed i)
  keeps_all i within = record {
    frame = keeps_frame i within;
    envelope = keeps_envelope i within;
    max = keeps_max i within;
    depth = keeps_depth i within;
    deep = keeps_deep i within;
    trigger = keeps_trigger i within;
  }

  low : (i : ℕ) → i ≤ to i
  low zero = omega arith
  low (suc k) = omega (arith, low k, node_rises base lines k (suc k) (omega arith))

  -- they are a segment table
  pub left_lawful : table_faults (narrowed_rows lines rows) ≡ []
  left_lawful =
      let some = node_found base lines 0 (omega (arith, laws.some)) (first_left base laws lines narrower) in
      let last : many - 1 < many = omega (arith, some.1) in
      no_first_fault narrowed (omega (arith, narrowed_long rows lines, low (many - 1), (node_passes base lines (many - 1) last).0, laws.small)) (omega (arith, narrowed_long rows lines, some.1))
      (λ k within. let here : k < many = omega (arith, within, narrowed_long rows lines) in
      no_faults_of_place narrowed k (row_at narrowed k) (at_row narrowed k within) (ap (λ (kinds : List TableKind). slice_get kinds 0) (none_broken narrowed k (row_at narrowed k) (keeps_all k here))))
