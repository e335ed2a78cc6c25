-- What holds of the rows of a segment table, row by row.
use Rattle.std.proofs.Common.{◌≡◌, ℕ, ◌+◌, ◌<◌, ◌≤◌, Bool, true, false, List, [], Option, Some, None, length, get_or, refl, sym, ap, subst, ◌∙◌, inl, inr, ⊎_elim, arith}
use Rattle.std.specs.Prelude.{slice_get, codes, nat_lt, not, ◌&&◌}
use Rattle.std.proofs.lemmas.Bool.{ltb-false, eqb-true, eqb-false, eq-eqb, ne_eqb, not-true, not-false, and_parts, or_parts, false≢true, cases_Bool, cases_lt, cases_eq}
use Rattle.std.proofs.lemmas.Option.{slice_get-get_or, slice_get_within, get_or_from_slice_get}
use Rattle.std.proofs.lemmas.Slice.Eq.{bytes_eq-Decides}
use Rattle.edi_tables.specs.declared.tag.Tag.{Tag}
use Rattle.edi_tables.specs.declared.segment.TableRow.{TableRow}
use Rattle.edi_tables.specs.Rows.{has_name, is_group_row, is_frame_row, breaks_frame, breaks_depth, breaks_trigger, is_trigger_row, depth_after, row_before, depth_at, table_faults}
use Rattle.edi_tables.proofs.Faults.{KeepsRules, keeps_rules, some_rows}
use Rattle.edi_tables.proofs.Depths.{blank_row, depth_at-get_or, depth_at_past, IsEnd, IsParent, held_in_rows}

row_before_next : (rows : List TableRow) (i : ℕ) → row_before rows (i + 1) ≡ slice_get rows i
row_before_next rows i = rw (ne_eqb (i + 1) 0 (omega arith)) (ap (slice_get rows) (omega arith))

-- a row that keeps the depth rule is no deeper than the one before allows
depth_kept : (rows : List TableRow) (i : ℕ) (before row : TableRow) → slice_get rows i ≡ Some before → breaks_depth rows (i + 1) row ≡ false → row.depth ≤ depth_after (Some before)
depth_kept rows i before row at kept =
    ltb-false _ _ (subst (λ (found : Option TableRow). nat_lt (depth_after found) row.depth ≡ false) (row_before_next rows i ∙ at) kept)

after_group : (row : TableRow) → is_group_row row ≡ true → depth_after (Some row) ≡ row.depth + 1
after_group row group = rw group refl

after_entry : (row : TableRow) → is_group_row row ≡ false → depth_after (Some row) ≡ row.depth
after_entry row entry = rw entry refl

-- the next row is the trigger of a group that keeps its rule
trigger_kept : (rows : List TableRow) (i : ℕ) (row : TableRow) → is_group_row row ≡ true → breaks_trigger rows i row ≡ false → is_trigger_row row.depth (slice_get rows (i + 1)) ≡ true
trigger_kept rows i row group kept = not-false _ (rw group at kept)

-- a trigger: a mandatory segment that occurs once, one deeper than its group
pub record IsTrigger (depth : ℕ) (row : TableRow) : Type 0 where
  pub entry : is_group_row row ≡ false
  pub must : row.must ≡ true
  pub once : row.max ≡ 1
  pub deeper : row.depth ≡ depth + 1

trigger_parts : (depth : ℕ) (row : TableRow) → is_trigger_row depth (Some row) ≡ true → IsTrigger depth row
trigger_parts depth row test =
    let three = and_parts _ _ test in
    let two = and_parts _ _ three.0 in
    let one = and_parts _ _ two.0 in
    record {
      entry = not-true _ one.0;
      must = one.1;
      once = eqb-true row.max 1 two.1;
      deeper = eqb-true row.depth (depth + 1) three.1;
    }

trigger_found : (depth : ℕ) (found : Option TableRow) → is_trigger_row depth found ≡ true → (row : TableRow) × (found ≡ Some row) × IsTrigger depth row
trigger_found depth None test = absurd (false≢true test)
trigger_found depth (Some row) test = (row, refl, trigger_parts depth row test)

-- the row of a segment that occurs exactly once, outside all groups
pub record IsFrame (name : List ℕ) (row : TableRow) : Type 0 where
  pub named : has_name name row.tag ≡ true
  pub must : row.must ≡ true
  pub once : row.max ≡ 1
  pub outside : row.depth ≡ 0

frame_parts : (name : List ℕ) (row : TableRow) → is_frame_row name row ≡ true → IsFrame name row
frame_parts name row test =
    let three = and_parts _ _ test in
    let two = and_parts _ _ three.0 in
    let one = and_parts _ _ two.0 in
    record {
      named = one.0;
      must = one.1;
      once = eqb-true row.max 1 two.1;
      outside = eqb-true row.depth 0 three.1;
    }

guarded : (here kept : Bool) → (here && not kept) ≡ false → here ≡ true → kept ≡ true
guarded true kept test here = not-false kept test
guarded false kept test here = absurd (false≢true here)

frames_kept : (rows : List TableRow) (i : ℕ) (row : TableRow) → breaks_frame rows i row ≡ false → (i ≡ 0 → IsFrame (codes "UNH") row) × (i + 1 ≡ length rows → IsFrame (codes "UNT") row)
frames_kept rows i row kept =
    let parts = or_parts _ _ kept in (
      λ first. frame_parts (codes "UNH") row (guarded _ _ parts.0 (eq-eqb i 0 first)),
      λ last. frame_parts (codes "UNT") row (guarded _ _ parts.1 (eq-eqb (i + 1) (length rows) last)),
    )

pub named_is : (name : List ℕ) (tag : Option Tag) → has_name name tag ≡ true → tag ≡ Some (record { octets = name })
named_is name None named = absurd (false≢true named)
named_is name (Some tag) named = ap (λ octets. Some (record { octets = octets })) ((bytes_eq-Decides tag.octets name).0 named)

-- no tag has two names
two_names : (tag : Option Tag) → has_name (codes "UNH") tag ≡ true → has_name (codes "UNT") tag ≡ true → ⊥
two_names tag first second =
    false≢true (subst (λ found. has_name (codes "UNT") found ≡ true) (named_is (codes "UNH") tag first) second)

-- the row at i
abbrev pub row_at : List TableRow → ℕ → TableRow
row_at rows i = get_or rows i blank_row

pub at_row : (rows : List TableRow) (i : ℕ) → i < length rows → slice_get rows i ≡ Some (row_at rows i)
at_row rows i within = slice_get-get_or rows i blank_row within

pub depth_row : (rows : List TableRow) (i : ℕ) → i < length rows → depth_at rows i ≡ (row_at rows i).depth
depth_row rows i within = depth_at-get_or rows i blank_row within

module _ (rows : List TableRow) (lawful : table_faults rows ≡ []) where
  pub keeps : (i : ℕ) → i < length rows → KeepsRules rows i (row_at rows i)
  keeps i within = keeps_rules rows lawful i (row_at rows i) (at_row rows i within)

  pub depth_bound : (i : ℕ) → depth_at rows i ≤ 16
  depth_bound i = ⊎_elim
      (λ within. omega (arith, depth_row rows i within, (keeps i within).deep))
      (λ past. omega (arith, depth_at_past rows i past)) (cases_lt i (length rows))

  pub first_frame : IsFrame (codes "UNH") (row_at rows 0)
  first_frame = (frames_kept rows 0 (row_at rows 0) (keeps 0 (some_rows rows lawful)).frame).0 refl

  pub last_frame : (i : ℕ) → i + 1 ≡ length rows → IsFrame (codes "UNT") (row_at rows i)
  last_frame i last = (frames_kept rows i (row_at rows i) (keeps i (omega arith)).frame).1 last

  pub two_rows : 2 ≤ length rows
  two_rows = ⊎_elim
      (λ few. absurd (two_names (row_at rows 0).tag first_frame.named (last_frame 0 (omega (arith, some_rows rows lawful))).named))
      (λ enough. enough) (cases_lt (length rows) 2)

  pub depth_first : depth_at rows 0 ≡ 0
  depth_first = depth_row rows 0 (some_rows rows lawful) ∙ first_frame.outside

  -- a row after a group is no more than one deeper, and after an entry no deeper
  pub after_group_row : (i : ℕ) → i + 1 < length rows → is_group_row (row_at rows i) ≡ true → depth_at rows (i + 1) ≤ depth_at rows i + 1
  after_group_row i within group =
      let kept = depth_kept rows i (row_at rows i) (row_at rows (i + 1)) (at_row rows i (omega arith)) (keeps (i + 1) within).depth in
      omega (arith, kept, after_group (row_at rows i) group, depth_row rows i (omega arith), depth_row rows (i + 1) within)

  pub after_entry_row : (i : ℕ) → i + 1 < length rows → is_group_row (row_at rows i) ≡ false → depth_at rows (i + 1) ≤ depth_at rows i
  after_entry_row i within entry =
      let kept = depth_kept rows i (row_at rows i) (row_at rows (i + 1)) (at_row rows i (omega arith)) (keeps (i + 1) within).depth in
      omega (arith, kept, after_entry (row_at rows i) entry, depth_row rows i (omega arith), depth_row rows (i + 1) within)

  row_after_parent : (i g : ℕ) → IsParent rows i g → depth_at rows i ≤ depth_at rows (g + 1)
  row_after_parent i g parent = elim (cases_eq (g + 1) i) [
    | inl same ↦ omega (arith, ap (depth_at rows) same)
    | inr differ ↦ parent.between (g + 1) (omega arith) (omega (arith, parent.before))
  ]

  -- a parent is a group, one less deep
  pub parent_group : (i g : ℕ) → IsParent rows i g → (is_group_row (row_at rows g) ≡ true) × (depth_at rows i ≡ depth_at rows g + 1)
  parent_group i g parent =
      let within = held_in_rows rows i g parent in
      let deeper = row_after_parent i g parent in
      ⊎_elim
      (λ group. (group, omega (arith, deeper, parent.shallower, after_group_row g (omega (arith, parent.before)) group)))
      (λ entry. absurd (omega (arith, deeper, parent.shallower, after_entry_row g (omega (arith, parent.before)) entry)))
      (cases_Bool (is_group_row (row_at rows g)))

  -- a row without a parent is outside all groups
  pub outside_rows : (i : ℕ) → ((k : ℕ) → k < i → depth_at rows i ≤ depth_at rows k) → depth_at rows i ≡ 0
  outside_rows i none = elim (cases_eq i 0) [
    | inl first ↦ ap (depth_at rows) first ∙ depth_first
    | inr later ↦ omega (arith, none 0 (omega arith), depth_first)
  ]

  -- directly after a group is its trigger
  pub trigger_row : (g : ℕ) → g < length rows → is_group_row (row_at rows g) ≡ true → (g + 1 < length rows) × IsTrigger (depth_at rows g) (row_at rows (g + 1))
  trigger_row g within group =
      let found = trigger_found (row_at rows g).depth (slice_get rows (g + 1)) (trigger_kept rows g (row_at rows g) group (keeps g within).trigger) in (
        slice_get_within rows (g + 1) found.0 found.1,
        rw (depth_row rows g within) (subst (IsTrigger (row_at rows g).depth) (sym (get_or_from_slice_get rows (g + 1) found.0 blank_row found.1)) found.2),
      )

  -- an entry ends directly after it
  pub entry_row_end : (i : ℕ) → i < length rows → is_group_row (row_at rows i) ≡ false → IsEnd rows i (i + 1)
  entry_row_end i within entry = record {
    later = omega arith;
    within = omega arith;
    inside = λ k past below. absurd (omega arith);
    stops = λ more. after_entry_row i more entry;
  }

  -- a greatest count is from 1 to 999,999
  pub max_row : (i : ℕ) → i < length rows → (1 ≤ (row_at rows i).max) × ((row_at rows i).max ≤ 999999)
  max_row i within =
      let parts = or_parts _ _ (keeps i within).max in
      let some = eqb-false (row_at rows i).max 0 parts.0 in
      let few = ltb-false 999999 (row_at rows i).max parts.1 in
      (omega arith, few)

  -- UNH is only first, and UNT only last
  pub only_first : (i : ℕ) → i < length rows → has_name (codes "UNH") (row_at rows i).tag ≡ true → i ≡ 0
  only_first i within named =
      let parts = or_parts _ _ (or_parts _ _ (keeps i within).envelope).0 in
      eqb-true i 0 (guarded _ _ parts.1 named)

  pub only_last : (i : ℕ) → i < length rows → has_name (codes "UNT") (row_at rows i).tag ≡ true → i + 1 ≡ length rows
  only_last i within named = eqb-true (i + 1) (length rows) (guarded _ _ (or_parts _ _ (keeps i within).envelope).1 named)
