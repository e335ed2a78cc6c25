-- The groups that hold the next row, for each depth that it may have.
use Rattle.std.proofs.Common.{◌≡◌, ℕ, ◌+◌, ◌-◌, ◌<◌, ◌≤◌, false, List, ◌++◌, Option, Some, None, length, get_or, take, replicate, refl, sym, ap, ◌∙◌, inl, inr, cond, ⊎_elim, arith}
use Rattle.std.specs.Prelude.{reverse, find, nat_lt, slice_get, if◌then◌else◌}
use Rattle.std.specs.List.{range_with_len}
use Rattle.std.proofs.lemmas.Bool.{lt-ltb, le-ltb, ltb-false, ne_eqb, cases_lt, cases_Bool}
use Rattle.std.proofs.lemmas.List.{get_or-replicate, get_or-take, get_or_append_left, get_or-append_right, length-append, length-replicate, length-take-le}
use Rattle.edi_tables.specs.declared.segment.TableRow.{TableRow}
use Rattle.edi_tables.specs.Rows.{is_group_row, depth_at, depth_after, parent_of, row_before, breaks_depth}
use Rattle.edi_tables.proofs.Finding.{last_more}

-- the last row before i that is less deep than this
abbrev pub last_shallower : List TableRow → ℕ → ℕ → Option ℕ
last_shallower rows i depth = find (λ j. nat_lt (depth_at rows j) depth) (reverse (range_with_len 0 i))

-- for each depth that the row at i may have, the group that would hold it
pub record HasParents (rows : List TableRow) (i : ℕ) (parents : List (Option ℕ)) : Type 0 where
  pub long : length parents ≡ 17
  pub each : (depth : ℕ) → depth < 17 → depth ≤ depth_after (row_before rows i) → get_or parents depth None ≡ last_shallower rows i depth

pub no_parents : (rows : List TableRow) → HasParents rows 0 (replicate 17 None)
no_parents rows = record { long = refl; each = λ depth below _. get_or-replicate 17 depth None None below }

parent_of-last_shallower : (rows : List TableRow) (i depth : ℕ) → depth ≡ depth_at rows i → parent_of rows i ≡ last_shallower rows i depth
unfolding parent_of
parent_of-last_shallower rows i depth is = ap (last_shallower rows i) (sym is)

-- a row that keeps the depth rule is held by what the row before left
pub parent_read : (rows : List TableRow) (i : ℕ) (row : TableRow) (parents : List (Option ℕ)) → slice_get rows i ≡ Some row → row.depth ≤ 16 → breaks_depth rows i row ≡ false → HasParents rows i parents → get_or parents row.depth None ≡ parent_of rows i
parent_read rows i row parents at small kept has =
    has.each row.depth (omega arith) (ltb-false _ _ kept) ∙ sym (parent_of-last_shallower rows i row.depth (rw (depth_at, at) refl))

more_at : (rows : List TableRow) (i depth : ℕ) → last_shallower rows (i + 1) depth ≡ cond (nat_lt (depth_at rows i) depth) (Some i) (last_shallower rows i depth)
more_at rows i depth = last_more (λ j. nat_lt (depth_at rows j) depth) i

row_before_next : (rows : List TableRow) (i : ℕ) → row_before rows (i + 1) ≡ slice_get rows i
row_before_next rows i = rw (ne_eqb (i + 1) 0 (omega arith)) (ap (slice_get rows) (omega arith))

-- the groups that hold rows after this one: the row itself holds each deeper row
abbrev pub held_by : ℕ → ℕ → List (Option ℕ) → List (Option ℕ)
held_by at i parents = take (at + 1) parents ++ replicate (length parents - (at + 1)) (Some i)

module _ (rows : List TableRow) (i : ℕ) (row : TableRow) (parents : List (Option ℕ)) (at : slice_get rows i ≡ Some row) (small : row.depth ≤ 16) (kept : breaks_depth rows i row ≡ false) (has : HasParents rows i parents) where
  is : row.depth ≡ depth_at rows i
  is = rw (depth_at, at) refl

  -- what holds a row that is no deeper than this one holds the next row of its depth
  lasts : (depth : ℕ) → depth ≤ row.depth → get_or parents depth None ≡ last_shallower rows (i + 1) depth
  lasts depth low =
      has.each depth (omega arith) (omega (arith, ltb-false _ _ kept)) ∙ sym (rw (more_at rows i depth, le-ltb (depth_at rows i) depth (omega (arith, is))) refl)

  front_long : length (take (row.depth + 1) parents) ≡ row.depth + 1
  front_long = length-take-le (row.depth + 1) parents (omega (arith, has.long))

  held_long : length (held_by row.depth i parents) ≡ 17
  held_long = omega (arith, length-append (take (row.depth + 1) parents) (replicate (length parents - (row.depth + 1)) (Some i)), front_long, length-replicate (length parents - (row.depth + 1)) (Some i), has.long)

  stays : (depth : ℕ) → depth ≤ row.depth → get_or (held_by row.depth i parents) depth None ≡ last_shallower rows (i + 1) depth
  stays depth low =
      get_or_append_left (take (row.depth + 1) parents) _ None depth (omega (arith, front_long)) ∙ get_or-take (row.depth + 1) parents depth None (omega arith)
      ∙ lasts depth low

  changes : (depth : ℕ) → row.depth < depth → depth < 17 → get_or (held_by row.depth i parents) depth None ≡ last_shallower rows (i + 1) depth
  changes depth high below =
      get_or-append_right (take (row.depth + 1) parents) (replicate (length parents - (row.depth + 1)) (Some i)) (row.depth + 1) depth None front_long (omega arith)
      ∙ get_or-replicate (length parents - (row.depth + 1)) (depth - (row.depth + 1)) (Some i) None (omega (arith, has.long))
      ∙ sym (rw (more_at rows i depth, lt-ltb (depth_at rows i) depth (omega (arith, is))) refl)

  after_group : HasParents rows (i + 1) (held_by row.depth i parents)
  after_group = record { long = held_long; each = λ depth below _. ⊎_elim (λ low. stays depth (omega arith)) (λ high. changes depth (omega arith) below) (cases_lt depth (row.depth + 1)) }

  next_low : is_group_row row ≡ false → depth_after (row_before rows (i + 1)) ≡ row.depth
  next_low entry = rw (row_before_next rows i, at, entry) refl

  after_entry : is_group_row row ≡ false → HasParents rows (i + 1) parents
  after_entry entry = record { long = has.long; each = λ depth below low. lasts depth (omega (arith, next_low entry)) }

  pub more_parents : HasParents rows (i + 1) (if is_group_row row then held_by row.depth i parents else parents)
  more_parents = elim (cases_Bool (is_group_row row)) [
    | inl group ↦ rw group after_group
    | inr entry ↦ rw entry (after_entry entry)
  ]
