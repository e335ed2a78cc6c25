-- Where a row's parent and its end are, by the depths of the rows between.
use Rattle.std.proofs.Common.{◌≡◌, ℕ, ◌+◌, ◌-◌, ◌<◌, ◌≤◌, Bool, false, List, Option, Some, None, length, get_or, take, drop, refl, sym, ap, ◌∙◌, ◌⊎◌, inl, inr, ⊎_elim, arith}
use Rattle.std.specs.Prelude.{MatchOption, nat_lt, nat_le}
use Rattle.std.specs.List.{prefix_len}
use Rattle.std.proofs.lemmas.Bool.{ltb-true, ltb-false, leb-true, leb-false, lt-ltb, le-ltb, le-leb, lt-leb, cases_lt, cases_eq, cases_order}
use Rattle.std.proofs.lemmas.Option.{slice_get-get_or, slice_get_past, MatchOption-at_some, MatchOption-at_none}
use Rattle.std.proofs.lemmas.List.{get_or-drop, length-drop, take_rest}
use Rattle.std.proofs.lemmas.List.Sums.{prefix_len_passes, prefix_len_stops, prefix_len-le-length}
use Rattle.edi_tables.specs.declared.segment.TableRow.{TableRow}
use Rattle.edi_tables.specs.Rows.{depth_at, parent_of, end_of}
use Rattle.edi_tables.proofs.Finding.{IsFirstFrom, IsLastBelow, first_found, first_once, last_found, last_once}

-- what is read past the rows
abbrev pub blank_row : TableRow
blank_row = record { tag = None; must = false; max = 0; depth = 0 }

pub depth_at-get_or : (rows : List TableRow) (j : ℕ) (d : TableRow) → j < length rows → depth_at rows j ≡ (get_or rows j d).depth
depth_at-get_or rows j d within = rw (depth_at, slice_get-get_or rows j d within)

pub depth_at_past : (rows : List TableRow) (j : ℕ) → length rows ≤ j → depth_at rows j ≡ 0
depth_at_past rows j past = rw (depth_at, slice_get_past rows j past)

-- e ends the row at i: all rows between are deeper, and the row at e is not
pub record IsEnd (rows : List TableRow) (i e : ℕ) : Type 0 where
  pub later : i < e
  pub within : e ≤ length rows
  pub inside : (k : ℕ) → i < k → k < e → depth_at rows i < depth_at rows k
  pub stops : e < length rows → depth_at rows e ≤ depth_at rows i

abbrev no_deeper : List TableRow → ℕ → ℕ → Bool
no_deeper rows i j = nat_le (depth_at rows j) (depth_at rows i)

first_from_end : (rows : List TableRow) (i e : ℕ) → IsEnd rows i e → IsFirstFrom (no_deeper rows i) (i + 1) (length rows) e
first_from_end rows i e end = record {
  low = omega (arith, end.later);
  high = end.within;
  passes = λ h. le-leb _ _ (end.stops h);
  before = λ k from below. lt-leb _ _ (end.inside k (omega arith) below);
}

end_from_first : (rows : List TableRow) (i e : ℕ) → IsFirstFrom (no_deeper rows i) (i + 1) (length rows) e → IsEnd rows i e
end_from_first rows i e first = record {
  later = omega (arith, first.low);
  within = first.high;
  inside = λ k past below. leb-false _ _ (first.before k (omega arith) below);
  stops = λ h. leb-true _ _ (first.passes h);
}

pub end_of_found : (rows : List TableRow) (i : ℕ) → i < length rows → IsEnd rows i (end_of rows i)
unfolding end_of
end_of_found rows i within = end_from_first rows i _ (first_found (no_deeper rows i) (i + 1) (length rows - (i + 1)) (length rows) (omega arith))

pub end_of_is : (rows : List TableRow) (i e : ℕ) → i < length rows → IsEnd rows i e → end_of rows i ≡ e
end_of_is rows i e within end =
    first_once (no_deeper rows i) (i + 1) (length rows) _ e (first_from_end rows i _ (end_of_found rows i within)) (first_from_end rows i e end)

module _ (rows : List TableRow) (i depth : ℕ) (d : TableRow) (in_rows : i < length rows) (is : depth ≡ depth_at rows i) where
  abbrev is_deeper : TableRow → Bool
  is_deeper row = nat_lt depth row.depth

  abbrev rest : List TableRow
  rest = drop (i + 1) rows

  depth_after : (k j : ℕ) → i + 1 + k ≡ j → j < length rows → (get_or rest k d).depth ≡ depth_at rows j
  depth_after k j at within =
      ap (λ (row : TableRow). row.depth) (get_or-drop (i + 1) rows k d ∙ ap (λ n. get_or rows n d) at) ∙ sym (depth_at-get_or rows j d within)

  rest_bound : i + 1 + prefix_len is_deeper rest ≤ length rows
  rest_bound = omega (arith, prefix_len-le-length is_deeper rest, length-drop (i + 1) rows)

  deeper_inside : (k : ℕ) → i < k → k < i + 1 + prefix_len is_deeper rest → depth_at rows i < depth_at rows k
  deeper_inside k past below =
      let passes = ltb-true depth _ (prefix_len_passes is_deeper rest (k - (i + 1)) d (omega arith)) in
      let same = depth_after (k - (i + 1)) k (omega arith) (omega (arith, rest_bound)) in
      omega arith

  deeper_stops : i + 1 + prefix_len is_deeper rest < length rows → depth_at rows (i + 1 + prefix_len is_deeper rest) ≤ depth_at rows i
  deeper_stops h =
      let stops = ltb-false depth _ (prefix_len_stops is_deeper rest d (omega (arith, length-drop (i + 1) rows))) in
      let same = depth_after (prefix_len is_deeper rest) (i + 1 + prefix_len is_deeper rest) refl h in
      omega arith

  -- the row at i ends after the rows that follow it and are deeper
  pub deeper_end : IsEnd rows i (i + 1 + prefix_len is_deeper rest)
  deeper_end = record { later = omega arith; within = rest_bound; inside = deeper_inside; stops = deeper_stops }

-- so it ends where they have been counted
pub end_of_counted : (rows : List TableRow) (i depth inside : ℕ) → i < length rows → depth ≡ depth_at rows i
    → inside ≡ prefix_len (λ row. nat_lt depth row.depth) (take (length rows - (i + 1)) (drop (i + 1) rows)) → end_of rows i ≡ i + 1 + inside
end_of_counted rows i depth inside within is counted =
    rw (counted, take_rest rows (i + 1)) (end_of_is rows i _ within (deeper_end rows i depth blank_row within is))

-- g holds the row at i: the last row before it that is less deep
pub record IsParent (rows : List TableRow) (i g : ℕ) : Type 0 where
  pub before : g < i
  pub shallower : depth_at rows g < depth_at rows i
  pub between : (k : ℕ) → g < k → k < i → depth_at rows i ≤ depth_at rows k

abbrev is_shallower : List TableRow → ℕ → ℕ → Bool
is_shallower rows i j = nat_lt (depth_at rows j) (depth_at rows i)

parent_from_last : (rows : List TableRow) (i g : ℕ) → IsLastBelow (is_shallower rows i) i g → IsParent rows i g
parent_from_last rows i g last = record {
  before = last.within;
  shallower = ltb-true _ _ last.passes;
  between = λ k past below. ltb-false _ _ (last.after k past below);
}

last_from_parent : (rows : List TableRow) (i g : ℕ) → IsParent rows i g → IsLastBelow (is_shallower rows i) i g
last_from_parent rows i g parent = record {
  within = parent.before;
  passes = lt-ltb _ _ parent.shallower;
  after = λ k past below. le-ltb _ _ (parent.between k past below);
}

abbrev IsParentFound : List TableRow → ℕ → Option ℕ → Type 0
IsParentFound rows i found = MatchOption found ((k : ℕ) → k < i → depth_at rows i ≤ depth_at rows k) (IsParent rows i)

parent_from_search : (rows : List TableRow) (i : ℕ) (found : Option ℕ) → MatchOption found ((k : ℕ) → k < i → is_shallower rows i k ≡ false) (IsLastBelow (is_shallower rows i) i) → IsParentFound rows i found
parent_from_search rows i None none = λ k below. ltb-false _ _ (none k below)
parent_from_search rows i (Some g) last = parent_from_last rows i g last

parent_of_from_found : (rows : List TableRow) (i g : ℕ) → IsParent rows i g → (found : Option ℕ) → IsParentFound rows i found → found ≡ Some g
parent_of_from_found rows i g parent None none = absurd (omega (arith, none g parent.before, parent.shallower))
parent_of_from_found rows i g parent (Some h) other =
    ap Some (last_once (is_shallower rows i) i h g (last_from_parent rows i h other) (last_from_parent rows i g parent))

no_parent_from_found : (rows : List TableRow) (i : ℕ) → ((k : ℕ) → k < i → depth_at rows i ≤ depth_at rows k) → (found : Option ℕ) → IsParentFound rows i found → found ≡ None
no_parent_from_found rows i none None _ = refl
no_parent_from_found rows i none (Some g) parent = absurd (omega (arith, none g parent.before, parent.shallower))

-- a row has its parent, or no row before it is less deep
pub parent_of_found : (rows : List TableRow) (i : ℕ) → MatchOption (parent_of rows i) ((k : ℕ) → k < i → depth_at rows i ≤ depth_at rows k) (IsParent rows i)
unfolding parent_of
parent_of_found rows i = parent_from_search rows i _ (last_found (is_shallower rows i) i)

pub parent_of_is : (rows : List TableRow) (i g : ℕ) → IsParent rows i g → parent_of rows i ≡ Some g
parent_of_is rows i g parent = parent_of_from_found rows i g parent (parent_of rows i) (parent_of_found rows i)

pub parent_of_none : (rows : List TableRow) (i : ℕ) → ((k : ℕ) → k < i → depth_at rows i ≤ depth_at rows k) → parent_of rows i ≡ None
parent_of_none rows i none = no_parent_from_found rows i none (parent_of rows i) (parent_of_found rows i)

pub some_or_none : (found : Option ℕ) → (found ≡ None) ⊎ ((g : ℕ) × (found ≡ Some g))
some_or_none None = inl refl
some_or_none (Some g) = inr (g, refl)

pub parent_of_some : (rows : List TableRow) (i g : ℕ) → parent_of rows i ≡ Some g → IsParent rows i g
parent_of_some rows i g is = MatchOption-at_some _ (IsParent rows i) g is (parent_of_found rows i)

pub parent_of_at_none : (rows : List TableRow) (i : ℕ) → parent_of rows i ≡ None → (k : ℕ) → k < i → depth_at rows i ≤ depth_at rows k
parent_of_at_none rows i is = MatchOption-at_none _ (IsParent rows i) is (parent_of_found rows i)

pub held_in_rows : (rows : List TableRow) (i g : ℕ) → IsParent rows i g → i < length rows
held_in_rows rows i g parent =
    ⊎_elim (λ below. below) (λ past. absurd (omega (arith, depth_at_past rows i past, parent.shallower))) (cases_lt i (length rows))

-- what a group holds lies before its end
held_not_past : (rows : List TableRow) (i g e : ℕ) → IsParent rows i g → IsEnd rows g e → e ≤ i → ⊥
held_not_past rows i g e parent end past =
    let within = held_in_rows rows i g parent in
    let stops = end.stops (omega arith) in
    elim (cases_eq e i) [
      | inl same ↦ omega (arith, stops, parent.shallower, ap (depth_at rows) same)
      | inr differ ↦ omega (arith, stops, parent.shallower, parent.between e end.later (omega arith))
    ]

pub held_before_end : (rows : List TableRow) (i g e : ℕ) → IsParent rows i g → IsEnd rows g e → i < e
held_before_end rows i g e parent end = ⊎_elim (λ before. before) (λ past. absurd (held_not_past rows i g e parent end past)) (cases_lt i e)

-- and so does its end
pub ends_nested : (rows : List TableRow) (i g e m : ℕ) → IsParent rows i g → IsEnd rows g e → IsEnd rows i m → m ≤ e
ends_nested rows i g e m parent end inner =
    let before = held_before_end rows i g e parent end in
    ⊎_elim
    (λ past. absurd (omega (arith, inner.inside e before past, end.stops (omega (arith, inner.within)), parent.shallower)))
    (λ nested. nested) (cases_lt e m)

parent_cases : (rows : List TableRow) (i : ℕ) → ((parent_of rows i ≡ None) × ((k : ℕ) → k < i → depth_at rows i ≤ depth_at rows k)) ⊎ ((g : ℕ) × (parent_of rows i ≡ Some g) × IsParent rows i g)
parent_cases rows i = elim (some_or_none (parent_of rows i)) [
  | inl none ↦ inl (none, parent_of_at_none rows i none)
  | inr some ↦ inr (some.0, some.1, parent_of_some rows i some.0 some.1)
]

-- a row between a row and its end has a parent there
pub held_between : (rows : List TableRow) (i e k : ℕ) → IsEnd rows i e → i < k → k < e → (h : ℕ) × (i ≤ h) × IsParent rows k h
held_between rows i e k end past below = elim (parent_cases rows k) [
  | inl none ↦ absurd (omega (arith, none.1 i past, end.inside k past below))
  | inr some ↦ (some.0, ⊎_elim (λ before. absurd (omega (arith, some.2.between i before past, end.inside k past below))) (λ from. from) (cases_lt some.0 i), some.2)
]

sibling_between : (rows : List TableRow) (i g m k : ℕ) → depth_at rows i ≡ depth_at rows g + 1 → IsParent rows i g → IsEnd rows i m → depth_at rows m ≤ depth_at rows i → g < k → k < m → depth_at rows m ≤ depth_at rows k
sibling_between rows i g m k one parent inner stops past before = elim (cases_order k i) [
  | inl same ↦ omega (arith, ap (depth_at rows) same, stops)
  | inr differ ↦ elim differ [
    | inl less ↦ omega (arith, parent.between k past less, stops)
    | inr more ↦ omega (arith, inner.inside k more before, stops)
  ]
]

-- what follows a row in its group is held by that group
pub sibling_after : (rows : List TableRow) (i g m e : ℕ) → depth_at rows i ≡ depth_at rows g + 1 → IsParent rows i g → IsEnd rows i m → IsEnd rows g e → m < e → IsParent rows m g
sibling_after rows i g m e one parent inner end below =
    let stops = inner.stops (omega (arith, end.within)) in
    let deeper = end.inside m (omega (arith, parent.before, inner.later)) below in
    record {
      before = omega (arith, parent.before, inner.later);
      shallower = deeper;
      between = λ k past before. sibling_between rows i g m k one parent inner stops past before;
    }
