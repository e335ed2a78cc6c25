-- The first fault of rows, and what rows without a fault keep.
use Rattle.std.proofs.Common.{◌≡◌, ℕ, zero, suc, ◌+◌, ◌<◌, ◌≤◌, Bool, true, false, List, [], ◌∷◌, ◌++◌, Option, Some, None, length, get_or, refl, sym, ap, subst, ◌∙◌, inl, inr, ⊎_elim, arith}
use Rattle.std.specs.Prelude.{slice_get, map}
use Rattle.std.specs.List.{range_with_len, flat_map}
use Rattle.std.specs.Option.{option_map}
use Rattle.std.proofs.lemmas.Bool.{lt-ltb, le-ltb, ltb-false, ne_eqb, cases_eq, cases_lt}
use Rattle.std.proofs.lemmas.Option.{slice_get-get_or, slice_get-map, slice_get_within, none-some}
use Rattle.edi_tables.specs.declared.segment.TableRow.{TableRow}
use Rattle.edi_tables.specs.declared.table.RowFault.{RowFault}
use Rattle.edi_tables.specs.declared.table.TableKind.{TableKind}
use Rattle.edi_tables.specs.declared.table.TableKind.TheVariants.{TooMany, NoUnhUnt}
use Rattle.edi_tables.specs.Rows.{when, breaks_frame, breaks_envelope, breaks_max, breaks_depth, breaks_trigger, row_faults, row_faults_at, table_faults}

pub first_of_nil : {A : Type 0} → (xs : List A) → slice_get xs 0 ≡ None → xs ≡ []
first_of_nil [] none = refl
first_of_nil (x ∷ xs) none = absurd (none-some x (sym none))

first-append : {A : Type 0} → (xs ys : List A) (x : A) → slice_get xs 0 ≡ Some x → slice_get (xs ++ ys) 0 ≡ Some x
first-append [] ys x first = absurd (none-some x first)
first-append (y ∷ xs) ys x first = first

-- the first member of pieces that are end to end is that of the first piece that has one
first-flat_map : {A : Type 0} → (f : ℕ → List A) (a n i : ℕ) (x : A) → a ≤ i → i < a + n → ((k : ℕ) → a ≤ k → k < i → f k ≡ []) → slice_get (f i) 0 ≡ Some x → slice_get (flat_map f (range_with_len a n)) 0 ≡ Some x
first-flat_map f a zero i x from below before first = absurd (omega arith)
first-flat_map f a (suc n) i x from below before first = elim (cases_eq a i) [
  | inl here ↦ first-append (f a) _ x (ap (λ k. slice_get (f k) 0) here ∙ first)
  | inr past ↦ rw (before a (omega arith) (omega arith)) (first-flat_map f (a + 1) n i x (omega arith) (omega arith) (λ k h. before k (omega arith)) first)
]

flat_map-nil : {A : Type 0} → (f : ℕ → List A) (a n : ℕ) → ((k : ℕ) → a ≤ k → k < a + n → f k ≡ []) → flat_map f (range_with_len a n) ≡ []
flat_map-nil f a zero none = refl
flat_map-nil f a (suc n) none =
    rw (none a (omega arith) (omega arith)) (flat_map-nil f (a + 1) n (λ k from below. none k (omega arith) (omega arith)))

pub nil-append : {A : Type 0} → (xs ys : List A) → xs ++ ys ≡ [] → (xs ≡ []) × (ys ≡ [])
nil-append [] ys none = (refl, none)
nil-append (x ∷ xs) ys none = cc

nil-flat_map : {A : Type 0} → (f : ℕ → List A) (a n : ℕ) → flat_map f (range_with_len a n) ≡ [] → (k : ℕ) → a ≤ k → k < a + n → f k ≡ []
nil-flat_map f a zero none k from below = absurd (omega arith)
nil-flat_map f a (suc n) none k from below =
    let parts = nil-append (f a) (flat_map f (range_with_len (a + 1) n)) none in
    elim (cases_eq a k) [
      | inl here ↦ ap f (sym here) ∙ parts.0
      | inr past ↦ nil-flat_map f (a + 1) n parts.1 k (omega arith) (omega arith)
    ]

-- a rule that the row at i breaks
abbrev pub at_row : ℕ → TableKind → RowFault
at_row i kind = record { at = i; kind = kind }

abbrev pub faults_of_place : List TableRow → ℕ → List RowFault
faults_of_place rows i = row_faults_at rows i (slice_get rows i)

table_faults_by_place : (rows : List TableRow) → length rows ≤ 2000 → 0 < length rows → table_faults rows ≡ flat_map (faults_of_place rows) (range_with_len 0 (length rows))
unfolding table_faults
table_faults_by_place rows few some = rw (le-ltb 2000 (length rows) few, ne_eqb (length rows) 0 (omega arith)) refl

too_many : (rows : List TableRow) → 2000 < length rows → table_faults rows ≡ (at_row 2000 TooMany) ∷ []
unfolding table_faults
too_many rows many = rw (lt-ltb 2000 (length rows) many) refl

no_rows : (rows : List TableRow) → length rows ≡ 0 → table_faults rows ≡ (at_row 0 NoUnhUnt) ∷ []
unfolding table_faults
no_rows rows none = rw none refl

pub first_fault_too_many : (rows : List TableRow) → 2000 < length rows → slice_get (table_faults rows) 0 ≡ Some (at_row 2000 TooMany)
first_fault_too_many rows many = ap (λ faults. slice_get faults 0) (too_many rows many)

pub first_fault_no_rows : (rows : List TableRow) → length rows ≡ 0 → slice_get (table_faults rows) 0 ≡ Some (at_row 0 NoUnhUnt)
first_fault_no_rows rows none = ap (λ faults. slice_get faults 0) (no_rows rows none)

pub first_fault_at : (rows : List TableRow) (i : ℕ) (row : TableRow) (kind : TableKind) → length rows ≤ 2000 → i < length rows → ((k : ℕ) → k < i → faults_of_place rows k ≡ []) → slice_get rows i ≡ Some row → slice_get (row_faults rows i row) 0 ≡ Some kind → slice_get (table_faults rows) 0 ≡ Some (at_row i kind)
first_fault_at rows i row kind few within before at first =
    rw (table_faults_by_place rows few (omega arith)) (first-flat_map (faults_of_place rows) 0 (length rows) i (at_row i kind) (omega arith) (omega arith) (λ k _ below. before k below)
    (rw at (slice_get-map (at_row i) (row_faults rows i row) 0 ∙ ap (option_map (at_row i)) first)))

pub no_first_fault : (rows : List TableRow) → length rows ≤ 2000 → 0 < length rows → ((k : ℕ) → k < length rows → faults_of_place rows k ≡ []) → table_faults rows ≡ []
no_first_fault rows few some none =
    rw (table_faults_by_place rows few some) (flat_map-nil (faults_of_place rows) 0 (length rows) (λ k _ below. none k (omega arith)))

pub no_faults_of_place : (rows : List TableRow) (i : ℕ) (row : TableRow) → slice_get rows i ≡ Some row → slice_get (row_faults rows i row) 0 ≡ None → faults_of_place rows i ≡ []
no_faults_of_place rows i row at none = rw (at, first_of_nil _ none) refl

-- a row that breaks no rule
pub record KeepsRules (rows : List TableRow) (i : ℕ) (row : TableRow) : Type 0 where
  pub frame : breaks_frame rows i row ≡ false
  pub envelope : breaks_envelope rows i row ≡ false
  pub max : breaks_max row ≡ false
  pub depth : breaks_depth rows i row ≡ false
  pub deep : row.depth ≤ 16
  pub trigger : breaks_trigger rows i row ≡ false

when-nil : {A : Type 0} → (broken : Bool) (x : A) → when broken x ≡ [] → broken ≡ false
when-nil true x none = cc
when-nil false x none = refl

keeps_from_none : (rows : List TableRow) (i : ℕ) (row : TableRow) → row_faults rows i row ≡ [] → KeepsRules rows i row
keeps_from_none rows i row none =
    let five = nil-append _ _ none in
    let four = nil-append _ _ five.0 in
    let three = nil-append _ _ four.0 in
    let two = nil-append _ _ three.0 in
    let one = nil-append _ _ two.0 in
    record {
      frame = when-nil _ _ one.0;
      envelope = when-nil _ _ one.1;
      max = when-nil _ _ two.1;
      depth = when-nil _ _ three.1;
      deep = ltb-false 16 row.depth (when-nil _ _ four.1);
      trigger = when-nil _ _ five.1;
    }

map-nil : {A B : Type 0} → (f : A → B) (xs : List A) → map f xs ≡ [] → xs ≡ []
map-nil f [] none = refl
map-nil f (x ∷ xs) none = cc

no_nil : {A : Type 0} → (x : A) (xs : List A) → x ∷ xs ≡ [] → ⊥
no_nil x xs none = cc

pub few_rows : (rows : List TableRow) → table_faults rows ≡ [] → length rows ≤ 2000
few_rows rows none = ⊎_elim (λ many. absurd (no_nil _ [] (sym (too_many rows many) ∙ none))) (λ few. few) (cases_lt 2000 (length rows))

pub some_rows : (rows : List TableRow) → table_faults rows ≡ [] → 0 < length rows
some_rows rows none = ⊎_elim (λ some. some) (λ empty. absurd (no_nil _ [] (sym (no_rows rows (omega arith)) ∙ none))) (cases_lt 0 (length rows))

pub keeps_rules : (rows : List TableRow) → table_faults rows ≡ [] → (i : ℕ) (row : TableRow) → slice_get rows i ≡ Some row → KeepsRules rows i row
keeps_rules rows none i row at =
    let all = sym (table_faults_by_place rows (few_rows rows none) (some_rows rows none)) ∙ none in
    let here = nil-flat_map (faults_of_place rows) 0 (length rows) all i (omega arith) (omega (arith, slice_get_within rows i row at)) in
    keeps_from_none rows i row (map-nil (at_row i) _ (subst (λ (found : Option TableRow). row_faults_at rows i found ≡ []) at here))

-- no row of a segment table is deeper than 16
pub small_depth : (rows : List TableRow) → table_faults rows ≡ [] → (i depth : ℕ) (d : TableRow) → i < length rows → depth ≡ (get_or rows i d).depth → depth ≤ 16
small_depth rows none i depth d within is = omega (arith, (keeps_rules rows none i (get_or rows i d) (slice_get-get_or rows i d within)).deep)
