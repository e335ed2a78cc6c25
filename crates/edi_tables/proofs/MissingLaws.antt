-- The mandatory nodes that going to a candidate passes, by the first one after the entry.
use Rattle.std.proofs.Common.{◌≡◌, ℕ, zero, suc, ◌+◌, ◌-◌, ◌<◌, ◌≤◌, Bool, true, false, List, [], ◌∷◌, Option, Some, None, length, refl, sym, ap, ◌∙◌, inl, inr, arith}
use Rattle.std.specs.Prelude.{filter, find, slice_get, nat_lt, ◌&&◌, if◌then◌else◌}
use Rattle.std.specs.List.{range_with_len}
use Rattle.std.specs.Iterator.{YieldsFirst}
use Rattle.std.proofs.lemmas.Bool.{cases_Bool, ltb-false, lt-ltb, le-ltb, and_right}
use Rattle.edi_tables.specs.declared.table.Node.{Node}
use Rattle.edi_tables.specs.Walk.{is_must_at, is_trigger_at, reached_node, candidates_of, missing_between, missing_past, later_nodes}
use Rattle.edi_tables.specs.Filled.{is_filled}
use Rattle.edi_tables.specs.Places.{candidates_left, musts_left, lies_before}

-- of places from a bound on none passes and lies before it
none_before : (p q : ℕ → Bool) (bound : ℕ) (n a : ℕ) → bound ≤ a → is_filled (filter (λ j. p j && nat_lt j bound) (filter q (range_with_len a n))) ≡ false
none_before p q bound zero a past = refl
none_before p q bound (suc n) a past = elim (cases_Bool (q a)) [
  | inl passes ↦ rw passes (rw (and_right (p a) (nat_lt a bound) (le-ltb a bound past)) (none_before p q bound n (a + 1) (omega arith)))
  | inr fails ↦ rw fails (none_before p q bound n (a + 1) (omega arith))
]

filled_by : (p q : ℕ → Bool) (bound n a : ℕ) (qa pa : Bool) → q a ≡ qa → p a ≡ pa
    → is_filled (filter (λ j. p j && nat_lt j bound) (filter q (range_with_len (a + 1) n))) ≡ lies_before (find p (filter q (range_with_len (a + 1) n))) bound
    → is_filled (filter (λ j. p j && nat_lt j bound) (filter q (range_with_len a (suc n)))) ≡ lies_before (find p (filter q (range_with_len a (suc n)))) bound
filled_by p q bound n a false pa skips is more = rw skips more
filled_by p q bound n a true false kept fails more = rw kept (rw fails more)
filled_by p q bound n a true true kept passes more = rw kept (rw passes (elim (cases_Bool (nat_lt a bound)) [
  | inl before ↦ rw before refl
  | inr past ↦ rw past (none_before p q bound n (a + 1) (omega (arith, ltb-false a bound past)))
]))

-- some of ascending places pass and lie before a bound exactly where the first that passes does
filled_is : (p q : ℕ → Bool) (bound n a : ℕ) → is_filled (filter (λ j. p j && nat_lt j bound) (filter q (range_with_len a n))) ≡ lies_before (find p (filter q (range_with_len a n))) bound
filled_is p q bound zero a = refl
filled_is p q bound (suc n) a = filled_by p q bound n a (q a) (p a) refl refl (filled_is p q bound n (a + 1))

-- going to a candidate passes a mandatory node exactly where the first one after the entry is passed
pub passes_must : (nodes : List Node) (f c : ℕ) → is_filled (missing_between nodes f c) ≡ lies_before (find (is_must_at nodes) (later_nodes nodes f)) (reached_node nodes f c)
unfolding missing_between later_nodes
passes_must nodes f c = filled_is (is_must_at nodes) _ (reached_node nodes f c) (length nodes - (f + 1)) (f + 1)

-- places in a stretch lie before its end
all_before : (p q : ℕ → Bool) (bound n a : ℕ) → a + n ≤ bound → filter (λ j. p j && nat_lt j bound) (filter q (range_with_len a n)) ≡ filter p (filter q (range_with_len a n))
all_before p q bound zero a within = refl
all_before p q bound (suc n) a within =
    let more = all_before p q bound n (a + 1) (omega arith) in
    elim (cases_Bool (q a)) [
      | inl passes ↦ rw passes (kept (p a) refl more)
      | inr fails ↦ rw fails more
    ]
  where
    kept : (pa : Bool) → p a ≡ pa → filter (λ j. p j && nat_lt j bound) (filter q (range_with_len (a + 1) n)) ≡ filter p (filter q (range_with_len (a + 1) n))
        → filter (λ j. p j && nat_lt j bound) (a ∷ filter q (range_with_len (a + 1) n)) ≡ filter p (a ∷ filter q (range_with_len (a + 1) n))
    kept true is more = rw is (rw (lt-ltb a bound (omega arith)) (ap (λ rest. a ∷ rest) more))
    kept false is more = rw is more

-- the mandatory nodes below the table's end are all that are left
pub musts_past : (nodes : List Node) (reached f : ℕ) → f < length nodes → reached ≡ length nodes → musts_left nodes reached f ≡ missing_past nodes f
unfolding missing_past later_nodes
musts_past nodes reached f within end = all_before (is_must_at nodes) _ reached (length nodes - (f + 1)) (f + 1) (omega arith)

pub musts_between : (nodes : List Node) (reached f c : ℕ) → reached ≡ reached_node nodes f c → musts_left nodes reached f ≡ missing_between nodes f c
unfolding missing_between
musts_between nodes reached f c is = ap (λ (n : ℕ). musts_left nodes n f) is

-- the first that passes is the first of those that do
pub find-filter : {A : Type 0} (p : A → Bool) (xs : List A) → find p xs ≡ slice_get (filter p xs) 0
find-filter p [] = refl
find-filter p (x ∷ xs) = elim (cases_Bool (p x)) [
  | inl passes ↦ rw passes refl
  | inr fails ↦ rw fails (find-filter p xs)
]

pub first_given : (xs more : List ℕ) (given : Option ℕ) → YieldsFirst (λ left. left) xs given more → given ≡ slice_get xs 0
first_given xs more None is = sym (ap (λ (ys : List ℕ). slice_get ys 0) is.0)
first_given xs more (Some x) is = sym (ap (λ (ys : List ℕ). slice_get ys 0) is)

-- the first mandatory node after an entry is the first of those that are passed by going past the end
pub first_must : (nodes : List Node) (f : ℕ) (xs more : List ℕ) (given : Option ℕ) → xs ≡ missing_past nodes f → YieldsFirst (λ left. left) xs given more → given ≡ find (is_must_at nodes) (later_nodes nodes f)
unfolding missing_past
first_must nodes f xs more given is gives =
    first_given xs more given gives ∙ ap (λ (ys : List ℕ). slice_get ys 0) is ∙ sym (find-filter (is_must_at nodes) (later_nodes nodes f))

-- where candidates begin
pub candidates_made : (nodes : List Node) (entry at : ℕ) (first : Option ℕ) → at ≡ entry → first ≡ (if is_trigger_at nodes entry then None else Some entry) → candidates_left nodes first at ≡ candidates_of nodes entry
unfolding candidates_of
candidates_made nodes entry at first is begins =
    ap (λ (n : ℕ). candidates_left nodes first n) is ∙ ap (λ (f : Option ℕ). candidates_left nodes f entry) begins ∙ by (is_trigger_at nodes entry) refl
  where
    by : (trigger : Bool) → is_trigger_at nodes entry ≡ trigger → candidates_left nodes (if is_trigger_at nodes entry then None else Some entry) entry ≡ candidates_of nodes entry
    by true is = rw is refl
    by false is = rw is refl
