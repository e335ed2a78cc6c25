-- Which extent a place lies in, closes or opens, told by the places before it alone. The tests are: a place opens one (o), closes one (c), or stops one (s).
use Rattle.std.proofs.Common.{◌≡◌, ℕ, zero, suc, ◌+◌, ◌-◌, ◌<◌, ◌≤◌, Bool, true, false, not, cond, List, ◌&&◌, ◌⊎◌, Option, Some, None, refl, sym, ap, subst, ◌∙◌, inl, inr, arith, le-leb, eq-eqb}
use Rattle.std.specs.Prelude.{find, MatchOption, nat_le, if◌then◌else◌}
use Rattle.std.specs.Option.{option_map}
use Rattle.std.specs.List.{range_with_len, filter_map}
use Rattle.std.proofs.lemmas.Bool.{cases_Bool, cases_eq, cases_lt, false≢true, true≢false, and_parts, and_from, leb-true, eqb-true, false_from_ne_true, not-true}
use Rattle.edi_tables.specs.Extents.{Extent, lies_in, closes, opens}
use Rattle.edi_tables.proofs.Searching.{IsFirst, IsNone, Found, found, find_is, find_none, find_given}

-- the extent from place a on that stops at a place, or runs to the end n
abbrev pub stretch_to : (ℕ → Bool) → ℕ → ℕ → Option ℕ → Extent
stretch_to c n a None = record { first = a + 1; last = n; closed = false }
stretch_to c n a (Some j) =
    if c j then record { first = a + 1; last = j + 1; closed = true } else record { first = a + 1; last = j; closed = false }

abbrev pub next_stop : (ℕ → Bool) → ℕ → ℕ → Option ℕ
next_stop s n a = find s (range_with_len (a + 1) (n - (a + 1)))

abbrev pub stretch : (ℕ → Bool) → (ℕ → Bool) → ℕ → ℕ → Extent
stretch c s n a = stretch_to c n a (next_stop s n a)

abbrev pub stretches : (ℕ → Bool) → (ℕ → Bool) → (ℕ → Bool) → ℕ → List Extent
stretches o c s n = filter_map (λ a. cond (o a) (Some (stretch c s n a)) None) (range_with_len 0 n)

-- the place that opened what is open before place i
abbrev pub opened : (ℕ → Bool) → (ℕ → Bool) → ℕ → Option ℕ
opened o s zero = None
opened o s (suc i) = cond (o i) (Some i) (cond (s i) None (opened o s i))

-- a place that opens one stops another; one that closes one stops it, and opens none
pub record AreMarks (o c s : ℕ → Bool) : Type 0 where
  pub opening : (k : ℕ) → o k ≡ true → s k ≡ true
  pub closing : (k : ℕ) → c k ≡ true → s k ≡ true
  pub apart : (k : ℕ) → o k ≡ true → c k ≡ false

-- no place between a and i stops
pub record IsClear (s : ℕ → Bool) (a i : ℕ) : Type 0 where
  pub clear : (k : ℕ) → a < k → k < i → s k ≡ false

pub record IsOpen (o s : ℕ → Bool) (i a : ℕ) : Type 0 where
  pub before : a < i
  pub opens : o a ≡ true
  pub clear : IsClear s a i

pub record IsShut (o s : ℕ → Bool) (i : ℕ) : Type 0 where
  pub shut : (a : ℕ) → a < i → o a ≡ true → IsClear s a i → ⊥

abbrev pub Opened : (ℕ → Bool) → (ℕ → Bool) → ℕ → Option ℕ → Type 0
Opened o s i r = MatchOption r (IsShut o s i) (IsOpen o s i)

clear_less : (s : ℕ → Bool) (a i : ℕ) → IsClear s a (suc i) → IsClear s a i
clear_less s a i clear = record { clear = λ k past below. clear.clear k past (omega arith) }

clear_more : (s : ℕ → Bool) (a i : ℕ) → s i ≡ false → IsClear s a i → IsClear s a (suc i)
clear_more s a i fails clear = record { clear = λ k past below. grind (arith, cases_eq k i, clear.clear k) }

shut_by_stop : (o s : ℕ → Bool) (i : ℕ) → o i ≡ false → s i ≡ true → IsShut o s (suc i)
shut_by_stop o s i never stops = record {
  shut = λ a below here clear. elim (cases_eq a i) [
    | inl same ↦ false≢true (sym never ∙ ap o (sym same) ∙ here)
    | inr other ↦ false≢true (sym (clear.clear i (omega arith) (omega arith)) ∙ stops)
  ];
}

opened_later : (o s : ℕ → Bool) (i : ℕ) (r : Option ℕ) → o i ≡ false → s i ≡ false → Opened o s i r → Opened o s (suc i) r
opened_later o s i None never fails before = record {
  shut = λ a below here clear. elim (cases_eq a i) [
    | inl same ↦ false≢true (sym never ∙ ap o (sym same) ∙ here)
    | inr other ↦ before.shut a (omega arith) here (clear_less s a i clear)
  ];
}
opened_later o s i (Some a) never fails before =
    record { before = omega (arith, before.before); opens = before.opens; clear = clear_more s a i fails before.clear }

pub opened_is : (o s : ℕ → Bool) (i : ℕ) → Opened o s i (opened o s i)
opened_is o s zero = record { shut = λ a below here clear. absurd (omega arith) }
opened_is o s (suc i) = elim (cases_Bool (o i)) [
  | inl here ↦ rw here (record { before = omega arith; opens = here; clear = record { clear = λ k past below. absurd (omega arith) } })
  | inr never ↦ elim (cases_Bool (s i)) [
    | inl stops ↦ rw (never, stops) (shut_by_stop o s i never stops)
    | inr fails ↦ rw (never, fails) (opened_later o s i _ never fails (opened_is o s i))
  ]
]

-- the extent from place a reaches place i
pub record Reaches (c s : ℕ → Bool) (i a : ℕ) : Type 0 where
  pub from : a ≤ i
  pub clear : IsClear s a i
  pub here : (a ≡ i) ⊎ ((s i ≡ false) ⊎ (c i ≡ true))

not_past : (s : ℕ → Bool) (n a i j : ℕ) → IsFirst s (a + 1) n j → IsClear s a i → i ≤ j
not_past s n a i j first clear = elim (cases_lt j i) [
  | inl past ↦ absurd (false≢true (sym (clear.clear j (omega (arith, first.from)) past) ∙ first.passes))
  | inr low ↦ low
]

not_here : (c s : ℕ → Bool) (n i a : ℕ) → IsFirst s (a + 1) n i → c i ≡ false → Reaches c s i a → ⊥
not_here c s n i a first never reaches = elim reaches.here [
  | inl same ↦ absurd (omega (arith, first.from))
  | inr rest ↦ elim rest [
    | inl fails ↦ false≢true (sym fails ∙ first.passes)
    | inr shows ↦ false≢true (sym never ∙ shows)
  ]
]

below_stop : (c s : ℕ → Bool) (n i a j : ℕ) → IsFirst s (a + 1) n j → c j ≡ false → Reaches c s i a → i < j
below_stop c s n i a j first never reaches = elim (cases_eq i j) [
  | inl same ↦ absurd (not_here c s n j a first never (subst (λ k. Reaches c s k a) same reaches))
  | inr other ↦ omega (arith, not_past s n a i j first reaches.clear)
]

within_both : (e : Extent) (i : ℕ) → e.first ≤ i + 1 → i + 1 ≤ e.last → lies_in i e ≡ true
within_both e i low high = and_from (nat_le e.first (i + 1)) (nat_le (i + 1) e.last) (le-leb _ _ low) (le-leb _ _ high)

lies_parts : (e : Extent) (i : ℕ) → lies_in i e ≡ true → (e.first ≤ i + 1) × (i + 1 ≤ e.last)
lies_parts e i lies =
    let parts = and_parts (nat_le e.first (i + 1)) (nat_le (i + 1) e.last) lies in
    (leb-true _ _ parts.0, leb-true _ _ parts.1)

lies_from : (c s : ℕ → Bool) (n i a : ℕ) (r : Option ℕ) → Found s (a + 1) n r → i < n → Reaches c s i a → lies_in i (stretch_to c n a r) ≡ true
lies_from c s n i a None none within reaches = within_both (stretch_to c n a None) i (omega (arith, reaches.from)) (omega arith)
lies_from c s n i a (Some j) first within reaches = elim (cases_Bool (c j)) [
  | inl shows ↦ rw shows (within_both (record { first = a + 1; last = j + 1; closed = true }) i (omega (arith, reaches.from)) (omega (arith, not_past s n a i j first reaches.clear)))
  | inr never ↦ rw never (within_both (record { first = a + 1; last = j; closed = false }) i (omega (arith, reaches.from)) (omega (arith, below_stop c s n i a j first never reaches)))
]

reaches_open : (c s : ℕ → Bool) (n i a : ℕ) → IsNone s (a + 1) n → i < n → a ≤ i → Reaches c s i a
reaches_open c s n i a none within from = record {
  from = from;
  clear = record { clear = λ k past below. none.none k (omega arith) (omega arith) };
  here = elim (cases_eq a i) [
    | inl same ↦ inl same
    | inr other ↦ inr (inl (none.none i (omega arith) within))
  ];
}

reaches_below : (c s : ℕ → Bool) (n i a j : ℕ) → IsFirst s (a + 1) n j → i < j → a ≤ i → Reaches c s i a
reaches_below c s n i a j first below from = record {
  from = from;
  clear = record { clear = λ k past less. first.none k (omega arith) (omega arith) };
  here = elim (cases_eq a i) [
    | inl same ↦ inl same
    | inr other ↦ inr (inl (first.none i (omega arith) below))
  ];
}

reaches_close : (c s : ℕ → Bool) (n i a j : ℕ) → IsFirst s (a + 1) n j → c j ≡ true → i ≤ j → a ≤ i → Reaches c s i a
reaches_close c s n i a j first shows low from = elim (cases_eq i j) [
  | inl same ↦ record {
    from = from;
    clear = record { clear = λ k past less. first.none k (omega arith) (omega arith) };
    here = inr (inr (ap c same ∙ shows));
  }
  | inr other ↦ reaches_below c s n i a j first (omega arith) from
]

reaches_lies : (c s : ℕ → Bool) (n i a : ℕ) (r : Option ℕ) → Found s (a + 1) n r → i < n → lies_in i (stretch_to c n a r) ≡ true → Reaches c s i a
reaches_lies c s n i a None none within lies =
    let parts = lies_parts (stretch_to c n a None) i lies in
    reaches_open c s n i a none within (omega (arith, parts.0))
reaches_lies c s n i a (Some j) first within lies = elim (cases_Bool (c j)) [
  | inl shows ↦
      let parts = lies_parts (record { first = a + 1; last = j + 1; closed = true }) i (rw shows at lies) in
      reaches_close c s n i a j first shows (omega (arith, parts.1)) (omega (arith, parts.0))
  | inr never ↦
      let parts = lies_parts (record { first = a + 1; last = j; closed = false }) i (rw never at lies) in
      reaches_below c s n i a j first (omega (arith, parts.1)) (omega (arith, parts.0))
]

stop_found : (s : ℕ → Bool) (n a : ℕ) → a < n → Found s (a + 1) n (next_stop s n a)
stop_found s n a within = found s (a + 1) (n - (a + 1)) n (omega arith)

-- a place that passes both tests
both : (o p : Bool) → (o && p) ≡ true → (o ≡ true) × (p ≡ true)
both o p h = and_parts o p h

abbrev lying : (ℕ → Bool) → (ℕ → Bool) → (ℕ → Bool) → ℕ → ℕ → ℕ → Bool
lying o c s n i b = o b && lies_in i (stretch c s n b)

lying_yes : (o c s : ℕ → Bool) (n i a : ℕ) → a < n → i < n → o a ≡ true → Reaches c s i a → lying o c s n i a ≡ true
lying_yes o c s n i a low within here reaches = and_from _ _ here (lies_from c s n i a _ (stop_found s n a low) within reaches)

lying_no : (o c s : ℕ → Bool) (n i b : ℕ) → b < n → i < n → (o b ≡ true → Reaches c s i b → ⊥) → lying o c s n i b ≡ false
lying_no o c s n i b low within refuted =
    false_from_ne_true _ (λ shows. let parts = both _ _ shows in refuted parts.0 (reaches_lies c s n i b _ (stop_found s n b low) within parts.1))

-- a place lies in what it opens, and in nothing where it stops and doesn't close; else in what is open
abbrev pub holder : (ℕ → Bool) → (ℕ → Bool) → (ℕ → Bool) → ℕ → Option ℕ
holder o c s i = cond (o i) (Some i) (cond (s i && not (c i)) None (opened o s i))

find_own : (o c s : ℕ → Bool) (n i : ℕ) → AreMarks o c s → i < n → o i ≡ true → find (lying o c s n i) (range_with_len 0 n) ≡ Some i
find_own o c s n i marks within here = find_is _ 0 n n i (omega arith) (record {
  from = omega arith;
  below = within;
  passes = lying_yes o c s n i i within within here (record { from = omega arith; clear = record { clear = λ k past below. absurd (omega arith) }; here = inl refl });
  none = λ k from below. lying_no o c s n i k (omega arith) within (λ opens reaches. elim reaches.here [
    | inl same ↦ absurd (omega arith)
    | inr rest ↦ elim rest [
      | inl fails ↦ false≢true (sym fails ∙ marks.opening i here)
      | inr shows ↦ true≢false (sym shows ∙ marks.apart i here)
    ]
  ]);
})

find_stopped : (o c s : ℕ → Bool) (n i : ℕ) → i < n → o i ≡ false → s i ≡ true → c i ≡ false → find (lying o c s n i) (range_with_len 0 n) ≡ None
find_stopped o c s n i within never stops opens_on = find_none _ 0 n n (omega arith) (record {
  none = λ k from below. lying_no o c s n i k below within (λ here reaches. elim reaches.here [
    | inl same ↦ false≢true (sym never ∙ ap o (sym same) ∙ here)
    | inr rest ↦ elim rest [
      | inl fails ↦ false≢true (sym fails ∙ stops)
      | inr shows ↦ true≢false (sym shows ∙ opens_on)
    ]
  ]);
})

find_shut : (o c s : ℕ → Bool) (n i : ℕ) → i < n → o i ≡ false → IsShut o s i → find (lying o c s n i) (range_with_len 0 n) ≡ None
find_shut o c s n i within never shut = find_none _ 0 n n (omega arith) (record {
  none = λ k from below. lying_no o c s n i k below within (λ here reaches. elim (cases_eq k i) [
    | inl same ↦ false≢true (sym never ∙ ap o (sym same) ∙ here)
    | inr other ↦ shut.shut k (omega (arith, reaches.from)) here reaches.clear
  ]);
})

find_open : (o c s : ℕ → Bool) (n i a : ℕ) → AreMarks o c s → i < n → (s i ≡ false) ⊎ (c i ≡ true) → IsOpen o s i a → find (lying o c s n i) (range_with_len 0 n) ≡ Some a
find_open o c s n i a marks within here is_open = find_is _ 0 n n a (omega arith) (record {
  from = omega arith;
  below = omega (arith, is_open.before);
  passes = lying_yes o c s n i a (omega (arith, is_open.before)) within is_open.opens (record { from = omega (arith, is_open.before); clear = is_open.clear; here = inr here });
  none = λ k from below. lying_no o c s n i k (omega (arith, is_open.before)) within
      (λ opens reaches. false≢true (sym (reaches.clear.clear a below is_open.before) ∙ marks.opening a is_open.opens));
})

find_before : (o c s : ℕ → Bool) (n i : ℕ) (r : Option ℕ) → AreMarks o c s → i < n → o i ≡ false → (s i ≡ false) ⊎ (c i ≡ true) → Opened o s i r → find (lying o c s n i) (range_with_len 0 n) ≡ r
find_before o c s n i None marks within never here shut = find_shut o c s n i within never shut
find_before o c s n i (Some a) marks within never here is_open = find_open o c s n i a marks within here is_open

stays : (s c : Bool) → (s && not c) ≡ false → (s ≡ false) ⊎ (c ≡ true)
stays false c h = inl refl
stays true true h = inr refl
stays true false h = absurd (true≢false h)

find_lying : (o c s : ℕ → Bool) (n i : ℕ) → AreMarks o c s → i < n → find (lying o c s n i) (range_with_len 0 n) ≡ holder o c s i
find_lying o c s n i marks within = elim (cases_Bool (o i)) [
  | inl here ↦ find_own o c s n i marks within here ∙ rw here refl
  | inr never ↦ elim (cases_Bool (s i && not (c i))) [
    | inl stops ↦
        let parts = and_parts _ _ stops in
        find_stopped o c s n i within never parts.0 (not-true _ parts.1) ∙ rw (never, stops) refl
    | inr stays_on ↦ find_before o c s n i _ marks within never (stays _ _ stays_on) (opened_is o s i) ∙ rw (never, stays_on) refl
  ]
]

-- the extent that a place lies in
pub stretch_at : (o c s : ℕ → Bool) (n i : ℕ) → AreMarks o c s → i < n → find (lies_in i) (stretches o c s n) ≡ option_map (stretch c s n) (holder o c s i)
stretch_at o c s n i marks within =
    find_given o (stretch c s n) (lies_in i) (range_with_len 0 n) ∙ ap (option_map (stretch c s n)) (find_lying o c s n i marks within)

-- the extent that a place closes
closes_from : (c s : ℕ → Bool) (n i a : ℕ) (r : Option ℕ) → Found s (a + 1) n r → i < n → a < i → IsClear s a i → s i ≡ true → c i ≡ true → closes i (stretch_to c n a r) ≡ true
closes_from c s n i a None none within past clear stops shows = absurd (false≢true (sym (none.none i (omega arith) within) ∙ stops))
closes_from c s n i a (Some j) first within past clear stops shows = elim (cases_eq j i) [
  | inl same ↦ rw (ap c same ∙ shows) (eq-eqb (j + 1) (i + 1) (omega arith))
  | inr other ↦ absurd (false≢true (sym (first.none i (omega arith) (omega (arith, not_past s n a i j first clear))) ∙ stops))
]

-- place i closes the extent from place a on
pub record Closes (c s : ℕ → Bool) (i a : ℕ) : Type 0 where
  pub from : a < i
  pub clear : IsClear s a i
  pub here : c i ≡ true

closes_here : (c s : ℕ → Bool) (n i a j : ℕ) → IsFirst s (a + 1) n j → c j ≡ true → j ≡ i → Closes c s i a
closes_here c s n i a j first shows same = record {
  from = omega (arith, first.from);
  clear = record { clear = λ k past below. first.none k (omega arith) (omega arith) };
  here = ap c (sym same) ∙ shows;
}

closes_tells : (c s : ℕ → Bool) (n i a : ℕ) (r : Option ℕ) → Found s (a + 1) n r → closes i (stretch_to c n a r) ≡ true → Closes c s i a
closes_tells c s n i a None none closing = absurd (false≢true closing)
closes_tells c s n i a (Some j) first closing = elim (cases_Bool (c j)) [
  | inl shows ↦ closes_here c s n i a j first shows (omega (arith, eqb-true (j + 1) (i + 1) (rw shows at closing)))
  | inr never ↦ absurd (false≢true (rw never at closing))
]

abbrev closing_at : (ℕ → Bool) → (ℕ → Bool) → (ℕ → Bool) → ℕ → ℕ → ℕ → Bool
closing_at o c s n i b = o b && closes i (stretch c s n b)

closing_no : (o c s : ℕ → Bool) (n i b : ℕ) → b < n → (o b ≡ true → Closes c s i b → ⊥) → closing_at o c s n i b ≡ false
closing_no o c s n i b low refuted =
    false_from_ne_true _ (λ shows. let parts = both _ _ shows in refuted parts.0 (closes_tells c s n i b _ (stop_found s n b low) parts.1))

-- what a place closes: what is open, if it closes at all
abbrev pub closed_by : (ℕ → Bool) → (ℕ → Bool) → (ℕ → Bool) → ℕ → Option ℕ
closed_by o c s i = cond (c i) (opened o s i) None

close_none : (o c s : ℕ → Bool) (n i : ℕ) → c i ≡ false → find (closing_at o c s n i) (range_with_len 0 n) ≡ None
close_none o c s n i never = find_none _ 0 n n (omega arith) (record {
  none = λ k from below. closing_no o c s n i k below (λ here it. false≢true (sym never ∙ it.here));
})

close_before : (o c s : ℕ → Bool) (n i : ℕ) (r : Option ℕ) → AreMarks o c s → i < n → c i ≡ true → Opened o s i r → find (closing_at o c s n i) (range_with_len 0 n) ≡ r
close_before o c s n i None marks within shows shut = find_none _ 0 n n (omega arith) (record {
  none = λ k from below. closing_no o c s n i k below (λ here it. shut.shut k it.from here it.clear);
})
close_before o c s n i (Some a) marks within shows is_open = find_is _ 0 n n a (omega arith) (record {
  from = omega arith;
  below = omega (arith, is_open.before);
  passes = and_from _ _ is_open.opens (closes_from c s n i a _ (stop_found s n a (omega (arith, is_open.before))) within is_open.before is_open.clear (marks.closing i shows) shows);
  none = λ k from below. closing_no o c s n i k (omega (arith, is_open.before))
      (λ here it. false≢true (sym (it.clear.clear a below is_open.before) ∙ marks.opening a is_open.opens));
})

find_closing : (o c s : ℕ → Bool) (n i : ℕ) → AreMarks o c s → i < n → find (closing_at o c s n i) (range_with_len 0 n) ≡ closed_by o c s i
find_closing o c s n i marks within = elim (cases_Bool (c i)) [
  | inl shows ↦ close_before o c s n i _ marks within shows (opened_is o s i) ∙ rw shows refl
  | inr never ↦ close_none o c s n i never ∙ rw never refl
]

pub stretch_closed_at : (o c s : ℕ → Bool) (n i : ℕ) → AreMarks o c s → i < n → find (closes i) (stretches o c s n) ≡ option_map (stretch c s n) (closed_by o c s i)
stretch_closed_at o c s n i marks within =
    find_given o (stretch c s n) (closes i) (range_with_len 0 n) ∙ ap (option_map (stretch c s n)) (find_closing o c s n i marks within)

-- the extent that a place opens
pub first_of : (c : ℕ → Bool) (n a : ℕ) (r : Option ℕ) → (stretch_to c n a r).first ≡ a + 1
first_of c n a None = refl
first_of c n a (Some j) = elim (cases_Bool (c j)) [
  | inl shows ↦ rw shows refl
  | inr never ↦ rw never refl
]

opening_no : (o c s : ℕ → Bool) (n i b : ℕ) → (o b ≡ true → b ≡ i → ⊥) → (o b && opens i (stretch c s n b)) ≡ false
opening_no o c s n i b refuted =
    false_from_ne_true _ (λ shows. let parts = both _ _ shows in refuted parts.0 (omega (arith, first_of c n b (next_stop s n b), eqb-true _ _ parts.1)))

find_opening : (o c s : ℕ → Bool) (n i : ℕ) → i < n → find (λ b. o b && opens i (stretch c s n b)) (range_with_len 0 n) ≡ cond (o i) (Some i) None
find_opening o c s n i within = elim (cases_Bool (o i)) [
  | inl here ↦ find_is _ 0 n n i (omega arith) (record {
    from = omega arith;
    below = within;
    passes = and_from _ _ here (eq-eqb _ _ (first_of c n i (next_stop s n i)));
    none = λ k from below. opening_no o c s n i k (λ _ same. omega arith);
  }) ∙ rw here refl
  | inr never ↦ find_none _ 0 n n (omega arith) (record {
    none = λ k from below. opening_no o c s n i k (λ shows same. false≢true (sym never ∙ ap o (sym same) ∙ shows));
  }) ∙ rw never refl
]

pub stretch_opened_at : (o c s : ℕ → Bool) (n i : ℕ) → i < n → find (opens i) (stretches o c s n) ≡ option_map (stretch c s n) (cond (o i) (Some i) None)
stretch_opened_at o c s n i within =
    find_given o (stretch c s n) (opens i) (range_with_len 0 n) ∙ ap (option_map (stretch c s n)) (find_opening o c s n i within)

-- the extent that a place closes, from the place that opened it
pub stretch_closed : (o c s : ℕ → Bool) (n i a : ℕ) → AreMarks o c s → i < n → c i ≡ true → opened o s i ≡ Some a → stretch c s n a ≡ record { first = a + 1; last = i + 1; closed = true }
stretch_closed o c s n i a marks within shows opening =
    let is_open : IsOpen o s i a = subst (Opened o s i) opening (opened_is o s i) in
    let stop : next_stop s n a ≡ Some i = find_is s (a + 1) (n - (a + 1)) n i (omega (arith, is_open.before))
    (record { from = omega (arith, is_open.before); below = within; passes = marks.closing i shows; none = λ k past below. is_open.clear.clear k (omega arith) below }) in
    rw (stop, shows) refl
