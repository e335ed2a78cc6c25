-- The errors of an element, gathered one repetition after another.
use Rattle.std.proofs.Common.{◌≡◌, ℕ, zero, suc, ◌+◌, ◌-◌, ◌<◌, ◌≤◌, ltb, eqb, Bool, true, false, not, ◌&&◌, ◌||◌, cond, List, [], ◌∷◌, ◌++◌, map, drop, take, length, refl, sym, ap, subst, ◌∙◌, inl, inr, arith, true≢false}
use Rattle.std.proofs.Math.Seq.{drop-append_seam, take-append_seam}
use Rattle.std.proofs.lemmas.Bool.{and_parts, cases_Bool}
use Rattle.std.proofs.lemmas.Bool.Decides.{nat_tests}
use Rattle.std.specs.Prelude.{Some}
use Rattle.std.specs.List.{list_all, list_any, range_with_len}
use Rattle.edi_tables.specs.Forms.{reps_of}
use Rattle.edi_tables.specs.Rows.{when}
use Rattle.edi_tables.specs.declared.segment.ItemDef.{ItemDef}
use Rattle.edi_tables.specs.declared.segment.ItemDef.TheVariants.{Alone, Composite}
use Rattle.error_ledger.specs.declared.kind.Kind.TheVariants.{TooManyRepetitions}
use Rattle.seg_lexer.specs.Fields.{Component}
use Rattle.element_check.specs.Ascending.{AreAscending}
use Rattle.element_check.specs.Local.{element_errors, error_at, has_octet, is_missing, is_repeated_too_often, is_used, last_repetition, repetitions_of, values_in}
use Rattle.element_check.specs.Merging.{merged}
use Rattle.element_check.specs.Repeated.{some_in}
use Rattle.element_check.specs.Rules.{SegmentRules}
use Rattle.element_check.specs.Streams.{AreOrdered, IsAtRepetition, after_front, after_run, demanded, front_run, has_needed, is_first_filled, is_mandatory, is_next, item_errors}
use Rattle.element_check.specs.declared.error.LocalError.{LocalError}
use Rattle.element_check.proofs.ElementLemmas.{and_false}
use Rattle.element_check.proofs.GatherLemmas.{gathered, gathered-ascending, gathered-is, gathered-longer, lacks-needed}
use Rattle.element_check.proofs.MergeLemmas.{merged-longer, merged-no_fresh}
use Rattle.element_check.proofs.RepetitionLemmas.{any-map, eq-is, eq-differs, last-here, last-some, later_repetitions, map-range, or-join, repetitions-all, repetitions-from}
use Rattle.element_check.proofs.StreamLemmas.{run-few}
use Rattle.element_check.proofs.RunLemmas.{after_run-front, after_run-last, after_run-length, next-last, ordered-at, ordered-more, ordered-run, past-front, past-some, past-values, run-below, run-others, run-some, run-values, values-before}

-- what belongs to no repetition of an element says nothing of it
pub unnumbered-last : (element : ℕ) (xs : List Component) → last_repetition (after_run element 0 xs) element ≡ last_repetition xs element
unnumbered-last element [] = refl
unnumbered-last element (x ∷ xs) = elim (cases_Bool (eqb x.element element && eqb x.repetition 0)) [
  | inl here ↦
      let parts = and_parts (eqb x.element element) (eqb x.repetition 0) here in
      let none : x.repetition ≡ 0 = eq-is x.repetition 0 parts.1 in
      let most = last-here x xs element parts.0 in
      ap (λ b. last_repetition (cond b (after_run element 0 xs) (x ∷ xs)) element) here ∙ unnumbered-last element xs ∙ omega arith
  | inr other ↦ ap (λ b. last_repetition (cond b (after_run element 0 xs) (x ∷ xs)) element) other
]

pub unnumbered-same : (element : ℕ) (xs : List Component) → repetitions_of (after_run element 0 xs) element ≡ repetitions_of xs element
unnumbered-same element xs =
    repetitions-from (after_run element 0 xs) xs element (λ r least. sym (run-others element 0 r xs (λ is. omega arith))) (unnumbered-last element xs)

-- whether an item lacks a value, by what it needs
missing-is : (item : ItemDef) (values : List (List ℕ)) → is_missing item values ≡ (is_mandatory item && not (has_needed item values))
missing-is (Alone part reps) [] = refl
missing-is (Alone part reps) (v ∷ vs) = refl
missing-is (Composite code must reps) values = refl

first-needed : (item : ItemDef) (values : List (List ℕ)) → is_first_filled values ≡ true → has_needed item values ≡ true
first-needed (Alone part reps) values filled = filled
first-needed (Composite code must reps) [] filled = absurd (true≢false (sym filled))
first-needed (Composite code must reps) (v ∷ vs) filled = ap (λ b. b || list_any has_octet vs) filled

missing-no : (item : ItemDef) (one : List (List ℕ)) (more : List (List (List ℕ))) → is_mandatory item ≡ false → false ≡ list_all (is_missing item) (one ∷ more)
missing-no item one more optional = sym (ap (λ b. b && list_all (is_missing item) more) (missing-is item one ∙ ap (λ b. b && not (has_needed item one)) optional))

missing-not : (item : ItemDef) (one : List (List ℕ)) (more : List (List (List ℕ))) → is_first_filled one ≡ true → false ≡ list_all (is_missing item) (one ∷ more)
missing-not item one more filled =
    sym (ap (λ b. b && list_all (is_missing item) more) (missing-is item one ∙ ap (λ b. is_mandatory item && not b) (first-needed item one filled) ∙ and_false (is_mandatory item)))

pub missing-none : (item : ItemDef) (element : ℕ) (xs : List Component) → is_mandatory item ≡ false → false ≡ list_all (is_missing item) (repetitions_of xs element)
missing-none item element xs optional = missing-no item (values_in xs element 1) (later_repetitions xs element) optional ∙ sym (ap (list_all (is_missing item)) (repetitions-all element xs))

pub missing-filled : (item : ItemDef) (element : ℕ) (xs : List Component) → AreOrdered element 1 xs → is_first_filled (front_run element 1 xs) ≡ true → false ≡ list_all (is_missing item) (repetitions_of xs element)
missing-filled item element xs order filled =
    missing-not item (values_in xs element 1) (later_repetitions xs element) (ap is_first_filled (run-values element 1 xs order) ∙ filled)
    ∙ sym (ap (list_all (is_missing item)) (repetitions-all element xs))

not-or : (a b : Bool) → (not a && not b) ≡ not (a || b)
not-or true b = refl
not-or false b = refl

lacking-each : (item : ItemDef) (repetitions : List (List (List ℕ))) → is_mandatory item ≡ true → list_all (is_missing item) repetitions ≡ not (list_any (has_needed item) repetitions)
lacking-each item [] must = refl
lacking-each item (one ∷ more) must =
    ap (λ b. b && list_all (is_missing item) more) (missing-is item one ∙ ap (λ b. b && not (has_needed item one)) must)
    ∙ ap (λ b. not (has_needed item one) && b) (lacking-each item more must)
    ∙ not-or (has_needed item one) (list_any (has_needed item) more)

pub missing-lacking : (item : ItemDef) (repetitions : List (List (List ℕ))) → is_mandatory item ≡ true → not (list_any (has_needed item) repetitions) ≡ list_all (is_missing item) repetitions
missing-lacking item repetitions must = sym (lacking-each item repetitions must)

needed-nothing : (item : ItemDef) → has_needed item [] ≡ false
needed-nothing (Alone part reps) = refl
needed-nothing (Composite code must reps) = refl

-- the repetition at the front is none before those that are left
next-from : (element q r : ℕ) (xs : List Component) → AreOrdered element q xs → is_next element xs ≡ true → IsAtRepetition element r xs → q ≤ r
next-from element q r [] order next here = absurd (true≢false (sym next))
next-from element q r (x ∷ xs) order next here =
    let same = eq-is x.element element next in
    let low = order.1 same in
    let is = here same in
    omega arith

-- the repetition at the front has no value that is needed
module _ (item : ItemDef) (element n r : ℕ) (xs : List Component) (order : AreOrdered element 1 xs) (next : is_next element xs ≡ true) (here : IsAtRepetition element r xs) (within : last_repetition xs element ≤ n) where
  next-order : AreOrdered element r xs
  next-order = ordered-at element r xs (ordered-more element 1 0 xs (omega arith) order) here

  lacking-by : some_in (has_needed item) xs element 1 n ≡ (has_needed item (front_run element r xs) || some_in (has_needed item) (after_run element r xs) element 1 n)
  lacking-by =
      let low = next-from element 1 r xs order next here in
      let most = next-last element r xs next here in
      run-some (has_needed item) (needed-nothing item) element r xs next-order 1 n low (omega arith)

  pub lacking-step : has_needed item (front_run element r xs) ≡ false → some_in (has_needed item) xs element 1 n ≡ some_in (has_needed item) (after_run element r xs) element 1 n
  lacking-step empty = lacking-by ∙ ap (λ b. b || some_in (has_needed item) (after_run element r xs) element 1 n) empty

  pub lacking-found : has_needed item (front_run element r xs) ≡ true → some_in (has_needed item) xs element 1 n ≡ true
  lacking-found filled = lacking-by ∙ ap (λ b. b || some_in (has_needed item) (after_run element r xs) element 1 n) filled

  -- the next repetition comes after this one
  pub lacking-order : AreOrdered element 1 (after_run element r xs)
  lacking-order = let low = next-from element 1 r xs order next here in ordered-more element (r + 1) 1 (after_run element r xs) (omega arith) (ordered-run element r xs next-order)

-- no repetition is left
pub lacking-end : (item : ItemDef) (element n : ℕ) (xs : List Component) → AreOrdered element 1 xs → is_next element xs ≡ false → some_in (has_needed item) xs element 1 n ≡ false
lacking-end item element n xs order past = past-some element xs (ordered-more element 1 0 xs (omega arith) order) past (has_needed item) (needed-nothing item) 1 n

-- the errors of a repetition without a value that isn't needed
nothing-told : (rules : SegmentRules) (item : ItemDef) (element : ℕ) → item_errors rules element (demanded false item) [] ≡ []
nothing-told rules (Alone part reps) element = refl
nothing-told rules (Composite code must reps) element = refl

module _ (rules : SegmentRules) (item : ItemDef) (element : ℕ) where
  abbrev with_more : List LocalError → List (List ℕ) → List LocalError
  with_more all values = merged all (item_errors rules element (demanded false item) values)

  with-nothing : (all : List LocalError) → with_more all [] ≡ all
  with-nothing all = ap (merged all) (nothing-told rules item element) ∙ merged-no_fresh all

  pub gathered-put : (all : List LocalError) (read : List (List (List ℕ))) (values : List (List ℕ)) → gathered rules item element all (read ++ values ∷ []) ≡ with_more (gathered rules item element all read) values
  gathered-put all [] values = refl
  gathered-put all (one ∷ read) values = gathered-put (with_more all one) read values

  gathered-none : (g : ℕ → List (List ℕ)) → (all : List LocalError) (first len : ℕ) → ((k : ℕ) → first ≤ k → g k ≡ []) → gathered rules item element all (map g (range_with_len first len)) ≡ all
  gathered-none g all first zero none = refl
  gathered-none g all first (suc len) none =
      ap (λ vs. gathered rules item element (with_more all vs) (map g (range_with_len (first + 1) len))) (none first (omega arith))
      ∙ ap (λ es. gathered rules item element es (map g (range_with_len (first + 1) len))) (with-nothing all)
      ∙ gathered-none g all (first + 1) len (λ k le. none k (omega arith))

  -- one repetition among those that are left, before which there is none: it is put first
  module _ (g h : ℕ → List (List ℕ)) (r : ℕ) (none : (k : ℕ) → k < r → g k ≡ []) (past : (k : ℕ) → k < r + 1 → h k ≡ []) (same : (k : ℕ) → (k ≡ r → ⊥) → g k ≡ h k) where
    gathered-next : (all : List LocalError) (first len : ℕ) → first ≤ r → r < first + len
        → gathered rules item element all (map g (range_with_len first len)) ≡ gathered rules item element (with_more all (g r)) (map h (range_with_len first len))
    gathered-next all first zero low high = absurd (omega arith)
    gathered-next all first (suc len) low high = elim (cases_Bool (eqb first r)) [
      | inl here ↦
          let is : first ≡ r = eq-is first r here in
          ap (λ (n : ℕ). gathered rules item element (with_more all (g n)) (map g (range_with_len (first + 1) len))) is
          ∙ ap (λ vss. gathered rules item element (with_more all (g r)) vss) (map-range g h (first + 1) len (λ k le. same k (λ e. omega arith)))
          ∙ sym (ap (λ vs. gathered rules item element (with_more (with_more all (g r)) vs) (map h (range_with_len (first + 1) len))) (past first (omega arith))
          ∙ ap (λ es. gathered rules item element es (map h (range_with_len (first + 1) len))) (with-nothing (with_more all (g r))))
      | inr other ↦
          let differs : first ≡ r → ⊥ = eq-differs first r other in
          ap (λ vs. gathered rules item element (with_more all vs) (map g (range_with_len (first + 1) len))) (none first (omega arith))
          ∙ ap (λ es. gathered rules item element es (map g (range_with_len (first + 1) len))) (with-nothing all)
          ∙ gathered-next all (first + 1) len (omega arith) (omega arith)
          ∙ sym (ap (λ vs. gathered rules item element (with_more (with_more all (g r)) vs) (map h (range_with_len (first + 1) len))) (past first (omega arith))
          ∙ ap (λ es. gathered rules item element es (map h (range_with_len (first + 1) len))) (with-nothing (with_more all (g r))))
    ]

-- the repetitions past the greatest number of an item
drop-range : {Y : Type 0} (f : ℕ → Y) (k first len : ℕ) → drop k (map f (range_with_len first len)) ≡ map f (range_with_len (first + k) (len - k))
drop-range f zero first len = let same : len ≡ len - 0 = omega arith in let from : first ≡ first + 0 = omega arith in ap (λ (n : ℕ). map f (range_with_len first n)) same ∙ ap (λ (n : ℕ). map f (range_with_len n (len - 0))) from
drop-range f (suc k) first zero = let none : 0 ≡ zero - suc k = omega arith in ap (λ (n : ℕ). map f (range_with_len (first + suc k) n)) none
drop-range f (suc k) first (suc len) =
    let from : first + 1 + k ≡ first + suc k = omega arith in
    let same : len - k ≡ suc len - suc k = omega arith in
    drop-range f k (first + 1) len ∙ ap (λ (n : ℕ). map f (range_with_len n (len - k))) from ∙ ap (λ (n : ℕ). map f (range_with_len (first + suc k) n)) same

or_false : (b : Bool) → (b || false) ≡ b
or_false true = refl
or_false false = refl

module _ (item : ItemDef) (element : ℕ) (all : List Component) where
  -- some repetition of these components, past the greatest number, is used
  abbrev pub is_excess_in : List Component → Bool
  is_excess_in xs = some_in is_used xs element (1 + reps_of item) (last_repetition all element - reps_of item)

  excess-all : is_excess_in all ≡ is_repeated_too_often (Some item) (repetitions_of all element)
  excess-all =
      sym (ap (list_any is_used) (drop-range (values_in all element) (reps_of item) 1 (last_repetition all element))
      ∙ any-map is_used (values_in all element) (1 + reps_of item) (last_repetition all element - reps_of item))

  excess-step : (r : ℕ) (xs : List Component) → AreOrdered element r xs → r ≤ last_repetition all element
      → ((ltb (reps_of item) r && is_used (front_run element r xs)) || is_excess_in (after_run element r xs)) ≡ is_excess_in xs
  excess-step r xs order within = elim (cases_Bool (ltb (reps_of item) r)) [
    | inl past ↦
        let above : reps_of item < r = grind (arith, nat_tests) in
        ap (λ b. (b && is_used (front_run element r xs)) || is_excess_in (after_run element r xs)) past
        ∙ sym (run-some is_used refl element r xs order (1 + reps_of item) (last_repetition all element - reps_of item) (omega arith) (omega arith))
    | inr not_past ↦
        let below : r ≤ reps_of item = grind (arith, nat_tests) in
        ap (λ b. (b && is_used (front_run element r xs)) || is_excess_in (after_run element r xs)) not_past
        ∙ sym (run-below is_used refl element r xs order (1 + reps_of item) (last_repetition all element - reps_of item) (omega arith))
  ]

-- what was gathered of the repetitions of an element that were read, where these components are left: `first` are the
-- errors of its first repetition, and `start` its components
pub record IsGathered (rules : SegmentRules) (item : ItemDef) (element : ℕ) (start : List Component) (first all : List LocalError) (excess : Bool) (xs : List Component) : Type 0 where
  pub read : List (List (List ℕ))
  pub told : all ≡ gathered rules item element first read
  pub left : gathered rules item element all (map (values_in xs element) (range_with_len 2 (last_repetition start element - 1)))
      ≡ gathered rules item element first (later_repetitions start element)
  pub seldom : (excess || is_excess_in item element start xs) ≡ is_repeated_too_often (Some item) (repetitions_of start element)
  pub ordered : AreOrdered element 2 xs
  pub within : last_repetition xs element ≤ last_repetition start element
  pub fewer : length xs ≤ length start
  pub after : after_front element xs ≡ after_front element start

module _ (rules : SegmentRules) (item : ItemDef) (element : ℕ) (start : List Component) (order : AreOrdered element 1 start) where
  -- after the first repetition
  pub gathered-first : (first : List LocalError) (excess : Bool) → excess ≡ (ltb (reps_of item) 1 && is_used (front_run element 1 start)) → IsGathered rules item element start first first excess (after_run element 1 start)
  gathered-first first excess is =
      let least = last-some start element in
      record {
        read = [];
        told = refl;
        left = ap (gathered rules item element first)
            (map-range (values_in (after_run element 1 start) element) (values_in start element) 2 (last_repetition start element - 1) (λ k le. sym (run-others element 1 k start (λ e. omega arith))));
        seldom = ap (λ b. b || is_excess_in item element start (after_run element 1 start)) is ∙ excess-step item element start 1 start order least ∙ excess-all item element start;
        ordered = ordered-run element 1 start order;
        within = after_run-last element 1 start;
        fewer = after_run-length element 1 start;
        after = after_run-front element 1 start;
      }

  module _ (first all : List LocalError) (excess : Bool) (xs : List Component) (so_far : IsGathered rules item element start first all excess xs) where
    -- after one more
    module _ (r : ℕ) (next : is_next element xs ≡ true) (here : IsAtRepetition element r xs) where
      more-order : AreOrdered element r xs
      more-order = ordered-at element r xs (ordered-more element 2 0 xs (omega arith) so_far.ordered) here

      more-left : gathered rules item element (merged all (item_errors rules element (demanded false item) (front_run element r xs))) (map (values_in (after_run element r xs) element) (range_with_len 2 (last_repetition start element - 1)))
          ≡ gathered rules item element first (later_repetitions start element)
      more-left =
          let low = next-from element 2 r xs so_far.ordered next here in
          let most = next-last element r xs next here in
          let bound = so_far.within in
          let least = last-some start element in
          ap (λ vs. gathered rules item element (merged all (item_errors rules element (demanded false item) vs)) (map (values_in (after_run element r xs) element) (range_with_len 2 (last_repetition start element - 1)))) (sym (run-values element r xs more-order))
          ∙ sym (gathered-next rules item element (values_in xs element) (values_in (after_run element r xs) element) r
          (λ k less. values-before element r k xs more-order less)
          (λ k less. values-before element (r + 1) k (after_run element r xs) (ordered-run element r xs more-order) less)
          (λ k differs. run-others element r k xs differs)
          all 2 (last_repetition start element - 1) low (omega arith))
          ∙ so_far.left

      pub gathered-more : (now : List LocalError) (over : Bool) → now ≡ merged all (item_errors rules element (demanded false item) (front_run element r xs)) → over ≡ (excess || (ltb (reps_of item) r && is_used (front_run element r xs)))
          → IsGathered rules item element start first now over (after_run element r xs)
      gathered-more now over now_is over_is =
          let low = next-from element 2 r xs so_far.ordered next here in
          let most = next-last element r xs next here in
          let bound = so_far.within in
          let last = after_run-last element r xs in
          let few = after_run-length element r xs in
          let fewer = so_far.fewer in
          record {
            read = so_far.read ++ front_run element r xs ∷ [];
            told = now_is ∙ ap (λ es. merged es (item_errors rules element (demanded false item) (front_run element r xs))) so_far.told ∙ sym (gathered-put rules item element first so_far.read (front_run element r xs));
            left = ap (λ es. gathered rules item element es (map (values_in (after_run element r xs) element) (range_with_len 2 (last_repetition start element - 1)))) now_is ∙ more-left;
            seldom = ap (λ b. b || is_excess_in item element start (after_run element r xs)) over_is
                ∙ or-join excess (ltb (reps_of item) r && is_used (front_run element r xs)) (is_excess_in item element start (after_run element r xs))
                ∙ ap (λ b. excess || b) (excess-step item element start r xs more-order (omega arith)) ∙ so_far.seldom;
            ordered = ordered-more element (r + 1) 2 (after_run element r xs) (omega arith) (ordered-run element r xs more-order);
            within = omega arith;
            fewer = omega arith;
            after = after_run-front element r xs ∙ so_far.after;
          }

      -- no more is gathered than all
      pub gathered-within : length (merged all (item_errors rules element (demanded false item) (front_run element r xs))) ≤ length (gathered rules item element first (later_repetitions start element))
      gathered-within =
          subst (λ (es : List LocalError). length (merged all (item_errors rules element (demanded false item) (front_run element r xs))) ≤ length es) more-left
          (gathered-longer rules item element (merged all (item_errors rules element (demanded false item) (front_run element r xs))) (map (values_in (after_run element r xs) element) (range_with_len 2 (last_repetition start element - 1))))

    -- after the last
    module _ (past : is_next element xs ≡ false) where
      past-order : AreOrdered element 0 xs
      past-order = ordered-more element 2 0 xs (omega arith) so_far.ordered

      pub gathered-all : all ≡ gathered rules item element first (later_repetitions start element)
      gathered-all = sym (gathered-none rules item element (values_in xs element) all 2 (last_repetition start element - 1) (λ k le. past-values element xs past-order past k)) ∙ so_far.left

      pub gathered-excess : excess ≡ is_repeated_too_often (Some item) (repetitions_of start element)
      gathered-excess =
          sym (ap (λ b. excess || b) (past-some element xs past-order past is_used refl (1 + reps_of item) (last_repetition start element - reps_of item)) ∙ or_false excess)
          ∙ so_far.seldom

      pub gathered-after : xs ≡ after_front element start
      gathered-after = sym (past-front element xs past) ∙ so_far.after

-- the errors of an element, of which all repetitions were read
module _ (rules : SegmentRules) (item : ItemDef) (element : ℕ) (start : List Component) (missing : Bool) (missing_is : missing ≡ list_all (is_missing item) (repetitions_of start element)) where
  abbrev pub first_errors : List LocalError
  first_errors = item_errors rules element (demanded missing item) (values_in start element 1)

  missing-so : missing ≡ list_all (is_missing item) (values_in start element 1 ∷ later_repetitions start element)
  missing-so = missing_is ∙ ap (list_all (is_missing item)) (repetitions-all element start)

  excess-so : (excess : Bool) → excess ≡ is_repeated_too_often (Some item) (repetitions_of start element) → excess ≡ is_repeated_too_often (Some item) (values_in start element 1 ∷ later_repetitions start element)
  excess-so excess is = is ∙ ap (is_repeated_too_often (Some item)) (repetitions-all element start)

  put-together : (excess : Bool) → excess ≡ is_repeated_too_often (Some item) (repetitions_of start element)
      → merged (gathered rules item element first_errors (later_repetitions start element)) (when excess (error_at element 0 TooManyRepetitions)) ≡ element_errors rules (Some item) (repetitions_of start element) element
  put-together excess is =
      gathered-is rules item element (values_in start element 1) (later_repetitions start element) missing excess missing-so (excess-so excess is)
      ∙ ap (λ rs. element_errors rules (Some item) rs element) (sym (repetitions-all element start))

  -- those of some repetitions are no more
  pub element-longer : length (gathered rules item element first_errors (later_repetitions start element)) ≤ length (element_errors rules (Some item) (repetitions_of start element) element)
  element-longer =
      subst (λ (es : List LocalError). length (gathered rules item element first_errors (later_repetitions start element)) ≤ length es)
      (put-together (is_repeated_too_often (Some item) (repetitions_of start element)) refl)
      (merged-longer (gathered rules item element first_errors (later_repetitions start element)) (when (is_repeated_too_often (Some item) (repetitions_of start element)) (error_at element 0 TooManyRepetitions)))

  pub first-longer : length first_errors ≤ length (element_errors rules (Some item) (repetitions_of start element) element)
  first-longer =
      let one = gathered-longer rules item element first_errors (later_repetitions start element) in
      let two = element-longer in
      omega arith

  lacks-first : missing ≡ true → has_needed item (values_in start element 1) ≡ false
  lacks-first lacking =
      lacks-needed rules item (values_in start element 1) (and_parts (is_missing item (values_in start element 1)) (list_all (is_missing item) (later_repetitions start element)) (sym missing-so ∙ lacking)).0

  module _ (all : List LocalError) (excess : Bool) (xs : List Component) (so_far : IsGathered rules item element start first_errors all excess xs) where
    pub so_far-ascending : AreAscending all
    so_far-ascending = subst AreAscending (sym so_far.told) (gathered-ascending rules item element (values_in start element 1) so_far.read missing lacks-first)

    pub so_far-all : (order : AreOrdered element 1 start) → is_next element xs ≡ false → merged all (when excess (error_at element 0 TooManyRepetitions)) ≡ element_errors rules (Some item) (repetitions_of start element) element
    so_far-all order past =
        ap (λ es. merged es (when excess (error_at element 0 TooManyRepetitions))) (gathered-all rules item element start order first_errors all excess xs so_far past)
        ∙ put-together excess (gathered-excess rules item element start order first_errors all excess xs so_far past)

-- what is known of an element once its first repetition was read: its values, whether it lacks one, whether it is one too
-- many, and the components after it
pub record IsBegun (item : ItemDef) (element : ℕ) (rest : List Component) (missing excess : Bool) (values : List (List ℕ)) (after : List Component) : Type 0 where
  pub missing_is : missing ≡ list_all (is_missing item) (repetitions_of (after_run element 0 rest) element)
  pub excess_is : excess ≡ (ltb (reps_of item) 1 && is_used (front_run element 1 (after_run element 0 rest)))
  pub values_is : values ≡ values_in (after_run element 0 rest) element 1
  pub after_is : after ≡ after_run element 1 (after_run element 0 rest)

pub begun : (item : ItemDef) (element : ℕ) (rest xs : List Component) (r0 r1 : ℕ) (missing excess : Bool) (v1 v2 : List (List ℕ)) (after : List Component)
    → AreOrdered element 0 rest → xs ≡ after_run element 0 rest → r0 ≡ 1 → missing ≡ list_all (is_missing item) (repetitions_of xs element)
    → r1 ≡ r0 → v1 ≡ front_run element r0 xs → excess ≡ (ltb (reps_of item) r1 && is_used v1) → v2 ≡ v1 → after ≡ after_run element r0 xs
    → IsBegun item element rest missing excess v2 after
begun item element rest xs r0 r1 missing excess v1 v2 after order xs_is first missing_is same v1_is excess_is v2_is after_is =
    let start : List Component = after_run element 0 rest in
    let front : v1 ≡ front_run element 1 start = v1_is ∙ ap (λ (r : ℕ). front_run element r xs) first ∙ ap (front_run element 1) xs_is in
    record {
      missing_is = missing_is ∙ ap (λ (cs : List Component). list_all (is_missing item) (repetitions_of cs element)) xs_is;
      excess_is = excess_is ∙ ap (λ (r : ℕ). ltb (reps_of item) r && is_used v1) (same ∙ first) ∙ ap (λ (vs : List (List ℕ)). ltb (reps_of item) 1 && is_used vs) front;
      values_is = v2_is ∙ front ∙ sym (run-values element 1 start (ordered-run element 0 rest order));
      after_is = after_is ∙ ap (λ (r : ℕ). after_run element r xs) first ∙ ap (after_run element 1) xs_is;
    }

module _ (rules : SegmentRules) (item : ItemDef) (element : ℕ) (rest : List Component) (order : AreOrdered element 0 rest) (missing first_excess : Bool) (values : List (List ℕ)) (after : List Component) (b : IsBegun item element rest missing first_excess values after) where
  abbrev from_one : List Component
  from_one = after_run element 0 rest

  from-order : AreOrdered element 1 from_one
  from-order = ordered-run element 0 rest order

  abbrev all_errors : List LocalError
  all_errors = element_errors rules (Some item) (repetitions_of rest element) element

  abbrev errors_first : List LocalError
  errors_first = item_errors rules element (demanded missing item) (values_in from_one element 1)

  all-same : element_errors rules (Some item) (repetitions_of from_one element) element ≡ all_errors
  all-same = ap (λ rs. element_errors rules (Some item) rs element) (unnumbered-same element rest)

  pub begun-few : (n : ℕ) → length rest < n → length values < n
  begun-few n few =
      let one : length values ≡ length (front_run element 1 from_one) = ap length (b.values_is ∙ run-values element 1 from_one from-order) in
      let two = run-few element 1 n from_one (let fewer = after_run-length element 0 rest in omega arith) in
      omega arith

  first-most : length errors_first ≤ length all_errors
  first-most = subst (λ (es : List LocalError). length errors_first ≤ length es) all-same (first-longer rules item element from_one missing b.missing_is)

  pub begun-full : (old : List LocalError) → 4 < length old + length (item_errors rules element (demanded missing item) values) → 4 < length old + length all_errors
  begun-full old full =
      let same : length (item_errors rules element (demanded missing item) values) ≡ length errors_first = ap (λ vs. length (item_errors rules element (demanded missing item) vs)) b.values_is in
      let most = first-most in
      omega arith

  pub begun-gathered : (all : List LocalError) (xs : List Component) → all ≡ item_errors rules element (demanded missing item) values → xs ≡ after → IsGathered rules item element from_one errors_first all first_excess xs
  begun-gathered all xs all_is xs_is =
      subst (λ (es : List LocalError). IsGathered rules item element from_one errors_first es first_excess xs) (sym (all_is ∙ ap (λ vs. item_errors rules element (demanded missing item) vs) b.values_is))
      (subst (λ (cs : List Component). IsGathered rules item element from_one errors_first errors_first first_excess cs) (sym (xs_is ∙ b.after_is))
      (gathered-first rules item element from_one from-order errors_first first_excess b.excess_is))

  -- the errors of the repetitions that were read
  module _ (all : List LocalError) (excess : Bool) (xs : List Component) (so_far : IsGathered rules item element from_one errors_first all excess xs) where
    pub more-ascending : AreAscending all
    more-ascending = so_far-ascending rules item element from_one missing b.missing_is all excess xs so_far

    pub end-errors : is_next element xs ≡ false → merged all (when excess (error_at element 0 TooManyRepetitions)) ≡ all_errors
    end-errors past = so_far-all rules item element from_one missing b.missing_is all excess xs so_far from-order past ∙ all-same

    pub end-after : is_next element xs ≡ false → xs ≡ after_front element rest
    end-after past = gathered-after rules item element from_one from-order errors_first all excess xs so_far past ∙ after_run-front element 0 rest

    -- and of one more
    module _ (ys : List Component) (r : ℕ) (ys_is : ys ≡ xs) (next : is_next element ys ≡ true) (here : IsAtRepetition element r ys) (more : List (List ℕ)) (more_is : more ≡ front_run element r ys) where
      here-gathered : IsGathered rules item element from_one errors_first all excess ys
      here-gathered = subst (IsGathered rules item element from_one errors_first all excess) (sym ys_is) so_far

      pub more-few : (n : ℕ) → length rest < n → length more < n
      more-few n few =
          let same : length more ≡ length (front_run element r ys) = ap length more_is in
          let fewer = here-gathered.fewer in
          let fewest = after_run-length element 0 rest in
          let run = run-few element r n ys (omega arith) in
          omega arith

      pub more-full : (old : List LocalError) → 4 < length (merged all (item_errors rules element (demanded false item) more)) → 4 < length old + length all_errors
      more-full old full =
          let full_run : 4 < length (merged all (item_errors rules element (demanded false item) (front_run element r ys))) = subst (λ (vs : List (List ℕ)). 4 < length (merged all (item_errors rules element (demanded false item) vs))) more_is full in
          let most = gathered-within rules item element from_one from-order errors_first all excess ys here-gathered r next here in
          let longer : length (gathered rules item element errors_first (later_repetitions from_one element)) ≤ length all_errors =
          subst (λ (es : List LocalError). length (gathered rules item element errors_first (later_repetitions from_one element)) ≤ length es) all-same (element-longer rules item element from_one missing b.missing_is) in
          omega arith

      pub more-so_far : (now : List LocalError) (over : Bool) (zs : List Component) (r1 : ℕ) (used : List (List ℕ)) → now ≡ merged all (item_errors rules element (demanded false item) more)
          → r1 ≡ r → used ≡ front_run element r ys → over ≡ (excess || (ltb (reps_of item) r1 && is_used used)) → zs ≡ after_run element r ys → IsGathered rules item element from_one errors_first now over zs
      more-so_far now over zs r1 used now_is same used_is over_is zs_is =
          subst (IsGathered rules item element from_one errors_first now over) (sym zs_is)
          (gathered-more rules item element from_one from-order errors_first all excess ys here-gathered r next here now over
          (now_is ∙ ap (λ vs. merged all (item_errors rules element (demanded false item) vs)) more_is)
          (over_is ∙ ap (λ (n : ℕ). excess || (ltb (reps_of item) n && is_used used)) same ∙ ap (λ (vs : List (List ℕ)). excess || (ltb (reps_of item) r && is_used vs)) used_is))

  -- there is one repetition, and not too many
  pub begun-done : (old now : List LocalError) (xs : List Component) → now ≡ old ++ item_errors rules element (demanded missing item) values → first_excess ≡ false → xs ≡ after → is_next element xs ≡ false → now ≡ old ++ all_errors
  begun-done old now xs now_is seldom xs_is past =
      now_is ∙ ap (λ (es : List LocalError). old ++ es)
      (sym (merged-no_fresh (item_errors rules element (demanded missing item) values))
      ∙ sym (ap (λ (e : Bool). merged (item_errors rules element (demanded missing item) values) (when e (error_at element 0 TooManyRepetitions))) seldom)
      ∙ end-errors (item_errors rules element (demanded missing item) values) first_excess xs (begun-gathered _ xs refl xs_is) past)

  pub begun-after : (xs : List Component) → xs ≡ after → is_next element xs ≡ false → xs ≡ after_front element rest
  begun-after xs xs_is past = end-after (item_errors rules element (demanded missing item) values) first_excess xs (begun-gathered _ xs refl xs_is) past

-- a list that was parted at the end of what was there before
pub front-of : (old now first : List LocalError) (n : ℕ) → now ≡ old ++ first → n ≡ length old → take n now ≡ old
front-of old now first n now_is n_is = ap (λ (k : ℕ). take k now) n_is ∙ ap (take (length old)) now_is ∙ take-append_seam old first

pub later-of : (old now first : List LocalError) (n : ℕ) → now ≡ old ++ first → n ≡ length old → drop n now ≡ first
later-of old now first n now_is n_is = ap (λ (k : ℕ). drop k now) n_is ∙ ap (drop (length old)) now_is ∙ drop-append_seam old first
