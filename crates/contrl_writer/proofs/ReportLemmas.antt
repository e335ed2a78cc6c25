-- The blocks of a message, segment by segment.
use Rattle.std.proofs.Common.{◌≡◌, ◌≢◌, ℕ, zero, suc, ◌+◌, ◌-◌, ◌<◌, ◌≤◌, min, Bool, true, false, cond, eqb, leb, Some, None, List, [], ◌∷◌, ◌++◌, length, get_or, take, drop, refl, sym, ap, ◌∙◌, inl, inr, arith}
use Rattle.std.specs.List.{filter, flat_map, range_with_len, slice_get}
use Rattle.std.specs.List.Sorted.{IsNonDecreasingBy, IsPartitionPoint}
use Rattle.std.proofs.lemmas.List.{append-nil, get_or-drop, get_or-take, length-drop, length-take-le, take-append-drop}
use Rattle.std.proofs.lemmas.Grind.{flat_map-append}
use Rattle.std.proofs.lemmas.List.Elements.{filter-append}
use Rattle.std.proofs.lemmas.Bool.{and_parts, cases_Bool, cases_eq, eq-eqb, leb-false, leb-true, ne_eqb}
use Rattle.contrl_writer.specs.declared.level.ErrorLevel.TheVariants.{Message}
use Rattle.contrl_writer.specs.declared.level.Levelled.{Levelled}
use Rattle.contrl_writer.specs.declared.lower.Lower.{Lower}
use Rattle.contrl_segments.specs.declared.summary.MessageHead.{MessageHead}
use Rattle.contrl_writer.specs.Levels.{is_level}
use Rattle.contrl_writer.specs.Lower.{AreInMessage, joined, told, with_segments}
use Rattle.contrl_writer.specs.Raising.{segment_of}
use Rattle.contrl_writer.specs.Report.{errors_of_position, message_blocks, report, segment_blocks, ucm}
use Rattle.contrl_segments.specs.Written.{Segment}
use Rattle.contrl_writer.proofs.LowerLemmas.{take-append, take-nil, with_segments-append, with_segments-nil}

-- what holds of each item
abbrev Each : {X : Type 0} → (X → Type 0) → List X → Type 0
Each P [] = Unit {0}
Each P (x ∷ xs) = P x × Each P xs

module _ {X : Type 0} where
  each-read : (P : X → Type 0) (xs : List X) → ((k : ℕ) (d : X) → k < length xs → P (get_or xs k d)) → Each P xs
  each-read P [] all = tt
  each-read P (x ∷ xs) all = (all 0 x (omega arith), each-read P xs (λ k d below. all (suc k) d (omega arith)))

  each-filter : (P : X → Type 0) (p : X → Bool) (xs : List X) → Each P xs → Each P (filter p xs)
  each-filter P p [] each = tt
  each-filter P p (x ∷ xs) each = elim (cases_Bool (p x)) [
    | inl is ↦ rw is (each.0, each-filter P p xs each.1)
    | inr isnt ↦ rw isnt (each-filter P p xs each.1)
  ]

  each-map : (P Q : X → Type 0) (xs : List X) → ((x : X) → P x → Q x) → Each P xs → Each Q xs
  each-map P Q [] so each = tt
  each-map P Q (x ∷ xs) so each = (so x each.0, each-map P Q xs so each.1)

  filter-none : (p : X → Bool) (xs : List X) → Each (λ x. p x ≡ false) xs → filter p xs ≡ []
  filter-none p [] each = refl
  filter-none p (x ∷ xs) each = ap (λ (b : Bool). cond b (x ∷ filter p xs) (filter p xs)) each.0 ∙ filter-none p xs each.1

  filter-each : (p : X → Bool) (xs : List X) → Each (λ x. p x ≡ true) xs → filter p xs ≡ xs
  filter-each p [] each = refl
  filter-each p (x ∷ xs) each = ap (λ (b : Bool). cond b (x ∷ filter p xs) (filter p xs)) each.0 ∙ ap (λ (ys : List X). x ∷ ys) (filter-each p xs each.1)

-- what is made for each number of a range
module _ {Y : Type 0} where
  flat_map-none : (f : ℕ → List Y) (a n : ℕ) → ((q : ℕ) → a ≤ q → q < a + n → f q ≡ []) → flat_map f (range_with_len a n) ≡ []
  flat_map-none f a zero none = refl
  flat_map-none f a (suc n) none =
      ap (λ (ys : List Y). ys ++ flat_map f (range_with_len (a + 1) n)) (none a (omega arith) (omega arith))
      ∙ flat_map-none f (a + 1) n (λ q low high. none q (omega arith) (omega arith))

  flat_map-same : (f g : ℕ → List Y) (a n : ℕ) → ((q : ℕ) → a ≤ q → f q ≡ g q) → flat_map f (range_with_len a n) ≡ flat_map g (range_with_len a n)
  flat_map-same f g a zero same = refl
  flat_map-same f g a (suc n) same =
      ap (λ (ys : List Y). ys ++ flat_map f (range_with_len (a + 1) n)) (same a (omega arith))
      ∙ ap (λ (ys : List Y). g a ++ ys) (flat_map-same f g (a + 1) n (λ q low. same q (omega arith)))

  -- where nothing is made before p, and the same by both after it
  flat_map-split : (f g : ℕ → List Y) (p : ℕ) → ((q : ℕ) → q < p → f q ≡ []) → ((q : ℕ) → q ≤ p → g q ≡ []) → ((q : ℕ) → p < q → f q ≡ g q)
      → (a n : ℕ) → a ≤ p → p < a + n → flat_map f (range_with_len a n) ≡ f p ++ flat_map g (range_with_len a n)
  flat_map-split f g p f_none g_none same a zero low high = absurd (omega arith)
  flat_map-split f g p f_none g_none same a (suc n) low high = elim (cases_eq a p) [
    | inl here ↦
        let rest : List Y = flat_map g (range_with_len (a + 1) n) in
        ap (λ (ys : List Y). f a ++ ys) (flat_map-same f g (a + 1) n (λ q after. same q (omega arith)))
        ∙ (ap (λ (q : ℕ). f q ++ rest) here ∙ ap (λ (ys : List Y). f p ++ (ys ++ rest)) (sym (g_none a (omega arith))))
    | inr before ↦
        let rest : List Y = flat_map g (range_with_len (a + 1) n) in
        ap (λ (ys : List Y). ys ++ flat_map f (range_with_len (a + 1) n)) (f_none a (omega arith))
        ∙ (flat_map-split f g p f_none g_none same (a + 1) n (omega arith) (omega arith)
        ∙ ap (λ (ys : List Y). f p ++ (ys ++ rest)) (sym (g_none a (omega arith))))
  ]

module _ (m : MessageHead) where
  none-at : (q : ℕ) (es : List Levelled) → Each (λ x. m.first + q ≢ segment_of x + 1) es → errors_of_position m q es ≡ []
  none-at q es each = filter-none (λ x. eqb (x.error.segment + 1) (m.first + q)) es (each-map _ _ es (λ x other. ne_eqb (x.error.segment + 1) (m.first + q) (λ same. other (sym same))) each)

  all-at : (q : ℕ) (es : List Levelled) → Each (λ x. m.first + q ≡ segment_of x + 1) es → errors_of_position m q es ≡ es
  all-at q es each = filter-each (λ x. eqb (x.error.segment + 1) (m.first + q)) es (each-map _ _ es (λ x same. eq-eqb (x.error.segment + 1) (m.first + q) (sym same)) each)

  -- errors after the last position that is reported have no blocks
  far-blocks : (es : List Levelled) → Each (λ x. m.first + 999999 ≤ segment_of x) es → message_blocks m es ≡ []
  far-blocks es each =
      let count : ℕ = min 999999 (m.last + 1 - m.first) in
      flat_map-none (λ q. segment_blocks q (errors_of_position m q es)) 1 count (λ q low high.
      ap (segment_blocks q) (none-at q es (each-map _ _ es (λ x beyond. λ same. omega arith) each)))

  -- errors of one segment, and of later ones
  split-blocks : (s : ℕ) (here later : List Levelled) → m.first ≤ s → s ≤ m.last → s < m.first + 999999
      → Each (λ x. segment_of x ≡ s) here → Each (λ x. s < segment_of x) later
      → message_blocks m (here ++ later) ≡ segment_blocks (s - m.first + 1) here ++ message_blocks m later
  split-blocks s here later first last near at after =
      let count : ℕ = min 999999 (m.last + 1 - m.first) in
      let p : ℕ = s - m.first + 1 in
      let f : ℕ → List (List Segment) = λ q. segment_blocks q (errors_of_position m q (here ++ later)) in
      let g : ℕ → List (List Segment) = λ q. segment_blocks q (errors_of_position m q later) in
      let both : (q : ℕ) → errors_of_position m q (here ++ later) ≡ errors_of_position m q here ++ errors_of_position m q later = λ q. filter-append (λ x. eqb (x.error.segment + 1) (m.first + q)) here later in
      let no_here : (q : ℕ) → (q ≢ p) → errors_of_position m q here ≡ [] = λ q other. none-at q here (each-map _ _ here (λ x is. λ same. other (omega arith)) at) in
      let no_later : (q : ℕ) → q ≤ p → errors_of_position m q later ≡ [] = λ q low. none-at q later (each-map _ _ later (λ x is. λ same. omega arith) after) in
      let own : errors_of_position m p (here ++ later) ≡ here =
      both p ∙ (ap (λ es. es ++ errors_of_position m p later) (all-at p here (each-map _ _ here (λ x is. omega arith) at)) ∙ (ap (λ es. here ++ es) (no_later p (omega arith)) ∙ append-nil here)) in
      flat_map-split f g p
      (λ q low. ap (segment_blocks q) (both q ∙ (ap (λ es. es ++ errors_of_position m q later) (no_here q (λ same. omega arith)) ∙ no_later q (omega arith))))
      (λ q low. ap (segment_blocks q) (no_later q low))
      (λ q high. ap (segment_blocks q) (both q ∙ ap (λ es. es ++ errors_of_position m q later) (no_here q (λ same. omega arith))))
      1 count (omega arith) (omega arith)
      ∙ ap (λ es. segment_blocks p es ++ message_blocks m later) own

  module _ (rest : List Levelled) (x : Levelled) (first_is : slice_get rest 0 ≡ Some x) (order : IsNonDecreasingBy segment_of rest) where
    first-read : (xs : List Levelled) (d : Levelled) → slice_get xs 0 ≡ Some x → get_or xs 0 d ≡ x
    first-read [] d is = cc
    first-read (y ∷ ys) d is = cc

    filled : (xs : List Levelled) → slice_get xs 0 ≡ Some x → 0 < length xs
    filled [] is = cc
    filled (y ∷ ys) is = omega arith

    from-first : (k : ℕ) (d : Levelled) → k < length rest → segment_of x ≤ segment_of (get_or rest k d)
    from-first k d below =
        let least : segment_of (get_or rest 0 d) ≤ segment_of (get_or rest k d) = order 0 k d (omega arith) below in
        let same : segment_of (get_or rest 0 d) ≡ segment_of x = ap segment_of (first-read rest d first_is) in
        omega arith

    -- it is at a segment of the message
    pub own-first : AreInMessage m rest → (m.first ≤ segment_of x) × (segment_of x ≤ m.last)
    own-first own =
        let here = own 0 x (filled rest first_is) in
        let same : segment_of (get_or rest 0 x) ≡ segment_of x = ap segment_of (first-read rest x first_is) in
        let parts = and_parts (leb m.first (segment_of (get_or rest 0 x))) (leb (segment_of (get_or rest 0 x)) m.last) here in
        let low = leb-true m.first (segment_of (get_or rest 0 x)) parts.0 in
        let high = leb-true (segment_of (get_or rest 0 x)) m.last parts.1 in
        (omega arith, omega arith)

    -- the first error is after the last position that is reported
    pub far-rest : 999999 ≤ segment_of x - m.first → message_blocks m (told rest) ≡ []
    far-rest far = far-blocks (told rest) (each-filter (λ y. m.first + 999999 ≤ segment_of y) (λ y. is_level Message y.level) rest (each-read (λ y. m.first + 999999 ≤ segment_of y) rest (λ k d below.
        let low = from-first k d below in omega arith)))

    module _ (k : ℕ) (within : k ≤ length rest) (point : IsPartitionPoint (λ y. leb (segment_of y) (segment_of x) ≡ true) (λ y. leb (segment_of y) (segment_of x) ≡ false) rest k) where
      -- one error at least is of the first segment
      pub some-here : 0 < k
      some-here = elim (cases_eq k 0) [
        | inl none ↦
            let some : 0 < length rest = filled rest first_is in
            let after : leb (segment_of (get_or rest 0 x)) (segment_of x) ≡ false = point.1 0 x (omega arith) some in
            let same : segment_of (get_or rest 0 x) ≡ segment_of x = ap segment_of (first-read rest x first_is) in
            let later : segment_of x < segment_of (get_or rest 0 x) = leb-false _ _ after in
            absurd (omega arith)
        | inr some ↦ omega arith
      ]

      here-each : Each (λ y. segment_of y ≡ segment_of x) (told (take k rest))
      here-each = each-filter _ (λ y. is_level Message y.level) (take k rest) (each-read (λ y. segment_of y ≡ segment_of x) (take k rest) (λ i d below.
          let long : length (take k rest) ≡ k = length-take-le k rest within in
          let same : segment_of (get_or (take k rest) i d) ≡ segment_of (get_or rest i d) = ap segment_of (get_or-take k rest i d (omega arith)) in
          let low = from-first i d (omega arith) in
          let high = leb-true (segment_of (get_or rest i d)) (segment_of x) (point.0 i d (omega arith) (omega arith)) in
          omega arith))

      later-each : Each (λ y. segment_of x < segment_of y) (told (drop k rest))
      later-each = each-filter _ (λ y. is_level Message y.level) (drop k rest) (each-read (λ y. segment_of x < segment_of y) (drop k rest) (λ i d below.
          let long : length (drop k rest) ≡ length rest - k = length-drop k rest in
          let same : segment_of (get_or (drop k rest) i d) ≡ segment_of (get_or rest (k + i) d) = ap segment_of (get_or-drop k rest i d) in
          let high = leb-false (segment_of (get_or rest (k + i) d)) (segment_of x) (point.1 (k + i) d (omega arith) (omega arith)) in
          omega arith))

      -- its blocks come first
      pub first-blocks : m.first ≤ segment_of x → segment_of x ≤ m.last → segment_of x - m.first < 999999
          → message_blocks m (told rest) ≡ segment_blocks (segment_of x - m.first + 1) (told (take k rest)) ++ message_blocks m (told (drop k rest))
      first-blocks low high near =
          ap (λ es. message_blocks m (told es)) (sym (take-append-drop k rest))
          ∙ (ap (message_blocks m) (filter-append (λ y. is_level Message y.level) (take k rest) (drop k rest))
          ∙ split-blocks (segment_of x) (told (take k rest)) (told (drop k rest)) low high (omega arith) here-each later-each)

  -- the report begins with its UCM
  pub report-start : (w now : Lower) (es : List Levelled) → now ≡ with_segments w (ucm m es ∷ []) → with_segments now (joined (take 999 (message_blocks m es))) ≡ with_segments w (report m es)
  unfolding report
  report-start w now es put = ap (λ (v : Lower). with_segments v (joined (take 999 (message_blocks m es)))) put ∙ with_segments-append w (ucm m es ∷ []) (joined (take 999 (message_blocks m es)))

joined-append : (xs ys : List (List Segment)) → joined (xs ++ ys) ≡ joined xs ++ joined ys
joined-append xs ys = flat_map-append (λ (b : List Segment). b) xs ys

-- blocks of which the first n are put, and then some of which as many are put as are left
pub blocks-step : (w now : Lower) (n left : ℕ) (xs ys zs : List (List Segment)) → now ≡ with_segments w (joined (take n xs)) → left ≡ n - length xs → zs ≡ xs ++ ys
    → with_segments now (joined (take left ys)) ≡ with_segments w (joined (take n zs))
blocks-step w now n left xs ys zs put rest all =
    ap (λ (v : Lower). with_segments v (joined (take left ys))) put
    ∙ (ap (λ (k : ℕ). with_segments (with_segments w (joined (take n xs))) (joined (take k ys))) rest
    ∙ (with_segments-append w (joined (take n xs)) (joined (take (n - length xs) ys))
    ∙ (ap (with_segments w) (sym (joined-append (take n xs) (take (n - length xs) ys)))
    ∙ ap (λ bs. with_segments w (joined bs)) (sym (take-append n xs ys) ∙ ap (take n) (sym all)))))

-- and where there are none
pub no-blocks : (w : Lower) (n : ℕ) (bs : List (List Segment)) → bs ≡ [] → w ≡ with_segments w (joined (take n bs))
no-blocks w n bs none = sym (ap (λ cs. with_segments w (joined (take n cs))) none ∙ (ap (λ cs. with_segments w (joined cs)) (take-nil n) ∙ with_segments-nil w))

pub blocks-none : (m : MessageHead) (es : List Levelled) → None ≡ slice_get es 0 → message_blocks m (told es) ≡ []
blocks-none m [] none = far-blocks m [] tt
blocks-none m (e ∷ es) none = cc
