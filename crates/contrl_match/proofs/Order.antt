-- Lists in order of a number: what comes number by number is all of it.
use Rattle.std.proofs.Common.{◌≡◌, ◌⊎◌, ℕ, zero, suc, ◌+◌, ◌<◌, ◌≤◌, Bool, true, false, ◌||◌, cond, eqb, List, [], ◌∷◌, ◌++◌, length, get_or, map, refl, sym, ap, subst, ◌∙◌, inl, inr, arith, true≢false, add-one}
use Rattle.std.specs.Prelude.{◌==◌, nat_lt, filter}
use Rattle.std.specs.Cmp.{IsStrictWeakOrder}
use Rattle.std.specs.List.{flat_map, range_with_len}
use Rattle.std.specs.List.Sorted.{IsSortedBy}
use Rattle.std.specs.Ordering.{is_lt, nat_cmp, ordering_then}
use Rattle.std.specs.declared.cmp.Ordering.{Ordering}
use Rattle.std.specs.declared.cmp.Ordering.TheVariants.{Less, Equal, Greater}
use Rattle.std.proofs.lemmas.Bool.{cases_Bool, cases_eq, cases_lt, eq-eqb, eqb-true, le-ltb, lt-ltb, ltb-true, ne_eqb}
use Rattle.std.proofs.lemmas.Cmp.{nat_list_cmp_total}
use Rattle.std.proofs.lemmas.List.Elements.{filter-append}
use Rattle.std.proofs.lemmas.List.Sorted.{ranks_by, sorted_far}
use Rattle.error_ledger.proofs.Sorting.{in_order-ascending}
use Rattle.error_ledger.specs.Kinds.{number_of}
use Rattle.error_ledger.specs.Order.{IsAscending, compare_keys, in_order, is_before, key_of}
use Rattle.error_ledger.specs.declared.error.ErrorLine.{ErrorLine}
use Rattle.contrl_segments.specs.declared.summary.MessageHead.{MessageHead}
use Rattle.contrl_segments.specs.declared.summary.Summary.{Summary}
use Rattle.contrl_writer.specs.Levels.{levelled, with_level}
use Rattle.contrl_writer.specs.Report.{errors_of_position}
use Rattle.contrl_writer.specs.declared.level.Levelled.{Levelled}
use Rattle.text_reading.proofs.Each.{Each, each-both, each-filter, each-kept, each-map, each-more}

-- each member is so to all after it
abbrev pub Up : {X : Type 0} → (X → X → Type 0) → List X → Type 0
Up R [] = Unit {0}
Up R (x ∷ xs) = Each (R x) xs × Up R xs

-- no member has a number below that of one before it
abbrev pub Rising : {X : Type 0} → (X → ℕ) → List X → Type 0
Rising n xs = Up (λ x y. n x ≤ n y) xs

-- an error is at an earlier segment, or at the same and at no later element
abbrev pub Before : ErrorLine → ErrorLine → Type 0
Before x y = (x.segment < y.segment) ⊎ ((x.segment ≡ y.segment) × (x.element ≤ y.element))

-- errors with their levels, in that order
abbrev pub InOrder : List Levelled → Type 0
InOrder es = Up (λ x y. Before x.error y.error) es

module _ {X : Type 0} (R : X → X → Type 0) where
  pub up-filter : (p : X → Bool) (xs : List X) → Up R xs → Up R (filter p xs)
  up-filter p [] up = tt
  up-filter p (x ∷ xs) up = elim (cases_Bool (p x)) [
    | inl is ↦ subst (λ (b : Bool). Up R (cond b (x ∷ filter p xs) (filter p xs))) (sym is) (each-filter (R x) p xs up.0, up-filter p xs up.1)
    | inr isnt ↦ subst (λ (b : Bool). Up R (cond b (x ∷ filter p xs) (filter p xs))) (sym isnt) (up-filter p xs up.1)
  ]

  pub up-more : (S : X → X → Type 0) → ((x y : X) → R x y → S x y) → (xs : List X) → Up R xs → Up S xs
  up-more S more [] up = tt
  up-more S more (x ∷ xs) up = (each-more (R x) (S x) (more x) xs up.0, up-more S more xs up.1)

  -- the same where each member is so
  up-where : (P : X → Type 0) (S : X → X → Type 0) → ((x y : X) → P x → P y → R x y → S x y) → (xs : List X) → Each P xs → Up R xs → Up S xs
  up-where P S more [] all up = tt
  up-where P S more (x ∷ xs) all up = (
    each-more (λ y. P y × R x y) (S x) (λ y both. more x y all.0 both.0 both.1) xs (each-both P (R x) xs all.1 up.0),
    up-where P S more xs all.1 up.1,
  )

module _ {X Y : Type 0} (R : X → X → Type 0) (S : Y → Y → Type 0) where
  pub up-map : (f : X → Y) → ((x y : X) → R x y → S (f x) (f y)) → (xs : List X) → Up R xs → Up S (map f xs)
  up-map f more [] up = tt
  up-map f more (x ∷ xs) up = (each-map (R x) (S (f x)) f (more x) xs up.0, up-map f more xs up.1)

-- a sorted list
each-read : {X : Type 0} (P : X → Type 0) (d : X) (xs : List X) → ((k : ℕ) → k < length xs → P (get_or xs k d)) → Each P xs
each-read P d [] all = tt
each-read P d (x ∷ xs) all = (all 0 (omega arith), each-read P d xs (λ k below. all (suc k) (omega arith)))

sorted_rest : {X : Type 0} (below : X → X → Bool) (x : X) (xs : List X) → IsSortedBy below (x ∷ xs) → IsSortedBy below xs
sorted_rest below x xs sorted = λ k d low high. rw add-one (rw add-one at (sorted (suc k) d (omega arith) (omega arith)))

up-sorted : {X : Type 0} (below : X → X → Bool) (R : X → X → Type 0) → IsStrictWeakOrder below → ((x y : X) → below y x ≡ false → R x y) → (xs : List X) → IsSortedBy below xs → Up R xs
up-sorted below R order so [] sorted = tt
up-sorted below R order so (x ∷ xs) sorted = (
  each-read (R x) x xs (λ k within. so x (get_or xs k x) (sorted_far below order (x ∷ xs) sorted 0 (suc k) x (omega arith) (omega arith))),
  up-sorted below R order so xs (sorted_rest below x xs sorted),
)

-- an error that isn't below another is after it
abbrev later_keys : ErrorLine → List ℕ
later_keys e = e.component ∷ number_of e.kind ∷ e.node ∷ []

not-below : (x y : ErrorLine) → is_before y x ≡ false → Before x y
unfolding key_of
not-below x y after =
    let last : Ordering = compare_keys (later_keys y) (later_keys x) in
    let keys : Ordering → Ordering → Bool = λ o p. is_lt (ordering_then o (ordering_then p last)) in
    elim (cases_lt y.segment x.segment) [
      | inl less ↦
          let lower : nat_cmp y.segment x.segment ≡ Less = ap (λ (b : Bool). cond b Less (cond (eqb y.segment x.segment) Equal Greater)) (lt-ltb y.segment x.segment less) in
          absurd (true≢false (sym (ap (λ (o : Ordering). keys o (nat_cmp y.element x.element)) lower) ∙ after))
      | inr least ↦ elim (cases_eq y.segment x.segment) [
        | inr differ ↦ inl (omega arith)
        | inl same ↦ elim (cases_lt y.element x.element) [
          | inr low ↦ inr (sym same, low)
          | inl less ↦
              let equal : nat_cmp y.segment x.segment ≡ Equal =
              ap (λ (b : Bool). cond b Less (cond (eqb y.segment x.segment) Equal Greater)) (le-ltb y.segment x.segment least)
              ∙ ap (λ (b : Bool). cond b Equal Greater) (eq-eqb y.segment x.segment same) in
              let lower : nat_cmp y.element x.element ≡ Less = ap (λ (b : Bool). cond b Less (cond (eqb y.element x.element) Equal Greater)) (lt-ltb y.element x.element less) in
              absurd (true≢false (sym (ap (λ (o : Ordering). keys o (nat_cmp y.element x.element)) equal ∙ ap (λ (p : Ordering). keys Equal p) lower) ∙ after))
        ]
      ]
    ]

-- errors in order are so
pub up-ascending : (es : List ErrorLine) → IsAscending es → Up Before es
up-ascending es ascending = up-sorted is_before Before (ranks_by nat_list_cmp_total key_of) not-below es ascending

pub levelled-order : (s : Summary) → InOrder (levelled s)
levelled-order s =
    up-map Before (λ x y. Before x.error y.error) (with_level s.groups s.messages) (λ x y before. before) (in_order s.errors) (up-ascending (in_order s.errors) (in_order-ascending s.errors))

-- the errors of a list in order, by their segments, and those of one segment by their elements
segment-least : (x y : ErrorLine) → Before x y → x.segment ≤ y.segment
segment-least x y (inl less) = omega arith
segment-least x y (inr both) = let same = both.0 in omega arith

element-least : (k : ℕ) (x y : ErrorLine) → x.segment + 1 ≡ k → y.segment + 1 ≡ k → Before x y → x.element ≤ y.element
element-least k x y one two (inl less) = absurd (omega arith)
element-least k x y one two (inr both) = both.1

pub segments-rise : (es : List Levelled) → InOrder es → Rising (λ x. x.error.segment) es
segments-rise es order = up-more (λ x y. Before x.error y.error) (λ x y. x.error.segment ≤ y.error.segment) (λ x y before. segment-least x.error y.error before) es order

pub elements-rise : (m : MessageHead) (position : ℕ) (es : List Levelled) → InOrder es → Rising (λ x. x.error.element) (errors_of_position m position es)
elements-rise m position es order =
    let k : ℕ = m.first + position in
    let here : Levelled → Bool = λ x. x.error.segment + 1 == k in
    up-where (λ (x y : Levelled). Before x.error y.error) (λ x. here x ≡ true) (λ x y. x.error.element ≤ y.error.element)
    (λ x y one two before. element-least k x.error y.error (eqb-true (x.error.segment + 1) k one) (eqb-true (y.error.segment + 1) k two) before)
    (filter here es) (each-kept here es) (up-filter (λ (x y : Levelled). Before x.error y.error) here es order)

filter-none : {X : Type 0} (p : X → Bool) (xs : List X) → Each (λ x. p x ≡ false) xs → filter p xs ≡ []
filter-none p [] each = refl
filter-none p (x ∷ xs) each = ap (λ (b : Bool). cond b (x ∷ filter p xs) (filter p xs)) each.0 ∙ filter-none p xs each.1

flat_map-same : {Y : Type 0} (f g : ℕ → List Y) (a k : ℕ) → ((q : ℕ) → a ≤ q → f q ≡ g q) → flat_map f (range_with_len a k) ≡ flat_map g (range_with_len a k)
flat_map-same f g a zero same = refl
flat_map-same f g a (suc k) same =
    ap (λ ys. ys ++ flat_map f (range_with_len (a + 1) k)) (same a (omega arith))
    ∙ ap (λ ys. g a ++ ys) (flat_map-same f g (a + 1) k (λ q low. same q (omega arith)))

module _ {X : Type 0} (n : X → ℕ) where
  abbrev at : ℕ → X → Bool
  at a x = n x + 1 == a

  abbrev past : ℕ → X → Bool
  past a x = nat_lt a (n x + 1)

  -- the members of the lowest number come first
  pub split-at : (a : ℕ) (xs : List X) → Rising n xs → Each (λ x. a ≤ n x + 1) xs
      → filter (λ x. n x + 1 == a) xs ++ filter (λ x. nat_lt a (n x + 1)) xs ≡ xs
  split-at a [] up least = refl
  split-at a (x ∷ xs) up least =
      let here : List X = filter (at a) xs in
      let later : List X = filter (past a) xs in
      let rest : here ++ later ≡ xs = split-at a xs up.1 least.1 in
      let low : a ≤ n x + 1 = least.0 in
      elim (cases_eq (n x + 1) a) [
        | inl same ↦
            ap (λ (b : Bool). cond b (x ∷ here) here ++ cond (past a x) (x ∷ later) later) (eq-eqb (n x + 1) a same)
            ∙ (ap (λ (b : Bool). (x ∷ here) ++ cond b (x ∷ later) later) (le-ltb a (n x + 1) (omega arith))
            ∙ ap (λ (ys : List X). x ∷ ys) rest)
        | inr differ ↦
            let none : here ≡ [] = filter-none (at a) xs (each-more (λ y. n x ≤ n y) (λ y. at a y ≡ false) (λ y above. ne_eqb (n y + 1) a (λ same. omega arith)) xs up.0) in
            ap (λ (b : Bool). cond b (x ∷ here) here ++ cond (past a x) (x ∷ later) later) (ne_eqb (n x + 1) a differ)
            ∙ (ap (λ (b : Bool). here ++ cond b (x ∷ later) later) (lt-ltb a (n x + 1) (omega arith))
            ∙ (ap (λ (ys : List X). ys ++ (x ∷ later)) none
            ∙ ap (λ (ys : List X). x ∷ ys) (sym (ap (λ (ys : List X). ys ++ later) none) ∙ rest)))
      ]

  -- what is made of the members of each number, one number after the other, is what is made of all
  pub by-position : {Y : Type 0} (h : List X → List Y) → h [] ≡ [] → ((xs ys : List X) → h (xs ++ ys) ≡ h xs ++ h ys)
      → (a p k : ℕ) (xs : List X) → Rising n xs → Each (λ x. a + p ≤ n x + 1) xs → Each (λ x. n x + 1 < a + p + k) xs
      → flat_map (λ q. h (filter (λ x. n x + 1 == a + q) xs)) (range_with_len p k) ≡ h xs
  by-position h none more a p zero [] up least most = sym none
  by-position h none more a p zero (x ∷ xs) up least most = let low = least.0 in let high = most.0 in absurd (omega arith)
  by-position h none more a p (suc k) xs up least most =
      let here : List X = filter (at (a + p)) xs in
      let later : List X = filter (past (a + p)) xs in
      let whole : here ++ later ≡ xs = split-at (a + p) xs up least in
      let apart : (q : ℕ) → p + 1 ≤ q → filter (at (a + q)) here ≡ [] = λ q low. filter-none (at (a + q)) here
      (each-more (λ x. at (a + p) x ≡ true) (λ x. at (a + q) x ≡ false)
      (λ x is. let same : n x + 1 ≡ a + p = eqb-true (n x + 1) (a + p) is in ne_eqb (n x + 1) (a + q) (λ other. omega arith))
      here (each-kept (at (a + p)) xs)) in
      let same : (q : ℕ) → p + 1 ≤ q → h (filter (at (a + q)) xs) ≡ h (filter (at (a + q)) later) = λ q low. ap h
      (ap (filter (at (a + q))) (sym whole) ∙ (filter-append (at (a + q)) here later ∙ ap (λ (ys : List X). ys ++ filter (at (a + q)) later) (apart q low))) in
      ap (λ ys. h here ++ ys)
      (flat_map-same (λ q. h (filter (at (a + q)) xs)) (λ q. h (filter (at (a + q)) later)) (p + 1) k same
      ∙ by-position h none more a (p + 1) k later (up-filter (λ x y. n x ≤ n y) (past (a + p)) xs up)
      (each-more (λ x. past (a + p) x ≡ true) (λ x. a + (p + 1) ≤ n x + 1) (λ x is. let above : a + p < n x + 1 = ltb-true (a + p) (n x + 1) is in omega arith) later (each-kept (past (a + p)) xs))
      (each-filter (λ x. n x + 1 < a + (p + 1) + k) (past (a + p)) xs (each-more (λ x. n x + 1 < a + p + suc k) (λ x. n x + 1 < a + (p + 1) + k) (λ x below. omega arith) xs most)))
      ∙ (sym (more here later) ∙ ap h whole)

  not-one : (p : X → Bool) (y : X) (k : ℕ) → 1 ≤ k → k ≤ n y → (p y ≡ true → n y ≡ 0) → p y ≡ false
  not-one p y k some above none = elim (cases_Bool (p y)) [
    | inl is ↦ let zero_is : n y ≡ 0 = none is in absurd (omega arith)
    | inr isnt ↦ isnt
  ]

  -- those of number 0 come before the others
  pub parted : (p q : X → Bool) (xs : List X) → Rising n xs → Each (λ x. p x ≡ true → n x ≡ 0) xs → Each (λ x. q x ≡ true → 1 ≤ n x) xs
      → filter p xs ++ filter q xs ≡ filter (λ x. p x || q x) xs
  parted p q [] up zero_if some_if = refl
  parted p q (x ∷ xs) up zero_if some_if =
      let ones : List X = filter p xs in
      let others : List X = filter q xs in
      let all : List X = filter (λ y. p y || q y) xs in
      let rest : ones ++ others ≡ all = parted p q xs up.1 zero_if.1 some_if.1 in
      let Goal : Bool → Bool → Type 0 = λ b c. cond b (x ∷ ones) ones ++ cond c (x ∷ others) others ≡ cond (b || c) (x ∷ all) all in
      elim (cases_Bool (p x)) [
        | inl one ↦ elim (cases_Bool (q x)) [
          | inl other ↦ let none : n x ≡ 0 = zero_if.0 one in let some : 1 ≤ n x = some_if.0 other in absurd (omega arith)
          | inr isnt ↦ subst (λ (b : Bool). Goal b (q x)) (sym one) (subst (λ (c : Bool). Goal true c) (sym isnt) (ap (λ (ys : List X). x ∷ ys) rest))
        ]
        | inr isnt ↦ subst (λ (b : Bool). Goal b (q x)) (sym isnt) (elim (cases_Bool (q x)) [
          | inr neither ↦ subst (λ (c : Bool). Goal false c) (sym neither) rest
          | inl other ↦
              let some : 1 ≤ n x = some_if.0 other in
              let none : ones ≡ [] = filter-none p xs
              (each-more (λ y. (n x ≤ n y) × (p y ≡ true → n y ≡ 0)) (λ y. p y ≡ false) (λ y both. not-one p y (n x) some both.0 both.1) xs
              (each-both (λ y. n x ≤ n y) (λ y. p y ≡ true → n y ≡ 0) xs up.0 zero_if.1)) in
              subst (λ (c : Bool). Goal false c) (sym other)
              (ap (λ (ys : List X). ys ++ (x ∷ others)) none ∙ ap (λ (ys : List X). x ∷ ys) (sym (ap (λ (ys : List X). ys ++ others) none) ∙ rest))
        ])
      ]
