-- Items that pass a test and are one part of a list.
use Rattle.std.proofs.Common.{◌≡◌, ℕ, zero, suc, ◌+◌, ◌-◌, ◌<◌, ◌≤◌, Bool, true, false, ◌&&◌, cond, leb, ltb, List, [], ◌∷◌, length, get_or, map, take, drop, refl, sym, ap, ◌∙◌, arith}
use Rattle.std.specs.List.{filter}
use Rattle.std.specs.List.Sorted.{IsPartitionPoint}
use Rattle.std.proofs.lemmas.List.{get_or-drop, get_or-take, length-drop, length-take-le}
use Rattle.std.proofs.Math.Bool.{and-false}
use Rattle.std.proofs.lemmas.Bool.{and_from, le-leb, lt-leb, ltb-false, ltb-true}
use Rattle.contrl_writer.specs.Range.{IsRange}
use borrow.Rule.Slice.PartMut.{put_mid}

module _ {X : Type 0} (p : X → Bool) where
  range-none : (x : X) (xs : List X) → IsRange p (x ∷ xs) 0 0 → IsRange p xs 0 0
  range-none x xs r = record {
    within = omega arith;
    before = λ i d low. absurd (omega arith);
    inside = λ i d low high. absurd (omega arith);
    after = λ i d low high. r.after (suc i) d (omega arith) (omega arith);
  }

  range-inside : (x : X) (xs : List X) (k : ℕ) → IsRange p (x ∷ xs) 0 (suc k) → IsRange p xs 0 k
  range-inside x xs k r = let within = r.within in record {
    within = omega arith;
    before = λ i d low. absurd (omega arith);
    inside = λ i d low high. r.inside (suc i) d (omega arith) (omega arith);
    after = λ i d low high. r.after (suc i) d (omega arith) (omega arith);
  }

  range-before : (x : X) (xs : List X) (a k : ℕ) → IsRange p (x ∷ xs) (suc a) k → IsRange p xs a k
  range-before x xs a k r = let within = r.within in record {
    within = omega arith;
    before = λ i d low. r.before (suc i) d (omega arith);
    inside = λ i d low high. r.inside (suc i) d (omega arith) (omega arith);
    after = λ i d low high. r.after (suc i) d (omega arith) (omega arith);
  }

  -- they are what a filter keeps
  pub filter-range : (xs : List X) (a k : ℕ) → IsRange p xs a k → take k (drop a xs) ≡ filter p xs
  filter-range [] zero zero r = refl
  filter-range [] zero (suc k) r = refl
  filter-range [] (suc a) zero r = refl
  filter-range [] (suc a) (suc k) r = refl
  filter-range (x ∷ xs) zero zero r =
      let fails : p x ≡ false = r.after 0 x (omega arith) (omega arith) in
      filter-range xs zero zero (range-none x xs r) ∙ sym (ap (λ (b : Bool). cond b (x ∷ filter p xs) (filter p xs)) fails)
  filter-range (x ∷ xs) zero (suc k) r =
      let passes : p x ≡ true = r.inside 0 x (omega arith) (omega arith) in
      ap (λ (ys : List X). x ∷ ys) (filter-range xs zero k (range-inside x xs k r)) ∙ sym (ap (λ (b : Bool). cond b (x ∷ filter p xs) (filter p xs)) passes)
  filter-range (x ∷ xs) (suc a) k r =
      let fails : p x ≡ false = r.before 0 x (omega arith) in
      filter-range xs a k (range-before x xs a k r) ∙ sym (ap (λ (b : Bool). cond b (x ∷ filter p xs) (filter p xs)) fails)

  -- and where they alone are changed, so is the list
  module _ (f : X → X) where
    abbrev changed : X → X
    changed x = cond (p x) (f x) x

    pub map-range : (xs : List X) (a k : ℕ) → IsRange p xs a k → put_mid a k xs (map f (take k (drop a xs))) ≡ map changed xs
    map-range [] zero zero r = refl
    map-range [] zero (suc k) r = refl
    map-range [] (suc a) zero r = refl
    map-range [] (suc a) (suc k) r = refl
    map-range (x ∷ xs) zero zero r =
        let fails : p x ≡ false = r.after 0 x (omega arith) (omega arith) in
        ap (λ (ys : List X). x ∷ ys) (map-range xs zero zero (range-none x xs r)) ∙ sym (ap (λ (b : Bool). cond b (f x) x ∷ map changed xs) fails)
    map-range (x ∷ xs) zero (suc k) r =
        let passes : p x ≡ true = r.inside 0 x (omega arith) (omega arith) in
        ap (λ (ys : List X). f x ∷ ys) (map-range xs zero k (range-inside x xs k r)) ∙ sym (ap (λ (b : Bool). cond b (f x) x ∷ map changed xs) passes)
    map-range (x ∷ xs) (suc a) k r =
        let fails : p x ≡ false = r.before 0 x (omega arith) in
        ap (λ (ys : List X). x ∷ ys) (map-range xs a k (range-before x xs a k r)) ∙ sym (ap (λ (b : Bool). cond b (f x) x ∷ map changed xs) fails)

-- in a list in order of a number, the items whose number is one of first..last are one part, between two partition points
pub range-among : {X : Type 0} (n : X → ℕ) (xs : List X) (first last from to : ℕ) → from ≤ length xs → to ≤ length xs
    → IsPartitionPoint (λ x. ltb (n x) first ≡ true) (λ x. ltb (n x) first ≡ false) xs from
    → IsPartitionPoint (λ x. leb (n x) last ≡ true) (λ x. leb (n x) last ≡ false) xs to
    → (end : ℕ) → from ≤ end → to ≤ end → end ≤ length xs → ((from < end) → end ≡ to)
    → IsRange (λ x. leb first (n x) && leb (n x) last) xs from (end - from)
range-among n xs first last from to from_within to_within low high end above_from above_to within reached = record {
  within = omega arith;
  before = λ i d under.
      let less : n (get_or xs i d) < first = ltb-true (n (get_or xs i d)) first (low.0 i d (omega arith) under) in
      ap (λ (b : Bool). b && leb (n (get_or xs i d)) last) (lt-leb first (n (get_or xs i d)) less);
  inside = λ i d over under.
      let is_to : end ≡ to = reached (omega arith) in
      let least : first ≤ n (get_or xs i d) = ltb-false (n (get_or xs i d)) first (low.1 i d over (omega arith)) in
      and_from (leb first (n (get_or xs i d))) (leb (n (get_or xs i d)) last) (le-leb first (n (get_or xs i d)) least) (high.0 i d (omega arith) (omega arith));
  after = λ i d over under.
      ap (λ (b : Bool). leb first (n (get_or xs i d)) && b) (high.1 i d (omega arith) under) ∙ and-false (leb first (n (get_or xs i d)));
}

-- each of those items passes
pub range-passes : {X : Type 0} (p : X → Bool) (xs : List X) (a k : ℕ) → IsRange p xs a k → (i : ℕ) (d : X) → i < length (take k (drop a xs)) → p (get_or (take k (drop a xs)) i d) ≡ true
range-passes p xs a k r i d below =
    let within = r.within in
    let left : length (drop a xs) ≡ length xs - a = length-drop a xs in
    let long : length (take k (drop a xs)) ≡ k = length-take-le k (drop a xs) (omega arith) in
    ap p (get_or-take k (drop a xs) i d (omega arith) ∙ get_or-drop a xs i d) ∙ r.inside (a + i) d (omega arith) (omega arith)
