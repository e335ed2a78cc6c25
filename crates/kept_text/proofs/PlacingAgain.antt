-- Records placed again, one after the other, and the mode after the last of them.
use Rattle.std.proofs.Common.{◌≡◌, ℕ, zero, suc, ◌+◌, ◌<◌, ◌≤◌, ◌⊎◌, inl, inr, true, false, List, [], ◌∷◌, ◌++◌, length, take, drop, Some, refl, sym, ap, subst, ◌∙◌, arith, length-append}
use Rattle.std.specs.List.{slice_get}
use Rattle.std.proofs.lemmas.Bool.{cases_lt}
use Rattle.std.proofs.lemmas.Option.{slice_get_within}
use Rattle.dir_compile.specs.declared.parts.Parts.{Parts}
use Rattle.segment_records.specs.Records.{Kept}
use Rattle.segment_records.specs.Steps.{inner_step}
use Rattle.segment_records.specs.Taken.{read_as}
use Rattle.segment_records.specs.declared.mode.Mode.{Mode}
use Rattle.segment_records.specs.Bounds.{bounds_message}
use Rattle.kept_text.specs.Again.{AreInner, AreOthers, StaysAfter, last_mode, placed_from}
use Rattle.kept_text.proofs.PlacedAgain.{mode_first}
use Rattle.kept_text.proofs.LastMode.{last_mode_at, take_one_more}

-- the mode after the last of some records doesn't depend on the one before the first
last_mode_any : (one other : Mode) (x : Kept) (xs : List Kept) → last_mode one (x ∷ xs) ≡ last_mode other (x ∷ xs)
last_mode_any one other x xs = mode_first one x xs ∙ sym (mode_first other x xs)

pub last_mode_some : (one other : Mode) (xs : List Kept) → 0 < length xs → last_mode one xs ≡ last_mode other xs
last_mode_some one other [] some = absurd (omega arith)
last_mode_some one other (x ∷ xs) some = last_mode_any one other x xs

pub last_mode_twice : (before : Mode) (xs : List Kept) → last_mode (last_mode before xs) xs ≡ last_mode before xs
last_mode_twice before [] = refl
last_mode_twice before (x ∷ xs) = last_mode_any (last_mode before (x ∷ xs)) before x xs

pub last_mode_append : (before : Mode) (xs ys : List Kept) → last_mode before (xs ++ ys) ≡ last_mode (last_mode before xs) ys
last_mode_append before [] ys = refl
last_mode_append before (x ∷ xs) ys =
    mode_first before x (xs ++ ys) ∙ last_mode_append x.step.after xs ys
    ∙ ap (λ (mode : Mode). last_mode mode ys) (sym (mode_first before x xs))

-- a record placed again after another mode
abbrev pub placed_one : Parts → Mode → Kept → Kept
placed_one dir mode kept = record kept { step = inner_step dir mode (read_as kept.tag []) }

-- one more
pub placed_more : (dir : Parts) (before : Mode) (xs : List Kept) (kept : Kept)
    → placed_from dir before (xs ++ kept ∷ []) ≡ placed_from dir before xs ++ placed_one dir (last_mode before (placed_from dir before xs)) kept ∷ []
placed_more dir before [] kept = refl
placed_more dir before (x ∷ xs) kept =
    let first : Kept = placed_one dir before x in
    ap (λ (ks : List Kept). first ∷ ks) (placed_more dir first.step.after xs kept)
    ∙ ap (λ (mode : Mode). first ∷ (placed_from dir first.step.after xs ++ placed_one dir mode kept ∷ []))
    (sym (mode_first before first (placed_from dir first.step.after xs)))

pub length_placed : (dir : Parts) (before : Mode) (xs : List Kept) → length (placed_from dir before xs) ≡ length xs
length_placed dir before [] = refl
length_placed dir before (x ∷ xs) = ap (λ (n : ℕ). suc n) (length_placed dir (placed_one dir before x).step.after xs)

pub take_placed : (dir : Parts) (before : Mode) (i : ℕ) (xs : List Kept) → take i (placed_from dir before xs) ≡ placed_from dir before (take i xs)
take_placed dir before zero xs = refl
take_placed dir before (suc i) [] = refl
take_placed dir before (suc i) (x ∷ xs) =
    ap (λ (ks : List Kept). placed_one dir before x ∷ ks) (take_placed dir (placed_one dir before x).step.after i xs)

-- a member after the first n
pub get_after : {A : Type 0} (xs : List A) (n i : ℕ) → slice_get (drop n xs) i ≡ slice_get xs (n + i)
get_after xs zero i = let place : i ≡ 0 + i = omega arith in ap (slice_get xs) place
get_after [] (suc n) i = refl
get_after (x ∷ xs) (suc n) i =
    let place : suc (n + i) ≡ suc n + i = omega arith in
    get_after xs n i ∙ ap (slice_get (x ∷ xs)) place

-- p of the records from number `next` on were placed again after this mode, and the one after them isn't what stays
module _ (dir : Parts) (before : Mode) (old : List Kept) (next : ℕ) (again : List Kept)
    (are : again ≡ placed_from dir before (take (length again) (drop next old)))
    (kept : Kept) (at : slice_get old (next + length again) ≡ Some kept) where
  here : slice_get (drop next old) (length again) ≡ Some kept
  here = get_after old next (length again) ∙ at

  module _ (more : List Kept) (one : Kept) (one_is : one ≡ placed_one dir (last_mode before again) kept) (more_is : more ≡ again ++ one ∷ []) where
    pub length_more : length more ≡ length again + 1
    length_more = ap length more_is ∙ length-append again (one ∷ [])

    pub again_more : more ≡ placed_from dir before (take (length more) (drop next old))
    again_more =
        let first : List Kept = take (length again) (drop next old) in
        more_is
        ∙ ap (λ (k : Kept). again ++ k ∷ []) one_is
        ∙ ap (λ (ks : List Kept). ks ++ placed_one dir (last_mode before ks) kept ∷ []) are
        ∙ sym (placed_more dir before first kept)
        ∙ sym (ap (placed_from dir before) (take_one_more (drop next old) (length again) kept here))
        ∙ sym (ap (λ (n : ℕ). placed_from dir before (take n (drop next old))) length_more)

    pub kept_more : (mode : Mode) → mode ≡ kept.step.after → mode ≡ last_mode before (take (next + length more) old)
    kept_more mode mode_is =
        let place : (next + length again) + 1 ≡ next + length more = omega (arith, length_more) in
        mode_is ∙ sym (last_mode_at before old (next + length again) kept at)
        ∙ ap (λ (n : ℕ). last_mode before (take n old)) place

    pub inner_more : AreInner old next (length again) → bounds_message kept.tag ≡ false → AreInner old next (length more)
    inner_more inner none i k low is = elim (cases_lt i (length again)) [
      | inl before_it ↦ inner i k before_it is
      | inr not_before ↦
          let same : i ≡ length again = omega (arith, length_more) in
          let found : Some k ≡ Some kept = sym is ∙ ap (λ (n : ℕ). slice_get old (next + n)) same ∙ at in
          let k_is : kept ≡ k = cc in
          subst (λ (x : Kept). bounds_message x.tag ≡ false) k_is none
    ]

    pub others_more : AreOthers dir before old next (length again) → (last_mode before again ≡ last_mode before (take (next + length again) old) → ⊥)
        → AreOthers dir before old next (length more)
    others_more others other i low = elim (cases_lt i (length again)) [
      | inl before_it ↦ others i before_it
      | inr not_before ↦ λ meet.
          let same : i ≡ length again = omega (arith, length_more) in
          other (ap (last_mode before) are
          ∙ ap (λ (n : ℕ). last_mode before (placed_from dir before (take n (drop next old)))) (sym same)
          ∙ meet ∙ ap (λ (n : ℕ). last_mode before (take (next + n) old)) same)
    ]

  -- it stays
  pub stays_here : (mode was : Mode) → mode ≡ last_mode before again → was ≡ last_mode before (take (next + length again) old)
      → (mode ≡ was) ⊎ (bounds_message kept.tag ≡ true) → StaysAfter (last_mode before again) old (next + length again)
  stays_here mode was mode_is was_is (inl same) =
      let first : List Kept = take (next + length again) old in
      let meet : last_mode before again ≡ last_mode before first = sym mode_is ∙ same ∙ was_is in
      inl (meet ∙ sym (last_mode_twice before first) ∙ ap (λ (m : Mode). last_mode m first) (sym meet))
  stays_here mode was mode_is was_is (inr bounds) =
      inr (λ k is.
      let found : Some kept ≡ Some k = sym at ∙ is in
      let k_is : kept ≡ k = cc in
      subst (λ (x : Kept). bounds_message x.tag ≡ true) k_is bounds)

-- where no record is left, nothing has to
pub stays_end : (mode : Mode) (old : List Kept) (q : ℕ) → length old ≤ q → StaysAfter mode old q
stays_end mode old q end = inr (λ k is. absurd (let within : q < length old = slice_get_within old q k is in omega arith))
