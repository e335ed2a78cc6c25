-- Errors that are reported one after another.
use Rattle.std.proofs.Common.{◌≡◌, ◌+◌, ◌<◌, List, ◌++◌, length, sym, ◌∙◌, ap, arith, length-append, append_assoc}
use Rattle.std.specs.Prelude.{Result, Ok, Err, OnErr, OnOk}
use Rattle.element_check.specs.declared.error.LocalError.{LocalError}

-- what holds, holds of an error too
pub on_err : {T E P : Type 0} (r : Result T E) → P → OnErr r P
on_err (Ok x) p = tt
on_err (Err e) p = p

pub on_err_then : {T E P Q : Type 0} (r : Result T E) → OnErr r P → (P → Q) → OnErr r Q
on_err_then (Ok x) h f = tt
on_err_then (Err e) h f = f h

pub on_ok_then : {T E P Q : Type 0} (r : Result T E) → OnOk r P → (P → Q) → OnOk r Q
on_ok_then (Ok x) h f = f h
on_ok_then (Err e) h f = tt

module _ (old now more rest total : List LocalError) where
  -- where there is no room for the next errors, there is none for all
  pub full_step : now ++ (more ++ rest) ≡ old ++ total → 4 < length now + length more → 4 < length old + length total
  full_step same full =
      let lengths : length now + (length more + length rest) ≡ length old + length total =
      ap (λ n. length now + n) (sym (length-append more rest)) ∙ sym (length-append now (more ++ rest)) ∙ ap length same ∙ length-append old total in
      omega arith

  -- what is left after the next errors comes after them
  pub next_step : (next : List LocalError) → now ++ (more ++ rest) ≡ old ++ total → next ≡ now ++ more → next ++ rest ≡ old ++ total
  next_step next same next_is = ap (λ (xs : List LocalError). xs ++ rest) next_is ∙ append_assoc now more rest ∙ same

module _ (old a b total : List LocalError) (all : a ++ b ≡ total) where
  -- errors in two parts: both were reported
  pub both_told : (now next : List LocalError) → now ≡ old ++ a → next ≡ now ++ b → next ≡ old ++ total
  both_told now next now_is next_is = next_is ∙ ap (λ (xs : List LocalError). xs ++ b) now_is ∙ append_assoc old a b ∙ ap (λ (xs : List LocalError). old ++ xs) all

  -- there was no room for the first part
  pub first_full : 4 < length old + length a → 4 < length old + length total
  first_full full =
      let lengths : length a + length b ≡ length total = sym (length-append a b) ∙ ap length all in
      omega arith

  -- there was no room for the second part
  pub second_full : (now : List LocalError) → now ≡ old ++ a → 4 < length now + length b → 4 < length old + length total
  second_full now now_is full =
      let lengths : length a + length b ≡ length total = sym (length-append a b) ∙ ap length all in
      let before : length now ≡ length old + length a = ap length now_is ∙ length-append old a in
      omega arith

-- there was no room for the last errors
pub last_full : (old now more total : List LocalError) → now ++ more ≡ old ++ total → 4 < length now + length more → 4 < length old + length total
last_full old now more total same full =
    let lengths : length now + length more ≡ length old + length total = sym (length-append now more) ∙ ap length same ∙ length-append old total in
    omega arith
