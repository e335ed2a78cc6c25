-- The first of a list that passes, where the list grows at its end.
use Rattle.std.proofs.Common.{◌≡◌, ◌≢◌, ◌+◌, ◌<◌, ◌≤◌, ℕ, Bool, true, false, List, [], ◌∷◌, ◌++◌, length, Some, None, ltb, refl, sym, ap, ◌∙◌, cond, ⊎_elim, arith, lt-ltb, le-ltb, eq-eqb, ne_eqb, Bor}
use Rattle.std.specs.Prelude.{Option}
use Rattle.std.specs.List.{position, position_or_len, find, slice_get}
use Rattle.std.specs.Option.{option_or, option_copied}
use Rattle.std.specs.Slice.{IsItemAt}
use Rattle.std.proofs.lemmas.Bool.{cases_Bool, cases_lt}
use Rattle.std.proofs.lemmas.List.{length-append}
use Rattle.std.proofs.lemmas.List.Folds.{position_or_len_push, find_at}
use Rattle.std.proofs.lemmas.List.Sums.{prefix_len-le-length}
use Rattle.std.proofs.lemmas.Option.{slice_get_past, slice_get_read}
use Rattle.dir_segments.proofs.FieldLemmas.{some_where}

module _ {X : Type 0} (p : X → Bool) where
  position_is : (xs : List X) (i : ℕ) → position_or_len p xs ≡ i → i < length xs → position p xs ≡ Some i
  position_is xs i at lt =
      let inside : ltb (position_or_len p xs) (length xs) ≡ true = lt-ltb (position_or_len p xs) (length xs) (omega arith) in
      rw (inside, at) refl

  position_none : (xs : List X) → length xs ≤ position_or_len p xs → position p xs ≡ None
  position_none xs past =
      let outside : ltb (position_or_len p xs) (length xs) ≡ false = le-ltb (position_or_len p xs) (length xs) past in
      rw outside refl

  -- one more comes
  pub position-push : (xs : List X) (x : X) → position p (xs ++ x ∷ []) ≡ option_or (position p xs) (cond (p x) (Some (length xs)) None)
  position-push xs x =
      let n = position_or_len p xs in
      let m = length xs in
      let more = xs ++ x ∷ [] in
      let long : length more ≡ m + 1 = length-append xs (x ∷ []) in
      let within : n ≤ m = prefix_len-le-length _ xs in
      ⊎_elim
      (λ (lt : n < m).
      let apart : n ≢ m = omega arith in
      let at : position_or_len p more ≡ n = position_or_len_push p xs x ∙ rw (ne_eqb n m apart) refl in
      position_is more n at (omega arith) ∙ sym (rw (position_is xs n refl lt) refl))
      (λ (ge : m ≤ n).
      let same : n ≡ m = omega arith in
      let last : position_or_len p more ≡ m + cond (p x) 0 1 = position_or_len_push p xs x ∙ rw (eq-eqb n m same) refl in
      ⊎_elim
      (λ (passes : p x ≡ true).
      let at : position_or_len p more ≡ m = last ∙ rw passes (omega arith) in
      position_is more m at (omega arith) ∙ sym (rw (position_none xs ge, passes) refl))
      (λ (fails : p x ≡ false).
      let at : position_or_len p more ≡ m + 1 = last ∙ rw fails refl in
      position_none more (omega arith) ∙ sym (rw (position_none xs ge, fails) refl))
      (cases_Bool (p x)))
      (cases_lt n m)

  -- the first is at its place
  pub find_by_place : (xs : List X) (i : ℕ) → position p xs ≡ Some i → slice_get xs i ≡ find p xs
  find_by_place xs i is =
      let at = some_where (ltb (position_or_len p xs) (length xs)) (position_or_len p xs) i (sym is) in
      ap (slice_get xs) at.1 ∙ sym (find_at p xs)

  pub find_nowhere : (xs : List X) → position p xs ≡ None → find p xs ≡ None
  find_nowhere xs is =
      ⊎_elim
      (λ (lt : position_or_len p xs < length xs). let some = position_is xs (position_or_len p xs) refl lt in cc)
      (λ (ge : length xs ≤ position_or_len p xs). find_at p xs ∙ slice_get_past xs (position_or_len p xs) ge)
      (cases_lt (position_or_len p xs) (length xs))

-- what is at a place of a slice
pub copied_at : {X : Type 0} (xs : List X) (i : ℕ) (r : Option (Bor X)) → IsItemAt xs i r → option_copied r ≡ slice_get xs i
copied_at xs i None item = sym (slice_get_past xs i item.3)
copied_at xs i (Some x) item = sym (slice_get_read xs (length xs) i x.now refl item.3.0 item.1)
