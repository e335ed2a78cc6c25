-- Members that are read one after another, as a loop reads them.
use Rattle.std.proofs.Common.{◌≡◌, ◌+◌, ◌-◌, ◌≤◌, ◌<◌, ℕ, suc, List, [], ◌∷◌, ◌++◌, Option, Some, None, IfSome, Ok, Err, sym, ap, ◌∙◌, arith}
use Rattle.dir_store.specs.declared.line_stop.Stop.{Stop}
use Rattle.dir_store.specs.Lines.{◌>>=◌, LineRead, last_of, several}
use Rattle.dir_store.specs.LineStop.{left_in}

module _ {A : Type 0} (member : Option A → List ℕ → LineRead A) where
  step : (n : ℕ) (before : List A) (octets : List ℕ) (x : A) (after : List ℕ) → member (last_of before) octets ≡ Ok (x, after) → several (suc n) member before octets ≡ several n member (before ++ x ∷ []) after
  step n before octets x after is = ap (λ read. read >>= λ next. several n member (before ++ next.0 ∷ []) next.1) is

  -- one more was read
  pub goes-on : (count i : ℕ) (before : List A) (octets : List ℕ) (x : A) (after : List ℕ) (all : LineRead (List A)) → i < count → member (last_of before) octets ≡ Ok (x, after)
      → several (count - i) member before octets ≡ all → several (count - (i + 1)) member (before ++ x ∷ []) after ≡ all
  goes-on count i before octets x after all lt is so_far =
      let left : count - i ≡ suc (count - (i + 1)) = omega arith in
      sym (step (count - (i + 1)) before octets x after is) ∙ ap (λ n. several n member before octets) (sym left) ∙ so_far

  fault-of : (n : ℕ) (before : List A) (octets : List ℕ) (fault : ℕ) → member (last_of before) octets ≡ Err fault → several (suc n) member before octets ≡ Err fault
  fault-of n before octets fault is = ap (λ read. read >>= λ next. several n member (before ++ next.0 ∷ []) next.1) is

  -- one wasn't read
  pub stops : (stop : Stop) (count i : ℕ) (before : List A) (octets : List ℕ) (all : LineRead (List A)) → i < count
      → IfSome (left_in stop) (λ fault. member (last_of before) octets ≡ Err fault) → several (count - i) member before octets ≡ all → IfSome (left_in stop) (λ fault. all ≡ Err fault)
  stops stop count i before octets all lt given so_far = by (left_in stop) given
    where
      left : count - i ≡ suc (count - (i + 1))
      left = omega arith

      by : (told : Option ℕ) → IfSome told (λ fault. member (last_of before) octets ≡ Err fault) → IfSome told (λ fault. all ≡ Err fault)
      by None is = tt
      by (Some fault) is =
          sym so_far ∙ ap (λ n. several n member before octets) left ∙ fault-of (count - (i + 1)) before octets fault is

  -- as many were read as there are
  pub is-done : (count i : ℕ) (before : List A) (octets : List ℕ) (all : LineRead (List A)) → count ≤ i → several (count - i) member before octets ≡ all → all ≡ Ok (before, octets)
  is-done count i before octets all le so_far =
      let left : count - i ≡ 0 = omega arith in
      sym so_far ∙ ap (λ n. several n member before octets) left
