-- What one scan of a value finds is what its tests ask.
use Rattle.std.proofs.Common.{◌≡◌, ℕ, ◌+◌, Bool, true, false, not, ◌&&◌, ◌||◌, cond, ltb, List, [], ◌∷◌, length, filter, refl, ap, ◌∙◌, arith, zero-add}
use Rattle.std.specs.Prelude.{Option}
use Rattle.std.specs.List.{list_any}
use Rattle.edi_tables.specs.declared.element.Class.{Class}
use Rattle.edi_tables.specs.declared.element.Class.TheVariants.{A, N, An}
use Rattle.edi_tables.specs.declared.element.CodeList.{CodeList}
use Rattle.edi_tables.specs.declared.element.Repr.{Repr}
use Rattle.error_ledger.specs.declared.kind.Kind.{Kind}
use Rattle.error_ledger.specs.declared.kind.Kind.TheVariants.{Repertoire, WrongType, Decimal, TooLong, TooShort, Code}
use Rattle.seg_lexer.specs.declared.context.Context.{Context}
use Rattle.seg_lexer.specs.declared.service.Service.{Service}
use Rattle.element_check.specs.Repertoire.{is_admitted}
use Rattle.element_check.specs.Value.{counted_length, has_foreign, is_counted, is_decimal, is_foreign, is_numeric, is_unlisted, test_results}
use Rattle.element_check.specs.Tally.{is_number, is_uncounted_sort, nothing_found, sort_of, tally_after, tally_over, typed_after}
use Rattle.element_check.specs.declared.tally.Tally.{Tally}
use Rattle.element_check.proofs.NumberLemmas.{counted-is, ends_number-is, foreign-is, form_over}

or_false : (b : Bool) → b ≡ (b || false)
or_false true = refl
or_false false = refl

or_assoc : (a b c : Bool) → ((a || b) || c) ≡ (a || (b || c))
or_assoc true b c = refl
or_assoc false b c = refl

-- counting one more octet, or not
counted-more : (b : Bool) (n x : ℕ) (ys : List ℕ) → cond b (n + 1) n + length ys ≡ n + length (cond b (x ∷ ys) ys)
counted-more true n x ys = omega arith
counted-more false n x ys = refl

counted-unless : (b : Bool) (n : ℕ) → cond b n (n + 1) ≡ cond (not b) (n + 1) n
counted-unless true n = refl
counted-unless false n = refl

-- one more octet is foreign, and is counted, by its class
foreign-typed : (s : Service) (class : Class) (t : Tally) (x : ℕ) → (typed_after s class t x).foreign ≡ (t.foreign || is_foreign s class x)
foreign-typed s A t x = refl
foreign-typed s N t x = ap (λ (f : Bool). t.foreign || f) (foreign-is s N x)
foreign-typed s An t x = or_false t.foreign

counted-typed : (s : Service) (class : Class) (t : Tally) (x : ℕ) → (typed_after s class t x).counted ≡ cond (is_counted s class x) (t.counted + 1) t.counted
counted-typed s A t x = refl
counted-typed s N t x =
    counted-unless (is_uncounted_sort N (sort_of s x)) t.counted ∙ ap (λ (c : Bool). cond c (t.counted + 1) t.counted) (counted-is s N x)
counted-typed s An t x = refl

module _ (context : Context) (class : Class) where
  abbrev is_refused : ℕ → Bool
  is_refused x = not (is_admitted context.level x)

  refused-over : (t : Tally) (xs : List ℕ) → (tally_over context class t xs).refused ≡ (t.refused || list_any is_refused xs)
  refused-over t [] = or_false t.refused
  refused-over t (x ∷ xs) = refused-over (tally_after context.level context.service class t x) xs ∙ or_assoc t.refused (is_refused x) (list_any is_refused xs)

  pub foreign-over : (t : Tally) (xs : List ℕ) → (tally_over context class t xs).foreign ≡ (t.foreign || has_foreign context.service class xs)
  foreign-over t [] = or_false t.foreign
  foreign-over t (x ∷ xs) =
      foreign-over (tally_after context.level context.service class t x) xs
      ∙ ap (λ (f : Bool). f || has_foreign context.service class xs) (foreign-typed context.service class t x)
      ∙ or_assoc t.foreign (is_foreign context.service class x) (has_foreign context.service class xs)

  pub counted-over : (t : Tally) (xs : List ℕ) → (tally_over context class t xs).counted ≡ t.counted + counted_length context.service class xs
  counted-over t [] = omega arith
  counted-over t (x ∷ xs) =
      counted-over (tally_after context.level context.service class t x) xs
      ∙ ap (λ (n : ℕ). n + counted_length context.service class xs) (counted-typed context.service class t x)
      ∙ counted-more (is_counted context.service class x) t.counted x (filter (is_counted context.service class) xs)

-- only numbers have a form
form-over : (context : Context) (t : Tally) (xs : List ℕ) → (tally_over context N t xs).form ≡ form_over context.service t.form xs
form-over context t [] = refl
form-over context t (x ∷ xs) = form-over context (tally_after context.level context.service N t x) xs

pub number-over : (context : Context) (class : Class) (foreign : Bool) (xs : List ℕ)
    → (is_numeric class && not foreign && not (is_number (tally_over context class nothing_found xs).form)) ≡ (is_numeric class && not foreign && not (is_decimal context.service xs))
number-over context A foreign xs = refl
number-over context N foreign xs =
    ap (λ (b : Bool). true && not foreign && not b) (ap is_number (form-over context nothing_found xs) ∙ ends_number-is context.service xs)
number-over context An foreign xs = refl

-- the results of the tests, by what they ask
abbrev results_of : Repr → Option CodeList → List ℕ → Bool → Bool → Bool → ℕ → List (Kind × Bool)
results_of repr list value refused foreign decimal counted =
    (Repertoire, refused) ∷ (WrongType, foreign) ∷ (Decimal, decimal)
    ∷ (TooLong, ltb repr.max counted) ∷ (TooShort, repr.exact && ltb counted repr.max) ∷ (Code, is_unlisted list value) ∷ []

abbrev found : Context → Repr → List ℕ → Tally
found context repr value = tally_over context repr.class nothing_found value

abbrev refused : Context → List ℕ → Bool
refused context value = list_any (λ x. not (is_admitted context.level x)) value

abbrev foreign : Context → Repr → List ℕ → Bool
foreign context repr value = has_foreign context.service repr.class value

-- a scan gives the results of the tests
pub results-tally : (context : Context) (repr : Repr) (list : Option CodeList) (value : List ℕ) (t : Tally) → t ≡ tally_over context repr.class nothing_found value
    → results_of repr list value t.refused t.foreign (is_numeric repr.class && not t.foreign && not (is_number t.form)) t.counted ≡ test_results context repr list value
results-tally context repr list value t is =
    ap (λ (u : Tally). results_of repr list value u.refused u.foreign (is_numeric repr.class && not u.foreign && not (is_number u.form)) u.counted) is
    ∙ ap (λ (b : Bool). results_of repr list value b (found context repr value).foreign (is_numeric repr.class && not (found context repr value).foreign && not (is_number (found context repr value).form)) (found context repr value).counted) (refused-over context repr.class nothing_found value)
    ∙ ap (λ (b : Bool). results_of repr list value (refused context value) b (is_numeric repr.class && not b && not (is_number (found context repr value).form)) (found context repr value).counted) (foreign-over context repr.class nothing_found value)
    ∙ ap (λ (b : Bool). results_of repr list value (refused context value) (foreign context repr value) b (found context repr value).counted) (number-over context repr.class (foreign context repr value) value)
    ∙ ap (λ (n : ℕ). results_of repr list value (refused context value) (foreign context repr value) (is_numeric repr.class && not (foreign context repr value) && not (is_decimal context.service value)) n)
    (counted-over context repr.class nothing_found value ∙ zero-add (counted_length context.service repr.class value))

-- the same, where some of the results were found apart
pub results-found : (context : Context) (repr : Repr) (list : Option CodeList) (value : List ℕ) (t : Tally) (number long short unlisted : Bool) → t ≡ tally_over context repr.class nothing_found value
    → number ≡ (is_numeric repr.class && not t.foreign && not (is_number t.form)) → long ≡ ltb repr.max t.counted → short ≡ (repr.exact && ltb t.counted repr.max) → unlisted ≡ is_unlisted list value
    → (Repertoire, t.refused) ∷ (WrongType, t.foreign) ∷ (Decimal, number) ∷ (TooLong, long) ∷ (TooShort, short) ∷ (Code, unlisted) ∷ [] ≡ test_results context repr list value
results-found context repr list value t number long short unlisted is number_is long_is short_is unlisted_is =
    ap (λ (b : Bool). (Repertoire, t.refused) ∷ (WrongType, t.foreign) ∷ (Decimal, b) ∷ (TooLong, long) ∷ (TooShort, short) ∷ (Code, unlisted) ∷ []) number_is
    ∙ ap (λ (b : Bool). (Repertoire, t.refused) ∷ (WrongType, t.foreign) ∷ (Decimal, is_numeric repr.class && not t.foreign && not (is_number t.form)) ∷ (TooLong, b) ∷ (TooShort, short) ∷ (Code, unlisted) ∷ []) long_is
    ∙ ap (λ (b : Bool). (Repertoire, t.refused) ∷ (WrongType, t.foreign) ∷ (Decimal, is_numeric repr.class && not t.foreign && not (is_number t.form)) ∷ (TooLong, ltb repr.max t.counted) ∷ (TooShort, b) ∷ (Code, unlisted) ∷ []) short_is
    ∙ ap (λ (b : Bool). (Repertoire, t.refused) ∷ (WrongType, t.foreign) ∷ (Decimal, is_numeric repr.class && not t.foreign && not (is_number t.form)) ∷ (TooLong, ltb repr.max t.counted) ∷ (TooShort, repr.exact && ltb t.counted repr.max) ∷ (Code, b) ∷ []) unlisted_is
    ∙ results-tally context repr list value t is
