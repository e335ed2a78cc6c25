-- Whether a value passes all tests, by its length where its octets are of its class, and by the tests that are left then.
use Rattle.std.proofs.Common.{◌≡◌, ℕ, Bool, true, false, not, ◌&&◌, ◌||◌, cond, ltb, List, Option, Some, None, refl, sym, ap, ◌∙◌, zero-add}
use Rattle.std.specs.List.{list_any}
use Rattle.edi_tables.specs.declared.element.Class.{Class}
use Rattle.edi_tables.specs.declared.element.CodeList.{CodeList}
use Rattle.edi_tables.specs.declared.element.Repr.{Repr}
use Rattle.seg_lexer.specs.declared.context.Context.{Context}
use Rattle.element_check.specs.Repertoire.{is_admitted}
use Rattle.element_check.specs.Value.{counted_length, has_foreign, is_decimal, is_numeric, is_unlisted, test_results}
use Rattle.element_check.specs.Tally.{is_number, length_if_typed, nothing_found, tally_over, typed_by}
use Rattle.element_check.specs.declared.tally.Tally.{Tally}
use Rattle.element_check.proofs.TallyLemmas.{counted-over, foreign-over, number-over}
use Rattle.element_check.proofs.TypedLemmas.{refused_as, typed_apart}

-- the tests of a class are failed
abbrev untyped : Bool → Bool → Bool → Bool
untyped f k d = f || ((k && not f) && not d)

absorb : (f k n : Bool) → (f || (k && not n)) ≡ untyped f k n
absorb true k n = refl
absorb false true n = refl
absorb false false n = refl

-- the other tests, by their results
abbrev pub fails_other : Bool → Bool → Bool → Bool → Bool
fails_other r l s u = r || (l || (s || (u || false)))

split : (r f k d l s u : Bool) → (r || (f || (((k && not f) && not d) || (l || (s || (u || false)))))) ≡ (untyped f k d || fails_other r l s u)
split true true k d l s u = refl
split true false true true l s u = refl
split true false true false l s u = refl
split true false false d l s u = refl
split false true k d l s u = refl
split false false true true l s u = refl
split false false true false l s u = refl
split false false false d l s u = refl

module _ (context : Context) (class : Class) (value : List ℕ) where
  abbrev found : Tally
  found = typed_by context.service class nothing_found value

  abbrev foreign : Bool
  foreign = has_foreign context.service class value

  same : tally_over context class nothing_found value ≡ refused_as (list_any (λ x. not (is_admitted context.level x)) value) found
  same = typed_apart context.level context.service class nothing_found value

  foreign_is : found.foreign ≡ foreign
  foreign_is = sym (ap (λ (t : Tally). t.foreign) same) ∙ foreign-over context class nothing_found value

  counted_is : found.counted ≡ counted_length context.service class value
  counted_is = sym (ap (λ (t : Tally). t.counted) same) ∙ counted-over context class nothing_found value ∙ zero-add (counted_length context.service class value)

  number_is : ((is_numeric class && not foreign) && not (is_number found.form)) ≡ ((is_numeric class && not foreign) && not (is_decimal context.service value))
  number_is =
      sym (ap (λ (t : Tally). (is_numeric class && not foreign) && not (is_number t.form)) same)
      ∙ number-over context class foreign value

  -- the length, where the tests of the class are passed
  length_is : length_if_typed class found ≡ cond (untyped foreign (is_numeric class) (is_decimal context.service value)) None (Some (counted_length context.service class value))
  length_is =
      ap (λ (b : Bool). cond b None (Some found.counted))
      (ap (λ (f : Bool). f || (is_numeric class && not (is_number found.form))) foreign_is
      ∙ absorb foreign (is_numeric class) (is_number found.form)
      ∙ ap (λ (b : Bool). foreign || b) number_is)
      ∙ ap (λ (n : ℕ). cond (untyped foreign (is_numeric class) (is_decimal context.service value)) None (Some n)) counted_is

-- by the length that was found
abbrev pub fails_by : Context → Repr → Option CodeList → List ℕ → Option ℕ → Bool
fails_by context repr list value None = true
fails_by context repr list value (Some n) =
    fails_other (list_any (λ x. not (is_admitted context.level x)) value) (ltb repr.max n) (repr.exact && ltb n repr.max) (is_unlisted list value)

by_untyped : (context : Context) (repr : Repr) (list : Option CodeList) (value : List ℕ) (b : Bool) (n : ℕ)
    → (b || fails_other (list_any (λ x. not (is_admitted context.level x)) value) (ltb repr.max n) (repr.exact && ltb n repr.max) (is_unlisted list value))
    ≡ fails_by context repr list value (cond b None (Some n))
by_untyped context repr list value true n = refl
by_untyped context repr list value false n = refl

-- a value fails a test
pub fails_is : (context : Context) (repr : Repr) (list : Option CodeList) (value : List ℕ) (length : Option ℕ)
    → length ≡ length_if_typed repr.class (typed_by context.service repr.class nothing_found value)
    → list_any (λ test. test.1) (test_results context repr list value) ≡ fails_by context repr list value length
fails_is context repr list value length is =
    split (list_any (λ x. not (is_admitted context.level x)) value) (has_foreign context.service repr.class value) (is_numeric repr.class) (is_decimal context.service value)
    (ltb repr.max (counted_length context.service repr.class value)) (repr.exact && ltb (counted_length context.service repr.class value) repr.max) (is_unlisted list value)
    ∙ by_untyped context repr list value (untyped (has_foreign context.service repr.class value) (is_numeric repr.class) (is_decimal context.service value)) (counted_length context.service repr.class value)
    ∙ ap (fails_by context repr list value) (sym (is ∙ length_is context repr.class value))

long_there : (r l s u : Bool) → l ≡ true → fails_other r l s u ≡ true
long_there true l s u is = refl
long_there false true s u is = refl
long_there false false s u is = absurd (cc)

short_there : (r l s u : Bool) → s ≡ true → fails_other r l s u ≡ true
short_there true l s u is = refl
short_there false true s u is = refl
short_there false false true u is = refl
short_there false false false u is = absurd (cc)

list_left : (r l s u : Bool) → r ≡ false → l ≡ false → s ≡ false → fails_other r l s u ≡ u
list_left true l s u r_is l_is s_is = absurd (cc)
list_left false true s u r_is l_is s_is = absurd (cc)
list_left false false true u r_is l_is s_is = absurd (cc)
list_left false false false true r_is l_is s_is = refl
list_left false false false false r_is l_is s_is = refl

module _ (context : Context) (repr : Repr) (list : Option CodeList) (value : List ℕ) (n : ℕ) where
  abbrev refused : Bool
  refused = list_any (λ x. not (is_admitted context.level x)) value

  -- where one of the other tests is failed
  pub at_long : ltb repr.max n ≡ true → fails_by context repr list value (Some n) ≡ true
  at_long is = long_there refused (ltb repr.max n) (repr.exact && ltb n repr.max) (is_unlisted list value) is

  pub at_short : (repr.exact && ltb n repr.max) ≡ true → fails_by context repr list value (Some n) ≡ true
  at_short is = short_there refused (ltb repr.max n) (repr.exact && ltb n repr.max) (is_unlisted list value) is

  -- where only the code list is left
  pub at_list : refused ≡ false → ltb repr.max n ≡ false → (repr.exact && ltb n repr.max) ≡ false → fails_by context repr list value (Some n) ≡ is_unlisted list value
  at_list r l s = list_left refused (ltb repr.max n) (repr.exact && ltb n repr.max) (is_unlisted list value) r l s
