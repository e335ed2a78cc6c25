-- Numbers, and words that have no space or LF.
use Rattle.std.proofs.Common.{◌≡◌, ◌≢◌, ◌⊎◌, zero, suc, ◌^◌, ◌<◌, ◌≤◌, ℕ, Bool, true, false, ◌&&◌, eqb, leb, ltb, cond, List, [], ◌∷◌, length, get_or, Option, Some, None, refl, sym, ap, ◌∙◌, subst, arith, ne_eqb, eq-eqb, ⊎_elim, inl, inr}
use Rattle.std.specs.Prelude.{decimal, slice_index}
use Rattle.std.specs.List.{list_all}
use Rattle.std.specs.Str.{all_ascii_digits}
use Rattle.std.specs.Str.Parse.{digits_value}
use borrow.Author.Tests.{leb-true}
use Rattle.std.proofs.lemmas.Bool.{and_parts, cases_Bool, ltb-false}
use Rattle.std.proofs.lemmas.List.{get_or_default}
use Rattle.std.proofs.lemmas.Fmt.{digits_decimal, digits_value-decimal, decimal-digits_value, decimal_nonempty, length-decimal-le, first_decimal, decimal_digit}
use Rattle.std.proofs.lemmas.List.Sums.{list_all-from_AllPass}
use Rattle.std.proofs.lemmas.Str.Parse.{IsNumeralModel, numerals_by_value, tells_all_ascii_digits}
use Rattle.edi_tables.specs.Tag.{is_capital, is_digit, is_tag_octet_of}
use Rattle.edi_octets.specs.Decimal.{decimal_in}
use Rattle.edi_octets.proofs.DecimalLemmas.{digit_between, digits_value-room, decimal_in-value}
use Rattle.dir_store.specs.Rules.{number_in}
use Rattle.dir_store.proofs.LineLemmas.{is_plain, IsPlain, and-both}

pub own : IsNumeralModel (λ ds. all_ascii_digits ds ≡ true) (digits_value 10)
own = numerals_by_value (λ ds. all_ascii_digits ds ≡ true) tells_all_ascii_digits

-- ---- plain words

plain-at : (x : ℕ) → x ≢ 32 → x ≢ 10 → is_plain x ≡ true
plain-at x space feed = rw (ne_eqb x 32 space, ne_eqb x 10 feed) refl

pub digits-plain : (ds : List ℕ) → all_ascii_digits ds ≡ true → IsPlain ds
digits-plain ds digits =
    list_all-from_AllPass is_plain ds (λ k d lt.
    let between = digit_between ds k digits lt in
    subst (λ x. is_plain x ≡ true) (get_or_default ds k 0 d lt) (plain-at (get_or ds k 0) (omega arith) (omega arith)))

tag-octet-plain : (x : ℕ) → is_tag_octet_of x ≡ true → is_plain x ≡ true
tag-octet-plain x is =
    ⊎_elim
    (λ (capital : is_capital x ≡ true). let parts = and_parts (leb 65 x) (leb x 90) capital in
    plain-at x (omega (arith, leb-true 65 x parts.0)) (omega (arith, leb-true 65 x parts.0)))
    (λ (other : is_capital x ≡ false). let digit : is_digit x ≡ true = (rw other at is) in let parts = and_parts (leb 48 x) (leb x 57) digit in
    plain-at x (omega (arith, leb-true 48 x parts.0)) (omega (arith, leb-true 48 x parts.0)))
    (cases_Bool (is_capital x))

pub tag-octets-plain : (word : List ℕ) → list_all is_tag_octet_of word ≡ true → IsPlain word
tag-octets-plain [] is = refl
tag-octets-plain (x ∷ word) is =
    let parts = and_parts (is_tag_octet_of x) (list_all is_tag_octet_of word) is in
    and-both (is_plain x) (list_all is_plain word) (tag-octet-plain x parts.0) (tag-octets-plain word parts.1)

-- ---- numbers

pub decimal-plain : (n : ℕ) → n < 10 ^ 19 → IsPlain (decimal n)
decimal-plain n few = digits-plain (decimal n) (digits_decimal own n (omega arith))

zero-or-more : (n : ℕ) → (n ≡ 0) ⊎ (0 < n)
zero-or-more zero = inl refl
zero-or-more (suc n) = inr (omega arith)

no-leading-zero : (n : ℕ) → n < 10 ^ 19 → (eqb (slice_index (decimal n) 0) 48 && ltb 1 (length (decimal n))) ≡ false
no-leading-zero n few =
    elim (zero-or-more n) [
      | inl none ↦ rw (none, decimal_digit 0 (omega arith)) refl
      | inr some ↦ rw (ne_eqb (slice_index (decimal n) 0) 48 (omega (arith, first_decimal n some (omega arith)))) refl
    ]

pub number-again : (n : ℕ) → n < 10 ^ 19 → number_in (decimal n) ≡ Some n
number-again n few =
    rw (no-leading-zero n few)
    (decimal_in-value (decimal n) (decimal_nonempty n (omega arith)) (length-decimal-le 19 n (omega arith) few (omega arith)) (digits_decimal own n (omega arith))
    ∙ ap (λ m. Some m) (digits_value-decimal own n (omega arith)))

some-where : (test : Bool) (v n : ℕ) → cond test (Some v) None ≡ Some n → (test ≡ true) × (v ≡ n)
some-where true v n is = (refl, cc)
some-where false v n is = absurd cc

none-where : (test : Bool) (found : Option ℕ) (n : ℕ) → cond test None found ≡ Some n → (test ≡ false) × (found ≡ Some n)
none-where true found n is = absurd cc
none-where false found n is = (refl, is)

one-digit : (word : List ℕ) → (eqb (slice_index word 0) 48 && ltb 1 (length word)) ≡ false → 1 ≤ length word → get_or word 0 0 ≡ 48 → length word ≡ 1
one-digit word other some first =
    let short : ltb 1 (length word) ≡ false = rw (eq-eqb (slice_index word 0) 48 first) at other in
    omega (arith, ltb-false 1 (length word) short)

-- a number that is read is spelled so
pub number-takes : (word : List ℕ) (n : ℕ) → number_in word ≡ Some n → (word ≡ decimal n) × (n < 10 ^ 19)
number-takes word n is =
    let first = none-where (eqb (slice_index word 0) 48 && ltb 1 (length word)) (decimal_in word) n is in
    let some = leb 1 (length word) in
    let few = leb (length word) 19 in
    let digits = all_ascii_digits word in
    let read = some-where (some && few && digits) (digits_value 10 word) n first.1 in
    let three = and_parts (some && few) digits read.0 in
    let two = and_parts some few three.0 in
    let one : 1 ≤ length word = leb-true 1 (length word) two.0 in
    let room : digits_value 10 word < 10 ^ 19 = digits_value-room word 19 three.1 (leb-true (length word) 19 two.1) in
    (sym (decimal-digits_value own word three.1 (omega arith) (one-digit word first.0 one) (omega (arith, room))) ∙ ap decimal read.1, omega (arith, room, read.1))
