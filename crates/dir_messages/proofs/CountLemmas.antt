-- Digits, greatest counts and group numbers.
use Rattle.std.proofs.Common.{◌≡◌, ◌≢◌, ℕ, ◌^◌, ◌<◌, ◌≤◌, Bool, true, false, not, ◌==◌, ◌&&◌, ◌||◌, nat_le, cond, if◌then◌else◌, Option, Some, None, List, [], ◌∷◌, length, slice_index, take, drop, count_by, refl, sym, ap, ◌∙◌, subst, ⊎_elim, arith, one-add, length-take-le, le-leb, ne_eqb, eq-eqb}
use Rattle.std.proofs.Math.Nat.{pow-le-pow_right}
use Rattle.std.specs.List.{prefix_len, list_all}
use Rattle.std.specs.Option.{option_map}
use Rattle.std.specs.Str.{all_ascii_digits}
use Rattle.std.specs.Str.Parse.{digits_value}
use Rattle.std.proofs.lemmas.Bool.{cases_Bool, cases_lt, and_parts, lt-leb, and_right}
use Rattle.std.proofs.lemmas.List.Sums.{prefix_len-le-length}
use Rattle.edi_tables.specs.Tag.{is_digit}
use Rattle.edi_octets.specs.Decimal.{decimal_in}
use Rattle.edi_octets.specs.Lines.{after_spaces}
use Rattle.edi_tables.specs.Filled.{is_filled}
use Rattle.edi_octets.proofs.DecimalLemmas.{digits_value-room, digits_value-least, decimal_in-value}
use Rattle.dir_messages.specs.Message.{is_tail_octet, is_plain_number}
use Rattle.dir_messages.specs.Parts.{count_in, counts_in, IsNumber}

-- the digits in front are digits
pub digits-in_front : (text : List ℕ) → all_ascii_digits (take (prefix_len is_digit text) text) ≡ true
digits-in_front [] = refl
digits-in_front (x ∷ text) =
    ⊎_elim
    (λ (digit : is_digit x ≡ true). rw (digit, one-add, digit) (digits-in_front text))
    (λ (other : is_digit x ≡ false). rw other refl)
    (cases_Bool (is_digit x))

joined : {A B : Type 0} (some few tail : Bool) (f : A → B) (x : A) → (if some && few && tail then Some (f x) else None) ≡ (if tail then option_map f (if some && few then Some x else None) else None)
joined true true true f x = refl
joined true true false f x = refl
joined true false true f x = refl
joined true false false f x = refl
joined false few true f x = refl
joined false few false f x = refl

-- counts are a greatest count and a tail
pub counts_in-parts : (rest : List ℕ) (k : ℕ) → k ≡ prefix_len is_digit rest → counts_in rest ≡ (if list_all is_tail_octet (drop k rest) then option_map (λ max. record { max = max; ends = count_by (λ x. x == 43) (drop k rest) }) (count_in (take k rest)) else None)
counts_in-parts rest k is =
    let long : length (take k rest) ≡ k = length-take-le k rest (rw is (prefix_len-le-length is_digit rest)) in
    rw (long, is) (joined (nat_le 1 (prefix_len is_digit rest)) (nat_le (prefix_len is_digit rest) 6) (list_all is_tail_octet (drop (prefix_len is_digit rest) rest)) (λ max. record { max = max; ends = count_by (λ x. x == 43) (drop (prefix_len is_digit rest) rest) }) (digits_value 10 (take (prefix_len is_digit rest) rest)))

-- a text cut after its digits
pub counts_in-read : (text rest digits tail : List ℕ) (k : ℕ) → rest ≡ after_spaces text → digits ≡ take k rest → tail ≡ drop k rest → k ≡ prefix_len is_digit rest → counts_in (after_spaces text) ≡ (if list_all is_tail_octet tail then option_map (λ max. record { max = max; ends = count_by (λ x. x == 43) tail }) (count_in digits) else None)
counts_in-read text rest digits tail k behind front back is =
    rw (front, back) (ap counts_in (sym behind) ∙ counts_in-parts rest k is)

and_idle : (some : Bool) → (some && true && true) ≡ (some && true)
and_idle true = refl
and_idle false = refl

-- up to six digits are read as a decimal number
pub count_in-read : (digits : List ℕ) → all_ascii_digits digits ≡ true → length digits ≤ 6 → count_in digits ≡ decimal_in digits
count_in-read digits all few =
    let six = le-leb (length digits) 6 few in
    let nineteen : nat_le (length digits) 19 ≡ true = le-leb (length digits) 19 (omega arith) in
    rw (six, nineteen, all, and_idle (nat_le 1 (length digits))) refl

some_where : (test : Bool) (v n : ℕ) → Some n ≡ cond test (Some v) None → n ≡ v
some_where true v n is = cc
some_where false v n is = cc

-- they give less than a million
pub decimal_in-few : (digits : List ℕ) (n : ℕ) → all_ascii_digits digits ≡ true → length digits ≤ 6 → Some n ≡ decimal_in digits → n < 10 ^ 6
decimal_in-few digits n all few is =
    let value : n ≡ digits_value 10 digits = some_where (nat_le 1 (length digits) && nat_le (length digits) 19 && all_ascii_digits digits) (digits_value 10 digits) n is in
    rw value (digits_value-room digits 6 all few)

-- a number of 20 or more digits is at least ten to the nineteenth
many_digits : (field : List ℕ) → all_ascii_digits field ≡ true → slice_index field 0 ≢ 48 → 19 < length field → 10 ^ 19 ≤ digits_value 10 field
many_digits [] all first long = absurd (omega arith)
many_digits (x ∷ digits) all first long =
    let large : 10 ^ 19 ≤ 10 ^ length digits = pow-le-pow_right {n = 10} (omega arith) {i = 19} {j = length digits} (omega arith) in
    omega (arith, large, digits_value-least x digits all first)

filled_some : (field : List ℕ) → is_filled field ≡ true → 1 ≤ length field
filled_some [] filled = cc
filled_some (x ∷ field) filled = omega arith

pub IsNumber-read : (field : List ℕ) (n : Option ℕ) → is_plain_number field ≡ true → n ≡ decimal_in field → IsNumber n (digits_value 10 field)
IsNumber-read field n plain is =
    let parts = and_parts (is_filled field && all_ascii_digits field) (length field == 1 || not (slice_index field 0 == 48)) plain in
    let filled = and_parts (is_filled field) (all_ascii_digits field) parts.0 in
    ⊎_elim
    (λ (long : 19 < length field).
    let none : decimal_in field ≡ None = rw (lt-leb (length field) 19 long, and_right (nat_le 1 (length field)) false refl) refl in
    subst (λ n. IsNumber n (digits_value 10 field)) (sym (is ∙ none)) (many_digits field filled.1 (λ zero. cc (rw (ne_eqb (length field) 1 (omega arith), eq-eqb (slice_index field 0) 48 zero) at parts.1)) long))
    (λ (few : length field ≤ 19).
    let some : decimal_in field ≡ Some (digits_value 10 field) = decimal_in-value field (filled_some field filled.0) few filled.1 in
    subst (λ n. IsNumber n (digits_value 10 field)) (sym (is ∙ some)) refl)
    (cases_lt 19 (length field))
