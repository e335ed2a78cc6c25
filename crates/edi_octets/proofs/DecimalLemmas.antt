-- Digits and the numbers that they give.
use Rattle.std.proofs.Common.{◌≡◌, ◌≢◌, ℕ, ◌+◌, ◌-◌, ◌*◌, ◌^◌, ◌<◌, ◌≤◌, true, ◌&&◌, List, [], ◌∷◌, length, get_or, take, refl, ap, arith, le-leb, pow-suc, Some}
use Rattle.std.proofs.Math.Nat.{mul-le-mul_left}
use Rattle.std.specs.Char.{is_ascii_digit, digit_value}
use Rattle.std.specs.Int.{IsInRange}
use Rattle.std.specs.List.{list_all}
use Rattle.std.specs.Str.{all_ascii_digits}
use Rattle.std.specs.Str.Parse.{digits_value, digits_value_after}
use Rattle.std.proofs.lemmas.Int.Digits.{digits_value_more}
use Rattle.std.proofs.lemmas.List.Recursion.{same_from_clauses}
use Rattle.std.proofs.lemmas.Str.{digit_value_digit}
use Rattle.std.proofs.lemmas.Str.Parse.{IsNumeralModel, numerals_by_value, tells_all_ascii_digits, digit_at, digits_value-take-le, digits_value_short}
use Rattle.edi_octets.specs.Decimal.{decimal_in}

own : IsNumeralModel (λ ds. all_ascii_digits ds ≡ true) (digits_value 10)
own = numerals_by_value (λ ds. all_ascii_digits ds ≡ true) tells_all_ascii_digits

pub list_all-digits : (xs : List ℕ) → list_all is_ascii_digit xs ≡ all_ascii_digits xs
list_all-digits = same_from_clauses (list_all is_ascii_digit) all_ascii_digits (λ x rest. is_ascii_digit x && rest) refl (λ _ _. refl) (λ _ _. refl)

-- a digit is at each place
pub digit_between : (xs : List ℕ) (i : ℕ) → all_ascii_digits xs ≡ true → i < length xs → IsInRange 48 57 (get_or xs i 0)
digit_between xs i digits lt = digit_at xs i (own.to xs digits) lt

-- n digits give less than 10 ^ n
pub digits_value-room : (xs : List ℕ) (n : ℕ) → all_ascii_digits xs ≡ true → length xs ≤ n → digits_value 10 xs < 10 ^ n
digits_value-room xs n digits le = digits_value_short own xs n digits le

-- one more digit
pub digits_value-step : (xs : List ℕ) (i : ℕ) → all_ascii_digits xs ≡ true → i < length xs → digits_value 10 (take i xs) * 10 + (get_or xs i 0 - 48) ≡ digits_value 10 (take (i + 1) xs)
digits_value-step xs i digits lt =
    omega (arith, digits_value_more 10 xs i lt, digit_value_digit (get_or xs i 0) (digit_between xs i digits lt))

-- up to 19 digits stay in range
pub digits_value-fits : (xs : List ℕ) (i : ℕ) → all_ascii_digits xs ≡ true → length xs ≤ 19 → digits_value 10 (take i xs) < 10 ^ 19
digits_value-fits xs i digits le =
    omega (arith, digits_value-take-le 10 xs i (omega arith), digits_value-room xs 19 digits le)

-- 1 to 19 digits give their number
pub decimal_in-value : (xs : List ℕ) → 1 ≤ length xs → length xs ≤ 19 → all_ascii_digits xs ≡ true → decimal_in xs ≡ Some (digits_value 10 xs)
decimal_in-value xs some few digits = rw (le-leb 1 (length xs) some, le-leb (length xs) 19 few, digits) refl

value_after : (n : ℕ) (digits : List ℕ) → n * 10 ^ length digits ≤ digits_value_after 10 n digits
value_after n [] = omega arith
value_after n (x ∷ digits) = let more = value_after (n * 10 + digit_value x) digits in omega (arith, more, ap (λ power. n * power) (pow-suc 10 (length digits)))

above_zero : (x : ℕ) → IsInRange 48 57 x → x ≢ 48 → 1 ≤ x - 48
above_zero x between first = omega arith

-- digits of which the first isn't zero give at least the power of ten of that length
pub digits_value-least : (x : ℕ) (digits : List ℕ) → all_ascii_digits (x ∷ digits) ≡ true → x ≢ 48 → 10 ^ length digits ≤ digits_value 10 (x ∷ digits)
digits_value-least x digits all first =
    let between = digit_between (x ∷ digits) 0 all (omega arith) in
    let some : 1 ≤ digit_value x = omega (arith, digit_value_digit x between, above_zero x between first) in
    omega (arith, mul-le-mul_left (10 ^ length digits) some, value_after (0 + digit_value x) digits)
