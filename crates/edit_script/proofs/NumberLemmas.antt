-- Numbers without leading zero, up to a greatest one, and the octet that ends them.
use Rattle.std.proofs.Common.{◌≡◌, ◌≢◌, ◌+◌, ◌-◌, ◌*◌, ◌/◌, ◌%◌, ◌^◌, ◌++◌, ◌<◌, ◌≤◌, ℕ, zero, suc, true, false, List, [], ◌∷◌, length, get_or, take, ◌⊎◌, refl, sym, ap, ◌∙◌, arith, length-append, decimal, inl, inr, ⊎_elim}
use Rattle.std.proofs.Math.Seq.{take-append_seam, get_or-append_seam}
use Rattle.std.proofs.lemmas.List.{append-nil}
use Rattle.std.proofs.lemmas.Fmt.{digits_decimal, digits_value-decimal, decimal_nonempty, first_decimal, decimal_digit, decimal_step, decimal_injective}
use Rattle.std.proofs.lemmas.Int.Digits.{digits_value_more}
use Rattle.std.proofs.lemmas.Str.{digit_value_digit}
use Rattle.std.proofs.lemmas.Str.Parse.{IsNumeralModel, numerals_by_value, tells_all_ascii_digits, digits_value-take-le}
use Rattle.std.specs.Char.{is_ascii_digit, digit_value}
use Rattle.std.specs.Int.{IsInRange}
use Rattle.std.specs.List.{list_all}
use Rattle.std.specs.Str.{all_ascii_digits}
use Rattle.std.specs.Str.Parse.{digits_value}
use Rattle.edi_octets.proofs.DecimalLemmas.{list_all-digits, digit_between}
use Rattle.edit_script.specs.Beginnings.{IsPartOf, BeginsNoneOf}
use Rattle.edit_script.specs.Reading.{Supply, Takes, IsSomeText}
use Rattle.edit_script.specs.Texts.{IsNumberText, IsLonger}
use Rattle.edit_script.proofs.OnceLemmas.{IsOnce}
use Rattle.edit_script.proofs.EndedLemmas.{HasNo, ended_part, ended_none, ended_once, bare_all, all_at}
use Rattle.edit_script.proofs.ReadingLemmas.{takes_then, takes_same}

own : IsNumeralModel (λ ds. all_ascii_digits ds ≡ true) (digits_value 10)
own = numerals_by_value (λ ds. all_ascii_digits ds ≡ true) tells_all_ascii_digits

-- ---- digits

pub digit_range : (x : ℕ) → is_ascii_digit x ≡ true → IsInRange 48 57 x
digit_range x is = digit_between (x ∷ []) 0 (rw is refl) (omega arith)

decimal_all : (n : ℕ) → n < 2 ^ 64 → list_all is_ascii_digit (decimal n) ≡ true
decimal_all n few = list_all-digits (decimal n) ∙ digits_decimal own n few

pub number_bare : (n end : ℕ) → n < 2 ^ 64 → is_ascii_digit end ≡ false → HasNo end (decimal n)
number_bare n end few apart = bare_all is_ascii_digit end (decimal n) apart (decimal_all n few)

-- ---- what begins a number

pub number_part : (least most end n : ℕ) → IsInRange least most n → IsPartOf (IsSomeText (IsNumberText least most end)) (decimal n)
number_part least most end n within =
    ended_part (IsInRange least most) decimal end n (decimal n) [] within (sym (append-nil (decimal n)))

pub number_part_empty : (least most end : ℕ) → least ≤ 1 → 9 ≤ most → IsPartOf (IsSomeText (IsNumberText least most end)) []
number_part_empty least most end low wide =
    ended_part (IsInRange least most) decimal end 1 [] (decimal 1) (low, omega arith) refl

pub number_bad_first : (least most end x : ℕ) → most < 10 ^ 19 → is_ascii_digit x ≡ false → BeginsNoneOf (IsSomeText (IsNumberText least most end)) (x ∷ [])
number_bad_first least most end x fits other =
    ended_none (IsInRange least most) decimal end [] x tt
    (λ v rest within is.
    let few : v < 2 ^ 64 = omega (arith, within.1, fits) in
    let digit : is_ascii_digit x ≡ true = all_at is_ascii_digit [] x rest (ap (list_all is_ascii_digit) (sym is) ∙ decimal_all v few) in cc)
    (λ v within at_end is.
    let few : v < 2 ^ 64 = omega (arith, within.1, fits) in
    omega (arith, decimal_nonempty v few, ap length is))

-- a first `0`, where no number may be 0
pub number_bad_zero : (least most end x : ℕ) → most < 10 ^ 19 → least ≤ 1 → is_ascii_digit x ≡ true → x - 48 < least → BeginsNoneOf (IsSomeText (IsNumberText least most end)) (x ∷ [])
number_bad_zero least most end x fits low digit under =
    ended_none (IsInRange least most) decimal end [] x tt
    (λ v rest within is.
    let few : v < 2 ^ 64 = omega (arith, within.1, fits) in
    let some : 0 < v = omega (arith, within.0, under) in
    let first = first_decimal v some few in
    omega (arith, first, ap (λ (xs : List ℕ). get_or xs 0 0) is, digit_range x digit, under, low))
    (λ v within at_end is.
    let few : v < 2 ^ 64 = omega (arith, within.1, fits) in
    omega (arith, decimal_nonempty v few, ap length is))

-- the number that more digits make is at least that of some of them
grows : (n v x : ℕ) (rest : List ℕ) → n < 2 ^ 64 → v < 2 ^ 64 → is_ascii_digit x ≡ true → decimal v ≡ decimal n ++ x ∷ rest → n * 10 + (x - 48) ≤ v
grows n v x rest n_few v_few digit is =
    let i = length (decimal n) in
    let inside : i < length (decimal v) = omega (arith, ap length is, length-append (decimal n) (x ∷ rest)) in
    let front : take i (decimal v) ≡ decimal n = ap (take i) is ∙ take-append_seam (decimal n) (x ∷ rest) in
    let next : get_or (decimal v) i 0 ≡ x = ap (λ (xs : List ℕ). get_or xs i 0) is ∙ get_or-append_seam (decimal n) x rest 0 in
    let more = digits_value_more 10 (decimal v) i inside in
    let less = digits_value-take-le 10 (decimal v) (i + 1) (omega arith) in
    let value : digits_value 10 (take i (decimal v)) ≡ n = ap (digits_value 10) front ∙ digits_value-decimal own n n_few in
    let whole : digits_value 10 (decimal v) ≡ v = digits_value-decimal own v v_few in
    let last = digit_value_digit x (digit_range x digit) in
    let step = ap digit_value next in
    omega (arith, more, less, value, whole, last, step, digit_range x digit)

zero_or_more : (n : ℕ) → (n ≡ 0) ⊎ (0 < n)
zero_or_more zero = inl refl
zero_or_more (suc n) = inr (omega arith)

-- no number goes on after `0`
zero_alone : (v x : ℕ) (rest : List ℕ) → v < 2 ^ 64 → decimal v ≡ decimal 0 ++ x ∷ rest → ⊥
zero_alone v x rest few is =
    let zero : decimal 0 ≡ 48 ∷ [] = decimal_digit 0 (omega arith) in
    let starts : decimal v ≡ 48 ∷ x ∷ rest = is ∙ ap (λ (xs : List ℕ). xs ++ x ∷ rest) zero in
    ⊎_elim
    (λ (none : v ≡ 0). cc (sym starts ∙ ap decimal none ∙ zero))
    (λ (some : 0 < v). let first = first_decimal v some few in omega (arith, first, ap (λ (xs : List ℕ). get_or xs 0 0) starts))
    (zero_or_more v)

pub number_bad : (least most end n x : ℕ) → most < 10 ^ 19 → is_ascii_digit end ≡ false → IsInRange least most n → x ≢ end → ((longer : ℕ) → IsLonger n x longer → longer ≤ most → ⊥) → BeginsNoneOf (IsSomeText (IsNumberText least most end)) (decimal n ++ x ∷ [])
number_bad least most end n x fits apart within other none =
    let n_few : n < 2 ^ 64 = omega (arith, within.1, fits) in
    ended_none (IsInRange least most) decimal end (decimal n) x (number_bare n end n_few apart)
    (λ v rest good is.
    let few : v < 2 ^ 64 = omega (arith, good.1, fits) in
    let digit : is_ascii_digit x ≡ true = all_at is_ascii_digit (decimal n) x rest (ap (list_all is_ascii_digit) (sym is) ∙ decimal_all v few) in
    let some : 0 < n = ⊎_elim
    (λ (zero_is : n ≡ 0). absurd (zero_alone v x rest few (is ∙ ap (λ (m : ℕ). decimal m ++ x ∷ rest) zero_is)))
    (λ (more_is : 0 < n). more_is)
    (zero_or_more n) in
    let more = grows n v x rest n_few few digit is in
    none (n * 10 + (x - 48)) (some, digit, refl) (omega (arith, more, good.1)))
    (λ v good at_end is. other at_end)

-- ---- one more digit

first_digit : (x : ℕ) → is_ascii_digit x ≡ true → decimal (x - 48) ≡ x ∷ []
first_digit x digit =
    let range = digit_range x digit in
    let same : 48 + (x - 48) ≡ x = omega (arith, range.0) in
    decimal_digit (x - 48) (omega (arith, range.1)) ∙ ap (λ (y : ℕ). y ∷ []) same

one_digit_more : (n x longer : ℕ) → longer < 2 ^ 64 → IsLonger n x longer → decimal longer ≡ decimal n ++ x ∷ []
one_digit_more n x longer few is =
    let range = digit_range x is.1 in
    let front : longer / 10 ≡ n = omega (arith, range.0, range.1, is.2) in
    let last : 48 + longer % 10 ≡ x = omega (arith, range.0, range.1, is.2) in
    decimal_step longer (omega (arith, is.0, is.2)) few ∙ ap (λ (m : ℕ). decimal m ++ (48 + longer % 10) ∷ []) front ∙ ap (λ (y : ℕ). decimal n ++ y ∷ []) last

pub takes_digit : (before now : Supply) (x : ℕ) → is_ascii_digit x ≡ true → Takes before now (x ∷ []) → Takes before now (decimal (x - 48))
takes_digit before now x digit is =
    takes_same before now (x ∷ []) (decimal (x - 48)) (sym (first_digit x digit)) is

pub takes_longer : (before mid now : Supply) (most n x longer : ℕ) → most < 10 ^ 19 → IsLonger n x longer → longer ≤ most → Takes before mid (decimal n) → Takes mid now (x ∷ []) → Takes before now (decimal longer)
takes_longer before mid now most n x longer fits is within first next =
    takes_same before now (decimal n ++ x ∷ []) (decimal longer) (sym (one_digit_more n x longer (omega (arith, within, fits)) is))
    (takes_then before mid now (decimal n) (x ∷ []) first next)

-- ---- numbers are told apart

pub number_once : (least most end : ℕ) → most < 10 ^ 19 → is_ascii_digit end ≡ false → IsOnce (IsNumberText least most end)
number_once least most end fits apart =
    ended_once (IsInRange least most) decimal end
    (λ v good. number_bare v end (omega (arith, good.1, fits)) apart)
    (λ v w good fair same. decimal_injective v w (omega (arith, good.1, fits)) (omega (arith, fair.1, fits)) same)
