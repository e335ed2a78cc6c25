-- Values that pass the tests of service segments.
use Rattle.std.proofs.Common.{◌≡◌, ℕ, ◌+◌, ◌^◌, ◌%◌, ◌<◌, ◌≤◌, Bool, true, false, not, ◌&&◌, ◌||◌, cond, eqb, Some, List, [], ◌∷◌, length, take, refl, sym, ap, ◌∙◌, inl, inr, arith, leb-true, le-ltb, ltb-false}
use Rattle.std.specs.Prelude.{decimal, filter, nat_le, nat_lt}
use Rattle.std.specs.List.{after_first, list_all, list_any, prefix_len}
use Rattle.std.specs.Str.{all_ascii_digits}
use Rattle.std.specs.Str.Parse.{digits_value}
use Rattle.std.proofs.lemmas.Bool.{and_left, and_parts, and_right, cases_Bool, false≢true, lt-leb, ne_eqb, or_cases}
use Rattle.std.proofs.lemmas.Fmt.{decimal_by_steps, digits_decimal, digits_value-decimal, length-decimal-le}
use Rattle.std.proofs.lemmas.List.{take_all, length-append}
use Rattle.std.proofs.lemmas.Str.Parse.{IsNumeralModel, numerals_by_value, tells_all_ascii_digits}
use Rattle.edi_tables.specs.Tag.{is_capital, is_digit, is_tag_octet_of}
use Rattle.edi_tables.specs.declared.element.Class.{Class}
use Rattle.edi_tables.specs.declared.element.Class.TheVariants.{A, N, An}
use Rattle.edi_tables.specs.declared.element.Repr.{Repr}
use Rattle.edi_octets.specs.Decimal.{decimal_in}
use Rattle.edi_octets.proofs.DecimalLemmas.{decimal_in-value}
use Rattle.seg_lexer.specs.Service.{default_service}
use Rattle.seg_lexer.specs.declared.context.Context.{Context}
use Rattle.seg_lexer.specs.declared.context.Level.{Level}
use Rattle.seg_lexer.specs.declared.context.Level.TheVariants as levels
use Rattle.seg_lexer.specs.declared.service.Service.{Service}
use Rattle.element_check.specs.Local.{has_octet}
use Rattle.element_check.specs.Repertoire.{is_admitted, is_in_level_a, is_printable, is_small, signs}
use Rattle.element_check.specs.Value.{counted_length, has_foreign, is_counted, is_decimal, is_digits, is_foreign, is_mark, is_sign, is_unsigned}
use Rattle.contrl_segments.specs.Service.{level_word}
use Rattle.text_reading.proofs.Items.{IsGoodValue, Passes}

-- the context in which an acknowledgement is read
abbrev pub context_with : Level → ℕ → Context
context_with level version = record { service = default_service; level = level; version = version }

abbrev pub up_to : Class → ℕ → Repr
up_to class max = record { class = class; exact = false; max = max }

abbrev pub exactly : Class → ℕ → Repr
exactly class max = record { class = class; exact = true; max = max }

-- tests of each octet
any_none : (p q : ℕ → Bool) → ((x : ℕ) → q x ≡ true → p x ≡ false) → (xs : List ℕ) → list_all q xs ≡ true → list_any p xs ≡ false
any_none p q each [] all = refl
any_none p q each (x ∷ xs) all =
    let parts = and_parts (q x) (list_all q xs) all in
    ap (λ (b : Bool). b || list_any p xs) (each x parts.0) ∙ any_none p q each xs parts.1

filter_all : (p q : ℕ → Bool) → ((x : ℕ) → q x ≡ true → p x ≡ true) → (xs : List ℕ) → list_all q xs ≡ true → filter p xs ≡ xs
filter_all p q each [] all = refl
filter_all p q each (x ∷ xs) all =
    let parts = and_parts (q x) (list_all q xs) all in
    ap (λ (b : Bool). cond b (x ∷ filter p xs) (filter p xs)) (each x parts.0) ∙ ap (λ (ys : List ℕ). x ∷ ys) (filter_all p q each xs parts.1)

always : (xs : List ℕ) → list_all (λ x. true) xs ≡ true
always [] = refl
always (x ∷ xs) = always xs

-- capital letters and digits are in each repertoire
digit_bounds : (x : ℕ) → is_digit x ≡ true → (48 ≤ x) × (x ≤ 57)
digit_bounds x is = let parts = and_parts (nat_le 48 x) (nat_le x 57) is in (leb-true 48 x parts.0, leb-true x 57 parts.1)

capital_bounds : (x : ℕ) → is_capital x ≡ true → (65 ≤ x) × (x ≤ 90)
capital_bounds x is = let parts = and_parts (nat_le 65 x) (nat_le x 90) is in (leb-true 65 x parts.0, leb-true x 90 parts.1)

octet_bounds : (x : ℕ) → is_tag_octet_of x ≡ true → (48 ≤ x) × (x ≤ 90)
octet_bounds x is = elim (or_cases (is_capital x) (is_digit x) is) [
  | inl c ↦ let b = capital_bounds x c in (omega (arith, b.0), omega (arith, b.1))
  | inr d ↦ let b = digit_bounds x d in (omega (arith, b.0), omega (arith, b.1))
]

printable : (x : ℕ) → is_tag_octet_of x ≡ true → is_printable x ≡ true
printable x is =
    let b = octet_bounds x is in
    ap (λ (c : Bool). not c && not (nat_le 127 x && nat_le x 159)) (lt-leb x 31 (omega (arith, b.0)))
    ∙ ap (λ (c : Bool). not (c && nat_le x 159)) (lt-leb 127 x (omega (arith, b.1)))

admitted_octet : (level : Level) (x : ℕ) → is_tag_octet_of x ≡ true → is_admitted level x ≡ true
unfolding is_in_level_a
admitted_octet levels.A x is = ap (λ (b : Bool). b || list_any (λ y. eqb y x) signs) is
admitted_octet levels.B x is = ap (λ (b : Bool). (b || list_any (λ y. eqb y x) signs) || is_small x) is
admitted_octet levels.C x is = printable x is
admitted_octet levels.D x is = printable x is
admitted_octet levels.E x is = printable x is
admitted_octet levels.F x is = printable x is

pub octets_admitted : (level : Level) (v : List ℕ) → list_all is_tag_octet_of v ≡ true → list_any (λ x. not (is_admitted level x)) v ≡ false
octets_admitted level v all = any_none (λ x. not (is_admitted level x)) is_tag_octet_of (λ x is. ap not (admitted_octet level x is)) v all

-- the length of an alphanumeric value is that of its octets
counted_an : (s : Service) (v : List ℕ) → counted_length s An v ≡ length v
counted_an s v = ap length (filter_all (is_counted s An) (λ x. true) (λ x is. refl) v (always v))

fits_in : (max n : ℕ) → n ≤ max → nat_lt max n ≡ false
fits_in max n few = le-ltb max n few

exact_fits : (exact : Bool) (max n : ℕ) → (exact ≡ true → max ≤ n) → (exact && nat_lt n max) ≡ false
exact_fits false max n least = refl
exact_fits true max n least = le-ltb n max (least refl)

pub an_passes : (context : Context) (exact : Bool) (max : ℕ) (v : List ℕ) → list_any (λ x. not (is_admitted context.level x)) v ≡ false → length v ≤ max → (exact ≡ true → max ≤ length v)
    → Passes context (record { class = An; exact = exact; max = max }) v
an_passes context exact max v admitted few least = record {
  admitted = admitted;
  typed = any_none (is_foreign context.service An) (λ x. true) (λ x is. refl) v (always v);
  number = refl;
  long = ap (nat_lt max) (counted_an context.service v) ∙ fits_in max (length v) few;
  short = ap (λ (n : ℕ). exact && nat_lt n max) (counted_an context.service v) ∙ exact_fits exact max (length v) least;
}

-- an alphanumeric value passes in each context of its level
pub an_moved : (one two : Context) (must : Bool) (max : ℕ) (v : List ℕ) → one.level ≡ two.level → IsGoodValue one must (up_to An max) v → IsGoodValue two must (up_to An max) v
an_moved one two must max v level good = record {
  filled = good.filled;
  passes = λ some.
      let p = good.passes some in
      let few : length v ≤ max = ltb-false max (length v) (sym (ap (nat_lt max) (counted_an one.service v)) ∙ p.long) in
      an_passes two false max v (sym (ap (λ (l : Level). list_any (λ x. not (is_admitted l x)) v) level) ∙ p.admitted) few (λ no. absurd (false≢true no));
}

-- the same of octets of a tag
some_filled : (v : List ℕ) → 1 ≤ length v → has_octet v ≡ true
some_filled v some = ap not (ne_eqb (length v) 0 (λ same. omega arith))

pub octets_good : (context : Context) (must exact : Bool) (max : ℕ) (v : List ℕ) → list_all is_tag_octet_of v ≡ true → 1 ≤ length v → length v ≤ max → (exact ≡ true → max ≤ length v)
    → IsGoodValue context must (record { class = An; exact = exact; max = max }) v
octets_good context must exact max v all some few least = record {
  filled = λ is. some_filled v some;
  passes = λ is. an_passes context exact max v (octets_admitted context.level v all) few least;
}

-- an empty value is good where none is needed
pub empty_good : (context : Context) (repr : Repr) → IsGoodValue context false repr []
empty_good context repr = record { filled = λ no. absurd (false≢true no); passes = λ no. absurd (false≢true no) }

-- one or more digits, at most so many
pub record IsNumber (most : ℕ) (v : List ℕ) : Type 0 where
  pub digits : all_ascii_digits v ≡ true
  pub some : 1 ≤ length v
  pub few : length v ≤ most

pub digits_list : (v : List ℕ) → all_ascii_digits v ≡ true → list_all is_digit v ≡ true
digits_list [] all = refl
digits_list (x ∷ xs) all =
    let parts = and_parts (is_digit x) (all_ascii_digits xs) all in
    ap (λ (b : Bool). b && list_all is_digit xs) parts.0 ∙ digits_list xs parts.1

digit_octet : (x : ℕ) → is_digit x ≡ true → is_tag_octet_of x ≡ true
digit_octet x is = elim (cases_Bool (is_capital x)) [
  | inl c ↦ ap (λ (b : Bool). b || is_digit x) c
  | inr c ↦ ap (λ (b : Bool). b || is_digit x) c ∙ is
]

digits_octets : (v : List ℕ) → list_all is_digit v ≡ true → list_all is_tag_octet_of v ≡ true
digits_octets [] all = refl
digits_octets (x ∷ xs) all =
    let parts = and_parts (is_digit x) (list_all is_digit xs) all in
    ap (λ (b : Bool). b && list_all is_tag_octet_of xs) (digit_octet x parts.0) ∙ digits_octets xs parts.1

no_mark : (s : Service) (x : ℕ) → is_digit x ≡ true → is_mark s x ≡ false
no_mark s x is = and_left _ (not (eqb x 45)) (and_right _ (not (is_digit x)) (ap not is))

no_sign : (s : Service) (x : ℕ) → is_digit x ≡ true → is_sign s x ≡ false
no_sign s x is =
    let b = digit_bounds x is in
    ap (λ (c : Bool). c || is_mark s x) (ne_eqb x 45 (λ same. omega (arith, b.0))) ∙ no_mark s x is

no_foreign : (s : Service) (x : ℕ) → is_digit x ≡ true → is_foreign s N x ≡ false
no_foreign s x is = ap (λ (b : Bool). not b && not (is_sign s x)) is

prefix_whole : (p : ℕ → Bool) (xs : List ℕ) → list_any p xs ≡ false → prefix_len (λ x. not (p x)) xs ≡ length xs
prefix_whole p [] none = refl
prefix_whole p (x ∷ xs) none = elim (cases_Bool (p x)) [
  | inl is ↦ absurd (false≢true (sym none ∙ ap (λ (b : Bool). b || list_any p xs) is))
  | inr is ↦
      ap (λ (b : Bool). cond (not b) (1 + prefix_len (λ y. not (p y)) xs) 0) is
      ∙ (let more : prefix_len (λ y. not (p y)) xs ≡ length xs = prefix_whole p xs (sym (ap (λ (b : Bool). b || list_any p xs) is) ∙ none) in omega arith)
]

number_unsigned : (s : Service) (x : ℕ) (xs : List ℕ) → list_all is_digit (x ∷ xs) ≡ true → is_unsigned s (x ∷ xs) ≡ true
number_unsigned s x xs all =
    let none : list_any (is_mark s) (x ∷ xs) ≡ false = any_none (is_mark s) is_digit (no_mark s) (x ∷ xs) all in
    let whole : take (prefix_len (λ y. not (is_mark s y)) (x ∷ xs)) (x ∷ xs) ≡ x ∷ xs =
    take_all (prefix_len (λ y. not (is_mark s y)) (x ∷ xs)) (x ∷ xs) (omega (arith, prefix_whole (is_mark s) (x ∷ xs) none)) in
    let rest : Bool = is_digits (after_first (is_mark s) (x ∷ xs)) in
    ap (λ (ys : List ℕ). is_digits ys && (not (list_any (is_mark s) (x ∷ xs)) || rest)) whole
    ∙ (ap (λ (b : Bool). list_all is_digit (x ∷ xs) && (not b || rest)) none
    ∙ ap (λ (b : Bool). b && true) all)

number_decimal : (s : Service) (v : List ℕ) → list_all is_digit v ≡ true → 1 ≤ length v → is_decimal s v ≡ true
unfolding is_decimal
number_decimal s [] all some = absurd (omega arith)
number_decimal s (x ∷ xs) all some =
    let b = digit_bounds x (and_parts (is_digit x) (list_all is_digit xs) all).0 in
    ap (λ (c : Bool). is_unsigned s (cond c xs (x ∷ xs))) (ne_eqb x 45 (λ same. omega (arith, b.0))) ∙ number_unsigned s x xs all

-- the length of a number is that of its octets
pub counted_n : (s : Service) (v : List ℕ) → list_all is_digit v ≡ true → counted_length s N v ≡ length v
counted_n s v all = ap length (filter_all (is_counted s N) is_digit (λ x is. ap not (no_sign s x is)) v all)

-- a number is good at a numeric place
pub number_good : (context : Context) (must exact : Bool) (max : ℕ) (v : List ℕ) → IsNumber max v → (exact ≡ true → max ≤ length v) → IsGoodValue context must (record { class = N; exact = exact; max = max }) v
number_good context must exact max v is least =
    let all = digits_list v is.digits in
    record {
      filled = λ need. some_filled v is.some;
      passes = λ some. record {
        admitted = octets_admitted context.level v (digits_octets v all);
        typed = any_none (is_foreign context.service N) is_digit (no_foreign context.service) v all;
        number = and_right (true && not (has_foreign context.service N v)) (not (is_decimal context.service v)) (ap not (number_decimal context.service v all is.some));
        long = ap (nat_lt max) (counted_n context.service v all) ∙ fits_in max (length v) is.few;
        short = ap (λ (n : ℕ). exact && nat_lt n max) (counted_n context.service v all) ∙ exact_fits exact max (length v) least;
      };
    }

-- and at an alphanumeric one
pub number_an : (context : Context) (must : Bool) (max : ℕ) (v : List ℕ) → IsNumber max v → IsGoodValue context must (up_to An max) v
number_an context must max v is = octets_good context must false max v (digits_octets v (digits_list v is.digits)) is.some is.few (λ no. absurd (false≢true no))

-- decimals are numbers
own : IsNumeralModel (λ ds. all_ascii_digits ds ≡ true) (digits_value 10)
own = numerals_by_value (λ ds. all_ascii_digits ds ≡ true) tells_all_ascii_digits

decimal_filled : (n : ℕ) → n < 2 ^ 64 → 1 ≤ length (decimal n)
decimal_filled n small = decimal_by_steps (λ m ds. 1 ≤ length ds) (λ m few. omega arith) (λ m ds many some. omega (arith, length-append ds ((48 + m % 10) ∷ []))) n small

pub decimal_number : (k n : ℕ) → 0 < k → n < 10 ^ k → n < 2 ^ 64 → IsNumber k (decimal n)
decimal_number k n some few small = record {
  digits = digits_decimal own n small;
  some = decimal_filled n small;
  few = length-decimal-le k n some few small;
}

-- and give their number
pub decimal_back : (n : ℕ) → n < 10 ^ 6 → decimal_in (decimal n) ≡ Some n
decimal_back n few =
    let is = decimal_number 6 n (omega arith) few (omega (arith, few)) in
    decimal_in-value (decimal n) is.some (omega (arith, is.few)) is.digits ∙ ap (λ (m : ℕ). Some m) (digits_value-decimal own n (omega (arith, few)))

-- the word of a level
pub level_good : (level : Level) (version : ℕ) → IsGoodValue (context_with level version) true (exactly A 4) (level_word level)
unfolding is_in_level_a
level_good levels.A version = record { filled = λ need. refl; passes = λ some. record { admitted = refl; typed = refl; number = refl; long = refl; short = refl } }
level_good levels.B version = record { filled = λ need. refl; passes = λ some. record { admitted = refl; typed = refl; number = refl; long = refl; short = refl } }
level_good levels.C version = record { filled = λ need. refl; passes = λ some. record { admitted = refl; typed = refl; number = refl; long = refl; short = refl } }
level_good levels.D version = record { filled = λ need. refl; passes = λ some. record { admitted = refl; typed = refl; number = refl; long = refl; short = refl } }
level_good levels.E version = record { filled = λ need. refl; passes = λ some. record { admitted = refl; typed = refl; number = refl; long = refl; short = refl } }
level_good levels.F version = record { filled = λ need. refl; passes = λ some. record { admitted = refl; typed = refl; number = refl; long = refl; short = refl } }
