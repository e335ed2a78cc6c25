-- A value that is read octet by octet is a number exactly where it has the form of one.
use Rattle.std.proofs.Common.{◌≡◌, ℕ, ◌+◌, suc, Bool, true, false, not, ◌&&◌, ◌||◌, cond, eqb, List, [], ◌∷◌, take, drop, refl, sym, ap, ◌∙◌, inl, inr, arith}
use Rattle.std.proofs.lemmas.Bool.{and_parts, cases_Bool}
use Rattle.std.proofs.lemmas.Bool.Decides.{nat_tests}
use Rattle.std.specs.List.{list_all, list_any, before_first, after_first, position_or_len}
use Rattle.edi_tables.specs.declared.element.Class.{Class}
use Rattle.edi_tables.specs.declared.element.Class.TheVariants.{A, N, An}
use Rattle.edi_tables.specs.Tag.{is_digit}
use Rattle.seg_lexer.specs.declared.service.Service.{Service}
use Rattle.element_check.specs.Value.{is_counted, is_decimal, is_digits, is_foreign, is_mark, is_unsigned}
use Rattle.element_check.specs.Tally.{form_after, is_foreign_sort, is_number, is_uncounted_sort, sort_of}
use Rattle.element_check.specs.declared.tally.NumberForm.{NumberForm}
use Rattle.element_check.specs.declared.tally.NumberForm.TheVariants.{Start, Minus, Whole, Mark, Fraction, Broken}
use Rattle.element_check.specs.declared.tally.Sort.{Sort}
use Rattle.element_check.specs.declared.tally.Sort.TheVariants.{Digit, Hyphen, Point, Other}

not_true : (b : Bool) → not b ≡ true → b ≡ false
not_true true h = sym h
not_true false h = refl

and_assoc : (a b c : Bool) → ((a && b) && c) ≡ (a && (b && c))
and_assoc true b c = refl
and_assoc false b c = refl

-- the sort of an octet, by three tests
abbrev is_digit_sort : Sort → Bool
is_digit_sort Digit = true
is_digit_sort sort = false

abbrev is_hyphen_sort : Sort → Bool
is_hyphen_sort Hyphen = true
is_hyphen_sort sort = false

abbrev is_point_sort : Sort → Bool
is_point_sort Point = true
is_point_sort sort = false

abbrev sorted_by : Bool → Bool → Bool → Sort
sorted_by d h m = cond d Digit (cond h Hyphen (cond m Point Other))

digit-sorted : (d h m : Bool) → is_digit_sort (sorted_by d h m) ≡ d
digit-sorted true h m = refl
digit-sorted false true m = refl
digit-sorted false false true = refl
digit-sorted false false false = refl

hyphen-sorted : (d h m : Bool) → (d ≡ true → h ≡ false) → is_hyphen_sort (sorted_by d h m) ≡ h
hyphen-sorted true h m f = sym (f refl)
hyphen-sorted false true m f = refl
hyphen-sorted false false true f = refl
hyphen-sorted false false false f = refl

point-sorted : (d h m : Bool) → (m ≡ true → (d ≡ false) × (h ≡ false)) → is_point_sort (sorted_by d h m) ≡ m
point-sorted true h true f = sym (f refl).0
point-sorted true h false f = refl
point-sorted false true true f = sym (f refl).1
point-sorted false true false f = refl
point-sorted false false true f = refl
point-sorted false false false f = refl

digit-no_hyphen : (x : ℕ) → is_digit x ≡ true → eqb x 45 ≡ false
digit-no_hyphen x h = grind (arith, nat_tests)

module _ (s : Service) where
  mark-other : (x : ℕ) → is_mark s x ≡ true → (is_digit x ≡ false) × (eqb x 45 ≡ false)
  mark-other x h =
      let both = and_parts _ (not (eqb x 45)) h in
      let first = and_parts _ (not (is_digit x)) both.0 in
      (not_true (is_digit x) first.1, not_true (eqb x 45) both.1)

  digit-is : (x : ℕ) → is_digit_sort (sort_of s x) ≡ is_digit x
  unfolding sort_of
  digit-is x = digit-sorted (is_digit x) (eqb x 45) (is_mark s x)

  hyphen-is : (x : ℕ) → is_hyphen_sort (sort_of s x) ≡ eqb x 45
  unfolding sort_of
  hyphen-is x = hyphen-sorted (is_digit x) (eqb x 45) (is_mark s x) (digit-no_hyphen x)

  point-is : (x : ℕ) → is_point_sort (sort_of s x) ≡ is_mark s x
  unfolding sort_of
  point-is x = point-sorted (is_digit x) (eqb x 45) (is_mark s x) (mark-other x)

-- the classes, by the same tests
abbrev foreign_by : Class → Bool → Bool → Bool
foreign_by A d g = d
foreign_by N d g = not d && not g
foreign_by An d g = false

foreign-sorted : (class : Class) (k : Sort) → is_foreign_sort class k ≡ foreign_by class (is_digit_sort k) (is_hyphen_sort k || is_point_sort k)
foreign-sorted A Digit = refl
foreign-sorted A Hyphen = refl
foreign-sorted A Point = refl
foreign-sorted A Other = refl
foreign-sorted N Digit = refl
foreign-sorted N Hyphen = refl
foreign-sorted N Point = refl
foreign-sorted N Other = refl
foreign-sorted An Digit = refl
foreign-sorted An Hyphen = refl
foreign-sorted An Point = refl
foreign-sorted An Other = refl

abbrev uncounted_by : Class → Bool → Bool
uncounted_by A g = false
uncounted_by N g = g
uncounted_by An g = false

uncounted-sorted : (class : Class) (k : Sort) → is_uncounted_sort class k ≡ uncounted_by class (is_hyphen_sort k || is_point_sort k)
uncounted-sorted A Digit = refl
uncounted-sorted A Hyphen = refl
uncounted-sorted A Point = refl
uncounted-sorted A Other = refl
uncounted-sorted N Digit = refl
uncounted-sorted N Hyphen = refl
uncounted-sorted N Point = refl
uncounted-sorted N Other = refl
uncounted-sorted An Digit = refl
uncounted-sorted An Hyphen = refl
uncounted-sorted An Point = refl
uncounted-sorted An Other = refl

foreign_by-is : (s : Service) (class : Class) (x : ℕ) → foreign_by class (is_digit x) (eqb x 45 || is_mark s x) ≡ is_foreign s class x
foreign_by-is s A x = refl
foreign_by-is s N x = refl
foreign_by-is s An x = refl

counted_by-is : (s : Service) (class : Class) (x : ℕ) → not (uncounted_by class (eqb x 45 || is_mark s x)) ≡ is_counted s class x
counted_by-is s A x = refl
counted_by-is s N x = refl
counted_by-is s An x = refl

-- an octet that its sort shows not to belong to a class doesn't belong to it
pub foreign-is : (s : Service) (class : Class) (x : ℕ) → is_foreign_sort class (sort_of s x) ≡ is_foreign s class x
foreign-is s class x =
    foreign-sorted class (sort_of s x)
    ∙ ap (λ (d : Bool). foreign_by class d (is_hyphen_sort (sort_of s x) || is_point_sort (sort_of s x))) (digit-is s x)
    ∙ ap (λ (h : Bool). foreign_by class (is_digit x) (h || is_point_sort (sort_of s x))) (hyphen-is s x)
    ∙ ap (λ (m : Bool). foreign_by class (is_digit x) (eqb x 45 || m)) (point-is s x)
    ∙ foreign_by-is s class x

pub counted-is : (s : Service) (class : Class) (x : ℕ) → not (is_uncounted_sort class (sort_of s x)) ≡ is_counted s class x
counted-is s class x =
    ap not (uncounted-sorted class (sort_of s x))
    ∙ ap (λ (h : Bool). not (uncounted_by class (h || is_point_sort (sort_of s x)))) (hyphen-is s x)
    ∙ ap (λ (m : Bool). not (uncounted_by class (eqb x 45 || m))) (point-is s x)
    ∙ counted_by-is s class x

-- the parts round the first octet that passes a test
module _ (p : ℕ → Bool) (x : ℕ) (xs : List ℕ) where
  before_first-hit : p x ≡ true → before_first p (x ∷ xs) ≡ []
  before_first-hit hit = ap (λ (b : Bool). take (cond (not b) (1 + position_or_len p xs) 0) (x ∷ xs)) hit

  after_first-hit : p x ≡ true → after_first p (x ∷ xs) ≡ xs
  after_first-hit hit = ap (λ (b : Bool). drop (cond (not b) (1 + position_or_len p xs) 0 + 1) (x ∷ xs)) hit

  before_first-miss : p x ≡ false → before_first p (x ∷ xs) ≡ x ∷ before_first p xs
  before_first-miss miss =
      let e : 1 + position_or_len p xs ≡ suc (position_or_len p xs) = omega arith in
      ap (λ (b : Bool). take (cond (not b) (1 + position_or_len p xs) 0) (x ∷ xs)) miss ∙ ap (λ (n : ℕ). take n (x ∷ xs)) e

  after_first-miss : p x ≡ false → after_first p (x ∷ xs) ≡ after_first p xs
  after_first-miss miss =
      let e : 1 + position_or_len p xs + 1 ≡ suc (position_or_len p xs + 1) = omega arith in
      ap (λ (b : Bool). drop (cond (not b) (1 + position_or_len p xs) 0 + 1) (x ∷ xs)) miss ∙ ap (λ (n : ℕ). drop n (x ∷ xs)) e

-- digits before the first mark, and digits after it where there is one
abbrev fraction_of : List ℕ → Bool → List ℕ → Bool
fraction_of before marked after = list_all is_digit before && (not marked || is_digits after)

abbrev unsigned_of : List ℕ → Bool → List ℕ → Bool
unsigned_of before marked after = is_digits before && (not marked || is_digits after)

module _ (s : Service) where
  -- digits that are left after a digit, and optionally a mark and digits
  abbrev whole_left : List ℕ → Bool
  whole_left xs = fraction_of (before_first (is_mark s) xs) (list_any (is_mark s) xs) (after_first (is_mark s) xs)

  whole_left-hit : (x : ℕ) (xs : List ℕ) → is_mark s x ≡ true → whole_left (x ∷ xs) ≡ is_digits xs
  whole_left-hit x xs hit =
      ap (λ (b : List ℕ). fraction_of b (list_any (is_mark s) (x ∷ xs)) (after_first (is_mark s) (x ∷ xs))) (before_first-hit (is_mark s) x xs hit)
      ∙ ap (λ (m : Bool). fraction_of [] (m || list_any (is_mark s) xs) (after_first (is_mark s) (x ∷ xs))) hit
      ∙ ap (λ (a : List ℕ). fraction_of [] true a) (after_first-hit (is_mark s) x xs hit)

  whole_left-miss : (x : ℕ) (xs : List ℕ) → is_mark s x ≡ false → whole_left (x ∷ xs) ≡ (is_digit x && whole_left xs)
  whole_left-miss x xs miss =
      ap (λ (b : List ℕ). fraction_of b (list_any (is_mark s) (x ∷ xs)) (after_first (is_mark s) (x ∷ xs))) (before_first-miss (is_mark s) x xs miss)
      ∙ ap (λ (m : Bool). fraction_of (x ∷ before_first (is_mark s) xs) (m || list_any (is_mark s) xs) (after_first (is_mark s) (x ∷ xs))) miss
      ∙ ap (λ (a : List ℕ). fraction_of (x ∷ before_first (is_mark s) xs) (list_any (is_mark s) xs) a) (after_first-miss (is_mark s) x xs miss)
      ∙ and_assoc (is_digit x) (list_all is_digit (before_first (is_mark s) xs)) (not (list_any (is_mark s) xs) || is_digits (after_first (is_mark s) xs))

  whole_left-step : (x : ℕ) (xs : List ℕ) → whole_left (x ∷ xs) ≡ cond (is_mark s x) (is_digits xs) (is_digit x && whole_left xs)
  whole_left-step x xs = elim (cases_Bool (is_mark s x)) [
    | inl hit ↦ whole_left-hit x xs hit ∙ sym (ap (λ (m : Bool). cond m (is_digits xs) (is_digit x && whole_left xs)) hit)
    | inr miss ↦ whole_left-miss x xs miss ∙ sym (ap (λ (m : Bool). cond m (is_digits xs) (is_digit x && whole_left xs)) miss)
  ]

  unsigned-hit : (x : ℕ) (xs : List ℕ) → is_mark s x ≡ true → is_unsigned s (x ∷ xs) ≡ (is_digit x && whole_left xs)
  unsigned-hit x xs hit =
      ap (λ (b : List ℕ). unsigned_of b (list_any (is_mark s) (x ∷ xs)) (after_first (is_mark s) (x ∷ xs))) (before_first-hit (is_mark s) x xs hit)
      ∙ sym (ap (λ (d : Bool). d && whole_left xs) (mark-other s x hit).0)

  unsigned-miss : (x : ℕ) (xs : List ℕ) → is_mark s x ≡ false → is_unsigned s (x ∷ xs) ≡ (is_digit x && whole_left xs)
  unsigned-miss x xs miss =
      ap (λ (b : List ℕ). unsigned_of b (list_any (is_mark s) (x ∷ xs)) (after_first (is_mark s) (x ∷ xs))) (before_first-miss (is_mark s) x xs miss)
      ∙ ap (λ (m : Bool). unsigned_of (x ∷ before_first (is_mark s) xs) (m || list_any (is_mark s) xs) (after_first (is_mark s) (x ∷ xs))) miss
      ∙ ap (λ (a : List ℕ). unsigned_of (x ∷ before_first (is_mark s) xs) (list_any (is_mark s) xs) a) (after_first-miss (is_mark s) x xs miss)
      ∙ and_assoc (is_digit x) (list_all is_digit (before_first (is_mark s) xs)) (not (list_any (is_mark s) xs) || is_digits (after_first (is_mark s) xs))

  unsigned-step : (x : ℕ) (xs : List ℕ) → is_unsigned s (x ∷ xs) ≡ (is_digit x && whole_left xs)
  unsigned-step x xs = elim (cases_Bool (is_mark s x)) [ inl hit ↦ unsigned-hit x xs hit | inr miss ↦ unsigned-miss x xs miss ]

  -- how far these octets are a number, read from a form on
  abbrev pub form_over : NumberForm → List ℕ → NumberForm
  form_over form [] = form
  form_over form (x ∷ xs) = form_over (form_after form (sort_of s x)) xs

  abbrev ends_number : NumberForm → List ℕ → Bool
  ends_number form xs = is_number (form_over form xs)

  broken-sort : (k : Sort) (xs : List ℕ) → ends_number Broken xs ≡ false → ends_number (form_after Broken k) xs ≡ false
  broken-sort Digit xs h = h
  broken-sort Hyphen xs h = h
  broken-sort Point xs h = h
  broken-sort Other xs h = h

  broken : (xs : List ℕ) → ends_number Broken xs ≡ false
  broken [] = refl
  broken (x ∷ xs) = broken-sort (sort_of s x) xs (broken xs)

  fraction-sort : (k : Sort) (xs : List ℕ) → ends_number Fraction xs ≡ list_all is_digit xs → ends_number (form_after Fraction k) xs ≡ (is_digit_sort k && list_all is_digit xs)
  fraction-sort Digit xs h = h
  fraction-sort Hyphen xs h = broken xs
  fraction-sort Point xs h = broken xs
  fraction-sort Other xs h = broken xs

  fraction : (xs : List ℕ) → ends_number Fraction xs ≡ list_all is_digit xs
  fraction [] = refl
  fraction (x ∷ xs) = fraction-sort (sort_of s x) xs (fraction xs) ∙ ap (λ (d : Bool). d && list_all is_digit xs) (digit-is s x)

  mark-sort : (k : Sort) (xs : List ℕ) → ends_number (form_after Mark k) xs ≡ (is_digit_sort k && list_all is_digit xs)
  mark-sort Digit xs = fraction xs
  mark-sort Hyphen xs = broken xs
  mark-sort Point xs = broken xs
  mark-sort Other xs = broken xs

  mark : (xs : List ℕ) → ends_number Mark xs ≡ is_digits xs
  mark [] = refl
  mark (x ∷ xs) = mark-sort (sort_of s x) xs ∙ ap (λ (d : Bool). d && list_all is_digit xs) (digit-is s x)

  whole-sort : (k : Sort) (xs : List ℕ) → ends_number Whole xs ≡ whole_left xs → ends_number (form_after Whole k) xs ≡ cond (is_point_sort k) (is_digits xs) (is_digit_sort k && whole_left xs)
  whole-sort Digit xs h = h
  whole-sort Hyphen xs h = broken xs
  whole-sort Point xs h = mark xs
  whole-sort Other xs h = broken xs

  whole : (xs : List ℕ) → ends_number Whole xs ≡ whole_left xs
  whole [] = refl
  whole (x ∷ xs) =
      whole-sort (sort_of s x) xs (whole xs)
      ∙ ap (λ (m : Bool). cond m (is_digits xs) (is_digit_sort (sort_of s x) && whole_left xs)) (point-is s x)
      ∙ ap (λ (d : Bool). cond (is_mark s x) (is_digits xs) (d && whole_left xs)) (digit-is s x)
      ∙ sym (whole_left-step x xs)

  minus-sort : (k : Sort) (xs : List ℕ) → ends_number (form_after Minus k) xs ≡ (is_digit_sort k && whole_left xs)
  minus-sort Digit xs = whole xs
  minus-sort Hyphen xs = broken xs
  minus-sort Point xs = broken xs
  minus-sort Other xs = broken xs

  minus : (xs : List ℕ) → ends_number Minus xs ≡ is_unsigned s xs
  minus [] = refl
  minus (x ∷ xs) = minus-sort (sort_of s x) xs ∙ ap (λ (d : Bool). d && whole_left xs) (digit-is s x) ∙ sym (unsigned-step x xs)

  start-sort : (k : Sort) (xs : List ℕ) → ends_number (form_after Start k) xs ≡ cond (is_hyphen_sort k) (is_unsigned s xs) (is_digit_sort k && whole_left xs)
  start-sort Digit xs = whole xs
  start-sort Hyphen xs = minus xs
  start-sort Point xs = broken xs
  start-sort Other xs = broken xs

  unsigned-cond : (b : Bool) (x : ℕ) (xs : List ℕ) → cond b (is_unsigned s xs) (is_digit x && whole_left xs) ≡ is_unsigned s (cond b xs (x ∷ xs))
  unsigned-cond true x xs = refl
  unsigned-cond false x xs = sym (unsigned-step x xs)

  -- a value is read to a number exactly where it is one
  pub ends_number-is : (xs : List ℕ) → ends_number Start xs ≡ is_decimal s xs
  unfolding is_decimal
  ends_number-is [] = refl
  ends_number-is (x ∷ xs) =
      start-sort (sort_of s x) xs
      ∙ ap (λ (h : Bool). cond h (is_unsigned s xs) (is_digit_sort (sort_of s x) && whole_left xs)) (hyphen-is s x)
      ∙ ap (λ (d : Bool). cond (eqb x 45) (is_unsigned s xs) (d && whole_left xs)) (digit-is s x)
      ∙ unsigned-cond (eqb x 45) x xs
