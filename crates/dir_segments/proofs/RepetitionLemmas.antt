-- Numbers of repetitions, and the fields of an item without them.
use Rattle.std.proofs.Common.{◌≡◌, ◌≢◌, ◌+◌, ◌==◌, ◌<◌, ◌≤◌, ◌^◌, ℕ, suc, Bool, true, false, not, ◌&&◌, nat_le, Option, Some, None, List, [], ◌∷◌, ◌++◌, length, reverse, slice_index, if◌then◌else◌, refl, sym, ap, ◌∙◌, arith, ⊎_elim, le-leb, ne_eqb}
use borrow.Author.Tests.{leb-true}
use Rattle.std.specs.Str.{all_ascii_digits}
use Rattle.std.specs.Str.Parse.{digits_value}
use Rattle.std.proofs.lemmas.Bool.{cases_Bool, and_parts, and_right, eqb-false}
use Rattle.std.proofs.lemmas.List.{reverse-append, reverse-reverse, length-append, length-reverse}
use Rattle.std.proofs.lemmas.Str.{digit_value_digit}
use Rattle.edi_tables.specs.Forms.{is_element_code, is_composite_code, is_reps_formed}
use Rattle.edi_octets.specs.Decimal.{decimal_in}
use Rattle.edi_octets.specs.Profile.{first_field, status_in, repr_in}
use Rattle.edi_octets.proofs.DecimalLemmas.{digit_between, digits_value-room}
use Rattle.dir_segments.specs.declared.fields.ElementFields.{ElementFields}
use Rattle.dir_segments.specs.declared.fields.ElementItem.{ElementItem}
use Rattle.dir_segments.specs.declared.fields.CompositeItem.{CompositeItem}
use Rattle.dir_segments.specs.Parts.{field_from_end, is_element_form, is_composite_form, element_status, element_repr, composite_status, IsElement}
use Rattle.dir_segments.specs.Repetitions.{is_repetition_number, is_numbered_composite, is_numbered_element, without_from_end, item_fields, reps_in, IsElementItem, IsCompositeItem}
use Rattle.dir_segments.proofs.FieldLemmas.{some_where, field_from_end-push, field_from_end-push_before, field_from_end-push_third, is_composite_code-element}

-- ---- the number

-- what the form of a number says
pub record IsNumber (field : List ℕ) : Type 0 where
  pub some : 1 ≤ length field
  pub few : length field ≤ 2
  pub digits : all_ascii_digits field ≡ true
  pub first : slice_index field 0 ≢ 48

not_true : (b : Bool) → not b ≡ true → b ≡ false
not_true true is = cc
not_true false is = refl

pub number_parts : (field : List ℕ) → is_repetition_number field ≡ true → IsNumber field
number_parts field is =
    let some = nat_le 1 (length field) in
    let few = nat_le (length field) 2 in
    let digits = all_ascii_digits field in
    let zero = slice_index field 0 == 48 in
    let three = and_parts (some && few && digits) (not zero) is in
    let two = and_parts (some && few) digits three.0 in
    let one = and_parts some few two.0 in
    record {
      some = leb-true 1 (length field) one.0;
      few = leb-true (length field) 2 one.1;
      digits = two.1;
      first = eqb-false (slice_index field 0) 48 (not_true zero three.1);
    }

pub number_from : (field : List ℕ) → IsNumber field → is_repetition_number field ≡ true
number_from field is =
    rw (le-leb 1 (length field) is.some, le-leb (length field) 2 is.few, is.digits, ne_eqb (slice_index field 0) 48 is.first) refl

formed : (n : ℕ) → 1 ≤ n → n ≤ 99 → is_reps_formed n ≡ true
formed n some few = rw (le-leb 1 n some, le-leb n 99 few) refl

-- a number is from 1 to 99
between : (field : List ℕ) → IsNumber field → is_reps_formed (digits_value 10 field) ≡ true
between [] is = absurd (omega (arith, is.some))
between (x ∷ []) is =
    let first = digit_between (x ∷ []) 0 is.digits (omega arith) in
    let zero : x ≢ 48 = is.first in
    formed (digits_value 10 (x ∷ [])) (omega (arith, digit_value_digit x first, first, zero)) (omega (arith, digit_value_digit x first, first))
between (x ∷ y ∷ []) is =
    let first = digit_between (x ∷ y ∷ []) 0 is.digits (omega arith) in
    let second = digit_between (x ∷ y ∷ []) 1 is.digits (omega arith) in
    let zero : x ≢ 48 = is.first in
    formed (digits_value 10 (x ∷ y ∷ [])) (omega (arith, digit_value_digit x first, digit_value_digit y second, first, second, zero)) (omega (arith, digit_value_digit x first, digit_value_digit y second, first, second))
between (x ∷ y ∷ z ∷ field) is = absurd (omega (arith, is.few))

pub number-formed : (field : List ℕ) → is_repetition_number field ≡ true → is_reps_formed (digits_value 10 field) ≡ true
number-formed field is = between field (number_parts field is)

-- ---- read

digits_idle : (some digits : Bool) → (some && true && digits && true) ≡ (some && true && digits)
digits_idle true true = refl
digits_idle true false = refl
digits_idle false digits = refl

-- one or two octets of which the first isn't zero are a number where they are digits
pub number_is-decimal : (field : List ℕ) → length field ≤ 2 → slice_index field 0 ≢ 48 → (if is_repetition_number field then Some (digits_value 10 field) else None) ≡ decimal_in field
number_is-decimal field few first =
    let two = le-leb (length field) 2 few in
    let nineteen : nat_le (length field) 19 ≡ true = le-leb (length field) 19 (omega arith) in
    rw (two, nineteen, ne_eqb (slice_index field 0) 48 first, digits_idle (nat_le 1 (length field)) (all_ascii_digits field)) refl

-- one or two digits give less than 100
pub decimal_in-two : (field : List ℕ) (n : ℕ) → length field ≤ 2 → Some n ≡ decimal_in field → n < 10 ^ 2
decimal_in-two field n few is =
    let parts = some_where (nat_le 1 (length field) && nat_le (length field) 19 && all_ascii_digits field) (digits_value 10 field) n is in
    let digits : all_ascii_digits field ≡ true = (and_parts (nat_le 1 (length field) && nat_le (length field) 19) (all_ascii_digits field) parts.0).1 in
    omega (arith, parts.1, digits_value-room field 2 digits few)

-- ---- statuses

-- a number is no status
status_of_digits : (field : List ℕ) → IsNumber field → status_in field ≡ None
status_of_digits [] is = refl
status_of_digits (x ∷ []) is =
    let first = digit_between (x ∷ []) 0 is.digits (omega arith) in
    let not_must : x ≢ 77 = λ e. omega (arith, first) in
    let not_may : x ≢ 67 = λ e. omega (arith, first) in
    rw (ne_eqb x 77 not_must, ne_eqb x 67 not_may) refl
status_of_digits (x ∷ y ∷ field) is = refl

pub status_in-number : (field : List ℕ) (must : Bool) → status_in field ≡ Some must → is_repetition_number field ≡ false
status_in-number field must status =
    ⊎_elim
    (λ (is : is_repetition_number field ≡ true). let none = status_of_digits field (number_parts field is) in cc)
    (λ (none : is_repetition_number field ≡ false). none)
    (cases_Bool (is_repetition_number field))

-- ---- the ends of some fields

first_field-front : (front rest : List (List ℕ)) → 1 ≤ length front → first_field (front ++ rest) ≡ first_field front
first_field-front [] rest some = absurd (omega arith)
first_field-front (field ∷ front) rest some = refl

ends_reversed : (fields back : List (List ℕ)) → reverse fields ≡ back → 1 ≤ length fields → (front : List (List ℕ)) × (last : List ℕ) × (fields ≡ front ++ last ∷ [])
ends_reversed fields [] is some = absurd (omega (arith, length-reverse fields, ap length is))
ends_reversed fields (last ∷ back) is some =
    (reverse back, last, sym (reverse-reverse fields) ∙ ap reverse is ∙ reverse-append (last ∷ []) back)

-- fields have a last one
ends_one : (fields : List (List ℕ)) → 1 ≤ length fields → (front : List (List ℕ)) × (last : List ℕ) × (fields ≡ front ++ last ∷ [])
ends_one fields some = ends_reversed fields (reverse fields) refl some

-- the fields of a composite's line without the last of at least four
record IsShorter (fields own : List (List ℕ)) : Type 0 where
  pub first : first_field own ≡ first_field fields
  pub length : length fields ≡ suc (length own)

without_last : (fields : List (List ℕ)) → 2 ≤ length fields → IsShorter fields (without_from_end 1 fields) × (field_from_end 1 (without_from_end 1 fields) ≡ field_from_end 2 fields)
without_last fields many =
    let ends = ends_one fields (omega arith) in
    let front = ends.0 in
    let last = ends.1 in
    let one : length fields ≡ length front + 1 = ap length ends.2 ∙ length-append front (last ∷ []) in
    let own : without_from_end 1 fields ≡ front = ap (without_from_end 1) ends.2 ∙ rw (reverse-append front (last ∷ [])) (reverse-reverse front) in
    let shorter : IsShorter fields front = record {
      first = sym (first_field-front front (last ∷ []) (omega arith)) ∙ ap first_field (sym ends.2);
      length = omega (arith, one);
    } in
    let status : field_from_end 1 front ≡ field_from_end 2 fields = sym (field_from_end-push_before front last) ∙ ap (field_from_end 2) (sym ends.2) in
    (rw own shorter, rw own status)

-- the fields of a data element's line without the one before the last of at least five
without_second : (fields : List (List ℕ)) → 3 ≤ length fields → IsShorter fields (without_from_end 2 fields) × (field_from_end 1 (without_from_end 2 fields) ≡ field_from_end 1 fields) × (field_from_end 2 (without_from_end 2 fields) ≡ field_from_end 3 fields)
without_second fields many =
    let ends = ends_one fields (omega arith) in
    let last = ends.1 in
    let one : length fields ≡ length ends.0 + 1 = ap length ends.2 ∙ length-append ends.0 (last ∷ []) in
    let more = ends_one ends.0 (omega (arith, one)) in
    let front = more.0 in
    let second = more.1 in
    let two : length ends.0 ≡ length front + 1 = ap length more.2 ∙ length-append front (second ∷ []) in
    let all : fields ≡ (front ++ second ∷ []) ++ last ∷ [] = ends.2 ∙ ap (λ l. l ++ last ∷ []) more.2 in
    let own : without_from_end 2 fields ≡ front ++ last ∷ [] = ap (without_from_end 2) all ∙ rw (reverse-append (front ++ second ∷ []) (last ∷ []), reverse-append front (second ∷ [])) (reverse-append (last ∷ []) (reverse front) ∙ ap (λ l. l ++ last ∷ []) (reverse-reverse front)) in
    let long : length (front ++ last ∷ []) ≡ length front + 1 = length-append front (last ∷ []) in
    let shorter : IsShorter fields (front ++ last ∷ []) = record {
      first = first_field-front front (last ∷ []) (omega (arith, one, two)) ∙ sym (ap first_field all ∙ first_field-front (front ++ second ∷ []) (last ∷ []) (omega (arith, length-append front (second ∷ []))) ∙ first_field-front front (second ∷ []) (omega (arith, one, two)));
      length = omega (arith, one, two, long);
    } in
    let repr : field_from_end 1 (front ++ last ∷ []) ≡ field_from_end 1 fields = field_from_end-push front last ∙ sym (ap (field_from_end 1) all ∙ field_from_end-push (front ++ second ∷ []) last) in
    let status : field_from_end 2 (front ++ last ∷ []) ≡ field_from_end 3 fields = field_from_end-push_before front last ∙ sym (ap (field_from_end 3) all ∙ field_from_end-push_third (front ++ second ∷ []) last ∙ field_from_end-push_before front second) in
    (rw own shorter, rw own repr, rw own status)

-- ---- an item's fields

three : (a b c : Bool) → (a && b && c) ≡ true → (a ≡ true) × (b ≡ true) × (c ≡ true)
three a b c is =
    let two = and_parts (a && b) c is in
    let one = and_parts a b two.0 in
    (one.0, one.1, two.1)

is_element_code-composite : (field : List ℕ) → is_composite_code field ≡ true → is_element_code field ≡ false
is_element_code-composite field code =
    ⊎_elim
    (λ (is : is_element_code field ≡ true). let other = is_composite_code-element field is in cc)
    (λ (none : is_element_code field ≡ false). none)
    (cases_Bool (is_element_code field))

-- a composite that has a number
pub record IsOwnComposite (fields : List (List ℕ)) : Type 0 where
  pub code : is_composite_code (first_field fields) ≡ true
  pub form : is_composite_form fields ≡ true
  pub own_form : is_composite_form (item_fields fields) ≡ true
  pub own_code : first_field (item_fields fields) ≡ first_field fields
  pub status : composite_status (item_fields fields) ≡ status_in (field_from_end 2 fields)
  pub number : is_repetition_number (field_from_end 1 fields) ≡ true
  pub reps : reps_in fields ≡ digits_value 10 (field_from_end 1 fields)

pub own_composite : (fields : List (List ℕ)) → is_numbered_composite fields ≡ true → IsOwnComposite fields
unfolding item_fields reps_in
own_composite fields is =
    let own = without_from_end 1 fields in
    let parts = three (is_composite_code (first_field fields)) (nat_le 4 (length fields)) (is_repetition_number (field_from_end 1 fields)) is in
    let many : 4 ≤ length fields = leb-true 4 (length fields) parts.1 in
    let rest = without_last fields (omega arith) in
    let taken : item_fields fields ≡ own = rw is refl in
    let few : nat_le 3 (length fields) ≡ true = le-leb 3 (length fields) (omega arith) in
    let own_few : nat_le 3 (length own) ≡ true = le-leb 3 (length own) (omega (arith, rest.0.length)) in
    let own_code : is_composite_code (first_field own) ≡ true = ap is_composite_code rest.0.first ∙ parts.0 in
    let own_form : is_composite_form own ≡ true = rw (own_code, own_few) refl in
    record {
      code = parts.0;
      form = rw (parts.0, few) refl;
      own_form = ap is_composite_form taken ∙ own_form;
      own_code = ap first_field taken ∙ rest.0.first;
      status = ap composite_status taken ∙ ap status_in rest.1;
      number = parts.2;
      reps = rw is refl;
    }

-- a data element that has a number
pub record IsOwnElement (fields : List (List ℕ)) : Type 0 where
  pub code : is_element_code (first_field fields) ≡ true
  pub form : is_element_form fields ≡ true
  pub own_form : is_element_form (item_fields fields) ≡ true
  pub own_code : first_field (item_fields fields) ≡ first_field fields
  pub status : element_status (item_fields fields) ≡ status_in (field_from_end 3 fields)
  pub repr : element_repr (item_fields fields) ≡ element_repr fields
  pub number : is_repetition_number (field_from_end 2 fields) ≡ true
  pub reps : reps_in fields ≡ digits_value 10 (field_from_end 2 fields)

-- an element isn't a composite with a number
pub is_numbered_composite-element : (fields : List (List ℕ)) → is_element_code (first_field fields) ≡ true → is_numbered_composite fields ≡ false
is_numbered_composite-element fields code = rw (is_composite_code-element (first_field fields) code) refl

-- nor a composite an element with a number
pub is_numbered_element-composite : (fields : List (List ℕ)) → is_composite_code (first_field fields) ≡ true → is_numbered_element fields ≡ false
is_numbered_element-composite fields code = rw (is_element_code-composite (first_field fields) code) refl

pub own_element : (fields : List (List ℕ)) → is_numbered_element fields ≡ true → IsOwnElement fields
unfolding item_fields reps_in
own_element fields is =
    let own = without_from_end 2 fields in
    let parts = three (is_element_code (first_field fields)) (nat_le 5 (length fields)) (is_repetition_number (field_from_end 2 fields)) is in
    let other = is_numbered_composite-element fields parts.0 in
    let many : 5 ≤ length fields = leb-true 5 (length fields) parts.1 in
    let rest = without_second fields (omega arith) in
    let taken : item_fields fields ≡ own = rw (other, is) refl in
    let few : nat_le 4 (length fields) ≡ true = le-leb 4 (length fields) (omega arith) in
    let own_few : nat_le 4 (length own) ≡ true = le-leb 4 (length own) (omega (arith, rest.0.length)) in
    let own_code : is_element_code (first_field own) ≡ true = ap is_element_code rest.0.first ∙ parts.0 in
    let own_form : is_element_form own ≡ true = rw (own_code, own_few) refl in
    record {
      code = parts.0;
      form = rw (parts.0, few) refl;
      own_form = ap is_element_form taken ∙ own_form;
      own_code = ap first_field taken ∙ rest.0.first;
      status = ap element_status taken ∙ ap status_in rest.2;
      repr = ap element_repr taken ∙ ap repr_in rest.1;
      number = parts.2;
      reps = rw (other, is) refl;
    }

-- an item that has no number
pub own_fields : (fields : List (List ℕ)) → is_numbered_composite fields ≡ false → is_numbered_element fields ≡ false → (item_fields fields ≡ fields) × (reps_in fields ≡ 1)
unfolding item_fields reps_in
own_fields fields composite element = (rw (composite, element) refl, rw (composite, element) refl)

-- the form of an item's fields is the same with its number and without it
pub is_element_form-item : (fields : List (List ℕ)) → is_element_form (item_fields fields) ≡ is_element_form fields
is_element_form-item fields =
    ⊎_elim
    (λ (composite : is_numbered_composite fields ≡ true).
    let own = own_composite fields composite in
    let code = is_element_code-composite (first_field fields) own.code in
    rw (own.own_code, code) refl)
    (λ (other : is_numbered_composite fields ≡ false).
    ⊎_elim
    (λ (element : is_numbered_element fields ≡ true). let own = own_element fields element in own.own_form ∙ sym own.form)
    (λ (none : is_numbered_element fields ≡ false). ap is_element_form (own_fields fields other none).0)
    (cases_Bool (is_numbered_element fields)))
    (cases_Bool (is_numbered_composite fields))

pub is_composite_form-item : (fields : List (List ℕ)) → is_composite_form (item_fields fields) ≡ is_composite_form fields
is_composite_form-item fields =
    ⊎_elim
    (λ (composite : is_numbered_composite fields ≡ true). let own = own_composite fields composite in own.own_form ∙ sym own.form)
    (λ (other : is_numbered_composite fields ≡ false).
    ⊎_elim
    (λ (element : is_numbered_element fields ≡ true).
    let own = own_element fields element in
    let code = is_composite_code-element (first_field fields) own.code in
    rw (own.own_code, code) refl)
    (λ (none : is_numbered_element fields ≡ false). ap is_composite_form (own_fields fields other none).0)
    (cases_Bool (is_numbered_element fields)))
    (cases_Bool (is_numbered_composite fields))

-- an item's greatest number of repetitions is from 1 to 99
pub reps_in-formed : (fields : List (List ℕ)) → is_reps_formed (reps_in fields) ≡ true
reps_in-formed fields =
    ⊎_elim
    (λ (composite : is_numbered_composite fields ≡ true).
    let own = own_composite fields composite in
    ap is_reps_formed own.reps ∙ number-formed (field_from_end 1 fields) own.number)
    (λ (other : is_numbered_composite fields ≡ false).
    ⊎_elim
    (λ (element : is_numbered_element fields ≡ true).
    let own = own_element fields element in
    ap is_reps_formed own.reps ∙ number-formed (field_from_end 2 fields) own.number)
    (λ (none : is_numbered_element fields ≡ false). ap is_reps_formed (own_fields fields other none).1)
    (cases_Bool (is_numbered_element fields)))
    (cases_Bool (is_numbered_composite fields))

-- ---- what was read of an item's fields

-- the number that a field was read as
abbrev pub number_read : List ℕ → Option ℕ
number_read field = if is_repetition_number field then Some (digits_value 10 field) else None

none_where : (test : Bool) (n : ℕ) → None ≡ (if test then Some n else None) → test ≡ false
none_where true n is = cc
none_where false n is = refl

all_three : (a b c : Bool) → a ≡ true → b ≡ true → c ≡ true → (a && b && c) ≡ true
all_three a b c first second third = rw (first, second, third) refl

-- a data element's field before the last was read as a number, and there are five
pub element_with_number : (item : ElementItem) (fields : List (List ℕ)) (number status : List ℕ) → is_element_form fields ≡ true → nat_le 5 (length fields) ≡ true → number ≡ field_from_end 2 fields → status ≡ field_from_end 3 fields → Some item.reps ≡ number_read number → item.element.code.octets ≡ first_field fields → item.element.must ≡ status_in status → item.element.repr ≡ element_repr fields → (is_element_form (item_fields fields) ≡ true) × IsElementItem item fields
element_with_number item fields number status form many second third read code must repr =
    let test = is_repetition_number number in
    let found = some_where test (digits_value 10 number) item.reps read in
    let coded = (and_parts (is_element_code (first_field fields)) (nat_le 4 (length fields)) form).0 in
    let is : is_numbered_element fields ≡ true = all_three (is_element_code (first_field fields)) (nat_le 5 (length fields)) (is_repetition_number (field_from_end 2 fields)) coded many (ap is_repetition_number (sym second) ∙ found.0) in
    let own = own_element fields is in (
      own.own_form,
      record {
        element = record {
          code = code ∙ sym own.own_code;
          must = must ∙ ap status_in third ∙ sym own.status;
          repr = repr ∙ sym own.repr;
        };
        reps = found.1 ∙ ap (digits_value 10) second ∙ sym own.reps;
      },
    )

-- a data element has no number
pub element_without_number : (element : ElementFields) (fields : List (List ℕ)) → is_element_form fields ≡ true → IsElement element fields → (nat_le 5 (length fields) && is_repetition_number (field_from_end 2 fields)) ≡ false → (is_element_form (item_fields fields) ≡ true) × IsElementItem (record { element = element; reps = 1 }) fields
element_without_number element fields form read none =
    let coded = (and_parts (is_element_code (first_field fields)) (nat_le 4 (length fields)) form).0 in
    let composite = is_numbered_composite-element fields coded in
    let is : is_numbered_element fields ≡ false = rw coded none in
    let own = own_fields fields composite is in (
      ap is_element_form own.0 ∙ form,
      record {
        element = record {
          code = read.code ∙ ap first_field (sym own.0);
          must = read.must ∙ ap element_status (sym own.0);
          repr = read.repr ∙ ap element_repr (sym own.0);
        };
        reps = sym own.1;
      },
    )

-- a composite's last field was read as a number, and there are four
pub composite_with_number : (item : CompositeItem) (fields : List (List ℕ)) (number status : List ℕ) → is_composite_code (first_field fields) ≡ true → nat_le 4 (length fields) ≡ true → number ≡ field_from_end 1 fields → status ≡ field_from_end 2 fields → Some item.reps ≡ number_read number → item.code.octets ≡ first_field fields → item.must ≡ status_in status → (is_composite_form (item_fields fields) ≡ true) × IsCompositeItem item fields
composite_with_number item fields number status coded many last second read code must =
    let test = is_repetition_number number in
    let found = some_where test (digits_value 10 number) item.reps read in
    let is : is_numbered_composite fields ≡ true = all_three (is_composite_code (first_field fields)) (nat_le 4 (length fields)) (is_repetition_number (field_from_end 1 fields)) coded many (ap is_repetition_number (sym last) ∙ found.0) in
    let own = own_composite fields is in (
      own.own_form,
      record {
        code = code ∙ sym own.own_code;
        must = must ∙ ap status_in second ∙ sym own.status;
        reps = found.1 ∙ ap (digits_value 10) last ∙ sym own.reps;
      },
    )

-- a composite has no number
pub composite_without_number : (item : CompositeItem) (fields : List (List ℕ)) (status : List ℕ) → is_composite_code (first_field fields) ≡ true → nat_le 3 (length fields) ≡ true → (nat_le 4 (length fields) && is_repetition_number (field_from_end 1 fields)) ≡ false → status ≡ field_from_end 1 fields → item.code.octets ≡ first_field fields → item.must ≡ status_in status → item.reps ≡ 1 → (is_composite_form (item_fields fields) ≡ true) × IsCompositeItem item fields
composite_without_number item fields status coded many none last code must reps =
    let is : is_numbered_composite fields ≡ false = rw coded none in
    let own = own_fields fields is (is_numbered_element-composite fields coded) in
    let form : is_composite_form fields ≡ true = rw (coded, many) refl in (
      ap is_composite_form own.0 ∙ form,
      record {
        code = code ∙ ap first_field (sym own.0);
        must = must ∙ ap status_in last ∙ ap composite_status (sym own.0);
        reps = reps ∙ sym own.1;
      },
    )

-- no number: too few fields, or another field in its place
pub too_few : (enough number : Bool) → enough ≡ false → (enough && number) ≡ false
too_few enough number few = rw few refl

pub no_number : (enough : Bool) (field place : List ℕ) → field ≡ place → None ≡ number_read field → (enough && is_repetition_number place) ≡ false
no_number enough field place same read =
    let none = none_where (is_repetition_number field) (digits_value 10 field) read in
    ap (λ f. enough && is_repetition_number f) (sym same) ∙ rw none (and_right enough false refl)
