-- Fields, and what their forms exclude.
use Rattle.std.proofs.Common.{◌≡◌, ℕ, Bool, true, false, ◌==◌, Some, None, List, [], ◌∷◌, ◌++◌, length, refl, arith, cond, nat_le, ne_eqb}
use Rattle.std.specs.Str.{all_ascii_digits}
use Rattle.std.proofs.lemmas.List.{reverse-append}
use Rattle.std.proofs.lemmas.Bool.{and_parts, and_right}
use Rattle.edi_tables.specs.Forms.{is_element_code, is_composite_code}
use Rattle.edi_octets.specs.Profile.{first_field}
use Rattle.edi_octets.proofs.DecimalLemmas.{digit_between}
use Rattle.dir_segments.specs.Parts.{field_from_end, is_element_form, is_composite_form}

-- the last field, and the two before it, where one more comes
pub field_from_end-push : (fields : List (List ℕ)) (x : List ℕ) → field_from_end 1 (fields ++ x ∷ []) ≡ x
field_from_end-push fields x = rw (reverse-append fields (x ∷ [])) refl

pub field_from_end-push_before : (fields : List (List ℕ)) (x : List ℕ) → field_from_end 2 (fields ++ x ∷ []) ≡ field_from_end 1 fields
field_from_end-push_before fields x = rw (reverse-append fields (x ∷ [])) refl

pub field_from_end-push_third : (fields : List (List ℕ)) (x : List ℕ) → field_from_end 3 (fields ++ x ∷ []) ≡ field_from_end 2 fields
field_from_end-push_third fields x = rw (reverse-append fields (x ∷ [])) refl

-- what a test of a position gives
pub some_where : (test : Bool) (value n : ℕ) → Some n ≡ cond test (Some value) None → (test ≡ true) × (n ≡ value)
some_where true value n is = (refl, cc)
some_where false value n is = (cc, cc)

-- a code of four digits isn't a composite's
pub is_composite_code-element : (field : List ℕ) → is_element_code field ≡ true → is_composite_code field ≡ false
is_composite_code-element [] is = refl
is_composite_code-element (x ∷ xs) is =
    let digits = (and_parts (length (x ∷ xs) == 4) (all_ascii_digits (x ∷ xs)) is).1 in
    let digit = digit_between (x ∷ xs) 0 digits (omega arith) in
    rw (ne_eqb x 67 (λ e. omega (arith, digit)), and_right (length (x ∷ xs) == 4) false refl) refl

pub is_composite_form-element : (fields : List (List ℕ)) → is_element_form fields ≡ true → is_composite_form fields ≡ false
is_composite_form-element fields is =
    let code = (and_parts (is_element_code (first_field fields)) (nat_le 4 (length fields)) is).0 in
    rw (is_composite_code-element (first_field fields) code) refl
