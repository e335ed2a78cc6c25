-- The head of an entry.
use Rattle.std.proofs.Common.{◌≡◌, ℕ, Bool, true, false, not, ◌&&◌, if◌then◌else◌, Some, None, List, [], ◌∷◌, map, refl, sym, ◌∙◌}
use Rattle.std.specs.List.{list_any}
use Rattle.std.specs.Str.{bytes_eq}
use Rattle.std.proofs.lemmas.Bool.{and_parts, and_right}
use Rattle.edi_octets.specs.declared.fault.DirFault.{DirFault}
use Rattle.edi_octets.specs.declared.fault.DirKind.TheVariants.{BadCode, Twice}
use Rattle.edi_octets.specs.DirStop.{at_line}
use Rattle.edi_octets.specs.Head.{is_code_and_name, head_field, head_faults}
use Rattle.edi_octets.specs.Lines.{Line}
use Rattle.edi_octets.specs.Profile.{fields_of, first_field}
use Rattle.edi_octets.proofs.EarlierNameLemmas.{bytes_eq-flip}

-- a code and a name: there is a name, and the first field is a code
pub is_code_and_name-parts : (is_code : List ℕ → Bool) (fields : List (List ℕ)) → is_code_and_name is_code fields ≡ (is_code_and_name (λ _. true) fields && is_code (first_field fields))
is_code_and_name-parts is_code [] = refl
is_code_and_name-parts is_code (code ∷ []) = refl
is_code_and_name-parts is_code (code ∷ name ∷ more) = refl

good_where : (good : Bool) (bad : DirFault) (others : List DirFault) → (if not good then bad ∷ [] else others) ≡ [] → good ≡ true
good_where true bad others none = refl
good_where false bad others none = cc

-- a head at which nothing is wrong has a code
pub head_faults-code : (is_code : List ℕ → Bool) (earlier : List (List Line)) (head : Line) → head_faults is_code earlier head ≡ [] → is_code (first_field (fields_of head.octets)) ≡ true
head_faults-code is_code earlier head none =
    let fields = fields_of head.octets in
    let good = good_where (is_code_and_name is_code fields) (at_line BadCode head) (if list_any (λ entry. bytes_eq (head_field entry) (first_field fields)) earlier then at_line Twice head ∷ [] else []) none in
    (and_parts (is_code_and_name (λ _. true) fields) (is_code (first_field fields)) (sym (is_code_and_name-parts is_code fields) ∙ good)).1

-- an entry before has this code
any_head : (field : List ℕ) (earlier : List (List Line)) → list_any (λ entry. bytes_eq (head_field entry) field) earlier ≡ list_any (bytes_eq field) (map head_field earlier)
any_head field [] = refl
any_head field (entry ∷ earlier) = rw (bytes_eq-flip (head_field entry) field, any_head field earlier) refl

true_from_not : (b : Bool) → not b ≡ false → b ≡ true
true_from_not true is = refl
true_from_not false is = cc

false_from_not : (b : Bool) → not b ≡ true → b ≡ false
false_from_not true is = cc
false_from_not false is = refl

-- the head of an entry after these, and the code that its first field is, if it is one
module _ {C : Type 0} (is_code : List ℕ → Bool) (coded : C) (head : Line) (earlier : List (List Line)) where
  tests : is_code_and_name is_code (fields_of head.octets) ≡ (is_code_and_name (λ _. true) (fields_of head.octets) && is_code (first_field (fields_of head.octets)))
  tests = is_code_and_name-parts is_code (fields_of head.octets)

  none_where : (test : Bool) → None ≡ (if test then Some coded else None) → test ≡ false
  none_where true is = cc
  none_where false is = refl

  some_where : (test : Bool) (code : C) → Some code ≡ (if test then Some coded else None) → (test ≡ true) × (code ≡ coded)
  some_where true code is = (refl, cc)
  some_where false code is = (cc, cc)

  pub head-uncoded : None ≡ (if is_code (first_field (fields_of head.octets)) then Some coded else None) → head_faults is_code earlier head ≡ at_line BadCode head ∷ []
  head-uncoded read =
      let other = none_where (is_code (first_field (fields_of head.octets))) read in
      let bad : is_code_and_name is_code (fields_of head.octets) ≡ false = tests ∙ rw other (and_right (is_code_and_name (λ _. true) (fields_of head.octets)) false refl) in
      rw bad refl

  pub head-unnamed : is_code_and_name (λ _. true) (fields_of head.octets) ≡ false → head_faults is_code earlier head ≡ at_line BadCode head ∷ []
  head-unnamed unnamed =
      let bad : is_code_and_name is_code (fields_of head.octets) ≡ false = tests ∙ rw unnamed refl in rw bad refl

  module _ (code : C) (read : Some code ≡ (if is_code (first_field (fields_of head.octets)) then Some coded else None)) (named : is_code_and_name (λ _. true) (fields_of head.octets) ≡ true) (seen : List (List ℕ)) (codes : seen ≡ map head_field earlier) (new : Bool) (tells : new ≡ not (list_any (bytes_eq (first_field (fields_of head.octets))) seen)) where
    good : is_code_and_name is_code (fields_of head.octets) ≡ true
    good = tests ∙ rw (named, (some_where (is_code (first_field (fields_of head.octets))) code read).0) refl

    pub head-twice : new ≡ false → head_faults is_code earlier head ≡ at_line Twice head ∷ []
    head-twice old =
        let there : list_any (bytes_eq (first_field (fields_of head.octets))) (map head_field earlier) ≡ true = rw (← codes) (true_from_not _ (sym tells ∙ old)) in
        rw (good, any_head (first_field (fields_of head.octets)) earlier, there) refl

    pub head-good : new ≡ true → (head_faults is_code earlier head ≡ []) × (code ≡ coded)
    head-good fresh =
        let absent : list_any (bytes_eq (first_field (fields_of head.octets))) (map head_field earlier) ≡ false = rw (← codes) (false_from_not _ (sym tells ∙ fresh)) in
        (rw (good, any_head (first_field (fields_of head.octets)) earlier, absent) refl, (some_where (is_code (first_field (fields_of head.octets))) code read).1)
