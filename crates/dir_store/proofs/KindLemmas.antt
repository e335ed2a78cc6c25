-- The kinds of a store's lines, one by one: what is spelled is read, and what is read is spelled and is good.
use Rattle.std.proofs.Common.{◌≡◌, ℕ, Bool, true, false, not, ◌&&◌, eqb, eq-eqb, leb, cond, List, [], ◌∷◌, length, Option, Some, None, refl, sym, ap, ◌∙◌, subst, arith}
use Rattle.std.specs.Prelude.{option_and_then}
use Rattle.std.specs.List.{list_all, join_with_byte, find}
use Rattle.std.specs.Option.{option_map}
use Rattle.std.proofs.lemmas.Bool.{and_parts, eqb-true}
use Rattle.std.proofs.lemmas.Option.{option_and_then_some}
use Rattle.edi_tables.specs.declared.element.Class.{Class}
use Rattle.edi_tables.specs.declared.element.Class.TheVariants.{A, N, An}
use Rattle.edi_tables.specs.declared.element.Repr.{Repr}
use Rattle.edi_tables.specs.declared.element.ElementDef.{ElementDef}
use Rattle.edi_tables.specs.declared.element.PartDef.{PartDef}
use Rattle.edi_tables.specs.Forms.{is_repr_formed, is_element_code, is_code_value, is_element_formed, is_part_formed}
use Rattle.edi_tables.specs.Rows.{when}
use Rattle.edi_octets.specs.Profile.{repr_in, status_in, status_text}
use Rattle.dir_compile.specs.declared.parts.Parts.{Parts}
use Rattle.dir_compile.specs.Compile.{element_name, value_name, named_in, part_against, part_faults}
use Rattle.edi_tables.specs.Same.{is_same_repr, is_same_bool, is_same_class}
use Rattle.dir_store.specs.Rules.{comes_after, element_with, element_in, value_in, part_of, part_with, part_in}
use Rattle.dir_store.specs.Spelling.{repr_text, element_text, value_text, part_text}
use Rattle.dir_store.specs.Store.{element_at, value_at, part_at}
use Rattle.edi_octets.specs.Words.{two_in}
use Rattle.dir_store.proofs.LineLemmas.{some-is, and-both, and-three, is_plain, IsPlain, IsLine, line-plain, joined-line, two-takes, two-again}
use Rattle.dir_store.proofs.NumberLemmas.{digits-plain}
use Rattle.dir_store.proofs.ReprLemmas.{repr-takes, repr-again, repr-plain, status-takes, status-again, status-plain}
use Rattle.dir_store.proofs.SeveralLemmas.{IsSpelled, line-spelled}

-- ---- choices

-- what is found where a test is passed
pub passed-takes : {A : Type 0} (test : Bool) (found : Option A) (x : A) → cond test found None ≡ Some x → (test ≡ true) × (found ≡ Some x)
passed-takes true found x is = (refl, is)
passed-takes false found x is = absurd cc

pub mapped-takes : {A B : Type 0} (make : A → B) (found : Option A) (y : B) → option_map make found ≡ Some y → (x : A) × (found ≡ Some x) × (make x ≡ y)
mapped-takes make None y is = absurd cc
mapped-takes make (Some x) y is = (x, refl, some-is (make x) y is)

pub element-plain : (code : List ℕ) → is_element_code code ≡ true → IsPlain code
element-plain code is = digits-plain code (and_parts (eqb (length code) 4) _ is).1

-- ---- data elements

pub record IsElement (before : Option ElementDef) (element : ElementDef) : Type 0 where
  pub formed : is_element_formed element ≡ true
  pub after : comes_after element_name before (element_name element) ≡ true

abbrev element_words : ElementDef → List ℕ
element_words element = join_with_byte 32 (element.code.octets ∷ repr_text element.repr ∷ [])

element-takes : (before : Option ElementDef) (line : List ℕ) (element : ElementDef) → element_in before line ≡ Some element → IsElement before element × (line ≡ element_words element)
element-takes before line element is =
    option_and_then_some (element_with before) (two_in line) element is (λ w words read.
    let passed = passed-takes (is_element_code w.0 && comes_after element_name before w.0) _ element read in
    let code = and_parts (is_element_code w.0) (comes_after element_name before w.0) passed.0 in
    let made = mapped-takes _ (repr_in w.1) element passed.1 in
    let repr = repr-takes w.1 made.0 made.1 in
    let formed : is_element_formed (record { code = record { octets = w.0 }; repr = made.0 }) ≡ true = and-both (is_element_code w.0) (is_repr_formed made.0) code.0 repr.1 in
    subst (λ (e : ElementDef). IsElement before e × (line ≡ element_words e)) made.2
    (record { formed = formed; after = code.1 }, two-takes line w.0 w.1 words ∙ ap (λ (r : List ℕ). join_with_byte 32 (w.0 ∷ r ∷ [])) repr.0))

element-again : (before : Option ElementDef) (element : ElementDef) → IsElement before element → (element_in before (element_words element) ≡ Some element) × IsLine (element_words element)
element-again before element good =
    let code = element.code.octets in
    let parts = and_parts (is_element_code code) (is_repr_formed element.repr) good.formed in
    let plain = element-plain code parts.0 in
    let shape = repr-plain element.repr parts.1 in (
      ap (option_and_then (element_with before)) (two-again code (repr_text element.repr) plain shape) ∙ rw (parts.0, good.after, repr-again element.repr parts.1) refl,
      joined-line code (repr_text element.repr ∷ []) plain (shape, tt),
    )

pub element-spelled : IsSpelled element_at element_text IsElement
unfolding element_at
element-spelled = line-spelled element_in element_words IsElement element-takes element-again

-- ---- codes of a list

pub record IsValue (before : Option (List ℕ)) (value : List ℕ) : Type 0 where
  pub formed : is_code_value value ≡ true
  pub after : comes_after value_name before value ≡ true

value-takes : (before : Option (List ℕ)) (line value : List ℕ) → value_in before line ≡ Some value → IsValue before value × (line ≡ value)
value-takes before line value is =
    let passed = passed-takes (is_code_value line && comes_after value_name before line) (Some line) value is in
    let parts = and_parts (is_code_value line) (comes_after value_name before line) passed.0 in
    let same : line ≡ value = some-is line value passed.1 in
    subst (λ (v : List ℕ). IsValue before v × (line ≡ v)) same (record { formed = parts.0; after = parts.1 }, refl)

value-again : (before : Option (List ℕ)) (value : List ℕ) → IsValue before value → (value_in before value ≡ Some value) × IsLine value
value-again before value good =
    let formed = and_parts (leb 1 (length value) && leb (length value) 35) (list_all is_plain value) good.formed in
    (rw (good.formed, good.after) refl, line-plain value formed.1)

pub value-spelled : IsSpelled value_at value_text IsValue
unfolding value_at
value-spelled = line-spelled value_in (λ value. value) IsValue value-takes value-again

-- ---- parts

same-class : (a b : Class) → is_same_class a b ≡ true → a ≡ b
same-class A A is = refl
same-class N N is = refl
same-class An An is = refl
same-class A N is = absurd cc
same-class A An is = absurd cc
same-class N A is = absurd cc
same-class N An is = absurd cc
same-class An A is = absurd cc
same-class An N is = absurd cc

same-bool : (a b : Bool) → is_same_bool a b ≡ true → a ≡ b
same-bool true true is = refl
same-bool true false is = absurd cc
same-bool false true is = absurd cc
same-bool false false is = refl

same-number : (a b : ℕ) → eqb a b ≡ true → a ≡ b
same-number a b is = search (arith, eqb-true)

pub same-repr : (p q : Repr) → is_same_repr p q ≡ true → p ≡ q
same-repr p q is =
    let two = and_parts (is_same_class p.class q.class && is_same_bool p.exact q.exact) (eqb p.max q.max) is in
    let one = and_parts (is_same_class p.class q.class) (is_same_bool p.exact q.exact) two.0 in
    λ i. record { class = same-class p.class q.class one.0 i; exact = same-bool p.exact q.exact one.1 i; max = same-number p.max q.max two.1 i }

class-itself : (a : Class) → is_same_class a a ≡ true
class-itself A = refl
class-itself N = refl
class-itself An = refl

bool-itself : (a : Bool) → is_same_bool a a ≡ true
bool-itself true = refl
bool-itself false = refl

pub repr-itself : (r : Repr) → is_same_repr r r ≡ true
repr-itself r = and-three (is_same_class r.class r.class) (is_same_bool r.exact r.exact) (eqb r.max r.max) (class-itself r.class) (bool-itself r.exact) (eq-eqb r.max r.max refl)

found-first : {A : Type 0} (passes : A → Bool) (y : A) (later : Option A) (x : A) (here : Bool) → passes y ≡ true → (later ≡ Some x → passes x ≡ true) → cond here (Some y) later ≡ Some x → passes x ≡ true
found-first passes y later x true first others is = ap passes (sym (some-is y x is)) ∙ first
found-first passes y later x false first others is = others is

-- what is found by name passes what all pass
pub found-passes : {A : Type 0} (wanted passes : A → Bool) (xs : List A) (x : A) → list_all passes xs ≡ true → find wanted xs ≡ Some x → passes x ≡ true
found-passes wanted passes [] x all is = absurd cc
found-passes wanted passes (y ∷ ys) x all is =
    let parts = and_parts (passes y) (list_all passes ys) all in
    found-first passes y (find wanted ys) x (wanted y) parts.0 (λ later. found-passes wanted passes ys x parts.1 later) is

-- no fault is reported where the rule isn't broken
pub unbroken : {F : Type 0} (test : Bool) (fault : F) → when (not test) fault ≡ [] → test ≡ true
unbroken true fault is = refl
unbroken false fault is = absurd cc

pub unbroken-again : {F : Type 0} (test : Bool) (fault : F) → test ≡ true → when (not test) fault ≡ []
unbroken-again test fault is = rw is refl

pub unbroken-not : {F : Type 0} (test : Bool) (fault : F) → not test ≡ true → when test fault ≡ []
unbroken-not true fault is = absurd cc
unbroken-not false fault is = refl

pub not-broken : {F : Type 0} (test : Bool) (fault : F) → when test fault ≡ [] → not test ≡ true
not-broken true fault is = absurd cc
not-broken false fault is = refl

-- ---- where data elements are used

-- the words of a data element or a composite where it is used
abbrev pub used_words : List ℕ → Bool → List ℕ
used_words code must = join_with_byte 32 (code ∷ status_text must ∷ [])

pub used-line : (code : List ℕ) (must : Bool) → IsPlain code → IsLine (used_words code must)
used-line code must plain = joined-line code (status_text must ∷ []) plain (status-plain must, tt)

module _ (parts : Parts) (formed_elements : list_all is_element_formed parts.elements ≡ true) where
  pub record IsPart (part : PartDef) : Type 0 where
    pub formed : is_part_formed part ≡ true
    pub faultless : part_faults parts part ≡ []

  -- a data element of the store, where it is used
  pub part_of-takes : (code : List ℕ) (must : Bool) (part : PartDef) → is_element_code code ≡ true → part_of parts.elements code must ≡ Some part → IsPart part × (part.code.octets ≡ code) × (part.must ≡ must)
  part_of-takes code must part is found =
      let made = mapped-takes _ (named_in element_name parts.elements code) part found in
      let element = made.0 in
      let formed : is_element_formed element ≡ true = found-passes _ is_element_formed parts.elements element formed_elements made.1 in
      let shape = (and_parts (is_element_code element.code.octets) (is_repr_formed element.repr) formed).1 in
      let one : PartDef = record { code = record { octets = code }; must = must; repr = element.repr } in
      let faultless : part_faults parts one ≡ [] = ap (part_against one) made.1 ∙ unbroken-again (is_same_repr element.repr element.repr) _ (repr-itself element.repr) in
      let good : IsPart one = record { formed = and-both (is_element_code code) (is_repr_formed element.repr) is shape; faultless = faultless } in
      subst (λ (p : PartDef). IsPart p × (p.code.octets ≡ code) × (p.must ≡ must)) made.2 (good, refl, refl)

  part-found : (part : PartDef) (found : Option ElementDef) → part_against part found ≡ [] → option_map (λ element. record { code = part.code; must = part.must; repr = element.repr }) found ≡ Some part
  part-found part None is = absurd cc
  part-found part (Some element) is = ap (λ (r : Repr). Some (record { code = part.code; must = part.must; repr = r })) (sym (same-repr part.repr element.repr (unbroken _ _ is)))

  pub part_of-again : (part : PartDef) → IsPart part → part_of parts.elements part.code.octets part.must ≡ Some part
  part_of-again part good = part-found part (named_in element_name parts.elements part.code.octets) good.faultless

  part-takes : (before : Option PartDef) (line : List ℕ) (part : PartDef) → part_in parts.elements line ≡ Some part → IsPart part × (line ≡ used_words part.code.octets part.must)
  part-takes before line part is =
      option_and_then_some (part_with parts.elements) (two_in line) part is (λ w words read.
      option_and_then_some _ (status_in w.1) part read (λ must status chosen.
      let passed = passed-takes (is_element_code w.0) (part_of parts.elements w.0 must) part chosen in
      let made = part_of-takes w.0 must part passed.0 passed.1 in
      (made.0, two-takes line w.0 w.1 words ∙ ap (λ (c : List ℕ). join_with_byte 32 (c ∷ w.1 ∷ [])) (sym made.1) ∙ ap (λ (s : List ℕ). join_with_byte 32 (part.code.octets ∷ s ∷ [])) (status-takes w.1 must status ∙ ap status_text (sym made.2)))))

  part-again : (before : Option PartDef) (part : PartDef) → IsPart part → (part_in parts.elements (used_words part.code.octets part.must) ≡ Some part) × IsLine (used_words part.code.octets part.must)
  part-again before part good =
      let code = part.code.octets in
      let is = (and_parts (is_element_code code) (is_repr_formed part.repr) good.formed).0 in
      let plain = element-plain code is in (
        ap (option_and_then (part_with parts.elements)) (two-again code (status_text part.must) plain (status-plain part.must)) ∙ rw (status-again part.must) (rw is (part_of-again part good)),
        used-line code part.must plain,
      )

  pub part-spelled : IsSpelled (part_at parts.elements) part_text (λ before part. IsPart part)
  unfolding part_at
  part-spelled = line-spelled (λ before line. part_in parts.elements line) (λ part. used_words part.code.octets part.must) (λ before part. IsPart part) part-takes part-again
