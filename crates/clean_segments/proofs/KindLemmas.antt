-- What each octet is to a first look.
use Rattle.std.proofs.Common.{◌≡◌, ◌≢◌, ℕ, ◌+◌, ◌<◌, ◌≤◌, ◌⊎◌, eqb, Bool, true, false, not, ◌||◌, cond, List, Some, get_or, set, length, refl, sym, ap, ◌∙◌, inl, inr, ⊎_elim, arith}
use Rattle.std.specs.Prelude.{slice_get}
use Rattle.std.specs.List.{between}
use Rattle.std.proofs.Math.Nat.{eq-or-lt_of_le}
use Rattle.std.proofs.lemmas.Bool.{both_ways, cases_lt, eq-eqb, eqb-true, or_parts}
use Rattle.std.proofs.lemmas.List.{get_or-set_other, get_or-set_same, length-set}
use Rattle.std.proofs.lemmas.Option.{get_or_from_slice_get, slice_get_read}
use Rattle.std.proofs.lemmas.List.Edits.{get_or-between, length-between}
use Rattle.memchr.specs.Find.{Nowhere}
use Rattle.seg_lexer.specs.Fields.{is_separator}
use Rattle.seg_lexer.specs.Released.{is_release}
use Rattle.seg_lexer.specs.declared.context.Level.{Level}
use Rattle.seg_lexer.specs.declared.service.Separators.{Separators}
use Rattle.element_check.specs.Repertoire.{AreAdmitted, is_admitted}
use Rattle.clean_segments.specs.Kind.{AreInner, IsPassed, kind_of}
use Rattle.clean_segments.specs.Start.{IsSeparator}
use Rattle.clean_segments.specs.declared.kinds.OctetKind.{OctetKind}
use Rattle.clean_segments.specs.declared.kinds.OctetKind.TheVariants.{Inner, Element, Component, Stop}
use Rattle.clean_segments.proofs.PlainLemmas.{none-any}

-- what an octet is, by the results of the tests
abbrev chosen : Bool → Bool → Bool → Bool → OctetKind
chosen stops ends_element ends_component admitted =
    cond stops Stop (cond ends_element Element (cond ends_component Component (cond admitted Inner Stop)))

unstopped : (s e c a : Bool) → chosen s e c a ≢ Stop → s ≡ false
unstopped true e c a other = absurd (other refl)
unstopped false e c a other = refl

inner-parts : (s e c a : Bool) → chosen s e c a ≡ Inner → (e ≡ false) × (c ≡ false) × (a ≡ true)
inner-parts true e c a is = absurd (cc)
inner-parts false true c a is = absurd (cc)
inner-parts false false true a is = absurd (cc)
inner-parts false false false true is = (refl, refl, refl)
inner-parts false false false false is = absurd (cc)

element-parts : (s e c a : Bool) → chosen s e c a ≡ Element → e ≡ true
element-parts true e c a is = absurd (cc)
element-parts false true c a is = refl
element-parts false false true a is = absurd (cc)
element-parts false false false true is = absurd (cc)
element-parts false false false false is = absurd (cc)

component-parts : (s e c a : Bool) → chosen s e c a ≡ Component → (e ≡ false) × (c ≡ true)
component-parts true e c a is = absurd (cc)
component-parts false true c a is = absurd (cc)
component-parts false false true a is = (refl, refl)
component-parts false false false true is = absurd (cc)
component-parts false false false false is = absurd (cc)

module _ (sp : Separators) (level : Level) (x : ℕ) where
  abbrev stops : Bool
  stops = is_release sp.release x || is_separator sp.repetition x

  -- an octet at which no look ends
  free : kind_of sp level x ≢ Stop → (is_release sp.release x ≡ false) × (is_separator sp.repetition x ≡ false)
  unfolding kind_of
  free other = or_parts (is_release sp.release x) (is_separator sp.repetition x) (unstopped stops (eqb x sp.element) (eqb x sp.component) (is_admitted level x) other)

  -- a part of a value
  inner-tests : kind_of sp level x ≡ Inner → (eqb x sp.element ≡ false) × (eqb x sp.component ≡ false) × (is_admitted level x ≡ true)
  unfolding kind_of
  inner-tests is = inner-parts stops (eqb x sp.element) (eqb x sp.component) (is_admitted level x) is

  inner-separates : kind_of sp level x ≡ Inner → (x ≡ sp.element) ⊎ (x ≡ sp.component) → ⊥
  inner-separates is separates =
      let tests = inner-tests is in
      ⊎_elim (λ same. both_ways _ tests.0 (eq-eqb _ _ same)) (λ same. both_ways _ tests.1 (eq-eqb _ _ same)) separates

  -- what separates elements
  pub element-is : kind_of sp level x ≡ Element → x ≡ sp.element
  unfolding kind_of
  element-is is = eqb-true _ _ (element-parts stops (eqb x sp.element) (eqb x sp.component) (is_admitted level x) is)

  -- what separates components
  component-tests : kind_of sp level x ≡ Component → (eqb x sp.element ≡ false) × (eqb x sp.component ≡ true)
  unfolding kind_of
  component-tests is = component-parts stops (eqb x sp.element) (eqb x sp.component) (is_admitted level x) is

  pub component-is : kind_of sp level x ≡ Component → x ≡ sp.component
  component-is is = eqb-true _ _ (component-tests is).1

  pub component-other : kind_of sp level x ≡ Component → x ≢ sp.element
  component-other is same = both_ways _ (component-tests is).0 (eq-eqb _ _ same)

module _ (sp : Separators) (level : Level) (xs : List ℕ) where
  -- octets that a look has passed
  pub unreleasing : (n : ℕ) → IsPassed sp level xs n → (k : ℕ) → k < n → is_release sp.release (get_or xs k 0) ≡ false
  unreleasing n passed k low = (free sp level (get_or xs k 0) (passed k low)).0

  pub unrepeating : (n : ℕ) → IsPassed sp level xs n → (k : ℕ) → k < n → is_separator sp.repetition (get_or xs k 0) ≡ false
  unrepeating n passed k low = (free sp level (get_or xs k 0) (passed k low)).1

  pub passed-more : (a b : ℕ) → IsPassed sp level xs a → AreInner sp level xs a b → IsPassed sp level xs b
  passed-more a b passed inner k low = elim (cases_lt k a) [
    | inl before ↦ passed k before
    | inr after ↦ let is = inner k after low in λ stop. cc
  ]

  pub passed-one : (a : ℕ) → IsPassed sp level xs a → kind_of sp level (get_or xs a 0) ≢ Stop → IsPassed sp level xs (a + 1)
  passed-one a passed other k low = elim (eq-or-lt_of_le {n = k} {m = a} (omega arith)) [
    | inl same ↦ λ stop. other (ap (λ (i : ℕ). kind_of sp level (get_or xs i 0)) (sym same) ∙ stop)
    | inr before ↦ passed k before
  ]

  -- the parts of a value have no separator, and the level admits them
  pub none-separates : (a b : ℕ) → AreInner sp level xs a b → Nowhere (IsSeparator sp xs) a b
  none-separates a b inner k low high is = inner-separates sp level (get_or xs k 0) (inner k low high) is

  pub admitted-inner : (a b : ℕ) → a ≤ b → b ≤ length xs → AreInner sp level xs a b → AreAdmitted level (between a b xs)
  admitted-inner a b le within inner = none-any (λ x. not (is_admitted level x)) (between a b xs)
      (λ k low.
      let long = length-between xs a b within in
      let here : a + k < b = omega (arith, low, long) in
      ap (λ (x : ℕ). not (is_admitted level x)) (get_or-between xs a b k 0 here)
      ∙ ap not (inner-tests sp level (get_or xs (a + k) 0) (inner (a + k) (omega arith) here)).2)

-- the kinds of one octet more
pub kinds-more : (f : ℕ → OctetKind) (kinds : List OctetKind) (i : ℕ) (k : OctetKind) → i < length kinds → ((x : ℕ) → x < i → slice_get kinds x ≡ Some (f x)) → k ≡ f i
    → (x : ℕ) → x < i + 1 → slice_get (set kinds i k) x ≡ Some (f x)
kinds-more f kinds i k within before here x low =
    let long = length-set kinds i k in
    elim (eq-or-lt_of_le {n = x} {m = i} (omega arith)) [
      | inl same ↦
          slice_get_read (set kinds i k) (length kinds) x (f x) (sym long) (omega arith)
          (sym (ap (λ (j : ℕ). get_or (set kinds i k) j (f x)) same ∙ get_or-set_same kinds i k (f x) within ∙ here ∙ ap f (sym same)))
      | inr less ↦
          let other : x ≢ i = omega arith in
          slice_get_read (set kinds i k) (length kinds) x (f x) (sym long) (omega arith)
          (sym (get_or-set_other kinds i x k (f x) other ∙ get_or_from_slice_get kinds x (f x) (f x) (before x less)))
    ]
