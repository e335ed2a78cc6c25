-- The components of a segment as a first look finds them.
use Rattle.std.proofs.Common.{◌≡◌, ◌≢◌, ℕ, ◌+◌, ◌<◌, ◌≤◌, ◌⊎◌, List, ◌∷◌, get_or, length, false, Option, Some, None, refl, sym, subst, ap, ◌∙◌, inl, inr, arith}
use Rattle.std.specs.Prelude.{is_some}
use Rattle.std.specs.List.{between}
use Rattle.memchr.specs.Find.{NoneBefore}
use Rattle.seg_lexer.specs.Fields.{Component}
use Rattle.seg_lexer.specs.declared.context.Level.{Level}
use Rattle.seg_lexer.specs.declared.service.Separators.{Separators}
use Rattle.clean_segments.specs.After.{IsAfterEnd}
use Rattle.clean_segments.specs.Kind.{AreInner, IsPassed, kind_of}
use Rattle.clean_segments.specs.Start.{IsSeparator, IsStart, plain_rest, reached}
use Rattle.clean_segments.specs.declared.fields.Start.{Start}
use Rattle.clean_segments.specs.declared.kinds.OctetKind.{OctetKind}
use Rattle.clean_segments.specs.declared.kinds.OctetKind.TheVariants.{Inner, Element, Component as ComponentKind, Stop}
use Rattle.clean_segments.proofs.KindLemmas.{component-is, component-other, element-is, none-separates, passed-more, passed-one, unreleasing, unrepeating}
use Rattle.clean_segments.proofs.PlainLemmas.{plain-component, plain-element, plain-last}

-- a component begins after an end: the end separates elements or components
after-cases : (s : Start) (at : ℕ) (kind : OctetKind) (next : Start) → IsAfterEnd s at kind next
    → ((kind ≡ Element) × (next ≡ record { at = at + 1; element = s.element + 1; component = 1 }))
    ⊎ ((kind ≡ ComponentKind) × (next ≡ record { at = at + 1; element = s.element; component = s.component + 1 }))
after-cases s at Element next is = inl (refl, is)
after-cases s at ComponentKind next is = inr (refl, is)
after-cases s at Inner next is = absurd is
after-cases s at Stop next is = absurd is

-- where nothing is left, all octets are passed
pub all-passed : (sp : Separators) (level : Level) (xs : List ℕ) (next : Option Start) → is_some next ≡ false → IsPassed sp level xs (reached xs next)
    → IsPassed sp level xs (length xs)
all-passed sp level xs None ended passed = passed
all-passed sp level xs (Some s) ended passed = absurd (cc)

module _ (sp : Separators) (level : Level) (xs : List ℕ) (s : Start) (passed : IsPassed sp level xs s.at) where
  abbrev component : ℕ → Component
  component b = record { element = s.element; repetition = 1; component = s.component; octets = between s.at b xs }

  -- the last component
  pub looked-last : s.at ≤ length xs → AreInner sp level xs s.at (length xs) → plain_rest sp xs (Some s) ≡ component (length xs) ∷ plain_rest sp xs None
  looked-last within inner =
      let all = passed-more sp level xs s.at (length xs) passed inner in
      plain-last sp xs (length xs) (omega arith) (unreleasing sp level xs (length xs) all) (unrepeating sp level xs (length xs) all)
      s within (omega arith) (none-separates sp level xs s.at (length xs) inner)

  module _ (at : ℕ) (low : s.at ≤ at) (high : at < length xs) (inner : AreInner sp level xs s.at at) (kind : OctetKind) (kind_is : kind ≡ kind_of sp level (get_or xs at 0)) (next : Start) (after : IsAfterEnd s at kind next) where
    other : kind_of sp level (get_or xs at 0) ≢ Stop
    other stop = elim (after-cases s at kind next after) [
      | inl ends ↦ let is = ends.0 in cc
      | inr ends ↦ let is = ends.0 in cc
    ]

    pub passed-end : IsPassed sp level xs (at + 1)
    passed-end = passed-one sp level xs at (passed-more sp level xs s.at at passed inner) other

    pub passed-next : IsPassed sp level xs next.at
    passed-next = elim (after-cases s at kind next after) [
      | inl ends ↦ subst (λ (n : ℕ). IsPassed sp level xs n) (sym (ap (λ (n : Start). n.at) ends.1)) passed-end
      | inr ends ↦ subst (λ (n : ℕ). IsPassed sp level xs n) (sym (ap (λ (n : Start). n.at) ends.1)) passed-end
    ]

    pub start-next : IsStart xs s → IsStart xs next
    start-next start = elim (after-cases s at kind next after) [
      | inl ends ↦ subst (IsStart xs) (sym ends.1) (record { within = omega arith; element = omega (arith, start.element); component = omega arith })
      | inr ends ↦ subst (IsStart xs) (sym ends.1) (record { within = omega arith; element = omega (arith, start.element); component = omega (arith, start.component) })
    ]

    -- a component before another one
    pub looked-next : plain_rest sp xs (Some s) ≡ component at ∷ plain_rest sp xs (Some next)
    looked-next =
        let unreleased = unreleasing sp level xs (at + 1) passed-end in
        let unrepeated = unrepeating sp level xs (at + 1) passed-end in
        let before : NoneBefore (IsSeparator sp xs) s.at (length xs) at = record { low = low; high = high; before = none-separates sp level xs s.at at inner } in
        elim (after-cases s at kind next after) [
          | inl ends ↦ plain-element sp xs (at + 1) (omega arith) unreleased unrepeated s at (omega arith) before next
              (element-is sp level (get_or xs at 0) (sym kind_is ∙ ends.0)) ends.1
          | inr ends ↦ plain-component sp xs (at + 1) (omega arith) unreleased unrepeated s at (omega arith) before next
              (component-other sp level (get_or xs at 0) (sym kind_is ∙ ends.0)) (inr (component-is sp level (get_or xs at 0) (sym kind_is ∙ ends.0))) ends.1
        ]
