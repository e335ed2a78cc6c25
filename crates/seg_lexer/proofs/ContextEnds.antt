-- What the service characters of a text's context keep of those that are read without a version: all but the repetition
-- separator and the soundness, so the ends, boundaries, segments and tail of the text are the same.
use Rattle.std.proofs.Common.{◌≡◌, ◌≢◌, ℕ, ◌≤◌, Bool, true, false, not, ◌&&◌, ◌||◌, cond, eqb, List, [], ◌∷◌, length, Option, Some, None, refl, sym, ap, subst, ◌∙◌, arith}
use Rattle.std.specs.Prelude.{codes, nat_eq, nat_le, slice_range}
use Rattle.std.specs.List.{list_any, starts_with}
use Rattle.std.specs.Option.{option_to_list}
use Rattle.std.proofs.lemmas.Bool.{and_parts, cond_both, leb-true, ne_eqb}
use Rattle.std.proofs.lemmas.Bool.Decides.{nat_tests}
use Rattle.seg_lexer.specs.Context.{context_of, is_sound_in, is_unusable, repetition_octet, repetition_separator, service_in}
use Rattle.seg_lexer.specs.Fields.{components_at, separators_of}
use Rattle.seg_lexer.specs.Segments.{boundaries_of, ends_of, segments_of, tail_of}
use Rattle.seg_lexer.specs.Service.{IsUsable, advice_in, advised_service, default_service, is_acceptable, is_plain, service_of}
use Rattle.seg_lexer.specs.Tag.{tag_of}
use Rattle.seg_lexer.specs.Whole.{contents_of}
use Rattle.seg_lexer.specs.declared.context.Context.{Context}
use Rattle.seg_lexer.specs.declared.service.Service.{Service}
use Rattle.seg_lexer.proofs.RepeatLemmas.{same-tag}
use Rattle.seg_lexer.proofs.ServiceLemmas.{service_of-single, service_of-usable}

-- an octet that can separate repetitions isn't the release character
kept-apart : (c e t r x : ℕ) (b : Bool) → not (list_any (λ y. eqb y x) (c ∷ e ∷ t ∷ r ∷ []) || b) ≡ true → r ≢ x
kept-apart c e t r x b h = grind (arith, nat_tests)

-- the release character isn't the repetition separator
separator-apart : (version : ℕ) (s : Service) (text : List ℕ) (r p : ℕ) → s.release ≡ Some r → repetition_separator version s text ≡ Some p → r ≢ p
separator-apart version s text r p some =
    let x : ℕ = repetition_octet s text in
    cond_both (eqb version 4 && not (eqb x 32) && not (is_unusable s x)) (Some x) None (λ (o : Option ℕ). o ≡ Some p → r ≢ p)
    (λ ok is same.
    let usable = (and_parts (eqb version 4 && not (eqb x 32)) _ ok).1 in
    let other : r ≢ x = kept-apart s.component s.element s.terminator r x (is_plain x && not (eqb x 32))
    (sym (ap (λ (o : Option ℕ). not (list_any (λ y. eqb y x) (s.component ∷ s.element ∷ s.terminator ∷ option_to_list o) || is_plain x && not (eqb x 32))) some) ∙ usable) in
    other (let e : x ≡ p = cc in same ∙ sym e))
    (λ _ is. absurd (let never : None ≡ Some p = is in let no : ⊥ = cc in no))

-- the same service characters with another repetition separator and another soundness
abbrev with_repetition : Service → Option ℕ → Bool → Service
with_repetition s o b = record s { repetition = o; sound = b }

and-kept : (b : Bool) → (b && true) ≡ b
and-kept true = refl
and-kept false = refl

module _ (version : ℕ) (s : Service) (text : List ℕ) (other : version ≢ 4) where
  -- versions 1 to 3 have no repetition separator
  separator-none : repetition_separator version s text ≡ None
  separator-none =
      let x : ℕ = repetition_octet s text in
      ap (λ (b : Bool). cond (b && not (eqb x 32) && not (is_unusable s x)) (Some x) None) (ne_eqb version 4 other)

  sound-kept : is_sound_in version s text ≡ s.sound
  sound-kept =
      ap (λ (b : Bool). s.sound && not (b && is_unusable s (repetition_octet s text))) (ne_eqb version 4 other) ∙ and-kept s.sound

  service-kept : s.repetition ≡ None → service_in version s text ≡ s
  service-kept single =
      ap (λ (o : Option ℕ). with_repetition s o (is_sound_in version s text)) (separator-none ∙ sym single)
      ∙ ap (λ (b : Bool). with_repetition s s.repetition b) sound-kept

module _ (text : List ℕ) where
  -- a text can be read by the service characters of its context
  pub context-usable : IsUsable (context_of text).service text
  unfolding context_of
  context-usable =
      let usable = service_of-usable text in
      record {
        body = usable.body;
        from_terminator = usable.from_terminator;
        from_element = usable.from_element;
        from_component = usable.from_component;
        from_repetition = λ r some p is. separator-apart (context_of text).version (service_of text) text r p some is;
      }

  -- also by those of a context that is it
  pub usable-by : (context : Context) → context ≡ context_of text → IsUsable context.service text
  usable-by context is = subst (λ (x : Context). IsUsable x.service text) (sym is) context-usable

  -- a version of the syntax other than 4 has no repetition separator
  pub context-single : (context_of text).version ≢ 4 → (context_of text).service.repetition ≡ None
  unfolding context_of
  context-single other = separator-none (context_of text).version (service_of text) text other

  -- and all its service characters are those that are read without a version
  pub context-service : (context_of text).version ≢ 4 → (context_of text).service ≡ service_of text
  unfolding context_of
  context-service other = service-kept (context_of text).version (service_of text) text other (service_of-single text)

  pub ends-same : ends_of (context_of text).service text ≡ ends_of (service_of text) text
  unfolding context_of ends_of
  ends-same = refl

  pub boundaries-same : boundaries_of (context_of text).service text ≡ boundaries_of (service_of text) text
  unfolding context_of boundaries_of ends_of
  boundaries-same = refl

  pub segments-same : segments_of (context_of text).service text ≡ segments_of (service_of text) text
  unfolding context_of segments_of boundaries_of ends_of
  segments-same = refl

  pub tail-same : tail_of (context_of text).service text ≡ tail_of (service_of text) text
  unfolding context_of tail_of boundaries_of ends_of
  tail-same = refl

  pub contents-same : contents_of (context_of text).service text ≡ contents_of (service_of text) text
  unfolding context_of segments_of boundaries_of ends_of
  contents-same = refl

  -- the tag of a segment doesn't depend on the repetition separator
  pub tag-same : (start end : ℕ) → tag_of (components_at (context_of text).service text start end) ≡ tag_of (components_at (service_of text) text start end)
  unfolding context_of
  tag-same start end = same-tag (separators_of (service_of text)) (context_of text).service.repetition (slice_range text start end)

advised-long : (text : List ℕ) → (advised_service text).sound ≡ true → 9 ≤ length text
advised-long text =
    cond_both (nat_le 9 (length text) && is_acceptable (advice_in text)) _ _ (λ (s : Service). s.sound ≡ true → 9 ≤ length text)
    (λ ok _. leb-true 9 (length text) (and_parts (nat_le 9 (length text)) _ ok).0)
    (λ _ sound. absurd (let never : false ≡ true = sound in let no : ⊥ = cc in no))

-- a sound service string advice has nine octets
pub sound-long : (text : List ℕ) → starts_with nat_eq text (codes "UNA") ≡ true → (service_of text).sound ≡ true → 9 ≤ length text
unfolding service_of
sound-long text begins sound =
    advised-long text (sym (ap (λ (b : Bool). (cond b (advised_service text) default_service).sound) begins) ∙ sound)
