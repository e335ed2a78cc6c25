-- What every reading may rely on: the characters of a text's service string advice are told apart, and its body lies in it.
use Rattle.std.proofs.Common.{◌≡◌, ◌≢◌, ℕ, ◌≤◌, min, Bool, true, false, ◌&&◌, List, [], ◌∷◌, length, Option, Some, None, refl, sym, ap, ◌∙◌, arith}
use Rattle.std.specs.Prelude.{codes, nat_eq, nat_le}
use Rattle.std.specs.List.{starts_with}
use Rattle.std.specs.Option.{option_to_list}
use Rattle.std.proofs.lemmas.Bool.{and_parts, cond_both, leb-true}
use Rattle.std.proofs.lemmas.Bool.Decides.{nat_tests}
use Rattle.seg_lexer.specs.Service.{IsUsable, service_of, advised_service, advice_in, default_service, is_acceptable, are_different, characters_of}
use Rattle.seg_lexer.specs.declared.service.Service.{Service}

-- one number is none of three
record IsNone (r t e c : ℕ) : Type 0 where
  not_t : r ≢ t
  not_e : r ≢ e
  not_c : r ≢ c

IsNone-different : (c e t r : ℕ) → are_different (c ∷ e ∷ t ∷ r ∷ []) ≡ true → IsNone r t e c
IsNone-different c e t r h = grind (arith, nat_tests)

pub IsUsable-acceptable : (s : Service) (text : List ℕ) → s.repetition ≡ None → s.body ≤ length text → is_acceptable s ≡ true → IsUsable s text
IsUsable-acceptable s text single body ok =
    let different = (and_parts (are_different (characters_of s)) _ ok).0 in
    let none : (r : ℕ) → s.release ≡ Some r → IsNone r s.terminator s.element s.component = λ r some.
    IsNone-different s.component s.element s.terminator r (sym (ap (λ (o : Option ℕ). are_different (s.component ∷ s.element ∷ s.terminator ∷ option_to_list o)) some) ∙ different) in
    record {
      body = body;
      from_terminator = λ r some. (none r some).not_t;
      from_element = λ r some. (none r some).not_e;
      from_component = λ r some. (none r some).not_c;
      from_repetition = λ r some p is. absurd (let never : None ≡ Some p = sym single ∙ is in let no : ⊥ = cc in no);
    }

default-none : (r : ℕ) → Some 63 ≡ Some r → IsNone r 39 43 58
default-none r some = let same : 63 ≡ r = cc in record { not_t = omega arith; not_e = omega arith; not_c = omega arith }

IsUsable-default : (body : ℕ) (sound : Bool) (text : List ℕ) → body ≤ length text → IsUsable (record default_service { body = body; sound = sound }) text
IsUsable-default body sound text within = record {
  body = within;
  from_terminator = λ r some. (default-none r some).not_t;
  from_element = λ r some. (default-none r some).not_e;
  from_component = λ r some. (default-none r some).not_c;
  from_repetition = λ r some p is. absurd (cc);
}

IsUsable-advised : (text : List ℕ) → IsUsable (advised_service text) text
IsUsable-advised text =
    cond_both (nat_le 9 (length text) && is_acceptable (advice_in text)) _ _ (λ s. IsUsable s text)
    (λ ok. let parts = and_parts (nat_le 9 (length text)) _ ok in IsUsable-acceptable (advice_in text) text refl (leb-true 9 (length text) parts.0) parts.1)
    (λ _. IsUsable-default (min 9 (length text)) false text (omega arith))

advised-single : (text : List ℕ) → (advised_service text).repetition ≡ None
advised-single text =
    cond_both (nat_le 9 (length text) && is_acceptable (advice_in text)) _ _ (λ (s : Service). s.repetition ≡ None) (λ _. refl) (λ _. refl)

-- without a version no service characters separate repetitions
pub service_of-single : (text : List ℕ) → (service_of text).repetition ≡ None
unfolding service_of
service_of-single text =
    cond_both (starts_with nat_eq text (codes "UNA")) _ _ (λ (s : Service). s.repetition ≡ None)
    (λ _. advised-single text)
    (λ _. refl)

pub service_of-usable : (text : List ℕ) → IsUsable (service_of text) text
unfolding service_of
service_of-usable text =
    cond_both (starts_with nat_eq text (codes "UNA")) _ _ (λ s. IsUsable s text)
    (λ _. IsUsable-advised text)
    (λ _. IsUsable-default 0 true text (omega arith))
