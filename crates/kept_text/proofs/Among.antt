-- Which places are among the ends that an edit moves.
use Rattle.std.proofs.Common.{◌≡◌, ℕ, zero, suc, ◌+◌, ◌-◌, ◌≤◌, true, false, eqb, leb, List, [], ◌∷◌, Some, refl, ap, ◌∙◌, arith}
use Rattle.std.specs.Prelude.{map}
use Rattle.std.specs.List.{filter, slice_get}
use Rattle.std.proofs.lemmas.Bool.{cond-true, cond_both, eq-eqb, le-leb, leb-true, ne_eqb, or_from, or_left, or_right}
use Rattle.kept_text.specs.Stretch.{is_among}

-- these ends, but for those before the end of what is cut, where they are after an edit
abbrev pub moved_places : ℕ → ℕ → ℕ → List ℕ → List ℕ
moved_places at cut put es = map (λ e. e - cut + put) (filter (λ e. leb (at + cut) e) es)

module _ (at cut put place : ℕ) where
  abbrev moved : List ℕ → List ℕ
  moved es = map (λ e. e - cut + put) es

  -- the place of an end that is moved there is
  pub among_yes : (es : List ℕ) (i x : ℕ) → slice_get es i ≡ Some x → at + cut ≤ x → x - cut + put ≡ place
      → is_among (moved_places at cut put es) place ≡ true
  among_yes [] i x is past same = absurd (let none : ⊥ = cc in none)
  among_yes (e ∷ es) zero x is past same =
      let first : e ≡ x = cc in
      ap (λ (xs : List ℕ). is_among (moved xs) place)
      (cond-true (leb (at + cut) e) (e ∷ filter (λ e. leb (at + cut) e) es) (filter (λ e. leb (at + cut) e) es)
      (le-leb (at + cut) e (omega arith)))
      ∙ or_left (eqb (e - cut + put) place) (is_among (moved_places at cut put es) place)
      (eq-eqb (e - cut + put) place (ap (λ (n : ℕ). n - cut + put) first ∙ same))
  among_yes (e ∷ es) (suc i) x is past same =
      let later = among_yes es i x is past same in
      cond_both (leb (at + cut) e) (e ∷ filter (λ e. leb (at + cut) e) es) (filter (λ e. leb (at + cut) e) es)
      (λ (xs : List ℕ). is_among (moved xs) place ≡ true)
      (λ _. or_right (eqb (e - cut + put) place) (is_among (moved_places at cut put es) place) later)
      (λ _. later)

  -- and no other place is
  pub among_no : (es : List ℕ)
      → ((i x : ℕ) → slice_get es i ≡ Some x → at + cut ≤ x → x - cut + put ≡ place → ⊥)
      → is_among (moved_places at cut put es) place ≡ false
  among_no [] none = refl
  among_no (e ∷ es) none =
      let later = among_no es (λ i x is. none (suc i) x is) in
      cond_both (leb (at + cut) e) (e ∷ filter (λ e. leb (at + cut) e) es) (filter (λ e. leb (at + cut) e) es)
      (λ (xs : List ℕ). is_among (moved xs) place ≡ false)
      (λ past.
      or_from (eqb (e - cut + put) place) (is_among (moved_places at cut put es) place)
      (ne_eqb (e - cut + put) place (none 0 e refl (leb-true (at + cut) e past))) later)
      (λ _. later)
