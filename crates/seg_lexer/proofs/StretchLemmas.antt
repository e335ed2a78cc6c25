-- The octets of a stretch of a text, one after another.
use Rattle.std.proofs.Common.{◌≡◌, ◌==◌, ℕ, zero, suc, ◌+◌, ◌-◌, ◌<◌, ◌≤◌, Bool, true, false, List, [], ◌∷◌, length, get_or, take, drop, Option, Some, None, refl, sym, ap, ◌∙◌, arith}
use Rattle.std.specs.List.{between, prefix_len}
use Rattle.std.specs.Iterator.{YieldsFirst}
use Rattle.std.proofs.lemmas.Bool.{cond-false, cond-true, ne_eqb}
use Rattle.std.proofs.lemmas.List.{drop_more}
use Rattle.seg_lexer.specs.Released.{is_release, value_of}
use Rattle.seg_lexer.specs.Lent.{IsLent}
use Rattle.seg_lexer.specs.Breaks.{is_break}
use Rattle.seg_lexer.proofs.ForwardLemmas.{value_of-last, value_of-none, value_of-plain, value_of-release, value_of-two}

pub between-first : (text : List ℕ) (at to : ℕ) → at < to → to ≤ length text → between at to text ≡ get_or text at 0 ∷ between (at + 1) to text
between-first text at to below within =
    let more : to - at ≡ suc (to - (at + 1)) = omega arith in
    ap (λ (n : ℕ). take n (drop at text)) more ∙ ap (take (suc (to - (at + 1)))) (drop_more text at 0 (omega arith))

pub between-empty : (text : List ℕ) (at to : ℕ) → to ≤ at → between at to text ≡ []
between-empty text at to past = let none : to - at ≡ 0 = omega arith in ap (λ (n : ℕ). take n (drop at text)) none

-- the first octet of what is lent
pub record Taken (text : List ℕ) (at to x : ℕ) (rest : List ℕ) : Type 0 where
  pub lent : IsLent text (at + 1) to rest
  pub first : between at to text ≡ x ∷ between (at + 1) to text

pub lent-first : (text : List ℕ) (at to : ℕ) (part : List ℕ) (x : ℕ) (rest : List ℕ) → IsLent text at to part → part ≡ x ∷ rest → Taken text at to x rest
lent-first text at to part x rest lent is =
    let within = lent.within in
    let inside = lent.inside in
    let count : length part ≡ length rest + 1 = ap length is ∙ omega arith in
    let end : at + length part ≡ at + 1 + length rest = omega arith in
    let both : x ∷ rest ≡ get_or text at 0 ∷ between (at + 1) (at + length part) text = sym is ∙ (lent.reads ∙ between-first text at (at + length part) (omega arith) (omega arith)) in
    let first : x ≡ get_or text at 0 = cc in
    let later : rest ≡ between (at + 1) (at + length part) text = cc in
    record {
      lent = record { ordered = omega arith; within = within; inside = omega arith; reads = later ∙ ap (λ (n : ℕ). between (at + 1) n text) end };
      first = between-first text at to (omega arith) within ∙ ap (λ (y : ℕ). y ∷ between (at + 1) to text) (sym first);
    }

-- how many of the octets are CR or LF, and none is passed over
pub breaks-more : (old rest : List ℕ) (x : ℕ) → old ≡ x ∷ rest → is_break x ≡ true → prefix_len is_break old ≡ prefix_len is_break rest + 1
breaks-more old rest x is here = ap (prefix_len is_break) is ∙ (cond-true (is_break x) (1 + prefix_len is_break rest) 0 here ∙ omega arith)

pub breaks-end : (old rest : List ℕ) (x : ℕ) → old ≡ x ∷ rest → is_break x ≡ false → prefix_len is_break old ≡ 0
breaks-end old rest x is here = ap (prefix_len is_break) is ∙ cond-false (is_break x) (1 + prefix_len is_break rest) 0 here

-- a value has no octet where its component has none, or a release character alone
is-zero : (n : ℕ) → n ≡ 0 → (n == 0) ≡ true
is-zero zero none = refl
is-zero (suc n) none = absurd (omega arith)

module _ (release : Option ℕ) (text : List ℕ) (from to : ℕ) where
  abbrev is_none : Bool
  is_none = length (value_of release (between from to text)) == 0

  pub empty-none : to - from ≡ 0 → is_none ≡ true
  empty-none none = is-zero _ (ap length (ap (value_of release) (between-empty text from to (omega arith)) ∙ value_of-none release))

  pub empty-one : to - from ≡ 1 → to ≤ length text → is_release release (get_or text from 0) ≡ is_none
  empty-one one within = by (is_release release (get_or text from 0)) refl
    where
      alone : between from to text ≡ get_or text from 0 ∷ []
      alone = between-first text from to (omega arith) within ∙ ap (λ (ys : List ℕ). get_or text from 0 ∷ ys) (between-empty text (from + 1) to (omega arith))

      by : (b : Bool) → is_release release (get_or text from 0) ≡ b → b ≡ is_none
      by true released = sym (is-zero _ (ap length (ap (value_of release) alone ∙ value_of-last release (get_or text from 0) released)))
      by false other = let kept = ap length (ap (value_of release) alone ∙ value_of-plain release (get_or text from 0) [] other) in sym (ne_eqb _ 0 (λ none. omega arith))

  pub empty-more : 1 < to - from → to ≤ length text → is_none ≡ false
  empty-more more within =
      let both : between from to text ≡ get_or text from 0 ∷ get_or text (from + 1) 0 ∷ between (from + 1 + 1) to text =
      between-first text from to (omega arith) within ∙ ap (λ (ys : List ℕ). get_or text from 0 ∷ ys) (between-first text (from + 1) to (omega arith) within) in
      let same = ap (λ (ys : List ℕ). length (value_of release ys)) both in
      let some = value_of-two release (get_or text from 0) (get_or text (from + 1) 0) (between (from + 1 + 1) to text) in
      ne_eqb _ 0 (λ none. omega arith)

pub kept-none : (release : Option ℕ) (old : List ℕ) (o : Option ℕ) (new : List ℕ) → o ≡ None → (old ≡ []) × (new ≡ []) → YieldsFirst (λ rest. rest) (value_of release old) o (value_of release new)
kept-none release old None new is none = (ap (value_of release) none.0 ∙ value_of-none release, ap (value_of release) none.1 ∙ value_of-none release)
kept-none release old (Some x) new is none = absurd (cc)

module _ (release : Option ℕ) (old rest : List ℕ) (x : ℕ) (is : old ≡ x ∷ rest) where
  pub kept-plain : is_release release x ≡ false → value_of release old ≡ x ∷ value_of release rest
  kept-plain other = ap (value_of release) is ∙ value_of-plain release x rest other

  pub kept-released : (o : Option ℕ) (new : List ℕ) → is_release release x ≡ true → YieldsFirst (λ rest. rest) rest o new → YieldsFirst (λ rest. rest) (value_of release old) o (value_of release new)
  kept-released None new released none =
      (ap (value_of release) (is ∙ ap (λ (ys : List ℕ). x ∷ ys) none.0) ∙ value_of-last release x released, ap (value_of release) none.1 ∙ value_of-none release)
  kept-released (Some y) new released some =
      ap (value_of release) (is ∙ ap (λ (ys : List ℕ). x ∷ ys) some) ∙ value_of-release release x y new released
