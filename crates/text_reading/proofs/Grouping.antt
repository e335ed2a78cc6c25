-- The place, among extents, of the one that a place lies in: how many were opened before the place that opened it.
use Rattle.std.proofs.Common.{◌≡◌, ℕ, zero, suc, ◌+◌, ◌<◌, Bool, true, false, cond, List, ◌&&◌, Option, Some, None, refl, sym, ap, ◌∙◌, inl, inr, arith, add-one}
use Rattle.std.specs.Prelude.{find, if◌then◌else◌}
use Rattle.std.specs.List.{range_with_len, filter_map, enumerate_from}
use Rattle.std.specs.Option.{option_map}
use Rattle.std.proofs.lemmas.Bool.{cases_Bool}
use Rattle.edi_tables.specs.Extents.{Extent, lies_in}
use Rattle.edi_tables.proofs.Openings.{AreMarks, first_of, holder, next_stop, opened, stretch, stretch_at, stretches}
use Rattle.edi_tables.proofs.Searching.{find_given}
use Rattle.text_reading.specs.Summary.{group_of}

-- how many places below one open an extent
abbrev pub opened_below : (ℕ → Bool) → ℕ → ℕ
opened_below o zero = 0
opened_below o (suc k) = if o k then opened_below o k + 1 else opened_below o k

pub below_next : (o : ℕ → Bool) (k : ℕ) → opened_below o (k + 1) ≡ (if o k then opened_below o k + 1 else opened_below o k)
below_next o k = ap (opened_below o) (add-one k)

pub opened_next : (o s : ℕ → Bool) (k : ℕ) → opened o s (k + 1) ≡ cond (o k) (Some k) (cond (s k) None (opened o s k))
opened_next o s k = ap (opened o s) (add-one k)

-- a search among numbered extents is one among the places that open them
find_numbered : (o : ℕ → Bool) (e : ℕ → Extent) (p : Extent → Bool) (k m : ℕ)
    → find (λ (q : ℕ × Extent). p q.1) (enumerate_from (opened_below o k) (filter_map (λ b. cond (o b) (Some (e b)) None) (range_with_len k m)))
    ≡ option_map (λ (b : ℕ). (opened_below o b, e b)) (find (λ b. o b && p (e b)) (range_with_len k m))
find_numbered o e p k zero = refl
find_numbered o e p k (suc m) =
    let more : List Extent = filter_map (λ b. cond (o b) (Some (e b)) None) (range_with_len (k + 1) m) in
    let below = λ (v : Bool) (is : o k ≡ v). below_next o k ∙ ap (λ (v : Bool). if v then opened_below o k + 1 else opened_below o k) is in
    let on = λ (v : Bool) (is : o k ≡ v). ap (λ (n : ℕ). find (λ (q : ℕ × Extent). p q.1) (enumerate_from n more)) (sym (below v is)) in
    elim (cases_Bool (o k)) [
      | inl here ↦ elim (cases_Bool (p (e k))) [
        | inl passes ↦ rw (here, passes) refl
        | inr fails ↦ rw (here, fails) (on true here ∙ find_numbered o e p (k + 1) m)
      ]
      | inr never ↦ rw never (on false never ∙ find_numbered o e p (k + 1) m)
    ]

module _ (o c s : ℕ → Bool) (n i : ℕ) (marks : AreMarks o c s) (within : i < n) where
  abbrev found : Option ℕ
  found = find (λ b. o b && lies_in i (stretch c s n b)) (range_with_len 0 n)

  -- extents from different places differ
  apart : (x y : Option ℕ) → option_map (stretch c s n) x ≡ option_map (stretch c s n) y → x ≡ y
  apart None None same = refl
  apart (Some a) None same = absurd (let no : ⊥ = cc in no)
  apart None (Some b) same = absurd (let no : ⊥ = cc in no)
  apart (Some a) (Some b) same =
      let extents : stretch c s n a ≡ stretch c s n b = cc in
      let firsts = sym (first_of c n a (next_stop s n a)) ∙ ap (λ (e : Extent). e.first) extents ∙ first_of c n b (next_stop s n b) in
      let places : a ≡ b = omega (arith, firsts) in
      ap Some places

  found_is : found ≡ holder o c s i
  found_is =
      apart found (holder o c s i) (sym (find_given o (stretch c s n) (lies_in i) (range_with_len 0 n)) ∙ stretch_at o c s n i marks within)

  fused : (x : Option ℕ) → option_map (λ (p : ℕ × Extent). p.0) (option_map (λ (b : ℕ). (opened_below o b, stretch c s n b)) x) ≡ option_map (opened_below o) x
  fused None = refl
  fused (Some b) = refl

  -- a place that neither opens nor stops one lies in the one that is open before it
  pub group_is : o i ≡ false → s i ≡ false → group_of (stretches o c s n) i ≡ option_map (opened_below o) (opened o s i)
  group_is never fails =
      ap (option_map (λ (p : ℕ × Extent). p.0)) (find_numbered o (stretch c s n) (lies_in i) 0 n)
      ∙ fused found
      ∙ ap (option_map (opened_below o)) (found_is ∙ rw (never, fails) refl)
