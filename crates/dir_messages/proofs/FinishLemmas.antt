-- What is judged after the last line.
use Rattle.std.proofs.Common.{◌≡◌, ℕ, ◌-◌, ◌<◌, true, nat_lt, Option, Some, MatchOption, List, [], ◌∷◌, ◌++◌, length, map, slice_get, ◌⊎◌, inl, inr, refl, ap, ◌∙◌, ⊎_elim, arith, lt-ltb}
use Rattle.std.proofs.lemmas.List.{reverse-append, map_push, length_push}
use Rattle.edi_tables.specs.Rows.{when}
use Rattle.edi_octets.specs.declared.fault.DirKind.TheVariants.{NotClosed}
use Rattle.edi_octets.specs.declared.fault.DirFault.{DirFault}
use Rattle.edi_octets.specs.Lines.{Line}
use Rattle.edi_octets.specs.DirStop.{at_line}
use Rattle.dir_messages.specs.declared.drawing.Drawing.{Drawing}
use Rattle.dir_messages.specs.Message.{open_faults, open_after}
use Rattle.dir_messages.specs.Drawing.{IsDrawn}

-- a list is empty or has a last member
last_of : {A : Type 0} (xs : List A) → (xs ≡ []) ⊎ ((front : List A) × (last : A) × (xs ≡ front ++ (last ∷ [])))
last_of [] = inl refl
last_of (x ∷ xs) =
    ⊎_elim (λ none. inr ([], x, ap (λ rest. x ∷ rest) none)) (λ some. inr (x ∷ some.0, some.1, ap (λ rest. x ∷ rest) some.2)) (last_of xs)

slice_get-last : {A : Type 0} (front : List A) (last : A) → slice_get (front ++ (last ∷ [])) (length front) ≡ Some last
slice_get-last [] last = refl
slice_get-last (x ∷ front) last = slice_get-last front last

open_faults-last : (front : List Line) (last : Line) → open_faults (front ++ (last ∷ [])) ≡ when (nat_lt 0 (open_after (front ++ (last ∷ [])))) (at_line NotClosed last)
open_faults-last front last =
    ap (λ (turned : List Line). elim turned as (λ _. List DirFault) [ [] ↦ [] | line ∷ more ↦ when (nat_lt 0 (open_after (front ++ (last ∷ [])))) (at_line NotClosed line) ]) (reverse-append front (last ∷ []))

module _ (drawn : List Line) (drawing : Drawing) (is : IsDrawn drawn drawing) where
  still_open : open_after drawn ≡ drawing.open_groups
  still_open = omega (arith, is.open_groups)

  -- some group is: the fault is at the last line
  pub unclosed-last : (line : Option ℕ) → line ≡ slice_get drawing.row_lines.items (length drawing.row_lines.items - 1) → 0 < drawing.open_groups → MatchOption line (open_faults drawn ≡ []) (λ number. open_faults drawn ≡ record { line = number; kind = NotClosed } ∷ [])
  unclosed-last line found wide =
      ⊎_elim
      (λ (empty : drawn ≡ []). absurd (omega (arith, ap open_after empty, still_open)))
      (λ (some : (front : List Line) × (last : Line) × (drawn ≡ front ++ (last ∷ []))).
      let front : List ℕ = map (λ (l : Line). l.number) some.0 in
      let numbers : drawing.row_lines.items ≡ front ++ (some.1.number ∷ []) = is.numbers ∙ ap (map (λ (l : Line). l.number)) some.2 ∙ map_push (λ (l : Line). l.number) some.0 some.1 in
      let place : length drawing.row_lines.items - 1 ≡ length front = omega (arith, ap length numbers, length_push front some.1.number) in
      let number : line ≡ Some some.1.number =
      found ∙ ap (λ (xs : List ℕ). slice_get xs (length drawing.row_lines.items - 1)) numbers ∙ ap (slice_get (front ++ (some.1.number ∷ []))) place ∙ slice_get-last front some.1.number in
      let wider : nat_lt 0 (open_after (some.0 ++ (some.1 ∷ []))) ≡ true = lt-ltb 0 (open_after (some.0 ++ (some.1 ∷ []))) (omega (arith, ap open_after some.2, still_open)) in
      rw number (ap open_faults some.2 ∙ open_faults-last some.0 some.1 ∙ rw wider refl))
      (last_of drawn)
