-- What a reply without errors has: no segment with a local error.
use Rattle.std.proofs.Common.{◌≡◌, ℕ, ◌+◌, Bool, cond, List, [], ◌∷◌, ◌++◌, map, length, refl, sym, ap, ◌∙◌, inl, inr}
use Rattle.std.specs.List.{enumerate_from, flat_map}
use Rattle.std.proofs.lemmas.Bool.{cases_Bool}
use Rattle.dir_compile.specs.Directory.{Directory}
use Rattle.seg_lexer.specs.Context.{context_of}
use Rattle.seg_lexer.specs.Segments.{tail_of}
use Rattle.seg_lexer.specs.Service.{service_of}
use Rattle.seg_lexer.specs.declared.context.Context.{Context}
use Rattle.element_check.specs.Local.{local_errors_of}
use Rattle.envelope_check.specs.Envelope.{envelope_errors_of}
use Rattle.error_ledger.specs.Order.{in_order, is_before, put_before, sorted_by}
use Rattle.error_ledger.specs.declared.error.ErrorLine.{ErrorLine}
use Rattle.segment_records.specs.Errors.{local_line, segment_lines, structure_lines}
use Rattle.segment_records.specs.Heads.{heads_of, marks_of}
use Rattle.segment_records.specs.Segments.{Segment, segments_of_text}
use Rattle.text_reading.specs.Errors.{advice_lines, errors_found, errors_of, first_segment, syntax_lines, tail_lines}
use Rattle.text_reading.proofs.Each.{Each}

-- nothing is put together of nothing
after-none : {X : Type 0} (xs ys : List X) → xs ++ ys ≡ [] → ys ≡ []
after-none [] ys none = none
after-none (x ∷ xs) ys none = absurd (let never : ⊥ = cc in never)

before-none : {X : Type 0} (xs ys : List X) → xs ++ ys ≡ [] → xs ≡ []
before-none [] ys none = refl
before-none (x ∷ xs) ys none = absurd (let never : ⊥ = cc in never)

pub map-none : {X Y : Type 0} (f : X → Y) (xs : List X) → map f xs ≡ [] → xs ≡ []
map-none f [] none = refl
map-none f (x ∷ xs) none = absurd (let never : ⊥ = cc in never)

-- a list in order is empty where the list is
put-some : {X : Type 0} (below : X → X → Bool) (new : X) (xs : List X) → put_before below new xs ≡ [] → ⊥
put-some below new [] none = cc
put-some below new (x ∷ xs) none = elim (cases_Bool (below x new)) [
  | inl is ↦ let never : x ∷ put_before below new xs ≡ [] = sym (ap (λ (b : Bool). cond b (x ∷ put_before below new xs) (new ∷ x ∷ xs)) is) ∙ none in let no : ⊥ = cc in no
  | inr is ↦ let never : new ∷ x ∷ xs ≡ [] = sym (ap (λ (b : Bool). cond b (x ∷ put_before below new xs) (new ∷ x ∷ xs)) is) ∙ none in let no : ⊥ = cc in no
]

sorted-none : {X : Type 0} (below : X → X → Bool) (xs : List X) → sorted_by below xs ≡ [] → xs ≡ []
sorted-none below [] none = refl
sorted-none below (x ∷ xs) none = absurd (put-some below x (sorted_by below xs) none)

ordered-none : (errors : List ErrorLine) → in_order errors ≡ [] → errors ≡ []
unfolding in_order
ordered-none errors none = sorted-none is_before errors none

lines-none : (dir : Directory) (context : Context) (all : List Segment) (k : ℕ) (ss : List Segment) → flat_map (segment_lines dir context all) (enumerate_from k ss) ≡ []
    → Each (λ (s : Segment). local_errors_of dir context s.components ≡ []) ss
lines-none dir context all k [] none = tt
lines-none dir context all k (s ∷ ss) none =
    let local : List ErrorLine = map (local_line (k + 1) s) (local_errors_of dir context s.components) in
    let here = before-none (segment_lines dir context all (k, s)) (flat_map (segment_lines dir context all) (enumerate_from (k + 1) ss)) none in
    let more = after-none (segment_lines dir context all (k, s)) (flat_map (segment_lines dir context all) (enumerate_from (k + 1) ss)) none in
    (map-none (local_line (k + 1) s) (local_errors_of dir context s.components) (after-none (structure_lines dir all k s) local here), lines-none dir context all (k + 1) ss more)

-- no segment of a reply without errors has a local error
pub clean-local : (dir : Directory) (octets : List ℕ) → errors_of dir octets ≡ [] → Each (λ (s : Segment). local_errors_of dir (context_of octets) s.components ≡ []) (segments_of_text octets)
unfolding errors_of errors_found
clean-local dir octets none =
    let context : Context = context_of octets in
    let ss : List Segment = segments_of_text octets in
    let front : List ErrorLine = envelope_errors_of (heads_of dir ss) (marks_of ss) ++ advice_lines context.service.sound ++ tail_lines (length ss) (tail_of (service_of octets) octets) ++ syntax_lines (first_segment octets) in
    lines-none dir context ss 0 ss (after-none front (flat_map (segment_lines dir context ss) (enumerate_from 0 ss)) (ordered-none (errors_found dir octets) none))
