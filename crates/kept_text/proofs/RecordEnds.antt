-- Records and ends: where records of segments end, by their octets.
use Rattle.std.proofs.Common.{◌≡◌, ℕ, zero, suc, ◌+◌, ◌-◌, ◌<◌, ◌≤◌, List, [], ◌∷◌, length, get_or, take, Some, inl, inr, sym, ap, ◌∙◌, subst, arith}
use Rattle.std.specs.Prelude.{map}
use Rattle.std.specs.List.{slice_get}
use Rattle.std.specs.Option.{option_map}
use Rattle.std.proofs.lemmas.Bool.{cases_lt}
use Rattle.std.proofs.lemmas.List.{take-take}
use Rattle.std.proofs.lemmas.List.Sums.{sum_by-cons, sum_by-take-le, sum_by_more}
use Rattle.std.proofs.lemmas.Option.{get_or_from_slice_get, same_Some, slice_get-get_or, slice_get-map, slice_get_within}
use Rattle.dir_compile.specs.declared.parts.Parts.{Parts}
use Rattle.seg_lexer.specs.declared.context.Context.{Context}
use Rattle.seg_lexer.specs.declared.service.Service.{Service}
use Rattle.seg_lexer.proofs.AppendLemmas.{pairs}
use Rattle.seg_lexer.proofs.EndsLemmas.{IsAscending}
use Rattle.segment_records.specs.Records.{Kept, kept_from, kept_of}
use Rattle.segment_records.specs.Segments.{Segment, segment_between}
use Rattle.segment_records.specs.Steps.{step_of}
use Rattle.segment_records.specs.declared.mode.Mode.{Mode}
use Rattle.segment_records.specs.WalkedSegments.{octets_in}
use Rattle.kept_text.proofs.Places.{starts}

-- boundary j is after the octets of the first j records
abbrev pub AreBoundaries : ℕ → List ℕ → List Kept → Type 0
AreBoundaries b es kept = (j : ℕ) → j ≤ length es → slice_get (starts b es) j ≡ Some (b + octets_in (take j kept))

-- so it is with the records of the segments between these boundaries
pub boundaries_kept : (s : Service) (text : List ℕ) (dir : Parts) (context : Context) (b : ℕ) (es : List ℕ)
    (before : Mode) → IsAscending b es
    → AreBoundaries b es (kept_from dir context before (map (segment_between s text) (pairs b es)))
boundaries_kept s text dir context b [] before order zero within = ap Some (omega arith)
boundaries_kept s text dir context b [] before order (suc j) within = absurd (omega arith)
boundaries_kept s text dir context b (e ∷ es) before order zero within = ap Some (omega arith)
boundaries_kept s text dir context b (e ∷ es) before order (suc j) within =
    let low = order.0 in
    let segment : Segment = segment_between s text (b, e) in
    let after : Mode = (step_of dir before segment).after in
    let more : List Kept = take j (kept_from dir context after (map (segment_between s text) (pairs (e + 1) es))) in
    let count : octets_in (kept_of dir context before segment ∷ more) ≡ (e + 1 - b) + octets_in more =
    sum_by-cons (λ (k : Kept). k.octets) (kept_of dir context before segment) more in
    let same : e + 1 + octets_in more ≡ b + octets_in (kept_of dir context before segment ∷ more) = omega arith in
    boundaries_kept s text dir context (e + 1) es after order.1 j (omega arith) ∙ ap Some same

-- more records have no fewer octets
pub octets_grow : (kept : List Kept) (i j : ℕ) → i ≤ j → octets_in (take i kept) ≤ octets_in (take j kept)
octets_grow kept i j low =
    subst (λ (xs : List Kept). octets_in xs ≤ octets_in (take j kept)) (take-take i j kept low)
    (sum_by-take-le (λ (k : Kept). k.octets) (take j kept) i)

-- an end and the boundary after it
pub start_after : (b : ℕ) (es : List ℕ) (i e : ℕ) → slice_get es i ≡ Some e
    → slice_get (starts b es) (i + 1) ≡ Some (e + 1)
start_after b es i e is =
    let next : i + 1 ≡ suc i = omega arith in
    ap (slice_get (starts b es)) next ∙ slice_get-map (λ (e : ℕ). e + 1) es i ∙ ap (option_map (λ (e : ℕ). e + 1)) is

module _ (b : ℕ) (es : List ℕ) (kept : List Kept) (bound : AreBoundaries b es kept) (long : length kept ≡ length es)
    (p : ℕ) (item : Kept) (is : slice_get kept p ≡ Some item) where
  octets_next : octets_in (take (p + 1) kept) ≡ octets_in (take p kept) + item.octets
  octets_next =
      sum_by_more (λ (k : Kept). k.octets) kept p item (slice_get_within kept p item is)
      ∙ ap (λ (k : Kept). octets_in (take p kept) + k.octets) (get_or_from_slice_get kept p item item is)

  -- a record's last octet is an end
  pub end_here : (offset at : ℕ) → octets_in (take p kept) + offset ≡ at → offset + 1 ≡ item.octets
      → slice_get es p ≡ Some (b + at)
  end_here offset at sum last =
      let within : p < length kept = slice_get_within kept p item is in
      let e : ℕ = get_or es p 0 in
      let end : slice_get es p ≡ Some e = slice_get-get_or es p 0 (omega arith) in
      let after : Some (e + 1) ≡ Some (b + octets_in (take (p + 1) kept)) =
      sym (start_after b es p e end) ∙ bound (p + 1) (omega arith) in
      let same : e + 1 ≡ b + octets_in (take (p + 1) kept) = same_Some _ _ after in
      let next = octets_next in
      let there : e ≡ b + at = omega arith in
      end ∙ ap Some there

  -- and no other octet of it is
  pub end_not : (offset at : ℕ) → octets_in (take p kept) + offset ≡ at → offset + 1 < item.octets
      → (i : ℕ) → slice_get es i ≡ Some (b + at) → ⊥
  end_not offset at sum low i end =
      let within : i < length es = slice_get_within es i (b + at) end in
      let after : Some (b + at + 1) ≡ Some (b + octets_in (take (i + 1) kept)) =
      sym (start_after b es i (b + at) end) ∙ bound (i + 1) (omega arith) in
      let same : b + at + 1 ≡ b + octets_in (take (i + 1) kept) = same_Some _ _ after in
      let next = octets_next in
      elim (cases_lt i p) [
        | inl before ↦ let few = octets_grow kept (i + 1) p (omega arith) in omega arith
        | inr past ↦ let many = octets_grow kept (p + 1) (i + 1) (omega arith) in omega arith
      ]
