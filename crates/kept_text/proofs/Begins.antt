-- Where the records of a text say that the stretch of an edit begins.
use Rattle.std.proofs.Common.{◌≡◌, ℕ, suc, ◌+◌, ◌<◌, ◌≤◌, List, length, get_or, take, Some, inl, inr, sym, ap, ◌∙◌, arith}
use Rattle.std.specs.List.{slice_get}
use Rattle.std.proofs.lemmas.Bool.{cases_lt, cases_order}
use Rattle.std.proofs.lemmas.List.{length-map}
use Rattle.std.proofs.lemmas.Option.{same_Some, slice_get-get_or, slice_get_within}
use Rattle.dir_compile.specs.declared.parts.Parts.{Parts}
use Rattle.seg_lexer.specs.Context.{context_of}
use Rattle.seg_lexer.specs.Segments.{boundaries_of, ends_of}
use Rattle.seg_lexer.specs.Service.{IsUsable}
use Rattle.seg_lexer.specs.Whole.{after_last}
use Rattle.seg_lexer.proofs.EndsLemmas.{IsAscending, IsAscending-lower, below-none, ends-ascending}
use Rattle.seg_lexer.proofs.ContextEnds.{context-usable}
use Rattle.segment_records.specs.Records.{Kept}
use Rattle.segment_records.specs.WalkedSegments.{kept_in, octets_in}
use Rattle.kept_text.specs.Edit.{Edit, edited}
use Rattle.kept_text.specs.Stretch.{stretch_from}
use Rattle.kept_text.proofs.Fronts.{from_old, segments_kept}
use Rattle.kept_text.proofs.KeptEnds.{boundary_number, records_bound, records_count}
use Rattle.kept_text.proofs.Places.{below, next_past, start_at, start_within, starts}
use Rattle.kept_text.proofs.RecordEnds.{AreBoundaries, octets_grow, start_after}

-- as many records end at or before a place: after them comes the last boundary that isn't past it
pub record IsLastBefore (kept : List Kept) (body place first : ℕ) : Type 0 where
  pub within : first ≤ length kept
  pub early : place < body → first ≡ 0
  pub not_past : body ≤ place → body + octets_in (take first kept) ≤ place
  pub last : first < length kept → body ≤ place → place < body + octets_in (take (first + 1) kept)

module _ (b place : ℕ) (es : List ℕ) (kept : List Kept) (order : IsAscending b es) (bound : AreBoundaries b es kept)
    (long : length kept ≡ length es) where
  -- no more ends are below a place than there are
  few_below : length (below place es) ≤ length es
  few_below =
      let n : ℕ = length (below place es) in
      let count : length (starts b es) ≡ suc (length es) = ap (λ (n : ℕ). suc n) (length-map es (λ (e : ℕ). e + 1)) in
      let within = slice_get_within (starts b es) n (after_last b (below place es)) (start_at b place es order) in
      omega arith

  -- so as many ends are below it
  first_below : (first : ℕ) → IsLastBefore kept b place first → first ≡ length (below place es)
  first_below first it = elim (cases_lt place b) [
    | inl before ↦
        let none : length (below place es) ≡ 0 =
        ap length (below-none place es (IsAscending-lower place b es (omega arith) order)) in
        let zero_first = it.early before in
        omega arith
    | inr after ↦ elim (cases_order first (length (below place es))) [
      | inl same ↦ same
      | inr other ↦ elim other [
        | inl fewer ↦
            let n : ℕ = length (below place es) in
            let few = few_below in
            let from : Some (after_last b (below place es)) ≡ Some (b + octets_in (take n kept)) =
            sym (start_at b place es order) ∙ bound n few in
            let same : after_last b (below place es) ≡ b + octets_in (take n kept) = same_Some _ _ from in
            let low = start_within b place es after in
            let grow = octets_grow kept (first + 1) n (omega arith) in
            let last = it.last (omega arith) after in
            absurd (omega arith)
        | inr more ↦
            let n : ℕ = length (below place es) in
            let within = it.within in
            let x : ℕ = get_or es n 0 in
            let end : slice_get es n ≡ Some x = slice_get-get_or es n 0 (omega arith) in
            let past : place ≤ x = next_past b place es x order end in
            let next : Some (x + 1) ≡ Some (b + octets_in (take (n + 1) kept)) =
            sym (start_after b es n x end) ∙ bound (n + 1) (omega arith) in
            let same : x + 1 ≡ b + octets_in (take (n + 1) kept) = same_Some _ _ next in
            let grow = octets_grow kept (n + 1) first (omega arith) in
            let low = it.not_past after in
            absurd (omega arith)
      ]
    ]
  ]

module _ (dir : Parts) (text : List ℕ) (edit : Edit) (first : ℕ)
    (it : IsLastBefore (kept_in dir text) (context_of text).service.body edit.at first) where
  -- these records are of the segments that end before the edit
  pub first_is : first ≡ segments_kept (context_of text).service text edit
  first_is =
      let s = (context_of text).service in
      first_below s.body edit.at (ends_of s text) (kept_in dir text)
      (ends-ascending s text (context-usable text).body) (records_bound dir text) (records_count dir text) first it

  -- and the stretch begins after their octets
  pub from_first : edit.at + edit.cut ≤ length text → IsUsable (context_of text).service (edited text edit)
      → (context_of text).service.body + octets_in (take first (kept_in dir text)) ≡ stretch_from (context_of text).service text edit
  from_first within usable_too =
      let s = (context_of text).service in
      same_Some _ _
      (sym (boundary_number dir text first it.within)
      ∙ ap (slice_get (boundaries_of s text)) first_is
      ∙ from_old s text edit within (context-usable text) usable_too)
