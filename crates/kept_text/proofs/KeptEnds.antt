-- The records of a text tell which ends of an edited text are ends of the text before, moved.
use Rattle.std.proofs.Common.{◌≡◌, ℕ, zero, suc, ◌+◌, ◌-◌, ◌<◌, ◌≤◌, true, false, List, [], ◌∷◌, length, take, Some, refl, sym, ap, ◌∙◌, arith}
use Rattle.std.specs.Prelude.{map}
use Rattle.std.specs.List.{slice_get}
use Rattle.std.proofs.lemmas.Option.{same_Some, slice_get_within}
use Rattle.dir_compile.specs.declared.parts.Parts.{Parts}
use Rattle.seg_lexer.specs.Context.{context_of}
use Rattle.seg_lexer.specs.Segments.{boundaries_of, ends_of}
use Rattle.seg_lexer.specs.Service.{IsUsable}
use Rattle.seg_lexer.specs.declared.service.Service.{Service}
use Rattle.seg_lexer.proofs.EndsLemmas.{ends-ascending}
use Rattle.seg_lexer.proofs.ContextEnds.{context-usable}
use Rattle.segment_records.specs.Segments.{segments_of_text, segments_by}
use Rattle.segment_records.specs.declared.mode.Mode.TheVariants.{Outside}
use Rattle.segment_records.proofs.ModeLaws.{length_kept}
use Rattle.segment_records.specs.WalkedSegments.{kept_in, octets_in}
use Rattle.segment_records.proofs.Rests.{length_segments}
use Rattle.kept_text.specs.Again.{IsEndOf}
use Rattle.kept_text.specs.Edit.{Edit}
use Rattle.kept_text.specs.Stretch.{ends_moved, is_among}
use Rattle.kept_text.specs.declared.stretch.Span.{Span}
use Rattle.kept_text.proofs.Among.{among_no, among_yes}
use Rattle.kept_text.proofs.Places.{starts_ascend}
use Rattle.kept_text.proofs.Reached.{boundary_after}
use Rattle.kept_text.proofs.RecordEnds.{AreBoundaries, boundaries_kept}

-- a span is where an edit is
pub record IsSpanOf (span : Span) (edit : Edit) : Type 0 where
  pub at : span.at ≡ edit.at
  pub cut : span.cut ≡ edit.cut
  pub put : span.put ≡ length edit.put

module _ (dir : Parts) (text : List ℕ) where
  -- a text has as many records as ends
  pub records_count : length (kept_in dir text) ≡ length (ends_of (context_of text).service text)
  unfolding kept_in segments_of_text
  records_count =
      length_kept dir (context_of text) Outside (segments_by (context_of text).service text)
      ∙ length_segments (context_of text).service text

  -- its records end at its boundaries
  pub records_bound : AreBoundaries (context_of text).service.body (ends_of (context_of text).service text) (kept_in dir text)
  unfolding kept_in segments_of_text segments_by boundaries_of
  records_bound =
      let s = (context_of text).service in
      boundaries_kept s text dir (context_of text) s.body (ends_of s text) Outside
      (ends-ascending s text (context-usable text).body)

  pub boundary_number : (j : ℕ) → j ≤ length (kept_in dir text)
      → slice_get (boundaries_of (context_of text).service text) j
      ≡ Some ((context_of text).service.body + octets_in (take j (kept_in dir text)))
  unfolding boundaries_of
  boundary_number j within = let count = records_count in records_bound j (omega arith)

-- an end of a text isn't before its body
end_low : (s : Service) (text : List ℕ) → IsUsable s text → (i x : ℕ)
    → slice_get (ends_of s text) i ≡ Some x → s.body ≤ x
unfolding boundaries_of
end_low s text usable i x end =
    let low : s.body < x + 1 =
    starts_ascend s.body (ends_of s text) 0 (i + 1) s.body (x + 1) (ends-ascending s text usable.body) (omega arith)
    refl (boundary_after s text i x end) in
    omega arith

end_of_start : (es : List ℕ) (i x : ℕ) → slice_get (map (λ e. e + 1) es) i ≡ Some (x + 1) → slice_get es i ≡ Some x
end_of_start [] i x at = absurd (let none : ⊥ = cc in none)
end_of_start (e ∷ es) zero x at =
    let same : e + 1 ≡ x + 1 = same_Some (e + 1) (x + 1) at in
    ap Some (omega arith)
end_of_start (e ∷ es) (suc i) x at = end_of_start es i x at

-- the end before a boundary that isn't the first
end_before : (s : Service) (text : List ℕ) (j x : ℕ) → s.body ≤ x → slice_get (boundaries_of s text) j ≡ Some (x + 1)
    → (i : ℕ) × (slice_get (ends_of s text) i ≡ Some x)
unfolding boundaries_of
end_before s text zero x low at =
    let same : s.body ≡ x + 1 = same_Some s.body (x + 1) at in
    absurd (omega arith)
end_before s text (suc i) x low at =
    (i, end_of_start (ends_of s text) i x at)

module _ (dir : Parts) (text : List ℕ) (edit : Edit) (span : Span) (same : IsSpanOf span edit) where
  -- where records end at an end of the edited text, it is one that is moved
  pub kept_true : (end j : ℕ) → IsEndOf (kept_in dir text) (context_of text).service.body span end j
      → is_among (ends_moved (context_of text).service text edit) end ≡ true
  kept_true end j it =
      let s = (context_of text).service in
      let at = same.at in
      let cut = same.cut in
      let put = same.put in
      let after = it.after in
      let ends = it.ends in
      let x : ℕ = end - span.put + span.cut in
      let bound : slice_get (boundaries_of s text) j ≡ Some (x + 1) =
      boundary_number dir text j it.within ∙ ap Some ends in
      let found = end_before s text j x it.behind bound in
      among_yes edit.at edit.cut (length edit.put) end (ends_of s text) found.0 x found.1 (omega arith) (omega arith)

  -- where none do, it isn't
  pub kept_false : (end : ℕ) → ((j : ℕ) → IsEndOf (kept_in dir text) (context_of text).service.body span end j → ⊥)
      → is_among (ends_moved (context_of text).service text edit) end ≡ false
  kept_false end none =
      let s = (context_of text).service in
      let at = same.at in
      let cut = same.cut in
      let put = same.put in
      among_no edit.at edit.cut (length edit.put) end (ends_of s text) λ i x is past moved.
      let low : s.body ≤ x = end_low s text (context-usable text) i x is in
      let count = records_count dir text in
      let few : i < length (ends_of s text) = slice_get_within (ends_of s text) i x is in
      let bound : Some (s.body + octets_in (take (i + 1) (kept_in dir text))) ≡ Some (x + 1) =
      sym (boundary_number dir text (i + 1) (omega arith)) ∙ boundary_after s text i x is in
      let octets : s.body + octets_in (take (i + 1) (kept_in dir text)) ≡ x + 1 = same_Some _ _ bound in
      none (i + 1) (record { within = omega arith; after = omega arith; behind = omega arith; ends = omega arith })
