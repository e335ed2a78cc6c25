-- Where the reading of a stretch stops: at the first end that the records of the text before tell, or at its end.
use Rattle.std.proofs.Common.{◌≡◌, ℕ, ◌+◌, ◌-◌, ◌<◌, ◌≤◌, false, List, length, Some, None, inl, inr, ap, ◌∙◌, arith}
use Rattle.std.specs.List.{slice_get}
use Rattle.std.proofs.lemmas.Bool.{cases_lt}
use Rattle.dir_compile.specs.declared.parts.Parts.{Parts}
use Rattle.seg_lexer.specs.Context.{context_of}
use Rattle.seg_lexer.specs.Segments.{boundaries_of, ends_of}
use Rattle.seg_lexer.specs.Service.{IsUsable}
use Rattle.seg_lexer.proofs.ContextEnds.{context-usable}
use Rattle.segment_records.specs.WalkedSegments.{kept_in}
use Rattle.kept_text.specs.Again.{IsEndOf, NoneBefore}
use Rattle.kept_text.specs.Edit.{Edit, edited}
use Rattle.kept_text.specs.Stretch.{ends_moved, first_kept, is_among, reach_of}
use Rattle.kept_text.specs.declared.stretch.Span.{Span}
use Rattle.kept_text.proofs.Finds.{find_end, find_here, find_skip}
use Rattle.kept_text.proofs.Fronts.{segments_kept}
use Rattle.kept_text.proofs.KeptEnds.{IsSpanOf, boundary_number, kept_false, kept_true}
use Rattle.kept_text.proofs.Reached.{front_not, reach_kept, reach_whole}

module _ (dir : Parts) (text : List ℕ) (edit : Edit) (within : edit.at + edit.cut ≤ length text)
    (usable_too : IsUsable (context_of text).service (edited text edit)) (span : Span) (same : IsSpanOf span edit) where
  -- the number of the first end in the stretch
  abbrev first : ℕ
  first = segments_kept (context_of text).service text edit

  -- the ends of the edited text
  abbrev ends : List ℕ
  ends = ends_of (context_of text).service (edited text edit)

  -- none of the ends from the stretch's first up to number m is where records end
  abbrev NoneTold : ℕ → Type 0
  NoneTold m = NoneBefore (kept_in dir text) (context_of text).service.body span ends (first, m)

  -- records end at this end
  abbrev IsTold : ℕ → ℕ → Type 0
  IsTold end j = IsEndOf (kept_in dir text) (context_of text).service.body span end j

  none_kept : (m : ℕ) → NoneTold m → (i x : ℕ) → i < m → slice_get ends i ≡ Some x
      → is_among (ends_moved (context_of text).service text edit) x ≡ false
  none_kept m none i x before end = elim (cases_lt i first) [
    | inl front ↦ front_not (context_of text).service text edit within (context-usable text) usable_too i x front end
    | inr later ↦ kept_false dir text edit span same x (λ j. none i x j later before end)
  ]

  module _ (n e j : ℕ) (some : 0 < n) (end : slice_get ends (first + n - 1) ≡ Some e) (told : IsTold e j)
      (none : NoneTold (first + n - 1)) where
    -- the first end that records tell is the first that is kept
    pub stopped : first_kept (context_of text).service text edit ≡ Some e
    stopped =
        let test = is_among (ends_moved (context_of text).service text edit) in
        find_skip test (first + n - 1) ends (none_kept (first + n - 1) none)
        ∙ find_here test ends (first + n - 1) e end (kept_true dir text edit span same e j told)

    -- and the segments read up to there are the edit's reach
    pub reach_stopped : reach_of text edit ≡ n
    reach_stopped =
        let count : first + n - 1 + 1 - first ≡ n = omega arith in
        reach_kept text edit within (context-usable text) usable_too (first + n - 1) e end stopped ∙ count

  -- an end that records tell isn't before the edit's end
  pub told_after : (e j : ℕ) → IsTold e j → edit.at + length edit.put ≤ e
  told_after e j told =
      let at = same.at in
      let put = same.put in
      let after = told.after in
      omega arith

  -- the records given up to there end at a boundary of the text before
  pub old_boundary : (e j : ℕ) → IsTold e j
      → slice_get (boundaries_of (context_of text).service text) j ≡ Some (e + 1 - length edit.put + edit.cut)
  old_boundary e j told =
      let at = same.at in
      let cut = same.cut in
      let put = same.put in
      let after = told.after in
      let octets = told.ends in
      let place : e - span.put + span.cut + 1 ≡ e + 1 - length edit.put + edit.cut = omega arith in
      boundary_number dir text j told.within ∙ ap Some (octets ∙ place)

  module _ (n : ℕ) (all : first + n ≡ length ends) (none : NoneTold (first + n)) where
    -- where records tell none of them, none is kept
    pub gone_on : first_kept (context_of text).service text edit ≡ None
    gone_on =
        let test = is_among (ends_moved (context_of text).service text edit) in
        find_skip test (first + n) ends (none_kept (first + n) none) ∙ find_end test ends (first + n) (omega arith)

    -- and the edit's reach is all segments read, and one more
    pub reach_gone_on : reach_of text edit ≡ n + 1
    reach_gone_on =
        let count : length ends - first + 1 ≡ n + 1 = omega arith in
        reach_whole text edit within (context-usable text) usable_too gone_on ∙ count
