-- The records of an edited text, from those of the text before, where both have the same context.
use Rattle.std.proofs.Common.{◌≡◌, ℕ, ◌+◌, ◌≤◌, List, ◌++◌, length, take, drop, Some, refl, sym, ap, ◌∙◌, subst, arith}
use Rattle.std.specs.List.{slice_get}
use Rattle.dir_compile.specs.declared.parts.Parts.{Parts}
use Rattle.dir_compile.specs.Directory.{IsDirectory}
use Rattle.seg_lexer.specs.Context.{context_of}
use Rattle.seg_lexer.specs.Segments.{boundaries_of}
use Rattle.seg_lexer.specs.Service.{IsUsable}
use Rattle.seg_lexer.specs.declared.context.Context.{Context}
use Rattle.seg_lexer.specs.declared.service.Service.{Service}
use Rattle.seg_lexer.proofs.EditLemmas.{drop-spliced}
use Rattle.seg_lexer.proofs.ContextEnds.{context-usable}
use Rattle.segment_records.specs.Messages.{mode_after}
use Rattle.segment_records.specs.Records.{Kept, kept_from, records_from}
use Rattle.segment_records.specs.Segments.{segments_by, segments_of_text}
use Rattle.segment_records.specs.Steps.{mode_from}
use Rattle.segment_records.specs.declared.mode.Mode.{Mode}
use Rattle.segment_records.specs.declared.mode.Mode.TheVariants.{Outside}
use Rattle.segment_records.proofs.ModeLaws.{mode_from_is}
use Rattle.segment_records.specs.WalkedSegments.{kept_in}
use Rattle.segment_records.proofs.Rests.{length_segments}
use Rattle.kept_text.specs.Edit.{Edit, edited}
use Rattle.kept_text.specs.Stretch.{stretch_from}
use Rattle.kept_text.proofs.Contexts.{same_service}
use Rattle.kept_text.proofs.Joined.{front_kept, joined, kept_of_text}
use Rattle.kept_text.proofs.Taken.{boundary_number}

module _ (dir : Parts) (text new : List ℕ) (same : context_of new ≡ context_of text) where
  -- what is kept of a text is what is kept by its context
  kept_before : kept_in dir text ≡ kept_of_text dir (context_of text) text
  unfolding kept_in segments_of_text
  kept_before = refl

  kept_now : kept_in dir new ≡ kept_of_text dir (context_of text) new
  unfolding kept_in segments_of_text
  kept_now = ap (λ (c : Context). kept_from dir c Outside (segments_by c.service new)) same

module _ (dir : Parts) (directory : IsDirectory dir) (text : List ℕ) (edit : Edit)
    (same : context_of (edited text edit) ≡ context_of text)
    (k : ℕ)
    (begins : slice_get (boundaries_of (context_of text).service (edited text edit)) k
    ≡ Some (stretch_from (context_of text).service text edit))
    (begins_too : slice_get (boundaries_of (context_of text).service text) k
    ≡ Some (stretch_from (context_of text).service text edit))
    (front : take k (segments_by (context_of text).service (edited text edit))
    ≡ take k (segments_by (context_of text).service text)) where
  abbrev new : List ℕ
  new = edited text edit

  usable : IsUsable (context_of text).service (edited text edit)
  usable = subst (λ (s : Service). IsUsable s (edited text edit)) (same_service text (edited text edit) same)
      (context-usable (edited text edit))

  -- the mode before the stretch
  mode_is : mode_after dir (segments_of_text text) k
      ≡ mode_from dir Outside (take k (segments_by (context_of text).service text))
  unfolding segments_of_text
  mode_is =
      let count = length_segments (context_of text).service text in
      let within =
      boundary_number (context_of text).service text (context-usable text) k
      (stretch_from (context_of text).service text edit) begins_too in
      sym (mode_from_is dir directory (segments_by (context_of text).service text) k (omega arith))

  -- where it goes on to the text's end: the records before it, and those that were read
  pub records_to_end : (read : List Kept)
      → read ≡ records_from dir (context_of text) (mode_after dir (segments_of_text text) k)
      (drop (stretch_from (context_of text).service text edit) new)
      → kept_in dir new ≡ take k (kept_in dir text) ++ read
  records_to_end read reads =
      kept_now dir text new same
      ∙ front_kept dir (context_of text) text new k (stretch_from (context_of text).service text edit) usable begins front
      (mode_after dir (segments_of_text text) k) mode_is
      ∙ ap (λ (kept : List Kept). take k (kept_of_text dir (context_of text) text) ++ kept) (sym reads)
      ∙ ap (λ (kept : List Kept). take k kept ++ read) (sym (kept_before dir text new same))

  -- else: the records before it, those that were read, those that were placed again, and those that stay
  pub records_spliced : edit.at + edit.cut ≤ length text → (j i q : ℕ)
      → slice_get (boundaries_of (context_of text).service text) j ≡ Some (edit.at + edit.cut + i)
      → (last : Mode) (read again : List Kept)
      → read ++ records_from dir (context_of text) last (drop (edit.at + length edit.put + i) new)
      ≡ records_from dir (context_of text) (mode_after dir (segments_of_text text) k)
      (drop (stretch_from (context_of text).service text edit) new)
      → again ++ drop q (kept_in dir text) ≡ kept_from dir (context_of text) last (drop j (segments_of_text text))
      → kept_in dir new ≡ take k (kept_in dir text) ++ ((read ++ again) ++ drop q (kept_in dir text))
  unfolding segments_of_text
  records_spliced within j i q before last read again reads places =
      let old = kept_before dir text new same in
      kept_now dir text new same
      ∙ joined dir (context_of text) text new k (stretch_from (context_of text).service text edit) usable begins front
      (mode_after dir (segments_of_text text) k) mode_is (context-usable text) j (edit.at + edit.cut + i)
      (edit.at + length edit.put + i)
      before (drop-spliced (context_of text).service text edit.at edit.cut edit.put within i) last read again q reads
      (ap (λ (kept : List Kept). again ++ drop q kept) (sym old) ∙ places)
      ∙ ap (λ (kept : List Kept). take k kept ++ ((read ++ again) ++ drop q kept)) (sym old)
