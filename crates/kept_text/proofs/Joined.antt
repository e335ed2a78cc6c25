-- The records of two texts that share a rest: those before it, those that were read or placed again, and those that
-- stay.
use Rattle.std.proofs.Common.{◌≡◌, ℕ, List, ◌++◌, take, drop, Some, sym, ap, ◌∙◌, take-append-drop}
use Rattle.std.specs.List.{slice_get}
use Rattle.std.proofs.lemmas.List.{append_assoc}
use Rattle.dir_compile.specs.declared.parts.Parts.{Parts}
use Rattle.seg_lexer.specs.Segments.{boundaries_of}
use Rattle.seg_lexer.specs.Service.{IsUsable}
use Rattle.seg_lexer.specs.declared.context.Context.{Context}
use Rattle.segment_records.specs.Records.{Kept, kept_from, records_from}
use Rattle.segment_records.specs.Segments.{segments_by}
use Rattle.segment_records.specs.Steps.{mode_from}
use Rattle.segment_records.specs.declared.mode.Mode.{Mode}
use Rattle.segment_records.specs.declared.mode.Mode.TheVariants.{Outside}
use Rattle.segment_records.proofs.Rests.{kept_rest}
use Rattle.kept_text.proofs.Records.{drop_kept, take_kept}

-- what is kept of all segments of a text, by this context
abbrev pub kept_of_text : Parts → Context → List ℕ → List Kept
kept_of_text dir context text = kept_from dir context Outside (segments_by context.service text)

module _ (dir : Parts) (context : Context) (text new : List ℕ) (k from : ℕ)
    (usable : IsUsable context.service new) (at : slice_get (boundaries_of context.service new) k ≡ Some from)
    (same : take k (segments_by context.service new) ≡ take k (segments_by context.service text)) (mode : Mode)
    (is : mode ≡ mode_from dir Outside (take k (segments_by context.service text))) where
  -- where the first segments of two texts are the same, the records of the one are the first of the other, and those of
  -- the octets after them
  pub front_kept : kept_of_text dir context new
      ≡ take k (kept_of_text dir context text) ++ records_from dir context mode (drop from new)
  front_kept =
      let s = context.service in
      let front : take k (kept_of_text dir context new) ≡ take k (kept_of_text dir context text) =
      take_kept dir context Outside (segments_by s new) k ∙ ap (kept_from dir context Outside) same
      ∙ sym (take_kept dir context Outside (segments_by s text) k) in
      let rest : drop k (kept_of_text dir context new) ≡ records_from dir context mode (drop from new) =
      drop_kept dir context Outside (segments_by s new) k
      ∙ ap (λ (m : Mode). kept_from dir context m (drop k (segments_by s new)))
      (ap (mode_from dir Outside) same ∙ sym is)
      ∙ kept_rest dir context new usable k from at mode in
      sym (take-append-drop k (kept_of_text dir context new))
      ∙ ap (λ (kept : List Kept). kept ++ drop k (kept_of_text dir context new)) front
      ∙ ap (λ (kept : List Kept). take k (kept_of_text dir context text) ++ kept) rest

  module _ (usable_before : IsUsable context.service text) (j b c : ℕ)
      (before : slice_get (boundaries_of context.service text) j ≡ Some b) (shared : drop c new ≡ drop b text)
      (last : Mode) where
    -- the records of the shared rest are those of the segments after its boundary
    pub rest_kept : records_from dir context last (drop c new)
        ≡ kept_from dir context last (drop j (segments_by context.service text))
    rest_kept =
        ap (records_from dir context last) shared ∙ sym (kept_rest dir context text usable_before j b before last)

    -- all records: those before, those that were read, those that were placed again, and those that stay
    pub joined : (read again : List Kept) (q : ℕ)
        → read ++ records_from dir context last (drop c new) ≡ records_from dir context mode (drop from new)
        → again ++ drop q (kept_of_text dir context text)
        ≡ kept_from dir context last (drop j (segments_by context.service text))
        → kept_of_text dir context new
        ≡ take k (kept_of_text dir context text) ++ ((read ++ again) ++ drop q (kept_of_text dir context text))
    joined read again q reads places =
        let rest : read ++ (again ++ drop q (kept_of_text dir context text))
        ≡ records_from dir context mode (drop from new) =
        ap (λ (kept : List Kept). read ++ kept) (places ∙ sym rest_kept) ∙ reads in
        front_kept
        ∙ ap (λ (kept : List Kept). take k (kept_of_text dir context text) ++ kept)
        (sym rest ∙ sym (append_assoc read again (drop q (kept_of_text dir context text))))
