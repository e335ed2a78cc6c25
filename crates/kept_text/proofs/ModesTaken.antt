-- The mode after the first records of a text is the one after as many of its segments.
use Rattle.std.proofs.Common.{◌≡◌, ℕ, zero, suc, ◌+◌, ◌<◌, ◌≤◌, List, [], ◌∷◌, Some, None, length, take, get_or, refl, sym, ap, ◌∙◌, subst, arith, add-one}
use Rattle.std.specs.List.{slice_get}
use Rattle.std.proofs.lemmas.Option.{slice_get_within, slice_get-get_or}
use Rattle.dir_compile.specs.declared.parts.Parts.{Parts}
use Rattle.dir_compile.specs.Directory.{IsDirectory}
use Rattle.seg_lexer.specs.Context.{context_of}
use Rattle.segment_records.specs.Messages.{mode_after}
use Rattle.segment_records.specs.Records.{Kept, kept_from, kept_of}
use Rattle.segment_records.specs.Segments.{Segment, segments_of_text}
use Rattle.segment_records.specs.declared.mode.Mode.{Mode}
use Rattle.segment_records.specs.declared.mode.Mode.TheVariants.{Outside}
use Rattle.segment_records.proofs.Held.{mode_first}
use Rattle.segment_records.proofs.ModeLaws.{kept_is, length_kept, steps_are_modes}
use Rattle.segment_records.specs.WalkedSegments.{kept_in}
use Rattle.kept_text.specs.Again.{last_mode}
use Rattle.kept_text.proofs.LastMode.{last_mode_at}

abbrev as_no_segment : Segment
as_no_segment = record { from = 0; start = 0; end = 0; components = []; tag = None }

-- a list has a member at each place within it
pub member_at : {A : Type 0} (xs : List A) (i : ℕ) → i < length xs → (x : A) × (slice_get xs i ≡ Some x)
member_at [] i within = absurd (omega arith)
member_at (x ∷ xs) zero within = (x, refl)
member_at (x ∷ xs) (suc i) within = member_at xs i (omega arith)

module _ (dir : Parts) (directory : IsDirectory dir) (text : List ℕ) where
  -- the mode after the record at a place
  pub record_mode : (k : ℕ) (kept : Kept) → slice_get (kept_in dir text) k ≡ Some kept → kept.step.after ≡ mode_after dir (segments_of_text text) (k + 1)
  unfolding kept_in
  record_mode k kept is =
      let segments : List Segment = segments_of_text text in
      let within : k < length (kept_from dir (context_of text) Outside segments) = slice_get_within (kept_from dir (context_of text) Outside segments) k kept is in
      let long = length_kept dir (context_of text) Outside segments in
      let segment : Segment = get_or segments k (as_no_segment) in
      let at : slice_get segments k ≡ Some segment = slice_get-get_or segments k as_no_segment (omega arith) in
      let same : Some kept ≡ Some (kept_of dir (context_of text) (mode_after dir segments k) segment) =
      sym is ∙ kept_is dir directory (context_of text) segments k segment at in
      let kept_is : kept ≡ kept_of dir (context_of text) (mode_after dir segments k) segment = cc in
      ap (λ (k : Kept). k.step.after) kept_is ∙ sym (steps_are_modes dir directory segments k segment at)

  -- the mode after the first records, whatever it was before them
  pub mode_taken : (before : Mode) (k : ℕ) → 0 < k → k ≤ length (kept_in dir text)
      → last_mode before (take k (kept_in dir text)) ≡ mode_after dir (segments_of_text text) k
  mode_taken before zero some within = absurd (omega arith)
  mode_taken before (suc k) some within =
      let found = member_at (kept_in dir text) k (omega arith) in
      subst (λ (n : ℕ). last_mode before (take n (kept_in dir text)) ≡ mode_after dir (segments_of_text text) n) (add-one k)
      (last_mode_at before (kept_in dir text) k found.0 found.1 ∙ record_mode k found.0 found.1)

  -- and from outside of messages on, where there may be none
  pub modes_taken : (k : ℕ) → k ≤ length (kept_in dir text) → last_mode Outside (take k (kept_in dir text)) ≡ mode_after dir (segments_of_text text) k
  modes_taken zero within = sym (mode_first dir (segments_of_text text))
  modes_taken (suc k) within = mode_taken Outside (suc k) (omega arith) within
