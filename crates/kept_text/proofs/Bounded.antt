-- The rerun of an edit counts no segment past the first that bounds an extent, at or past the end of its stretch.
use Rattle.std.proofs.Common.{◌≡◌, ℕ, suc, ◌+◌, ◌-◌, ◌<◌, ◌≤◌, Bool, true, false, cond, List, [], ◌∷◌, length, get_or, Option, Some, None, inl, inr, refl, sym, ap, ◌∙◌, arith}
use Rattle.std.specs.Prelude.{map, ◌==◌, nat_le, nat_lt}
use Rattle.std.specs.List.{filter, slice_get}
use Rattle.std.proofs.lemmas.Bool.{eqb-true, false≢true, leb-true, or_cases}
use Rattle.std.proofs.lemmas.Option.{slice_get_within, slice_get-get_or}
use Rattle.dir_compile.specs.declared.parts.Parts.{Parts}
use Rattle.dir_compile.specs.Directory.{IsDirectory}
use Rattle.seg_lexer.specs.Context.{context_of}
use Rattle.seg_lexer.specs.Segments.{boundaries_of, ends_of}
use Rattle.seg_lexer.specs.declared.service.Service.{Service}
use Rattle.seg_lexer.proofs.EndsLemmas.{ends-ascending}
use Rattle.segment_records.specs.Bounds.{stops_message}
use Rattle.segment_records.specs.Segments.{Segment, segments_by, segments_of_text}
use Rattle.segment_records.proofs.Rests.{length_segments}
use Rattle.kept_text.specs.Edit.{Edit, edited}
use Rattle.kept_text.specs.Stretch.{ends_moved, first_kept, is_among, segments_before, stretch_from, stretch_to}
use Rattle.kept_text.specs.Rerun.{IsRerunBounded, rerun_of}
use Rattle.kept_text.proofs.Edited.{rerun_to_head, usable_too}
use Rattle.kept_text.proofs.Finds.{found_at}
use Rattle.kept_text.proofs.Places.{start_at}
use Rattle.kept_text.proofs.Reached.{before_boundary, before_end, boundary_after}

-- a place is where one of these, that passes, is moved
pub record IsMovedHere (passes : ℕ → Bool) (moves : ℕ → ℕ) (places : List ℕ) (place : ℕ) : Type 0 where
  pub number : ℕ
  pub from : ℕ
  pub at : slice_get places number ≡ Some from
  pub passed : passes from ≡ true
  pub moved : moves from ≡ place

module _ (passes : ℕ → Bool) (moves : ℕ → ℕ) (place : ℕ) where
  one_later : (first : ℕ) (more : List ℕ) → IsMovedHere passes moves more place
      → IsMovedHere passes moves (first ∷ more) place
  one_later first more it =
      record { number = suc it.number; from = it.from; at = it.at; passed = it.passed; moved = it.moved }

  moved_by : (first : ℕ) (more : List ℕ) (test : Bool) → passes first ≡ test
      → is_among (map moves (cond test (first ∷ filter passes more) (filter passes more))) place ≡ true
      → (is_among (map moves (filter passes more)) place ≡ true → IsMovedHere passes moves more place)
      → IsMovedHere passes moves (first ∷ more) place
  moved_by first more false fails is rest = one_later first more (rest is)
  moved_by first more true passed is rest =
      elim (or_cases (moves first == place) (is_among (map moves (filter passes more)) place) is) [
        | inl here ↦ record
            { number = 0; from = first; at = refl; passed = passed; moved = eqb-true (moves first) place here }
        | inr later ↦ one_later first more (rest later)
      ]

  -- a place among those that are moved is of one of them
  pub moved_from : (places : List ℕ) → is_among (map moves (filter passes places)) place ≡ true
      → IsMovedHere passes moves places place
  moved_from [] is = absurd (false≢true is)
  moved_from (first ∷ more) is = moved_by first more (passes first) refl is (moved_from more)

module _ (dir : Parts) (directory : IsDirectory dir) (text : List ℕ) (edit : Edit)
    (within : edit.at + edit.cut ≤ length text)
    (service : (context_of (edited text edit)).service ≡ (context_of text).service) where
  abbrev s : Service
  s = (context_of text).service

  abbrev new : List ℕ
  new = edited text edit

  -- how many segments come before the stretch
  abbrev first : ℕ
  first = length (filter (λ end. nat_lt end edit.at) (ends_of (context_of text).service (edited text edit)))

  begins : slice_get (boundaries_of s new) first ≡ Some (stretch_from s text edit)
  unfolding boundaries_of
  begins = start_at s.body edit.at (ends_of s new) (ends-ascending s new (usable_too text edit service).body)

  first_count : segments_before s new (stretch_from s text edit) ≡ first
  first_count = before_boundary s new (usable_too text edit service) first (stretch_from s text edit) begins

  bounded_by : (kept : Option ℕ) → first_kept s text edit ≡ kept → (i : ℕ) (segment : Segment)
      → slice_get (segments_of_text new) (segments_before s new (stretch_to s text edit) + i) ≡ Some segment
      → stops_message segment.tag ≡ true
      → rerun_of dir text edit ≤ segments_before s new (stretch_to s text edit) + i + 1 - segments_before s new
      (stretch_from s text edit)
  unfolding segments_of_text
  bounded_by None none i segment is bounds =
      let to : stretch_to s text edit ≡ length new =
      ap (λ (o : Option ℕ). elim o [ None ↦ length new | Some end ↦ end + 1 ]) none in
      let past : segments_before s new (stretch_to s text edit) ≡ length (ends_of s new) =
      ap (segments_before s new) to ∙ before_end s new (usable_too text edit service) in
      let here : slice_get (segments_by s new) (segments_before s new (stretch_to s text edit) + i) ≡ Some segment =
      ap (λ (v : Service). slice_get (segments_by v new) (segments_before s new (stretch_to s text edit) + i))
      (sym service) ∙ is in
      let count : length (segments_by s new) ≡ length (ends_of s new) = length_segments s new in
      let few = slice_get_within (segments_by s new)
      (segments_before s new (stretch_to s text edit) + i) segment here in
      absurd (omega arith)
  bounded_by (Some e) kept i segment is bounds =
      let found = found_at (is_among (ends_moved s text edit)) (ends_of s new) e kept in
      let q : ℕ = found.0 + 1 in
      let after : slice_get (boundaries_of s new) q ≡ Some (e + 1) = boundary_after s new found.0 e found.1 in
      let old = moved_from (λ end. nat_le (edit.at + edit.cut) end) (λ end. end - edit.cut + length edit.put) e
      (ends_of s text) found.2 in
      let low : edit.at + edit.cut ≤ old.from = leb-true (edit.at + edit.cut) old.from old.passed in
      let moved : old.from - edit.cut + length edit.put ≡ e = old.moved in
      let past : edit.at + length edit.put ≤ e = omega arith in
      let place : old.from + 1 ≡ e + 1 - length edit.put + edit.cut = omega arith in
      let before : slice_get (boundaries_of s text) (old.number + 1) ≡ Some (e + 1 - length edit.put + edit.cut) =
      boundary_after s text old.number old.from old.at ∙ ap (λ (n : ℕ). Some n) place in
      let to : stretch_to s text edit ≡ e + 1 =
      ap (λ (o : Option ℕ). elim o [ None ↦ length new | Some end ↦ end + 1 ]) kept in
      let number : segments_before s new (stretch_to s text edit) ≡ q =
      ap (segments_before s new) to ∙ before_boundary s new (usable_too text edit service) q (e + 1) after in
      let here : slice_get (segments_by s new) (q + i) ≡ Some segment =
      ap (λ (n : ℕ). slice_get (segments_by s new) (n + i)) (sym number)
      ∙ ap (λ (v : Service). slice_get (segments_by v new) (segments_before s new (stretch_to s text edit) + i))
      (sym service) ∙ is in
      let count : length (segments_by s new) ≡ length (ends_of s new) = length_segments s new in
      let inside : q + i < length (segments_by s new) = slice_get_within (segments_by s new) (q + i) segment here in
      let end : ℕ = get_or (ends_of s new) (q + i) 0 in
      let next : slice_get (boundaries_of s new) (q + i + 1) ≡ Some (end + 1) =
      boundary_after s new (q + i) end (slice_get-get_or (ends_of s new) (q + i) 0 (omega arith)) in
      let most : rerun_of dir text edit ≤ q + i + 1 - first =
      rerun_to_head dir text edit service first begins within e q
      (old.number + 1) kept past after before directory i (end + 1) segment here bounds next in
      let before_it = first_count in
      omega arith

  pub rerun_bounded : IsRerunBounded dir text edit
  unfolding context_of ends_of
  rerun_bounded = bounded_by (first_kept s text edit) refl
