-- The mark of a segment that a walk over a text comes to.
use Rattle.std.proofs.Common.{◌≡◌, ℕ, ◌<◌, List, [], ◌∷◌, length, drop, Some, sym, ap, ◌∙◌, arith}
use Rattle.std.specs.List.{slice_get}
use Rattle.std.specs.Option.{option_map}
use Rattle.std.proofs.lemmas.List.{length-drop, length-map}
use Rattle.std.proofs.lemmas.Option.{slice_get-map}
use Rattle.dir_compile.specs.declared.parts.Parts.{Parts}
use Rattle.dir_compile.specs.Directory.{IsDirectory}
use Rattle.envelope_check.specs.declared.head.SegmentMark.{SegmentMark}
use Rattle.segment_records.specs.Count.{segment_count_of}
use Rattle.segment_records.specs.Heads.{marks_of}
use Rattle.segment_records.specs.Segments.{segments_of_text}
use Rattle.segment_records.specs.Told.{mark_seen}
use Rattle.segment_records.specs.WalkedSegments.{SeenSegment, as_segment, seen_in}
use Rattle.segment_records.proofs.Headed.{count_marks, mark_is, marks_are}
use Rattle.segment_records.proofs.Looking.{first_left}

module _ (dir : Parts) (directory : IsDirectory dir) (text : List ℕ) where
  -- there are as many marks as segments
  pub marks_count : length (marks_of (segments_of_text text)) ≡ length (seen_in dir text)
  marks_count = ap length (sym (marks_are dir directory text)) ∙ length-map (seen_in dir text) mark_seen

  -- and as the text has
  pub seen_count : segment_count_of text ≡ length (seen_in dir text)
  seen_count = count_marks text ∙ marks_count

  -- the mark of the segment that a walk comes to at a place
  pub mark_here : (i : ℕ) (seen : SeenSegment) (rest : List SeenSegment) → drop i (seen_in dir text) ≡ seen ∷ rest
      → (mark : SegmentMark) → mark.start ≡ (as_segment seen).start → mark.tag ≡ seen.kept.tag → slice_get (marks_of (segments_of_text text)) i ≡ Some mark
  mark_here i seen rest left mark start tag =
      ap (λ (marks : List SegmentMark). slice_get marks i) (sym (marks_are dir directory text))
      ∙ slice_get-map mark_seen (seen_in dir text) i
      ∙ ap (option_map mark_seen) (first_left (seen_in dir text) (seen ∷ rest) i left)
      ∙ ap Some (sym (mark_is seen mark start tag))

-- something is left from a place in a list on
pub some_left : {A : Type 0} (xs : List A) (i : ℕ) → i < length xs → drop i xs ≡ [] → ⊥
some_left {A = A} xs i within none =
    let long = ap length none in
    omega (arith, length-drop i xs)
