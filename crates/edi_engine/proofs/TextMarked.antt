-- The marks of the segments that are found in a text, one boundary after the other.
use Rattle.std.proofs.Common.{◌≡◌, ℕ, ◌≤◌, List, length, Option, Some, sym, ap, ◌∙◌, subst, arith}
use Rattle.std.specs.List.{slice_get}
use Rattle.std.specs.Option.{option_map}
use Rattle.std.proofs.lemmas.Option.{slice_get-map}
use Rattle.edi_tables.specs.declared.tag.Tag.{Tag}
use Rattle.seg_lexer.specs.Context.{context_of}
use Rattle.seg_lexer.specs.Fields.{components_at}
use Rattle.seg_lexer.specs.Segments.{IsSegment, boundaries_of, segments_of}
use Rattle.seg_lexer.specs.Service.{IsUsable}
use Rattle.seg_lexer.specs.Tag.{tag_of}
use Rattle.seg_lexer.specs.declared.service.Service.{Service}
use Rattle.seg_lexer.proofs.ContextEnds.{context-usable, segments-same}
use Rattle.envelope_check.specs.declared.head.SegmentMark.{SegmentMark}
use Rattle.segment_records.specs.Heads.{mark_of, marks_of}
use Rattle.segment_records.specs.Segments.{Segment, segments_by, segments_of_text}
use Rattle.segment_records.proofs.Headed.{count_marks}
use Rattle.segment_records.proofs.Keeping.{tag_back}
use Rattle.segment_records.proofs.Rests.{segment_is}
use Rattle.text_reading.proofs.Bounds.{few_counted}

module _ (text : List ℕ) (s : Service) (read_by : s ≡ (context_of text).service) where
  -- the text can be read by these service characters
  pub text_usable : IsUsable s text
  text_usable = subst (λ (x : Service). IsUsable x text) (sym read_by) (context-usable text)

  -- they find as many segments as the text has marks
  pub marks_found : length (segments_of s text) ≡ length (marks_of (segments_of_text text))
  marks_found =
      ap (λ (x : Service). length (segments_of x text)) read_by ∙ ap length (segments-same text) ∙ count_marks text

  -- the segments of the text are those that they find
  segments_by_them : segments_of_text text ≡ segments_by s text
  unfolding segments_of_text
  segments_by_them = ap (λ (x : Service). segments_by x text) (sym read_by)

  -- the mark of the segment that they find at a boundary
  pub mark_found : (k from start end : ℕ) → slice_get (boundaries_of s text) k ≡ Some from
      → IsSegment s text k from (record { from = start; to = end })
      → (tag : Option Tag) → option_map (λ t. t.octets) tag ≡ tag_of (components_at s text start end)
      → (let mark : SegmentMark = record { start = start; tag = tag } in slice_get (marks_of (segments_of_text text)) k ≡ Some mark)
  mark_found k from start end at it tag is =
      ap (λ (segments : List Segment). slice_get (marks_of segments) k) segments_by_them
      ∙ slice_get-map mark_of (segments_by s text) k
      ∙ ap (option_map mark_of) (segment_is s text text_usable k from at start end it)
      ∙ ap (λ (tag : Option Tag). let mark : SegmentMark = record { start = start; tag = tag } in Some mark) (sym (tag_back tag (components_at s text start end) is))

-- a text has no more marks than octets
pub few_marks : (text : List ℕ) → length (marks_of (segments_of_text text)) ≤ length text
few_marks text = omega (arith, count_marks text, few_counted text)
