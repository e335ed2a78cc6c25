-- The segments of a text by its own service characters, from those by its context: the same places and tags.
use Rattle.std.proofs.Common.{◌≡◌, ℕ, List, [], ◌∷◌, Some, refl, sym, ap, ◌∙◌}
use Rattle.std.specs.Prelude.{map, All}
use Rattle.std.specs.List.{slice_get, zip}
use Rattle.std.specs.Option.{option_map}
use Rattle.std.proofs.lemmas.List.Elements.{All-cons, All-nil}
use Rattle.std.proofs.lemmas.Option.{slice_get-map}
use Rattle.edi_tables.specs.declared.tag.Tag.{Tag}
use Rattle.seg_lexer.specs.Context.{context_of}
use Rattle.seg_lexer.specs.Segments.{boundaries_of, ends_of}
use Rattle.seg_lexer.specs.Service.{service_of}
use Rattle.seg_lexer.specs.declared.service.Service.{Service}
use Rattle.seg_lexer.proofs.ContextEnds.{boundaries-same, ends-same, tag-same}
use Rattle.segment_records.specs.Segments.{Segment, segment_between, segment_read, segments_by, segments_of_text}
use Rattle.segment_records.proofs.Following.{All-at}

-- the segment with the places of another one, by these service characters
abbrev pub recut : Service → List ℕ → Segment → Segment
recut s text segment = segment_read s text segment.from segment.start segment.end

module _ (one other : Service) (text : List ℕ) where
  recut-pairs : (ps : List (ℕ × ℕ)) → map (segment_between one text) ps ≡ map (recut one text) (map (segment_between other text) ps)
  recut-pairs [] = refl
  recut-pairs (p ∷ ps) = ap (λ (segments : List Segment). segment_between one text p ∷ segments) (recut-pairs ps)

-- a segment has the tag that its text gives it by its own service characters
abbrev KeepsTag : List ℕ → Segment → Type 0
KeepsTag text segment = (recut (service_of text) text segment).tag ≡ segment.tag

module _ (text : List ℕ) where
  keep-tags : (ps : List (ℕ × ℕ)) → All (KeepsTag text) (map (segment_between (context_of text).service text) ps)
  keep-tags [] = All-nil (KeepsTag text)
  keep-tags (p ∷ ps) =
      let segment : Segment = segment_between (context_of text).service text p in
      All-cons (KeepsTag text) segment (map (segment_between (context_of text).service text) ps)
      (ap (option_map (λ octets. let t : Tag = record { octets = octets } in t)) (sym (tag-same text segment.start segment.end)))
      (keep-tags ps)

  -- each segment by its own service characters
  pub segments-recut : segments_by (service_of text) text ≡ map (recut (service_of text) text) (segments_of_text text)
  unfolding segments_of_text segments_by
  segments-recut =
      let own : Service = service_of text in
      let settled : Service = (context_of text).service in
      ap (λ (bs : List ℕ). map (segment_between own text) (zip bs (ends_of own text))) (sym (boundaries-same text))
      ∙ ap (λ (es : List ℕ). map (segment_between own text) (zip (boundaries_of settled text) es)) (sym (ends-same text))
      ∙ recut-pairs own settled text (zip (boundaries_of settled text) (ends_of settled text))

  -- the segment at a place
  pub segment-recut : (k : ℕ) → slice_get (segments_by (service_of text) text) k ≡ option_map (recut (service_of text) text) (slice_get (segments_of_text text) k)
  segment-recut k =
      ap (λ (segments : List Segment). slice_get segments k) segments-recut
      ∙ slice_get-map (recut (service_of text) text) (segments_of_text text) k

  -- it keeps its tag
  pub tag-kept : (k : ℕ) (segment : Segment) → slice_get (segments_of_text text) k ≡ Some segment → (recut (service_of text) text segment).tag ≡ segment.tag
  unfolding segments_of_text segments_by
  tag-kept k segment is =
      let settled : Service = (context_of text).service in
      All-at (KeepsTag text) (segments_of_text text) (keep-tags (zip (boundaries_of settled text) (ends_of settled text))) k segment is
