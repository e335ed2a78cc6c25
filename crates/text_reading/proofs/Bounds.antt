-- The first segment of a text, and what is after its last.
use Rattle.std.proofs.Common.{◌≡◌, ℕ, ◌≤◌, Bool, true, false, List, [], ◌∷◌, ◌++◌, length, Option, Some, None, refl, sym, ap, ◌∙◌, arith}
use Rattle.std.specs.Prelude.{map, codes, if◌then◌else◌}
use Rattle.std.specs.Iterator.{YieldsFirstBy}
use Rattle.std.specs.List.{slice_get, enumerate_from, flat_map}
use Rattle.std.specs.Option.{option_map}
use Rattle.std.proofs.lemmas.List.{append-nil}
use Rattle.edi_tables.specs.Rows.{has_name, when}
use Rattle.edi_tables.specs.declared.tag.Tag.{Tag}
use Rattle.dir_compile.specs.declared.parts.Parts.{Parts}
use Rattle.dir_compile.specs.Directory.{IsDirectory}
use Rattle.envelope_check.specs.Envelope.{envelope_errors_of}
use Rattle.error_ledger.specs.declared.error.ErrorLine.{ErrorLine}
use Rattle.error_ledger.specs.declared.kind.Kind.TheVariants as kind
use Rattle.seg_lexer.specs.Context.{context_of}
use Rattle.seg_lexer.specs.Fields.{Component, components_at}
use Rattle.seg_lexer.specs.Segments.{tail_of}
use Rattle.seg_lexer.specs.Service.{service_of}
use Rattle.segment_records.specs.Segments.{Segment, segments_of_text, value_in}
use Rattle.segment_records.specs.Count.{segment_count_of}
use Rattle.segment_records.specs.Errors.{error_with, is_unknown, levels, segment_lines, versions}
use Rattle.text_reading.specs.Errors.{advice_lines, errors_found, first_segment, opening_lines, syntax_lines, tail_lines}
use Rattle.segment_records.specs.Heads.{heads_of, marks_of}
use Rattle.segment_records.specs.Line.{opening_seen}
use Rattle.segment_records.specs.Look.{seen_of}
use Rattle.segment_records.specs.declared.walked_segment.WalkedSegment.{WalkedSegment}
use Rattle.segment_records.specs.WalkedSegments.{SeenSegment, as_segment, seen_at, seen_in}
use Rattle.segment_records.proofs.Following.{stretch_in}
use Rattle.segment_records.proofs.Headed.{count_segments, ends_alike, place_in, starts_alike}
use Rattle.segment_records.proofs.Looking.{seen_is}
use Rattle.segment_records.proofs.Rests.{same_count}
use Rattle.segment_records.proofs.Recut.{recut, segment-recut, tag-kept}
use Rattle.segment_records.proofs.Stretches.{few_segments}

-- nothing is left where no segment comes
pub none_left : (left rest : List SeenSegment) (next : Option WalkedSegment) → next ≡ None → YieldsFirstBy seen_of (λ (xs : List SeenSegment). xs) left next rest → left ≡ []
none_left left rest None none step = step.0
none_left left rest (Some seen) none step = absurd (let no : ⊥ = cc in no)

pub few_counted : (text : List ℕ) → segment_count_of text ≤ length text
few_counted text =
    let count = same_count (service_of text) text in
    let few = few_segments (service_of text) text in omega arith

module _ (dir : Parts) (directory : IsDirectory dir) (text : List ℕ) where
  -- no segment is first
  pub none_first : (segments : List Segment) → map (seen_at dir (context_of text) (segments_of_text text)) (enumerate_from 0 segments) ≡ [] → slice_get segments 0 ≡ None
  none_first [] is = refl
  none_first (segment ∷ more) is = absurd (let no : ⊥ = cc in no)

  -- the first segment is seen first
  pub some_first : (segments : List Segment) (seen : SeenSegment) (rest : List SeenSegment)
      → map (seen_at dir (context_of text) (segments_of_text text)) (enumerate_from 0 segments) ≡ seen ∷ rest
      → (segment : Segment) × (slice_get segments 0 ≡ Some segment) × (seen ≡ seen_at dir (context_of text) (segments_of_text text) (0, segment))
  some_first [] seen rest is = absurd (let no : ⊥ = cc in no)
  some_first (segment ∷ more) seen rest is = (segment, refl, cc)

  pub syntax_none : seen_in dir text ≡ [] → (list : List ErrorLine) → list ≡ list ++ syntax_lines (first_segment text)
  syntax_none none list =
      let first = none_first (segments_of_text text) (sym (seen_is dir directory text) ∙ none) in
      sym (append-nil list)
      ∙ ap (λ (o : Option Segment). list ++ syntax_lines o)
      (sym (segment-recut text 0 ∙ ap (option_map (recut (service_of text) text)) first))

  module _ (seen : SeenSegment) (rest : List SeenSegment) (is : seen_in dir text ≡ seen ∷ rest) where
    abbrev found : (segment : Segment) × (slice_get (segments_of_text text) 0 ≡ Some segment) × (seen ≡ seen_at dir (context_of text) (segments_of_text text) (0, segment))
    found = some_first (segments_of_text text) seen rest (sym (seen_is dir directory text) ∙ is)

    -- the first segment, cut without repetitions
    abbrev own : Segment
    own = recut (service_of text) text found.0

    judged : (named : Bool) → has_name (codes "UNB") seen.kept.tag ≡ named
        → syntax_lines (first_segment text) ≡ (if named then opening_lines own else [])
    judged named same =
        ap syntax_lines (segment-recut text 0 ∙ ap (option_map (recut (service_of text) text)) found.1)
        ∙ ap (λ (b : Bool). if b then opening_lines own else [])
        (ap (has_name (codes "UNB")) (tag-kept text 0 found.0 found.1)
        ∙ (ap (λ (s : SeenSegment). has_name (codes "UNB") s.kept.tag) (sym found.2) ∙ same))

    pub syntax_past : has_name (codes "UNB") seen.kept.tag ≡ false → (list : List ErrorLine) → list ≡ list ++ syntax_lines (first_segment text)
    syntax_past other list = sym (append-nil list) ∙ ap (λ (lines : List ErrorLine). list ++ lines) (sym (judged false other))

    -- what is wrong with the opening, by the components at its places
    abbrev opening_by : List Component → ℕ → Option Tag → List ErrorLine
    opening_by components start tag =
        when (is_unknown (value_in components 1 1) levels) (error_with 1 (record { start = start; tag = tag }) 1 1 kind.Syntax)
        ++ when (is_unknown (value_in components 1 2) versions) (error_with 1 (record { start = start; tag = tag }) 1 2 kind.Syntax)

    pub opening_is : has_name (codes "UNB") seen.kept.tag ≡ true → opening_seen (service_of text) text seen ≡ syntax_lines (first_segment text)
    opening_is named =
        let segment : Segment = found.0 in
        let segments : List Segment = segments_of_text text in
        let context = context_of text in
        let s = service_of text in
        let first : SeenSegment = seen_at dir context segments (0, segment) in
        let it = stretch_in dir directory text 0 segment found.1 in
        let place = place_in text 0 segment found.1 in
        let start = starts_alike dir context context.service text segments 0 segment it place in
        let end = ends_alike dir context context.service text segments 0 segment it place in
        ap (opening_seen s text) found.2
        ∙ ap (λ (n : ℕ). opening_by (components_at s text n (as_segment first).end) n segment.tag) start
        ∙ ap (λ (n : ℕ). opening_by (components_at s text segment.start n) segment.start segment.tag) end
        ∙ ap (opening_by own.components segment.start) (sym (tag-kept text 0 segment found.1))
        ∙ sym (judged true named)

-- errors that are gathered so are those that are found
pub gathered : (dir : Parts) (text : List ℕ) (a b c d e : List ErrorLine)
    → a ≡ envelope_errors_of (heads_of dir (segments_of_text text)) (marks_of (segments_of_text text))
    → b ≡ a ++ advice_lines (context_of text).service.sound
    → c ≡ b ++ tail_lines (segment_count_of text) (tail_of (service_of text) text)
    → d ≡ c ++ syntax_lines (first_segment text)
    → e ≡ d ++ flat_map (segment_lines dir (context_of text) (segments_of_text text)) (enumerate_from 0 (segments_of_text text))
    → e ≡ errors_found dir text
unfolding errors_found
gathered dir text a b c d e a_is b_is c_is d_is e_is =
    let segments : List Segment = segments_of_text text in
    let lines = flat_map (segment_lines dir (context_of text) segments) (enumerate_from 0 segments) in
    e_is ∙ ap (λ (xs : List ErrorLine). xs ++ lines)
    (d_is ∙ ap (λ (xs : List ErrorLine). xs ++ syntax_lines (first_segment text))
    (c_is ∙ ap (λ (n : ℕ). b ++ tail_lines n (tail_of (service_of text) text)) (count_segments text)
    ∙ ap (λ (xs : List ErrorLine). xs ++ tail_lines (length segments) (tail_of (service_of text) text))
    (b_is ∙ ap (λ (xs : List ErrorLine). xs ++ advice_lines (context_of text).service.sound) a_is)))
