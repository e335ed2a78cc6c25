-- The stretches of the segments of a text: one after the other, from the body's start to the last boundary.
use Rattle.std.proofs.Common.{◌≡◌, ℕ, ◌+◌, ◌-◌, ◌<◌, ◌≤◌, List, [], ◌∷◌, length, get_or, refl, sym, ap, ◌∙◌, arith}
use Rattle.std.specs.Prelude.{map, All}
use Rattle.std.specs.List.{range_with_len}
use Rattle.std.proofs.lemmas.List.Elements.{All-cons, All-nil}
use Rattle.std.proofs.lemmas.List.FromFn.{length-range_with_len}
use Rattle.std.proofs.lemmas.List.Sums.{sum_by-cons}
use Rattle.dir_compile.specs.declared.parts.Parts.{Parts}
use Rattle.seg_lexer.specs.Context.{context_of}
use Rattle.seg_lexer.specs.Segments.{boundaries_of, ends_of, is_end}
use Rattle.seg_lexer.specs.Service.{service_of}
use Rattle.seg_lexer.specs.Whole.{after_last}
use Rattle.seg_lexer.specs.declared.context.Context.{Context}
use Rattle.seg_lexer.specs.declared.service.Service.{Service}
use Rattle.seg_lexer.proofs.AppendLemmas.{pairs}
use Rattle.seg_lexer.proofs.EndsLemmas.{AllBelow, IsAscending, ends-ascending, ends-below}
use Rattle.seg_lexer.proofs.PlacesLemmas.{length-filter-le}
use Rattle.seg_lexer.proofs.SegmentsLemmas.{IsLead, lead-within}
use Rattle.seg_lexer.proofs.ContextEnds.{boundaries-same, context-usable, ends-same}
use Rattle.segment_records.specs.Records.{Kept, kept_from, kept_of}
use Rattle.segment_records.specs.Segments.{Segment, segment_between, segments_by, segments_of_text}
use Rattle.segment_records.specs.Steps.{step_of}
use Rattle.segment_records.specs.declared.mode.Mode.{Mode}
use Rattle.segment_records.specs.declared.mode.Mode.TheVariants.{Outside}
use Rattle.segment_records.specs.WalkedSegments.{AreStretches, IsFilled, kept_in, octets_in}
use Rattle.segment_records.proofs.Rests.{length_segments}

-- a segment lies in a text
pub record IsStretch (text : List ℕ) (segment : Segment) : Type 0 where
  pub low : segment.from ≤ segment.start
  pub ordered : segment.start ≤ segment.end
  pub within : segment.end < length text

module _ (s : Service) (text : List ℕ) where
  stretches : (b : ℕ) (es : List ℕ) → IsAscending b es → AllBelow (length text) es
      → All (IsStretch text) (map (segment_between s text) (pairs b es))
  stretches b [] order below = All-nil (IsStretch text)
  stretches b (e ∷ es) order below =
      let low : b ≤ e = order.0 in
      let high : e < length text = below.0 in
      let within : IsLead text b e = lead-within text b e low (omega arith) in
      All-cons (IsStretch text) (segment_between s text (b, e)) (map (segment_between s text) (pairs (e + 1) es))
      (record { low = within.low; ordered = within.high; within = high })
      (stretches (e + 1) es order.1 below.1)

  -- the segments of a text lie in it
  pub all_stretches : s.body ≤ length text → All (IsStretch text) (segments_by s text)
  unfolding segments_by boundaries_of
  all_stretches body = stretches s.body (ends_of s text) (ends-ascending s text body) (ends-below s text body)

  last_within : (b : ℕ) (es : List ℕ) → b ≤ length text → AllBelow (length text) es → after_last b es ≤ length text
  last_within b [] low below = low
  last_within b (e ∷ es) low below = let high : e < length text = below.0 in last_within (e + 1) es (omega arith) below.1

  module _ (dir : Parts) (context : Context) where
    filled : (b : ℕ) (es : List ℕ) (before : Mode) → IsAscending b es → AllBelow (length text) es
        → All IsFilled (kept_from dir context before (map (segment_between s text) (pairs b es)))
    filled b [] before order below = All-nil IsFilled
    filled b (e ∷ es) before order below =
        let low : b ≤ e = order.0 in
        let high : e < length text = below.0 in
        let within : IsLead text b e = lead-within text b e low (omega arith) in
        let segment = segment_between s text (b, e) in
        All-cons IsFilled _ _
        (omega (arith, within.low, within.high))
        (filled (e + 1) es (step_of dir before segment).after order.1 below.1)

    -- the boundary after stretches is that before them, and their octets
    octets_last : (b : ℕ) (es : List ℕ) (before : Mode) → IsAscending b es
        → b + octets_in (kept_from dir context before (map (segment_between s text) (pairs b es))) ≡ after_last b es
    octets_last b [] before order = omega arith
    octets_last b (e ∷ es) before order =
        let low : b ≤ e = order.0 in
        let segment = segment_between s text (b, e) in
        let after = (step_of dir before segment).after in
        let more : List Kept = kept_from dir context after (map (segment_between s text) (pairs (e + 1) es)) in
        let rest : (e + 1) + octets_in more ≡ after_last (e + 1) es = octets_last (e + 1) es after order.1 in
        let both : b + ((e + 1 - b) + octets_in more) ≡ after_last (e + 1) es = omega arith in
        ap (λ (n : ℕ). b + n) (sum_by-cons (λ (k : Kept). k.octets) (kept_of dir context before segment) more) ∙ both

last_is : (b : ℕ) (es : List ℕ) → get_or (b ∷ map (λ e. e + 1) es) (length es) 0 ≡ after_last b es
last_is b [] = refl
last_is b (e ∷ es) = last_is (e + 1) es

-- a text has no more segments than octets
pub few_segments : (s : Service) (text : List ℕ) → length (segments_by s text) ≤ length text - s.body
unfolding ends_of
few_segments s text =
    let count = length_segments s text in
    let long = length-range_with_len s.body (length text - s.body) in
    let few = length-filter-le (is_end s text) (range_with_len s.body (length text - s.body)) in
    omega arith

-- the body of a text begins at the same place by the service characters of its context
pub body_same : (text : List ℕ) → (context_of text).service.body ≡ (service_of text).body
unfolding context_of
body_same text = refl

module _ (dir : Parts) (text : List ℕ) where
  body_within : (context_of text).service.body ≤ length text
  body_within = (context-usable text).body

  -- the records of a text are of its stretches
  pub kept_stretches : length text ≤ 4194304 → AreStretches 1 (service_of text).body (kept_in dir text)
  unfolding kept_in segments_of_text segments_by boundaries_of
  kept_stretches short =
      let s = (context_of text).service in
      let es = ends_of s text in
      let body = body_same text in
      let last = octets_last s text dir (context_of text) s.body es Outside (ends-ascending s text body_within) in
      let within = last_within s text s.body es body_within (ends-below s text body_within) in
      record {
        filled = filled s text dir (context_of text) s.body es Outside (ends-ascending s text body_within) (ends-below s text body_within);
        within = omega arith;
        numbered = omega arith;
      }

  -- the last boundary is after them all
  pub last_boundary : (service_of text).body + octets_in (kept_in dir text) ≡ get_or (boundaries_of (service_of text) text) (length (ends_of (service_of text) text)) 0
  unfolding kept_in segments_of_text segments_by boundaries_of
  last_boundary =
      let s = (context_of text).service in
      ap (λ (b : ℕ). b + octets_in (kept_in dir text)) (sym (body_same text))
      ∙ octets_last s text dir (context_of text) s.body (ends_of s text) Outside (ends-ascending s text body_within)
      ∙ sym (last_is s.body (ends_of s text))
      ∙ ap (λ (bs : List ℕ). get_or bs (length (ends_of s text)) 0) (boundaries-same text)
      ∙ ap (λ (es : List ℕ). get_or (boundaries_of (service_of text) text) (length es) 0) (ends-same text)
