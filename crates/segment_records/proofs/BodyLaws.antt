-- What is kept of a text in two parts: whole segments, and the octets after them.
use Rattle.std.proofs.Common.{◌≡◌, ℕ, ◌+◌, ◌-◌, ◌<◌, ◌≤◌, List, [], ◌∷◌, ◌++◌, length, take, drop, inl, inr, refl, sym, ap, ◌∙◌, arith, take-append-drop}
use Rattle.std.specs.Prelude.{map}
use Rattle.std.specs.List.{filter, range_with_len}
use Rattle.std.proofs.lemmas.Bool.{cases_lt}
use Rattle.std.proofs.lemmas.List.{drop_all, length-take-le, map-append}
use Rattle.dir_compile.specs.declared.parts.Parts.{Parts}
use Rattle.seg_lexer.specs.Fields.{Component}
use Rattle.seg_lexer.specs.Segments.{boundaries_of, ends_of, is_end}
use Rattle.seg_lexer.specs.Breaks.{lead}
use Rattle.seg_lexer.specs.Whole.{IsWhole, after_last, at_start}
use Rattle.seg_lexer.specs.declared.context.Context.{Context}
use Rattle.seg_lexer.specs.declared.service.Service.{Service}
use Rattle.seg_lexer.proofs.AppendLemmas.{components-front, components-past, lead-front, lead-past, pairs, shifted}
use Rattle.seg_lexer.proofs.EndsLemmas.{AllBelow, IsAscending, ends-append, ends-ascending, ends-below}
use Rattle.seg_lexer.proofs.SegmentsLemmas.{IsLead, lead-within}
use Rattle.seg_lexer.proofs.WholeLemmas.{whole-empty}
use Rattle.element_check.specs.Local.{local_errors_of}
use Rattle.segment_records.specs.Heads.{given_by}
use Rattle.segment_records.specs.Laws.{WholeIsBody, WholeThenMore}
use Rattle.segment_records.specs.Records.{Kept, kept_from, kept_of, records_from}
use Rattle.segment_records.specs.Segments.{Segment, segment_between, segment_read, segments_by, tag_read}
use Rattle.segment_records.specs.Steps.{Step, mode_from, step_of}
use Rattle.segment_records.specs.declared.mode.Mode.{Mode}
use Rattle.segment_records.specs.declared.mode.Mode.TheVariants.{Outside, Untabled, Within}

-- a segment n octets further on
abbrev pub moved_on : ℕ → Segment → Segment
moved_on n segment = record segment { from = n + segment.from; start = n + segment.start; end = n + segment.end }

-- a segment with these components
abbrev segment_of : ℕ → ℕ → ℕ → List Component → Segment
segment_of from start end components =
    record { from = from; start = start; end = end; components = components; tag = tag_read components }

-- a boundary and the next end, one pair after another, in two parts
pairs_append : (b : ℕ) (es fs : List ℕ) → pairs b (es ++ fs) ≡ pairs b es ++ pairs (after_last b es) fs
pairs_append b [] fs = refl
pairs_append b (e ∷ es) fs = ap (λ (ps : List (ℕ × ℕ)). (b, e) ∷ ps) (pairs_append (e + 1) es fs)

pairs_shift : (n b : ℕ) (es : List ℕ) → pairs (n + b) (map (λ e. n + e) es) ≡ map (shifted n) (pairs b es)
pairs_shift n b [] = refl
pairs_shift n b (e ∷ es) =
    let next : n + e + 1 ≡ n + (e + 1) = omega arith in
    ap (λ (k : ℕ). (n + b, n + e) ∷ pairs k (map (λ e. n + e) es)) next
    ∙ ap (λ (ps : List (ℕ × ℕ)). (n + b, n + e) ∷ ps) (pairs_shift n (e + 1) es)

module _ (s : Service) (front rest : List ℕ) where
  -- a segment of the front is the same whatever follows
  one_front : (b e : ℕ) → b ≤ e → e < length front
      → segment_between s (front ++ rest) (b, e) ≡ segment_between s front (b, e)
  one_front b e low high =
      let lead_is : lead (front ++ rest) b e ≡ lead front b e = lead-front front rest b e (omega arith) (omega arith) in
      let within : IsLead front b e = lead-within front b e low (omega arith) in
      ap (λ (k : ℕ). segment_read s (front ++ rest) b k e) lead_is
      ∙ ap (λ (components : List Component). segment_of b (lead front b e) e components)
      (components-front front rest s (lead front b e) e (omega (arith, within.high)) (omega arith))

  all_front : (b : ℕ) (es : List ℕ) → IsAscending b es → AllBelow (length front) es
      → map (segment_between s (front ++ rest)) (pairs b es) ≡ map (segment_between s front) (pairs b es)
  all_front b [] order below = refl
  all_front b (e ∷ es) order below =
      ap (λ (more : List Segment). segment_between s (front ++ rest) (b, e) ∷ more)
      (all_front (e + 1) es order.1 below.1)
      ∙ ap (λ (first : Segment). first ∷ map (segment_between s front) (pairs (e + 1) es))
      (one_front b e order.0 below.0)

  -- and one of what follows is further on
  one_past : (p : ℕ × ℕ) → segment_between s (front ++ rest) (shifted (length front) p)
      ≡ moved_on (length front) (segment_between (at_start s) rest p)
  one_past p =
      let n : ℕ = length front in
      ap (λ (k : ℕ). segment_read s (front ++ rest) (n + p.0) k (n + p.1)) (lead-past front rest p.0 p.1)
      ∙ ap (λ (components : List Component). segment_of (n + p.0) (n + lead rest p.0 p.1) (n + p.1) components)
      (components-past front rest s (lead rest p.0 p.1) p.1)

  all_past : (ps : List (ℕ × ℕ)) → map (segment_between s (front ++ rest)) (map (shifted (length front)) ps)
      ≡ map (moved_on (length front)) (map (segment_between (at_start s) rest) ps)
  all_past [] = refl
  all_past (p ∷ ps) =
      ap (λ (more : List Segment). segment_between s (front ++ rest) (shifted (length front) p) ∷ more) (all_past ps)
      ∙ ap (λ (first : Segment). first ∷ map (moved_on (length front)) (map (segment_between (at_start s) rest) ps))
      (one_past p)

  -- the segments of whole segments and of what follows
  pub segments_append : IsWhole s front → segments_by s (front ++ rest)
      ≡ segments_by s front ++ map (moved_on (length front)) (segments_by (at_start s) rest)
  unfolding segments_by boundaries_of
  segments_append whole =
      let later : List ℕ = map (λ e. length front + e) (ends_of (at_start s) rest) in
      let start : after_last s.body (ends_of s front) ≡ length front + 0 = whole.last ∙ omega arith in
      ap (λ (es : List ℕ). map (segment_between s (front ++ rest)) (pairs s.body es))
      (ends-append s front rest whole.body whole.free)
      ∙ ap (map (segment_between s (front ++ rest))) (pairs_append s.body (ends_of s front) later)
      ∙ map-append (segment_between s (front ++ rest)) (pairs s.body (ends_of s front))
      (pairs (after_last s.body (ends_of s front)) later)
      ∙ ap (λ (ss : List Segment). ss ++ map (segment_between s (front ++ rest))
      (pairs (after_last s.body (ends_of s front)) later))
      (all_front s.body (ends_of s front) (ends-ascending s front whole.body) (ends-below s front whole.body))
      ∙ ap (λ (k : ℕ). map (segment_between s front) (pairs s.body (ends_of s front)) ++ map
      (segment_between s (front ++ rest)) (pairs k later)) start
      ∙ ap (λ (ps : List (ℕ × ℕ)). map (segment_between s front) (pairs s.body (ends_of s front)) ++ map
      (segment_between s (front ++ rest)) ps)
      (pairs_shift (length front) 0 (ends_of (at_start s) rest))
      ∙ ap (λ (ss : List Segment). map (segment_between s front) (pairs s.body (ends_of s front)) ++ ss)
      (all_past (pairs 0 (ends_of (at_start s) rest)))

-- what is kept of a segment doesn't depend on where it is
module _ (dir : Parts) (context : Context) (n : ℕ) where
  pub step_moved : (before : Mode) (segment : Segment)
      → step_of dir before (moved_on n segment) ≡ step_of dir before segment
  unfolding step_of
  step_moved Outside segment = refl
  step_moved Untabled segment = refl
  step_moved (Within table pairs) segment = refl

  -- what is kept, with these numbers of octets and line ends, and this step
  abbrev kept_with : Segment → ℕ → ℕ → Step → Kept
  kept_with segment octets breaks step =
      record {
        octets = octets;
        breaks = breaks;
        tag = segment.tag;
        local = local_errors_of dir context segment.components;
        given = given_by segment.tag segment.components;
        step = step;
      }

  one_moved : (before : Mode) (segment : Segment)
      → kept_of dir context before (moved_on n segment) ≡ kept_of dir context before segment
  one_moved before segment =
      let octets : (n + segment.end + 1) - (n + segment.from) ≡ segment.end + 1 - segment.from = omega arith in
      let breaks : (n + segment.start) - (n + segment.from) ≡ segment.start - segment.from = omega arith in
      let step = step_of dir before (moved_on n segment) in
      ap (λ (k : ℕ). kept_with segment k ((n + segment.start) - (n + segment.from)) step) octets
      ∙ ap (λ (k : ℕ). kept_with segment (segment.end + 1 - segment.from) k step) breaks
      ∙ ap (kept_with segment (segment.end + 1 - segment.from) (segment.start - segment.from))
      (step_moved before segment)

  pub kept_moved : (before : Mode) (segments : List Segment)
      → kept_from dir context before (map (moved_on n) segments) ≡ kept_from dir context before segments
  kept_moved before [] = refl
  kept_moved before (segment ∷ more) =
      ap (λ (first : Kept). first ∷ kept_from dir context (step_of dir before (moved_on n segment)).after
      (map (moved_on n) more)) (one_moved before segment)
      ∙ ap (λ (step : Step). kept_of dir context before segment ∷ kept_from dir context step.after
      (map (moved_on n) more)) (step_moved before segment)
      ∙ ap (λ (kept : List Kept). kept_of dir context before segment ∷ kept)
      (kept_moved (step_of dir before segment).after more)

kept_append : (dir : Parts) (context : Context) (before : Mode) (one two : List Segment)
    → kept_from dir context before (one ++ two)
    ≡ kept_from dir context before one ++ kept_from dir context (mode_from dir before one) two
kept_append dir context before [] two = refl
kept_append dir context before (segment ∷ one) two =
    ap (λ more. kept_of dir context before segment ∷ more)
    (kept_append dir context (step_of dir before segment).after one two)

pub whole_then_more : (dir : Parts) (context : Context) (before : Mode) (front back : List ℕ)
    → WholeThenMore dir context before front back
unfolding records_from
whole_then_more dir context before front back whole =
    let s : Service = at_start context.service in
    let later : List Segment = segments_by s back in
    ap (kept_from dir context before) (segments_append s front back whole)
    ∙ kept_append dir context before (segments_by s front) (map (moved_on (length front)) later)
    ∙ ap (λ more. kept_from dir context before (segments_by s front) ++ more)
    (kept_moved dir context (length front) (mode_from dir before (segments_by s front)) later)

-- nothing before a body is a segment
none_before : (s : Service) (text : List ℕ) → length text ≤ s.body → segments_by s text ≡ []
unfolding segments_by boundaries_of ends_of
none_before s text all =
    let none : length text - s.body ≡ 0 = omega arith in
    ap (λ (n : ℕ). map (segment_between s text) (pairs s.body (filter (is_end s text) (range_with_len s.body n)))) none

pub whole_is_body : (dir : Parts) (context : Context) (text : List ℕ) → WholeIsBody dir context text
unfolding records_from
whole_is_body dir context text = elim (cases_lt (length text) context.service.body) [
  | inl short ↦
      let s : Service = context.service in
      ap (kept_from dir context Outside) (none_before s text (omega arith))
      ∙ sym (ap (λ (octets : List ℕ). kept_from dir context Outside (segments_by (at_start s) octets))
      (drop_all s.body text (omega arith))
      ∙ ap (kept_from dir context Outside) (none_before (at_start s) [] (omega arith)))
  | inr long ↦
      let s : Service = context.service in
      let front : List ℕ = take s.body text in
      let back : List ℕ = drop s.body text in
      let size : length front ≡ s.body = length-take-le s.body text long in
      ap (λ (octets : List ℕ). kept_from dir context Outside (segments_by s octets))
      (sym (take-append-drop s.body text))
      ∙ ap (kept_from dir context Outside) (segments_append s front back (whole-empty s front (sym size)))
      ∙ ap (λ (ss : List Segment). kept_from dir context Outside
      (ss ++ map (moved_on (length front)) (segments_by (at_start s) back))) (none_before s front (omega arith))
      ∙ kept_moved dir context (length front) Outside (segments_by (at_start s) back)
]
