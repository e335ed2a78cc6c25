-- What is kept of the octets after a boundary, segment by segment.
use Rattle.std.proofs.Common.{◌≡◌, ℕ, zero, suc, ◌+◌, ◌<◌, ◌≤◌, Bool, cond, ltb, List, [], ◌∷◌, ◌++◌, length, take, drop, Option, Some, None, refl, sym, ap, ◌∙◌, subst, arith, take-append-drop}
use Rattle.std.specs.Prelude.{map}
use Rattle.std.specs.List.{filter, slice_get, zip}
use Rattle.std.specs.Option.{option_map}
use Rattle.std.proofs.lemmas.Bool.{lt-ltb}
use Rattle.std.proofs.lemmas.List.{append_assoc, append-nil, drop_all, drop_at, drop_more, length-map, length-take-le}
use Rattle.std.proofs.lemmas.Option.{get_or_from_slice_get, slice_get-map, slice_get_within}
use Rattle.dir_compile.specs.declared.parts.Parts.{Parts}
use Rattle.seg_lexer.specs.declared.segment.Lexed.{Lexed}
use Rattle.seg_lexer.specs.declared.segment.Lexed.TheVariants.{Ended, Tail, Nothing}
use Rattle.seg_lexer.specs.Segments.{IsBoundary, IsLexed, IsSegment, boundaries_of, ends_of, segment_in, segments_of}
use Rattle.seg_lexer.specs.Breaks.{lead}
use Rattle.seg_lexer.specs.Service.{IsUsable}
use Rattle.seg_lexer.specs.Stretch.{Stretch}
use Rattle.seg_lexer.specs.Whole.{IsWhole, at_start}
use Rattle.seg_lexer.specs.declared.context.Context.{Context}
use Rattle.seg_lexer.specs.declared.service.Service.{Service}
use Rattle.seg_lexer.proofs.AppendLemmas.{pairs}
use Rattle.seg_lexer.proofs.EndsLemmas.{IsAscending, below-none, ends-ascending, ends-before}
use Rattle.seg_lexer.proofs.SegmentsLemmas.{boundary-high}
use Rattle.seg_lexer.proofs.WholeLemmas.{whole-take}
use Rattle.segment_records.specs.Records.{Kept, kept_from, kept_of, records_from}
use Rattle.segment_records.specs.Segments.{Segment, segment_between, segment_read, segments_by}
use Rattle.segment_records.specs.Steps.{step_of}
use Rattle.segment_records.specs.declared.mode.Mode.{Mode}
use Rattle.segment_records.proofs.BodyLaws.{kept_moved, moved_on, segments_append}
use Rattle.segment_records.proofs.ModeLaws.{length_kept}

-- boundaries ascend
boundary_low : (b : ℕ) (es : List ℕ) (k from : ℕ) → IsAscending b es → slice_get (b ∷ map (λ e. e + 1) es) k ≡ Some from → b ≤ from
boundary_low b es zero from order is = let same : b ≡ from = cc in omega arith
boundary_low b [] (suc k) from order is = absurd (let no : ⊥ = cc in no)
boundary_low b (e ∷ es) (suc k) from order is =
    let later = boundary_low (e + 1) es k from order.1 is in
    let low = order.0 in omega arith

-- as many ends come before boundary k
ends_before : (b : ℕ) (es : List ℕ) (k from : ℕ) → IsAscending b es → slice_get (b ∷ map (λ e. e + 1) es) k ≡ Some from
    → length (filter (λ e. ltb e from) es) ≡ k
ends_before b es zero from order is =
    let same : b ≡ from = cc in
    ap length (below-none from es (subst (λ (n : ℕ). IsAscending n es) same order))
ends_before b [] (suc k) from order is = absurd (let no : ⊥ = cc in no)
ends_before b (e ∷ es) (suc k) from order is =
    let low = boundary_low (e + 1) es k from order.1 is in
    ap (λ (t : Bool). length (cond t (e ∷ filter (λ e. ltb e from) es) (filter (λ e. ltb e from) es))) (lt-ltb e from (omega arith))
    ∙ ap (λ (n : ℕ). suc n) (ends_before (e + 1) es k from order.1 is)

length_pairs : (b : ℕ) (es : List ℕ) → length (pairs b es) ≡ length es
length_pairs b [] = refl
length_pairs b (e ∷ es) = ap (λ (n : ℕ). suc n) (length_pairs (e + 1) es)

-- a text has as many segments as ends
pub length_segments : (s : Service) (text : List ℕ) → length (segments_by s text) ≡ length (ends_of s text)
unfolding segments_by boundaries_of
length_segments s text =
    length-map (pairs s.body (ends_of s text)) (segment_between s text) ∙ length_pairs s.body (ends_of s text)

pub same_count : (s : Service) (text : List ℕ) → length (segments_of s text) ≡ length (segments_by s text)
unfolding segments_of boundaries_of
same_count s text =
    length-map (pairs s.body (ends_of s text)) (segment_in text) ∙ length_pairs s.body (ends_of s text)
    ∙ sym (length_segments s text)

zip_at : {A B : Type 0} (xs : List A) (ys : List B) (k : ℕ) (p : A × B) → slice_get (zip xs ys) k ≡ Some p
    → (slice_get xs k ≡ Some p.0) × (slice_get ys k ≡ Some p.1)
zip_at [] ys k p is = absurd (let no : ⊥ = cc in no)
zip_at (x ∷ xs) [] k p is = absurd (let no : ⊥ = cc in no)
zip_at {A = A} {B = B} (x ∷ xs) (y ∷ ys) zero p is =
    let same : (x, y) ≡ p = cc in
    (ap (λ (q : A × B). Some q.0) same, ap (λ (q : A × B). Some q.1) same)
zip_at (x ∷ xs) (y ∷ ys) (suc k) p is = zip_at xs ys k p is

mapped_some : {A B : Type 0} (f : A → B) (o : Option A) (y : B) → option_map f o ≡ Some y → (x : A) × (o ≡ Some x) × (f x ≡ y)
mapped_some f None y is = absurd (let no : ⊥ = cc in no)
mapped_some f (Some x) y is = (x, refl, cc)

module _ (s : Service) (text : List ℕ) (usable : IsUsable s text) (k from : ℕ) (at : slice_get (boundaries_of s text) k ≡ Some from) where
  boundary : IsBoundary s text from
  boundary = (k, at)

  front : List ℕ
  front = take from text

  length_front : length (take from text) ≡ from
  length_front = length-take-le from text (boundary-high s text usable from boundary)

  whole : IsWhole s (take from text)
  whole = whole-take s text usable from boundary

  -- as many segments come before it
  before_count : length (segments_by s (take from text)) ≡ k
  unfolding boundaries_of
  before_count =
      let parts : take from text ++ drop from text ≡ text = take-append-drop from text in
      let low : s.body ≤ length (take from text) = whole.body in
      length_segments s (take from text)
      ∙ ap length (sym (ends-before s (take from text) (drop from text) low)
      ∙ ap (λ (xs : List ℕ). filter (λ e. ltb e (length (take from text))) (ends_of s xs)) parts
      ∙ ap (λ (n : ℕ). filter (λ e. ltb e n) (ends_of s text)) length_front)
      ∙ ends_before s.body (ends_of s text) k from (ends-ascending s text usable.body) at

  -- the segments after it are those of the octets after it
  pub rest_segments : drop k (segments_by s text) ≡ map (moved_on (length (take from text))) (segments_by (at_start s) (drop from text))
  rest_segments =
      ap (drop k) (ap (segments_by s) (sym (take-append-drop from text)) ∙ segments_append s (take from text) (drop from text) whole)
      ∙ drop_at (segments_by s (take from text)) _ k before_count

  -- the segment that ends next
  pub segment_is : (start end : ℕ) → IsSegment s text k from (record { from = start; to = end }) → slice_get (segments_by s text) k ≡ Some (segment_read s text from start end)
  unfolding segments_of segments_by
  segment_is start end it =
      let got = mapped_some (segment_in text) (slice_get (zip (boundaries_of s text) (ends_of s text)) k) (record { from = start; to = end })
      (sym (slice_get-map (segment_in text) (zip (boundaries_of s text) (ends_of s text)) k) ∙ it.segment) in
      let p = got.0 in
      let two = zip_at (boundaries_of s text) (ends_of s text) k p got.1 in
      let from_is : p.0 ≡ from = let one : Some p.0 ≡ Some from = sym two.0 ∙ at in cc in
      let start_is : lead text p.0 p.1 ≡ start = ap (λ (q : Stretch). q.from) got.2 in
      let end_is : p.1 ≡ end = ap (λ (q : Stretch). q.to) got.2 in
      slice_get-map (segment_between s text) (zip (boundaries_of s text) (ends_of s text)) k
      ∙ ap (option_map (segment_between s text)) got.1
      ∙ ap (λ (n : ℕ). Some (segment_read s text n (lead text p.0 p.1) p.1)) from_is
      ∙ ap (λ (n : ℕ). Some (segment_read s text from n p.1)) start_is
      ∙ ap (λ (n : ℕ). Some (segment_read s text from start n)) end_is

module _ (dir : Parts) (context : Context) (text : List ℕ) (usable : IsUsable context.service text) (k from : ℕ)
    (at : slice_get (boundaries_of context.service text) k ≡ Some from) where
  -- what is kept of the segments after a boundary
  pub kept_rest : (before : Mode) → kept_from dir context before (drop k (segments_by context.service text)) ≡ records_from dir context before (drop from text)
  unfolding records_from
  kept_rest before =
      let s = context.service in
      let n : ℕ = length (take from text) in
      ap (kept_from dir context before) (rest_segments s text usable k from at)
      ∙ kept_moved dir context n before (segments_by (at_start s) (drop from text))

  -- what is kept of the next segment, and of the octets after it
  pub records_next : (before : Mode) (start end : ℕ) → IsSegment context.service text k from (record { from = start; to = end })
      → records_from dir context before (drop from text)
      ≡ kept_of dir context before (segment_read context.service text from start end)
      ∷ kept_from dir context (step_of dir before (segment_read context.service text from start end)).after (drop (k + 1) (segments_by context.service text))
  records_next before start end it =
      let s = context.service in
      let segments : List Segment = segments_by s text in
      let segment : Segment = segment_read s text from start end in
      let is = segment_is s text usable k from at start end it in
      let within : k < length segments = slice_get_within segments k segment is in
      sym (kept_rest before)
      ∙ ap (kept_from dir context before)
      (drop_more segments k segment within ∙ ap (λ (x : Segment). x ∷ drop (k + 1) segments) (get_or_from_slice_get segments k segment segment is))

  -- after the last end nothing is kept
  pub records_none : (before : Mode) → length (segments_of context.service text) ≡ k → records_from dir context before (drop from text) ≡ []
  records_none before last =
      let count = same_count context.service text in
      sym (kept_rest before) ∙ ap (kept_from dir context before) (drop_all k (segments_by context.service text) (omega arith))

-- how many segments the octets from a boundary on have
abbrev pub rest_count : Service → List ℕ → ℕ → ℕ
rest_count s text from = length (segments_by (at_start s) (drop from text))

module _ (dir : Parts) (context : Context) (text : List ℕ) (usable : IsUsable context.service text) (before first : Mode) (from start end : ℕ)
    (boundary : IsBoundary context.service text from) (it : IsSegment context.service text boundary.0 from (record { from = start; to = end })) where
  abbrev segment : Segment
  segment = segment_read context.service text from start end

  step_rest : records_from dir context before (drop from text)
      ≡ kept_of dir context before segment ∷ records_from dir context (step_of dir before segment).after (drop (end + 1) text)
  step_rest =
      records_next dir context text usable boundary.0 from boundary.1 before start end it
      ∙ ap (λ (more : List Kept). kept_of dir context before segment ∷ more)
      (kept_rest dir context text usable (boundary.0 + 1) (end + 1) it.next (step_of dir before segment).after)

  -- the records read so far, with one more
  pub read_next : (read more all : List Kept) (kept : Kept) → kept ≡ kept_of dir context before segment → more ≡ read ++ kept ∷ []
      → read ++ records_from dir context before (drop from text) ≡ all
      → more ++ records_from dir context kept.step.after (drop (end + 1) text) ≡ all
  read_next read more all kept kept_is more_is so_far =
      ap (λ (xs : List Kept). xs ++ records_from dir context kept.step.after (drop (end + 1) text)) more_is
      ∙ append_assoc read (kept ∷ []) (records_from dir context kept.step.after (drop (end + 1) text))
      ∙ ap (λ (k : Kept). read ++ k ∷ records_from dir context k.step.after (drop (end + 1) text)) kept_is
      ∙ ap (λ (xs : List Kept). read ++ xs) (sym step_rest) ∙ so_far

  -- and one segment fewer is left
  pub count_next : rest_count context.service text from ≡ rest_count context.service text (end + 1) + 1
  unfolding records_from
  count_next =
      let s = context.service in
      let one : length (records_from dir context before (drop from text)) ≡ length (segments_by (at_start s) (drop from text)) =
      length_kept dir context before (segments_by (at_start s) (drop from text)) in
      let two : length (records_from dir context (step_of dir before segment).after (drop (end + 1) text)) ≡ length (segments_by (at_start s) (drop (end + 1) text)) =
      length_kept dir context (step_of dir before segment).after (segments_by (at_start s) (drop (end + 1) text)) in
      let step = ap length step_rest in omega arith

  pub boundary_next : IsBoundary context.service text (end + 1)
  boundary_next = (boundary.0 + 1, it.next)

-- all were read
pub read_all : (dir : Parts) (context : Context) (text : List ℕ) → IsUsable context.service text → (before : Mode) (from : ℕ) (boundary : IsBoundary context.service text from)
    → length (segments_of context.service text) ≡ boundary.0 → (read all : List Kept) → read ++ records_from dir context before (drop from text) ≡ all → read ≡ all
read_all dir context text usable before from boundary last read all so_far =
    sym (append-nil read) ∙ ap (λ (xs : List Kept). read ++ xs) (sym (records_none dir context text usable boundary.0 from boundary.1 before last)) ∙ so_far

-- where no segment is found at a boundary, each segment ends before it
pub none_found : (s : Service) (text : List ℕ) (k from : ℕ) (found : Lexed) → ((start end : ℕ) → found ≡ Ended start end → ⊥)
    → IsLexed s text k from found → length (segments_of s text) ≡ k
none_found s text k from (Ended start end) none lexed = absurd (none start end refl)
none_found s text k from (Tail start) none lexed = lexed.0
none_found s text k from Nothing none lexed = lexed.0
