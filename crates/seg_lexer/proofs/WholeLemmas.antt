-- Boundaries of a text, and the whole segments before each of them.
use Rattle.std.proofs.Common.{◌≡◌, ℕ, zero, suc, ◌+◌, ◌-◌, ◌<◌, ◌≤◌, ◌≢◌, ◌⊎◌, Bool, true, false, not, ◌&&◌, cond, eqb, ltb, List, [], ◌∷◌, ◌++◌, length, get_or, take, drop, Option, Some, None, inl, inr, refl, sym, ap, ◌∙◌, subst, ⊎_elim, arith, length-append}
use Rattle.std.specs.Prelude.{map}
use Rattle.std.specs.List.{filter, range_with_len, slice_get}
use Rattle.std.specs.Option.{ForSome, option_map}
use Rattle.std.proofs.lemmas.Bool.{and_left, and_parts, both_ways, cases_Bool, cases_lt, eq-eqb, eqb-true, lt-ltb, ne_eqb, not-true}
use Rattle.std.proofs.lemmas.List.{get_or-append-add, get_or_append_left, length-take-le, take-append-drop, take_more}
use Rattle.std.proofs.lemmas.Option.{slice_get-map}
use Rattle.seg_lexer.specs.Released.{is_release, is_released}
use Rattle.seg_lexer.specs.Segments.{IsBoundary, boundaries_of, ends_of, is_end, segment_in, segments_of, tail_of}
use Rattle.seg_lexer.specs.Breaks.{lead}
use Rattle.seg_lexer.specs.Service.{IsUsable}
use Rattle.seg_lexer.specs.Stretch.{Stretch, moved}
use Rattle.seg_lexer.specs.Whole.{IsWhole, after_last, at_start, contents_of}
use Rattle.seg_lexer.specs.declared.service.Service.{Service}
use Rattle.seg_lexer.proofs.AppendLemmas.{after_last-append, after_last-shift, contents-append, is_released-front, is_released-past, lead-front, pairs, segments-append, tail-append}
use Rattle.seg_lexer.proofs.EndsLemmas.{AllBelow, IsAscending, below-none, ends-append, ends-ascending, ends-before, ends-below, ends-front, found}
use Rattle.seg_lexer.proofs.PlacesLemmas.{IsStart, filter-fail, filter-pass, start-at}
use Rattle.seg_lexer.proofs.ReleasedLemmas.{is_released-from, is_released-more, is_released-start}
use Rattle.seg_lexer.proofs.SegmentsLemmas.{boundary-at, boundary-zero}

-- a place that passes is kept, and has a number among those that are
pub kept-at : (p : ℕ → Bool) (a n e : ℕ) → p e ≡ true → a ≤ e → e < a + n → (k : ℕ) × (slice_get (filter p (range_with_len a n)) k ≡ Some e)
kept-at p a zero e passes low high = absurd (omega arith)
kept-at p a (suc n) e passes low high = elim (cases_Bool (p a)) [
  | inl here ↦ elim (cases_lt a e) [
    | inl below ↦
        let later = kept-at p (a + 1) n e passes (omega arith) (omega arith) in
        (suc later.0, ap (λ (xs : List ℕ). slice_get xs (suc later.0)) (filter-pass p a n here) ∙ later.1)
    | inr above ↦
        let same : a ≡ e = omega arith in
        (0, ap (λ (xs : List ℕ). slice_get xs 0) (filter-pass p a n here) ∙ ap Some same)
  ]
  | inr fails ↦
      let other : a ≡ e → ⊥ = λ same. both_ways (p e) (ap p (sym same) ∙ fails) passes in
      let later = kept-at p (a + 1) n e passes (omega arith) (omega arith) in
      (later.0, ap (λ (xs : List ℕ). slice_get xs later.0) (filter-fail p a n fails) ∙ later.1)
]

-- what a boundary is: the body's start, or the place after an end
pub record IsEndBefore (s : Service) (text : List ℕ) (e b : ℕ) : Type 0 where
  pub ends : is_end s text e ≡ true
  pub low : s.body ≤ e
  pub within : e < length text
  pub next : e + 1 ≡ b

module _ (s : Service) (text : List ℕ) where
  -- the place after an end is a boundary
  pub end-boundary : (e : ℕ) → is_end s text e ≡ true → s.body ≤ e → e < length text → IsBoundary s text (e + 1)
  unfolding boundaries_of ends_of
  end-boundary e ends low within =
      let at = kept-at (is_end s text) s.body (length text - s.body) e ends low (omega arith) in
      (suc at.0, slice_get-map (λ (e : ℕ). e + 1) (ends_of s text) at.0 ∙ ap (option_map (λ (e : ℕ). e + 1)) at.1)

  pub boundary-cases : (b : ℕ) → s.body ≤ length text → IsBoundary s text b → (b ≡ s.body) ⊎ ((e : ℕ) × IsEndBefore s text e b)
  unfolding boundaries_of ends_of
  boundary-cases b body boundary =
      let start : IsStart (is_end s text) s.body (length text - s.body) b = start-at (is_end s text) s.body (length text - s.body) boundary.0 b boundary.1 in
      let high = start.high in
      ⊎_elim (λ same. inl same) (λ found. let next : found.0 + 1 ≡ b = found.3 in inr (found.0, record { ends = found.1; low = found.2; within = omega arith; next = next })) start.after

  pub boundary-start : (b : ℕ) → b ≡ s.body → IsBoundary s text b
  boundary-start b same = subst (IsBoundary s text) (sym same) (0, boundary-zero s text)

module _ (s : Service) (front rest : List ℕ) (body : s.body ≤ length front) where
  -- an end of the front is one whatever follows
  pub end-front : (e : ℕ) → e < length front → is_end s (front ++ rest) e ≡ is_end s front e
  end-front e below =
      ap (λ (x : ℕ). eqb x s.terminator && not (is_released s.release (front ++ rest) s.body e)) (get_or_append_left front rest 0 e below)
      ∙ ap (λ (v : Bool). eqb (get_or front e 0) s.terminator && not v) (is_released-front front rest s.release s.body e body (omega arith))

  -- and after an unreleased place the ends are those of the rest
  pub end-past : is_released s.release front s.body (length front) ≡ false → (e : ℕ) → e < length rest → is_end s (front ++ rest) (length front + e) ≡ is_end (at_start s) rest e
  end-past free e below =
      let all : length (front ++ rest) ≡ length front + length rest = length-append front rest in
      let start : length front ≡ length front + 0 = omega arith in
      let same : is_released s.release (front ++ rest) s.body (length front + e) ≡ is_released s.release rest 0 e =
      is_released-from s.release (front ++ rest) s.body (length front) e body (omega arith) (is_released-front front rest s.release s.body (length front) body (omega arith) ∙ free)
      ∙ (ap (λ (a : ℕ). is_released s.release (front ++ rest) a (length front + e)) start ∙ is_released-past front rest s.release 0 e) in
      ap (λ (x : ℕ). eqb x s.terminator && not (is_released s.release (front ++ rest) s.body (length front + e))) (get_or-append-add front rest e 0)
      ∙ ap (λ (v : Bool). eqb (get_or rest e 0) s.terminator && not v) same

-- a boundary of the front is one whatever follows
pub boundary-front : (s : Service) (front rest other : List ℕ) (b : ℕ) → s.body ≤ length front → b ≤ length front → IsBoundary s (front ++ rest) b → IsBoundary s (front ++ other) b
boundary-front s front rest other b body low boundary =
    let all : length (front ++ rest) ≡ length front + length rest = length-append front rest in
    let each : length (front ++ other) ≡ length front + length other = length-append front other in
    ⊎_elim
    (λ same. boundary-start s (front ++ other) b same)
    (λ before.
    let e = before.0 in
    let next = before.1.next in
    let ends : is_end s (front ++ other) e ≡ true = end-front s front other body e (omega arith) ∙ (sym (end-front s front rest body e (omega arith)) ∙ before.1.ends) in
    subst (IsBoundary s (front ++ other)) next (end-boundary s (front ++ other) e ends before.1.low (omega arith)))
    (boundary-cases s (front ++ rest) b (omega arith) boundary)

-- the start of a stretch after those of some ends
starts-past : (b k : ℕ) (es fs : List ℕ) → slice_get (b ∷ map (λ e. e + 1) (es ++ fs)) (length es + k) ≡ slice_get (after_last b es ∷ map (λ e. e + 1) fs) k
starts-past b k [] fs = let none : 0 + k ≡ k = omega arith in ap (slice_get (b ∷ map (λ e. e + 1) fs)) none
starts-past b k (e ∷ es) fs =
    let next : suc (length es) + k ≡ suc (length es + k) = omega arith in
    ap (slice_get (b ∷ map (λ e. e + 1) ((e ∷ es) ++ fs))) next ∙ starts-past (e + 1) k es fs

starts-shift : (n b : ℕ) (fs : List ℕ) → (n + b) ∷ map (λ e. e + 1) (map (λ e. n + e) fs) ≡ map (λ b. n + b) (b ∷ map (λ e. e + 1) fs)
starts-shift n b [] = refl
starts-shift n b (e ∷ fs) =
    let next : n + e + 1 ≡ n + (e + 1) = omega arith in
    ap (λ (k : ℕ). (n + b) ∷ k ∷ map (λ e. e + 1) (map (λ e. n + e) fs)) next ∙ ap (λ (xs : List ℕ). (n + b) ∷ xs) (starts-shift n (e + 1) fs)

module _ (s : Service) (front rest : List ℕ) (whole : IsWhole s front) where
  -- the boundaries after whole segments are those of what follows
  pub boundary-past : (b : ℕ) → IsBoundary (at_start s) rest b → IsBoundary s (front ++ rest) (length front + b)
  unfolding boundaries_of
  boundary-past b boundary =
      let k = boundary.0 in
      let later : List ℕ = map (λ e. length front + e) (ends_of (at_start s) rest) in
      let start : after_last s.body (ends_of s front) ≡ length front + 0 = whole.last ∙ omega arith in (
        length (ends_of s front) + k,
        ap (λ (es : List ℕ). slice_get (s.body ∷ map (λ e. e + 1) es) (length (ends_of s front) + k)) (ends-append s front rest whole.body whole.free)
            ∙ (starts-past s.body k (ends_of s front) later
            ∙ (ap (λ (a : ℕ). slice_get (a ∷ map (λ e. e + 1) later) k) start
            ∙ (ap (λ (xs : List ℕ). slice_get xs k) (starts-shift (length front) 0 (ends_of (at_start s) rest))
            ∙ (slice_get-map (λ (b : ℕ). length front + b) (boundaries_of (at_start s) rest) k ∙ ap (option_map (λ (b : ℕ). length front + b)) boundary.1)))),
      )

  pub boundary-after : IsBoundary s (front ++ rest) (length front)
  boundary-after =
      let start : length front + 0 ≡ length front = omega arith in
      subst (IsBoundary s (front ++ rest)) start (boundary-past 0 (boundary-start (at_start s) rest 0 refl))

  pub boundary-rest : (b : ℕ) → IsBoundary s (front ++ rest) (length front + b) → IsBoundary (at_start s) rest b
  boundary-rest b boundary =
      let all : length (front ++ rest) ≡ length front + length rest = length-append front rest in
      let body = whole.body in
      ⊎_elim
      (λ same. boundary-start (at_start s) rest b (omega arith))
      (λ before.
      let e = before.0 in
      let next = before.1.next in
      let within = before.1.within in
      ⊎_elim
      (λ below. boundary-start (at_start s) rest b (omega arith))
      (λ past.
      let place : length front + (e - length front) ≡ e = omega arith in
      let ends : is_end (at_start s) rest (e - length front) ≡ true =
      sym (end-past s front rest body whole.free (e - length front) (omega arith)) ∙ (ap (is_end s (front ++ rest)) place ∙ before.1.ends) in
      let b_is : (e - length front) + 1 ≡ b = omega arith in
      subst (IsBoundary (at_start s) rest) b_is (end-boundary (at_start s) rest (e - length front) ends (omega arith) (omega arith)))
      (cases_lt e (length front)))
      (boundary-cases s (front ++ rest) (length front + b) (omega arith) boundary)

-- a text without octets after the start of its body
pub whole-empty : (s : Service) (text : List ℕ) → s.body ≡ length text → IsWhole s text
unfolding ends_of
whole-empty s text all =
    let none : length text - s.body ≡ 0 = omega arith in
    record {
      body = omega arith;
      free = ap (is_released s.release text s.body) (sym all) ∙ is_released-start s.release text s.body;
      last = ap (λ (n : ℕ). after_last s.body (filter (is_end s text) (range_with_len s.body n))) none ∙ all;
    }

after_last-one : (b e : ℕ) (es : List ℕ) → after_last b (es ++ e ∷ []) ≡ e + 1
after_last-one b e [] = refl
after_last-one b e (x ∷ es) = after_last-one (x + 1) e es

-- an unreleased terminator ends a segment
pub whole-end : (s : Service) (front : List ℕ) → ForSome s.release (λ r. r ≢ s.terminator) → s.body ≤ length front → is_released s.release front s.body (length front) ≡ false → IsWhole s (front ++ s.terminator ∷ [])
whole-end s front apart body free =
    let all : length (front ++ s.terminator ∷ []) ≡ length front + 1 = length-append front (s.terminator ∷ []) in
    let x : get_or (front ++ s.terminator ∷ []) (length front) 0 ≡ s.terminator = ap (λ (i : ℕ). get_or (front ++ s.terminator ∷ []) i 0) (omega arith) ∙ get_or-append-add front (s.terminator ∷ []) 0 0 in
    let plain : (o : Option ℕ) → s.release ≡ o → is_release o (get_or (front ++ s.terminator ∷ []) (length front) 0) ≡ false = elim [
      | None ↦ λ _. refl
      | Some r ↦ λ is. ne_eqb _ r (λ same. apart r is (sym same ∙ x))
    ] in
    let one : found s.release s.terminator (is_released s.release front s.body (length front)) (length front) (s.terminator ∷ []) ≡ length front ∷ [] =
    ap (λ (b : Bool). cond (b && not (is_released s.release front s.body (length front))) (length front ∷ []) []) (eq-eqb s.terminator s.terminator refl)
    ∙ ap (λ (b : Bool). cond (true && not b) (length front ∷ []) []) free in
    record {
      body = omega arith;
      free = ap (is_released s.release (front ++ s.terminator ∷ []) s.body) all
          ∙ (is_released-more s.release (front ++ s.terminator ∷ []) s.body (length front) body (omega arith) ∙ and_left _ _ (plain s.release refl));
      last = ap (after_last s.body) (ends-front s front (s.terminator ∷ []) body ∙ ap (λ (es : List ℕ). ends_of s front ++ es) one) ∙ (after_last-one s.body (length front) (ends_of s front) ∙ sym all);
    }

module _ (s : Service) (text : List ℕ) (usable : IsUsable s text) (b : ℕ) (boundary : IsBoundary s text b) where
  -- what comes before a boundary is whole segments
  pub whole-take : IsWhole s (take b text)
  whole-take =
      let body = usable.body in
      let high = (boundary-at s text usable boundary.0 b boundary.1).high in
      ⊎_elim
      (λ same.
      let len : length (take b text) ≡ b = length-take-le b text high in
      whole-empty s (take b text) (sym same ∙ sym len))
      (λ before.
      let e = before.0 in
      let next = before.1.next in
      let within = before.1.within in
      let parts = and_parts (eqb (get_or text e 0) s.terminator) _ before.1.ends in
      let len : length (take e text) ≡ e = length-take-le e text (omega arith) in
      let low = before.1.low in
      let free : is_released s.release (take e text) s.body (length (take e text)) ≡ false =
      sym (is_released-front (take e text) (drop e text) s.release s.body (length (take e text)) (omega arith) (omega arith))
      ∙ (ap (λ (xs : List ℕ). is_released s.release xs s.body (length (take e text))) (take-append-drop e text)
      ∙ (ap (is_released s.release text s.body) len ∙ not-true _ parts.1)) in
      let front : take b text ≡ take e text ++ s.terminator ∷ [] =
      sym (ap (λ (k : ℕ). take k text) next) ∙ (take_more text e 0 within ∙ ap (λ (x : ℕ). take e text ++ x ∷ []) (eqb-true _ _ parts.0)) in
      subst (IsWhole s) (sym front) (whole-end s (take e text) usable.from_terminator (omega arith) free))
      (boundary-cases s text b body boundary)

  length-before : length (take b text) ≡ b
  length-before = length-take-le b text (boundary-at s text usable boundary.0 b boundary.1).high

  -- the segments before a boundary, and those of the rest
  pub segments-at : segments_of s text ≡ segments_of s (take b text) ++ map (moved b) (segments_of (at_start s) (drop b text))
  segments-at =
      ap (segments_of s) (sym (take-append-drop b text))
      ∙ (segments-append s (take b text) (drop b text) whole-take
      ∙ ap (λ (n : ℕ). segments_of s (take b text) ++ map (moved n) (segments_of (at_start s) (drop b text))) length-before)

  pub tail-at : tail_of s text ≡ option_map (λ k. b + k) (tail_of (at_start s) (drop b text))
  tail-at =
      ap (tail_of s) (sym (take-append-drop b text))
      ∙ (tail-append s (take b text) (drop b text) whole-take ∙ ap (λ (n : ℕ). option_map (λ k. n + k) (tail_of (at_start s) (drop b text))) length-before)

  pub contents-at : contents_of s text ≡ contents_of s (take b text) ++ contents_of (at_start s) (drop b text)
  contents-at = ap (contents_of s) (sym (take-append-drop b text)) ∙ contents-append s (take b text) (drop b text) whole-take

-- a rest of a text can be read by the same characters
pub usable-rest : (s : Service) (text rest : List ℕ) → IsUsable s text → IsUsable (at_start s) rest
usable-rest s text rest usable = record {
  body = omega arith;
  from_terminator = usable.from_terminator;
  from_element = usable.from_element;
  from_component = usable.from_component;
  from_repetition = usable.from_repetition;
}

-- whole segments and whole segments are whole segments
pub whole-append : (s : Service) (front rest : List ℕ) → IsWhole s front → IsWhole (at_start s) rest → IsWhole s (front ++ rest)
whole-append s front rest whole more =
    let all : length (front ++ rest) ≡ length front + length rest = length-append front rest in
    let body = whole.body in
    let start : after_last s.body (ends_of s front) ≡ length front + 0 = whole.last ∙ omega arith in
    let zero_is : length front ≡ length front + 0 = omega arith in
    record {
      body = omega arith;
      free = ap (is_released s.release (front ++ rest) s.body) all
          ∙ (is_released-from s.release (front ++ rest) s.body (length front) (length rest) body (omega arith) (is_released-front front rest s.release s.body (length front) body (omega arith) ∙ whole.free)
          ∙ (ap (λ (a : ℕ). is_released s.release (front ++ rest) a (length front + length rest)) zero_is ∙ (is_released-past front rest s.release 0 (length rest) ∙ more.free)));
      last = ap (after_last s.body) (ends-append s front rest whole.body whole.free)
          ∙ (after_last-append s.body (ends_of s front) (map (λ e. length front + e) (ends_of (at_start s) rest))
          ∙ (ap (λ (k : ℕ). after_last k (map (λ e. length front + e) (ends_of (at_start s) rest))) start
          ∙ (after_last-shift (length front) 0 (ends_of (at_start s) rest) ∙ (ap (λ (k : ℕ). length front + k) more.last ∙ sym all))));
    }

boundary-one : (s : Service) (text : List ℕ) (e : ℕ) (es : List ℕ) → ends_of s text ≡ e ∷ es → IsBoundary s text (e + 1)
unfolding boundaries_of
boundary-one s text e es is = (1, ap (λ (xs : List ℕ). slice_get (s.body ∷ map (λ (e : ℕ). e + 1) xs) 1) is)

segments-one : (s : Service) (text : List ℕ) (e : ℕ) → ends_of s text ≡ e ∷ [] → segments_of s text ≡ record { from = lead text s.body e; to = e } ∷ []
unfolding segments_of boundaries_of
segments-one s text e is = ap (λ (es : List ℕ). map (segment_in text) (pairs s.body es)) is

-- the first segment, and those of what comes after it
pub segments-first : (s : Service) (text : List ℕ) → IsUsable s text → (e : ℕ) (es : List ℕ) → ends_of s text ≡ e ∷ es
    → segments_of s text ≡ record { from = lead text s.body e; to = e } ∷ map (moved (e + 1)) (segments_of (at_start s) (drop (e + 1) text))
segments-first s text usable e es is =
    let body = usable.body in
    let below : AllBelow (length text) (e ∷ es) = subst (AllBelow (length text)) is (ends-below s text body) in
    let order : IsAscending s.body (e ∷ es) = subst (IsAscending s.body) is (ends-ascending s text body) in
    let high = below.0 in
    let low = order.0 in
    let boundary : IsBoundary s text (e + 1) = boundary-one s text e es is in
    let len : length (take (e + 1) text) ≡ e + 1 = length-take-le (e + 1) text (omega arith) in
    let same : take (e + 1) text ++ drop (e + 1) text ≡ text = take-append-drop (e + 1) text in
    let own : ends_of s (take (e + 1) text) ≡ e ∷ [] =
    sym (ends-before s (take (e + 1) text) (drop (e + 1) text) (omega arith))
    ∙ (ap (λ (xs : List ℕ). filter (λ (i : ℕ). ltb i (length (take (e + 1) text))) (ends_of s xs)) same
    ∙ (ap (λ (n : ℕ). filter (λ (i : ℕ). ltb i n) (ends_of s text)) len
    ∙ (ap (filter (λ (i : ℕ). ltb i (e + 1))) is
    ∙ (ap (λ (b : Bool). cond b (e ∷ filter (λ (i : ℕ). ltb i (e + 1)) es) (filter (λ (i : ℕ). ltb i (e + 1)) es)) (lt-ltb e (e + 1) (omega arith))
    ∙ ap (λ (xs : List ℕ). e ∷ xs) (below-none (e + 1) es order.1))))) in
    let first : segments_of s (take (e + 1) text) ≡ record { from = lead text s.body e; to = e } ∷ [] =
    segments-one s (take (e + 1) text) e own
    ∙ ap (λ (k : ℕ). record { from = k; to = e } ∷ [])
    (sym (lead-front (take (e + 1) text) (drop (e + 1) text) s.body e (omega arith) (omega arith)) ∙ ap (λ (xs : List ℕ). lead xs s.body e) same) in
    segments-at s text usable (e + 1) boundary ∙ ap (λ (ss : List Stretch). ss ++ map (moved (e + 1)) (segments_of (at_start s) (drop (e + 1) text))) first
