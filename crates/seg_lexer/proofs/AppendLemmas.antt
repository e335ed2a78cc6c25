-- A text in two parts: whole segments, and what comes after them.
use Rattle.std.proofs.Common.{◌≡◌, ℕ, ◌+◌, ◌-◌, ◌%◌, ◌≤◌, Bool, cond, eqb, ltb, List, [], ◌∷◌, ◌++◌, length, get_or, take, drop, Option, Some, None, inl, inr, refl, sym, ap, ◌∙◌, arith, length-append, length-drop}
use Rattle.std.specs.Prelude.{map}
use Rattle.std.specs.List.{between, prefix_len, suffix_len, zip}
use Rattle.std.specs.Option.{option_map}
use Rattle.std.proofs.lemmas.Bool.{cases_lt, lt-ltb, le-ltb}
use Rattle.std.proofs.lemmas.List.{drop-append-le, drop-drop, drop_at, map-append, take-append-le}
use Rattle.seg_lexer.specs.Fields.{PlacedComponent, components_at, components_of, fields_at, fields_of, placed, separators_of}
use Rattle.seg_lexer.specs.Released.{is_release, is_released, run_before}
use Rattle.seg_lexer.specs.Segments.{boundaries_of, ends_of, segment_in, segments_of, tail_of}
use Rattle.seg_lexer.specs.Breaks.{is_break, lead}
use Rattle.seg_lexer.specs.Stretch.{Stretch, moved, octets_in}
use Rattle.seg_lexer.specs.Whole.{IsWhole, after_last, at_start, contents_of}
use Rattle.seg_lexer.specs.declared.service.Service.{Service}
use Rattle.seg_lexer.proofs.EndsLemmas.{AllBelow, IsAscending, ends-append, ends-ascending, ends-below}
use Rattle.seg_lexer.proofs.SegmentsLemmas.{IsLead, lead-within}

-- a boundary and the next end, one pair after another
abbrev pub pairs : ℕ → List ℕ → List (ℕ × ℕ)
pairs b es = zip (b ∷ map (λ e. e + 1) es) es

abbrev pub shifted : ℕ → ℕ × ℕ → ℕ × ℕ
shifted n p = (n + p.0, n + p.1)

pairs-append : (b : ℕ) (es fs : List ℕ) → pairs b (es ++ fs) ≡ pairs b es ++ pairs (after_last b es) fs
pairs-append b [] fs = refl
pairs-append b (e ∷ es) fs = ap (λ (ps : List (ℕ × ℕ)). (b, e) ∷ ps) (pairs-append (e + 1) es fs)

pairs-shift : (n b : ℕ) (es : List ℕ) → pairs (n + b) (map (λ e. n + e) es) ≡ map (shifted n) (pairs b es)
pairs-shift n b [] = refl
pairs-shift n b (e ∷ es) =
    let next : n + e + 1 ≡ n + (e + 1) = omega arith in
    ap (λ (k : ℕ). (n + b, n + e) ∷ pairs k (map (λ e. n + e) es)) next ∙ ap (λ (ps : List (ℕ × ℕ)). (n + b, n + e) ∷ ps) (pairs-shift n (e + 1) es)

pub after_last-append : (b : ℕ) (es fs : List ℕ) → after_last b (es ++ fs) ≡ after_last (after_last b es) fs
after_last-append b [] fs = refl
after_last-append b (e ∷ es) fs = after_last-append (e + 1) es fs

pub after_last-shift : (n b : ℕ) (es : List ℕ) → after_last (n + b) (map (λ e. n + e) es) ≡ n + after_last b es
after_last-shift n b [] = refl
after_last-shift n b (e ∷ es) =
    let next : n + e + 1 ≡ n + (e + 1) = omega arith in
    ap (λ (k : ℕ). after_last k (map (λ e. n + e) es)) next ∙ after_last-shift n (e + 1) es

module _ (front rest : List ℕ) where
  pub between-front : (a b : ℕ) → a ≤ length front → b ≤ length front → between a b (front ++ rest) ≡ between a b front
  between-front a b low high =
      let left : length (drop a front) ≡ length front - a = length-drop a front in
      ap (take (b - a)) (drop-append-le a front rest low) ∙ take-append-le (b - a) (drop a front) rest (omega arith)

  pub between-past : (a b : ℕ) → between (length front + a) (length front + b) (front ++ rest) ≡ between a b rest
  between-past a b =
      let long : (length front + b) - (length front + a) ≡ b - a = omega arith in
      ap (λ (n : ℕ). take n (drop (length front + a) (front ++ rest))) long
      ∙ ap (take (b - a)) (sym (drop-drop a (length front) (front ++ rest)) ∙ ap (drop a) (drop_at front rest (length front) refl))

  pub lead-front : (a b : ℕ) → a ≤ length front → b ≤ length front → lead (front ++ rest) a b ≡ lead front a b
  unfolding lead
  lead-front a b low high = ap (λ (xs : List ℕ). a + prefix_len is_break xs) (between-front a b low high)

  pub lead-past : (a b : ℕ) → lead (front ++ rest) (length front + a) (length front + b) ≡ length front + lead rest a b
  unfolding lead
  lead-past a b =
      let same = ap (prefix_len is_break) (between-past a b) in
      let n : ℕ = prefix_len is_break (between a b rest) in
      ap (λ (k : ℕ). length front + a + k) same ∙ omega arith

  pub is_released-front : (release : Option ℕ) (a i : ℕ) → a ≤ length front → i ≤ length front → is_released release (front ++ rest) a i ≡ is_released release front a i
  unfolding is_released run_before
  is_released-front release a i low high = ap (λ (xs : List ℕ). eqb (suffix_len (is_release release) xs % 2) 1) (between-front a i low high)

  pub is_released-past : (release : Option ℕ) (a i : ℕ) → is_released release (front ++ rest) (length front + a) (length front + i) ≡ is_released release rest a i
  unfolding is_released run_before
  is_released-past release a i = ap (λ (xs : List ℕ). eqb (suffix_len (is_release release) xs % 2) 1) (between-past a i)

  leads-front : (b : ℕ) (es : List ℕ) → b ≤ length front → AllBelow (length front) es → map (segment_in (front ++ rest)) (pairs b es) ≡ map (segment_in front) (pairs b es)
  leads-front b [] low below = refl
  leads-front b (e ∷ es) low below =
      let high = below.0 in
      ap (λ (k : ℕ). record { from = k; to = e } ∷ map (segment_in (front ++ rest)) (pairs (e + 1) es)) (lead-front b e low (omega arith))
      ∙ ap (λ (ss : List Stretch). record { from = lead front b e; to = e } ∷ ss) (leads-front (e + 1) es (omega arith) below.1)

  leads-past : (ps : List (ℕ × ℕ)) → map (segment_in (front ++ rest)) (map (shifted (length front)) ps) ≡ map (moved (length front)) (map (segment_in rest) ps)
  leads-past [] = refl
  leads-past (p ∷ ps) =
      ap (λ (k : ℕ). record { from = k; to = length front + p.1 } ∷ map (segment_in (front ++ rest)) (map (shifted (length front)) ps)) (lead-past p.0 p.1)
      ∙ ap (λ (ss : List Stretch). record { from = length front + lead rest p.0 p.1; to = length front + p.1 } ∷ ss) (leads-past ps)

  contents-front : (b : ℕ) (es : List ℕ) → b ≤ length front → IsAscending b es → AllBelow (length front) es
      → map (octets_in (front ++ rest)) (map (segment_in front) (pairs b es)) ≡ map (octets_in front) (map (segment_in front) (pairs b es))
  contents-front b [] low order below = refl
  contents-front b (e ∷ es) low order below =
      let high = below.0 in
      let ordered = order.0 in
      let within : IsLead front b e = lead-within front b e ordered (omega arith) in
      let inside = within.high in
      ap (λ (xs : List ℕ). xs ∷ map (octets_in (front ++ rest)) (map (segment_in front) (pairs (e + 1) es))) (between-front (lead front b e) e (omega arith) (omega arith))
      ∙ ap (λ (xss : List (List ℕ)). between (lead front b e) e front ∷ xss) (contents-front (e + 1) es (omega arith) order.1 below.1)

  contents-past : (ss : List Stretch) → map (octets_in (front ++ rest)) (map (moved (length front)) ss) ≡ map (octets_in rest) ss
  contents-past [] = refl
  contents-past (p ∷ ss) =
      ap (λ (xs : List ℕ). xs ∷ map (octets_in (front ++ rest)) (map (moved (length front)) ss)) (between-past p.from p.to)
      ∙ ap (λ (xss : List (List ℕ)). octets_in rest p ∷ xss) (contents-past ss)

  -- the components of a segment depend on its own octets alone
  pub components-front : (s : Service) (a e : ℕ) → a ≤ length front → e ≤ length front → components_at s (front ++ rest) a e ≡ components_at s front a e
  components-front s a e low high = ap (components_of (separators_of s)) (between-front a e low high)

  pub components-past : (s : Service) (a e : ℕ) → components_at s (front ++ rest) (length front + a) (length front + e) ≡ components_at (at_start s) rest a e
  components-past s a e = ap (components_of (separators_of s)) (between-past a e)

  pub fields-front : (s : Service) (a e : ℕ) → a ≤ length front → e ≤ length front → fields_at s (front ++ rest) a e ≡ fields_at s front a e
  fields-front s a e low high = ap (λ (xs : List ℕ). map (placed a) (fields_of (separators_of s) xs)) (between-front a e low high)

  placed-twice : (n a : ℕ) (fs : List PlacedComponent) → map (placed (n + a)) fs ≡ map (placed n) (map (placed a) fs)
  placed-twice n a [] = refl
  placed-twice n a (f ∷ fs) =
      let from : n + a + f.place.from ≡ n + (a + f.place.from) = omega arith in
      let to : n + a + f.place.to ≡ n + (a + f.place.to) = omega arith in
      ap (λ (k : ℕ). record f { place = record { from = k; to = n + a + f.place.to } } ∷ map (placed (n + a)) fs) from
      ∙ (ap (λ (k : ℕ). record f { place = record { from = n + (a + f.place.from); to = k } } ∷ map (placed (n + a)) fs) to
      ∙ ap (λ (gs : List PlacedComponent). placed n (placed a f) ∷ gs) (placed-twice n a fs))

  pub fields-past : (s : Service) (a e : ℕ) → fields_at s (front ++ rest) (length front + a) (length front + e) ≡ map (placed (length front)) (fields_at (at_start s) rest a e)
  fields-past s a e =
      ap (λ (xs : List ℕ). map (placed (length front + a)) (fields_of (separators_of s) xs)) (between-past a e)
      ∙ placed-twice (length front) a (fields_of (separators_of s) (between a e rest))

-- the tail that begins at a place, where that isn't the text's end
abbrev tail_in : ℕ → ℕ → Option ℕ
tail_in start len = cond (ltb start len) (Some start) None

last-is : (b : ℕ) (es : List ℕ) → get_or (b ∷ map (λ e. e + 1) es) (length es) 0 ≡ after_last b es
last-is b [] = refl
last-is b (e ∷ es) = last-is (e + 1) es

pub tail-is : (s : Service) (text : List ℕ) → tail_of s text ≡ tail_in (lead text (after_last s.body (ends_of s text)) (length text)) (length text)
unfolding tail_of boundaries_of
tail-is s text = ap (λ (k : ℕ). tail_in (lead text k (length text)) (length text)) (last-is s.body (ends_of s text))

tail-shift : (n a b : ℕ) → tail_in (n + a) (n + b) ≡ option_map (λ k. n + k) (tail_in a b)
tail-shift n a b = elim (cases_lt a b) [
  | inl below ↦ ap (λ (t : Bool). cond t (Some (n + a)) None) (lt-ltb (n + a) (n + b) (omega arith)) ∙ sym (ap (λ (t : Bool). option_map (λ k. n + k) (cond t (Some a) None)) (lt-ltb a b below))
  | inr above ↦ ap (λ (t : Bool). cond t (Some (n + a)) None) (le-ltb (n + a) (n + b) (omega arith)) ∙ sym (ap (λ (t : Bool). option_map (λ k. n + k) (cond t (Some a) None)) (le-ltb a b above))
]

module _ (s : Service) (front rest : List ℕ) (whole : IsWhole s front) where
  -- the segments of whole segments and of what follows
  pub segments-append : segments_of s (front ++ rest) ≡ segments_of s front ++ map (moved (length front)) (segments_of (at_start s) rest)
  unfolding segments_of boundaries_of
  segments-append =
      let later : List ℕ = map (λ e. length front + e) (ends_of (at_start s) rest) in
      let start : after_last s.body (ends_of s front) ≡ length front + 0 = whole.last ∙ omega arith in
      ap (λ (es : List ℕ). map (segment_in (front ++ rest)) (pairs s.body es)) (ends-append s front rest whole.body whole.free)
      ∙ (ap (map (segment_in (front ++ rest))) (pairs-append s.body (ends_of s front) later)
      ∙ (map-append (segment_in (front ++ rest)) (pairs s.body (ends_of s front)) (pairs (after_last s.body (ends_of s front)) later)
      ∙ (ap (λ (ss : List Stretch). ss ++ map (segment_in (front ++ rest)) (pairs (after_last s.body (ends_of s front)) later)) (leads-front front rest s.body (ends_of s front) whole.body (ends-below s front whole.body))
      ∙ ap (λ (ss : List Stretch). map (segment_in front) (pairs s.body (ends_of s front)) ++ ss)
      (ap (λ (k : ℕ). map (segment_in (front ++ rest)) (pairs k later)) start
      ∙ (ap (map (segment_in (front ++ rest))) (pairs-shift (length front) 0 (ends_of (at_start s) rest))
      ∙ leads-past front rest (pairs 0 (ends_of (at_start s) rest)))))))

  -- the tail is that of what follows
  pub tail-append : tail_of s (front ++ rest) ≡ option_map (λ k. length front + k) (tail_of (at_start s) rest)
  tail-append =
      let last : ℕ = after_last 0 (ends_of (at_start s) rest) in
      let start : after_last s.body (ends_of s front) ≡ length front + 0 = whole.last ∙ omega arith in
      let place : after_last s.body (ends_of s (front ++ rest)) ≡ length front + last =
      ap (after_last s.body) (ends-append s front rest whole.body whole.free)
      ∙ (after_last-append s.body (ends_of s front) (map (λ e. length front + e) (ends_of (at_start s) rest))
      ∙ (ap (λ (k : ℕ). after_last k (map (λ e. length front + e) (ends_of (at_start s) rest))) start ∙ after_last-shift (length front) 0 (ends_of (at_start s) rest))) in
      tail-is s (front ++ rest)
      ∙ (ap (λ (k : ℕ). tail_in (lead (front ++ rest) k (length (front ++ rest))) (length (front ++ rest))) place
      ∙ (ap (λ (k : ℕ). tail_in (lead (front ++ rest) (length front + last) k) k) (length-append front rest)
      ∙ (ap (λ (k : ℕ). tail_in k (length front + length rest)) (lead-past front rest last (length rest))
      ∙ (tail-shift (length front) (lead rest last (length rest)) (length rest)
      ∙ ap (option_map (λ k. length front + k)) (sym (tail-is (at_start s) rest))))))

  contents-own : map (octets_in (front ++ rest)) (segments_of s front) ≡ contents_of s front
  unfolding segments_of boundaries_of
  contents-own = contents-front front rest s.body (ends_of s front) whole.body (ends-ascending s front whole.body) (ends-below s front whole.body)

  -- and the same of the octets of each segment
  pub contents-append : contents_of s (front ++ rest) ≡ contents_of s front ++ contents_of (at_start s) rest
  contents-append =
      ap (map (octets_in (front ++ rest))) segments-append
      ∙ (map-append (octets_in (front ++ rest)) (segments_of s front) (map (moved (length front)) (segments_of (at_start s) rest))
      ∙ (ap (λ (xss : List (List ℕ)). xss ++ map (octets_in (front ++ rest)) (map (moved (length front)) (segments_of (at_start s) rest))) (contents-own)
      ∙ ap (λ (xss : List (List ℕ)). contents_of s front ++ xss) (contents-past front rest (segments_of (at_start s) rest))))
