-- The steps of a scan for octets that aren't released.
use Rattle.std.proofs.Common.{◌≡◌, ℕ, ◌+◌, ◌-◌, ◌<◌, ◌≤◌, Bool, true, false, not, ◌&&◌, cond, List, [], ◌∷◌, ◌++◌, length, get_or, take, drop, Option, refl, sym, ap, ◌∙◌, arith}
use mathlib.Core.Bool.{beq}
use Rattle.std.specs.List.{between}
use Rattle.std.proofs.lemmas.List.{take-take}
use Rattle.std.proofs.lemmas.List.Edits.{get_or-between}
use Rattle.std.proofs.lemmas.Bool.{and_parts, and_from, and_left, and_right, both_ways}
use Rattle.memchr.specs.Find.{Nowhere, NoneBefore, Passes}
use Rattle.memchr.proofs.lemmas.FindLemmas.{Nowhere-then, Nowhere-more}
use Rattle.seg_lexer.specs.Released.{is_release, is_released}
use Rattle.seg_lexer.specs.Scan.{IsFree, IsFreeIn, is_free, is_free_in, is_sought, released_after}
use Rattle.seg_lexer.specs.declared.scan.Sought.{Sought}
use Rattle.seg_lexer.proofs.ForwardLemmas.{after-is, released_after-append}

-- a flag, turned where `odd` says so
abbrev pub turned : Bool → Bool → Bool
turned odd b = cond odd (not b) b

not-not : (b : Bool) → not (not b) ≡ b
not-not true = refl
not-not false = refl

turned-once : (odd s t : Bool) → s ≡ not t → turned odd s ≡ turned (not odd) t
turned-once true s t e = ap not e ∙ not-not t
turned-once false s t e = e

turned-none : (odd : Bool) → turned odd false ≡ odd
turned-none true = refl
turned-none false = refl

-- the flag turned is another one exactly where that says so
turned-other : (odd b : Bool) → turned odd b ≡ not (beq odd b)
turned-other true true = refl
turned-other true false = refl
turned-other false true = refl
turned-other false false = refl

-- before the first octet the flag is what it was
pub turned-start : (release : Option ℕ) (b odd : Bool) (xs : List ℕ) → length xs ≡ 0 → not (beq odd b) ≡ turned odd (released_after release b xs)
turned-start release b odd [] none = sym (turned-other odd b)
turned-start release b odd (x ∷ xs) none = absurd (omega arith)

module _ (release : Option ℕ) (b odd : Bool) (xs front : List ℕ) (x : ℕ) (is : xs ≡ front ++ x ∷ []) where
  before-last : released_after release b xs ≡ (is_release release x && not (released_after release b front))
  before-last = ap (released_after release b) is ∙ released_after-append release b front (x ∷ [])

  -- a last release character turns the flag
  pub turned-back : is_release release x ≡ true → turned odd (released_after release b xs) ≡ turned (not odd) (released_after release b front)
  turned-back releases = turned-once odd _ _ (before-last ∙ ap (λ (p : Bool). p && not (released_after release b front)) releases)

  -- after another octet nothing is released
  pub not-turned : is_release release x ≡ false → turned odd (released_after release b xs) ≡ odd
  not-turned other = ap (turned odd) (before-last ∙ and_left _ _ other) ∙ turned-none odd

module _ (release : Option ℕ) (sought : Sought) (b : Bool) (part : List ℕ) (at : ℕ) (before : Nowhere (IsFreeIn release sought b part) 0 at) where
  read : (k : ℕ) → at + k < length part → is_sought sought (get_or (between at (length part) part) k 0) ≡ is_sought sought (get_or part (at + k) 0)
  read k below = ap (is_sought sought) (get_or-between part at (length part) k 0 below)

  -- nothing sought lies among the next k octets
  pub none-before : (k : ℕ) → at + k ≤ length part → Nowhere (Passes (is_sought sought) (between at (length part) part)) 0 k → Nowhere (IsFreeIn release sought b part) 0 (at + k)
  none-before k within none =
      Nowhere-then before (λ j low high found.
      let e : at + (j - at) ≡ j = omega arith in
      none (j - at) (omega arith) (omega arith)
      (read (j - at) (omega arith) ∙ (ap (λ (i : ℕ). is_sought sought (get_or part i 0)) e ∙ (and_parts (is_sought sought (get_or part j 0)) _ found).0)))

  -- a sought octet that isn't released
  pub found-there : (k : ℕ) → Nowhere (Passes (is_sought sought) (between at (length part) part)) 0 k → Passes (is_sought sought) (between at (length part) part) k → at + k < length part → released_after release b (take (at + k) part) ≡ false
      → NoneBefore (IsFreeIn release sought b part) 0 (length part) (at + k) × IsFreeIn release sought b part (at + k)
  found-there k none found below free =
      (record { low = omega arith; high = below; before = none-before k (omega arith) none }, and_from _ _ (sym (read k below) ∙ found) (ap not free))

  -- a released one doesn't count
  pub none-there : (k : ℕ) → at + k < length part → Nowhere (Passes (is_sought sought) (between at (length part) part)) 0 k → released_after release b (take (at + k) part) ≡ true → Nowhere (IsFreeIn release sought b part) 0 (at + k + 1)
  none-there k below none released =
      Nowhere-more (none-before k (omega arith) none) (λ found. both_ways _ (and_right (is_sought sought (get_or part (at + k) 0)) _ (ap not released)) found)

-- a part of the text is read from place `at` on, where the octet there is released (b) or isn't
pub record Carries (release : Option ℕ) (text : List ℕ) (from at : ℕ) (part : List ℕ) (b : Bool) : Type 0 where
  pub low : from ≤ at
  pub within : at + length part ≤ length text
  pub reads : part ≡ between at (at + length part) text
  pub carried : b ≡ is_released release text from at

module _ (release : Option ℕ) (text : List ℕ) (from at : ℕ) (part : List ℕ) (b : Bool) (c : Carries release text from at part b) where
  released-same : (k : ℕ) → k ≤ length part → released_after release b (take k part) ≡ is_released release text from (at + k)
  released-same k le =
      let within = c.within in
      ap (λ (ys : List ℕ). released_after release b (take k ys)) c.reads
      ∙ (ap (released_after release b) (take-take k ((at + length part) - at) (drop at text) (omega arith))
      ∙ (ap (λ (v : Bool). released_after release v (take k (drop at text))) c.carried
      ∙ after-is release text from at k c.low (omega arith)))

  -- the flag after the part says whether the octet after it is released
  pub carried-on : (v : Bool) → v ≡ released_after release b (take (length part) part) → v ≡ is_released release text from (at + length part)
  carried-on v is = is ∙ released-same (length part) (omega arith)

  free-same : (sought : Sought) (k : ℕ) → k < length part → is_free_in release sought b part k ≡ is_free release sought text from (at + k)
  free-same sought k below =
      ap (λ (x : ℕ). is_sought sought x && not (released_after release b (take k part))) (ap (λ (ys : List ℕ). get_or ys k 0) c.reads ∙ get_or-between text at (at + length part) k 0 (omega arith))
      ∙ ap (λ (v : Bool). is_sought sought (get_or text (at + k) 0) && not v) (released-same k (omega arith))

  -- what was found in the part, or not, is so in the text
  pub none-in : (sought : Sought) (n : ℕ) → n ≤ length part → Nowhere (IsFree release sought text from) from at → Nowhere (IsFreeIn release sought b part) 0 n → Nowhere (IsFree release sought text from) from (at + n)
  none-in sought n le before none =
      Nowhere-then before (λ j low high found.
      let e : at + (j - at) ≡ j = omega arith in
      none (j - at) (omega arith) (omega arith) (free-same sought (j - at) (omega arith) ∙ (ap (is_free release sought text from) e ∙ found)))

  pub found-in : (sought : Sought) (k end : ℕ) → at + length part ≤ end → Nowhere (IsFree release sought text from) from at → NoneBefore (IsFreeIn release sought b part) 0 (length part) k → IsFreeIn release sought b part k
      → NoneBefore (IsFree release sought text from) from end (at + k) × IsFree release sought text from (at + k)
  found-in sought k end inside before none found =
      let low = c.low in
      let high = none.high in
      (record { low = omega arith; high = omega arith; before = none-in sought k (omega arith) before none.before }, sym (free-same sought k high) ∙ found)
