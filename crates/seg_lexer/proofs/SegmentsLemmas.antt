-- Boundaries, segments and the tail of a text.
use Rattle.std.proofs.Common.{◌≡◌, ℕ, zero, suc, ◌+◌, ◌-◌, ◌<◌, ◌≤◌, min, Bool, true, false, not, ◌&&◌, cond, eqb, ltb, List, [], ◌∷◌, length, get_or, Option, Some, None, refl, sym, ap, ◌∙◌, subst, ⊎_elim, arith}
use Rattle.std.specs.Prelude.{map}
use Rattle.std.specs.List.{between, prefix_len, slice_get, zip}
use Rattle.std.specs.Option.{option_map}
use Rattle.std.proofs.lemmas.Bool.{and_parts, and_left, eqb-true, ne_eqb, lt-ltb, le-ltb}
use Rattle.std.proofs.lemmas.List.{length-map}
use Rattle.std.proofs.lemmas.List.Edits.{length-between, get_or-between}
use Rattle.std.proofs.lemmas.List.Sums.{prefix_len_is, prefix_len-le-length}
use Rattle.std.proofs.lemmas.Option.{slice_get-map, slice_get_within, get_or_from_slice_get}
use Rattle.std.proofs.lemmas.Slice.Zip.{length-zip}
use Rattle.memchr.specs.Find.{IsFirst}
use Rattle.seg_lexer.specs.Released.{is_release, is_released}
use Rattle.seg_lexer.specs.Scan.{IsFree, is_free}
use Rattle.seg_lexer.specs.Segments.{IsBoundary, IsLexed, boundaries_of, ends_of, is_end, segment_in, segments_of, tail_of}
use Rattle.seg_lexer.specs.Breaks.{is_break, lead}
use Rattle.seg_lexer.specs.Service.{IsUsable}
use Rattle.seg_lexer.specs.declared.service.Service.{Service}
use Rattle.seg_lexer.specs.declared.scan.Sought.TheVariants.{One}
use Rattle.seg_lexer.specs.declared.segment.Lexed.TheVariants.{Ended, Tail, Nothing}
use Rattle.seg_lexer.proofs.PlacesLemmas.{IsStart, start-at, end-at}
use Rattle.seg_lexer.proofs.ReleasedLemmas.{is_released-start, is_released-more, is_released-from}

-- the place that a skip of CR and LF comes to
pub lead_is : (text : List ℕ) (a b start : ℕ) → a ≤ start → start ≤ b → b ≤ length text → ((k : ℕ) → a ≤ k → k < start → is_break (get_or text k 0) ≡ true) → (start < b → is_break (get_or text start 0) ≡ false) → start ≡ lead text a b
unfolding lead
lead_is text a b start low high within breaks stops =
    let len : length (between a b text) ≡ b - a = length-between text a b within in
    let back : a + (start - a) ≡ start = omega arith in
    let passes : (k : ℕ) → k < start - a → is_break (get_or (between a b text) k 0) ≡ true = λ k less.
    ap is_break (get_or-between text a b k 0 (omega arith)) ∙ breaks (a + k) (omega arith) (omega arith) in
    let ends : start - a < length (between a b text) → is_break (get_or (between a b text) (start - a) 0) ≡ false = λ less.
    ap is_break (get_or-between text a b (start - a) 0 (omega arith) ∙ ap (λ (k : ℕ). get_or text k 0) back) ∙ stops (omega arith) in
    let passed : prefix_len is_break (between a b text) ≡ start - a = prefix_len_is is_break (between a b text) (start - a) 0 (omega arith) passes ends in
    sym (ap (λ (n : ℕ). a + n) passed ∙ back)

-- it lies between the two places
pub record IsLead (text : List ℕ) (a b : ℕ) : Type 0 where
  pub low : a ≤ lead text a b
  pub high : lead text a b ≤ b

pub lead-within : (text : List ℕ) (a b : ℕ) → a ≤ b → b ≤ length text → IsLead text a b
unfolding lead
lead-within text a b ordered within =
    let len : length (between a b text) ≡ b - a = length-between text a b within in
    let most : prefix_len is_break (between a b text) ≤ length (between a b text) = prefix_len-le-length is_break (between a b text) in
    record { low = omega arith; high = omega arith }

-- two searches agree where their tests do
first-agree : (P Q : ℕ → Type 0) (i j : ℕ) → ((k : ℕ) → i ≤ k → k < j → P k → Q k) → ((k : ℕ) → i ≤ k → k < j → Q k → P k) → (r : Option ℕ) → IsFirst P i j r → IsFirst Q i j r
first-agree P Q i j to back None h = λ k low high q. h k low high (back k low high q)
first-agree P Q i j to back (Some k) h =
    let first = h.0 in
    let low = first.low in
    let high = first.high in
    (record { low = low; high = high; before = λ m a b q. first.before m a b (back m a (omega arith) q) }, to k low high h.1)

-- of two lists, the pair at a place
slice_get-zip : {A B : Type 0} (xs : List A) (ys : List B) (k : ℕ) (x : A) (y : B) → slice_get xs k ≡ Some x → slice_get ys k ≡ Some y → slice_get (zip xs ys) k ≡ Some (x, y)
slice_get-zip [] ys k x y hx hy = absurd (cc)
slice_get-zip (u ∷ xs) [] k x y hx hy = absurd (cc)
slice_get-zip (u ∷ xs) (v ∷ ys) zero x y hx hy = let ex : u ≡ x = cc in let ey : v ≡ y = cc in cc
slice_get-zip (u ∷ xs) (v ∷ ys) (suc k) x y hx hy = slice_get-zip xs ys k x y hx hy

-- past the end of a list nothing is found
length-none : {A : Type 0} (xs : List A) (k : ℕ) → slice_get xs k ≡ None → length xs ≤ k
length-none [] k h = omega arith
length-none (x ∷ xs) zero h = absurd (cc)
length-none (x ∷ xs) (suc k) h = let le = length-none xs k h in omega arith

-- a boundary lies in the body, and no octet of the body releases the octet there
pub record IsAt (s : Service) (text : List ℕ) (from : ℕ) : Type 0 where
  pub low : s.body ≤ from
  pub high : from ≤ length text
  pub free : is_released s.release text s.body from ≡ false

module _ (s : Service) (text : List ℕ) (usable : IsUsable s text) where
  -- after an end nothing is released
  after-end : (e : ℕ) → is_end s text e ≡ true → s.body ≤ e → e < length text → is_released s.release text s.body (e + 1) ≡ false
  after-end e ends low high =
      let terminator : get_or text e 0 ≡ s.terminator = eqb-true _ _ (and_parts _ _ ends).0 in
      let plain : (o : Option ℕ) → s.release ≡ o → is_release o (get_or text e 0) ≡ false = elim [
        | None ↦ λ _. refl
        | Some r ↦ λ is. ne_eqb (get_or text e 0) r (λ same. usable.from_terminator r is (sym same ∙ terminator))
      ] in
      is_released-more s.release text s.body e low high ∙ and_left _ _ (plain s.release refl)

  pub boundary-at : (k from : ℕ) → slice_get (boundaries_of s text) k ≡ Some from → IsAt s text from
  unfolding boundaries_of ends_of
  boundary-at k from h =
      let body = usable.body in
      let start : IsStart (is_end s text) s.body (length text - s.body) from = start-at (is_end s text) s.body (length text - s.body) k from h in
      let low = start.low in
      let high = start.high in
      record {
        low = low;
        high = omega arith;
        free = ⊎_elim
            (λ same. ap (is_released s.release text s.body) same ∙ is_released-start s.release text s.body)
            (λ found.
            let e = found.0 in
            let next : e + 1 ≡ from = found.3 in
            sym (ap (is_released s.release text s.body) next) ∙ after-end e found.1 found.2 (omega arith))
            start.after;
      }

  -- from a boundary on, an octet that isn't released by octets from there on isn't released by any of the body
  free-end : (from k : ℕ) → IsAt s text from → from ≤ k → k < length text → is_free s.release (One s.terminator) text from k ≡ is_end s text k
  free-end from k at low high =
      let start = at.low in
      let e : from + (k - from) ≡ k = omega arith in
      let same : is_released s.release text from k ≡ is_released s.release text s.body k =
      sym (ap (is_released s.release text from) e)
      ∙ (sym (is_released-from s.release text s.body from (k - from) start (omega arith) at.free) ∙ ap (is_released s.release text s.body) e) in
      ap (λ (v : Bool). eqb (get_or text k 0) s.terminator && not v) same

  -- the first unreleased terminator from boundary k on is end k
  pub first-end : (k from : ℕ) (r : Option ℕ) → slice_get (boundaries_of s text) k ≡ Some from → IsFirst (IsFree s.release (One s.terminator) text from) from (length text) r → slice_get (ends_of s text) k ≡ r
  unfolding boundaries_of ends_of
  first-end k from r h first =
      let body = usable.body in
      let at = boundary-at k from h in
      let all : length text ≡ s.body + (length text - s.body) = omega arith in
      let ends : IsFirst (λ i. is_end s text i ≡ true) from (length text) r =
      first-agree _ _ from (length text) (λ i low high free. sym (free-end from i at low high) ∙ free) (λ i low high ends. free-end from i at low high ∙ ends) r first in
      end-at (is_end s text) s.body (length text - s.body) k from r h (subst (λ (n : ℕ). IsFirst (λ i. is_end s text i ≡ true) from n r) all ends)

  -- segment k lies between boundary k and end k
  pub ended-at : (k from end : ℕ) → slice_get (boundaries_of s text) k ≡ Some from → IsFirst (IsFree s.release (One s.terminator) text from) from (length text) (Some end) → IsLexed s text k from (Ended (lead text from end) end)
  unfolding boundaries_of segments_of
  ended-at k from end h first =
      let ends : slice_get (ends_of s text) k ≡ Some end = first-end k from (Some end) h first in
      let low = first.0.low in
      let high = first.0.high in
      let within = lead-within text from end low (omega arith) in
      let pair : slice_get (zip (boundaries_of s text) (ends_of s text)) k ≡ Some (from, end) = slice_get-zip (boundaries_of s text) (ends_of s text) k from end h ends in
      let place : k + 1 ≡ suc k = omega arith in
      record {
        segment = slice_get-map (segment_in text) (zip (boundaries_of s text) (ends_of s text)) k
            ∙ ap (option_map (segment_in text)) pair;
        next = ap (slice_get (boundaries_of s text)) place
            ∙ (slice_get-map (λ (e : ℕ). e + 1) (ends_of s text) k ∙ ap (option_map (λ (e : ℕ). e + 1)) ends);
        low = within.low;
        ordered = within.high;
        within = high;
      }

  -- after the last end comes the tail, or nothing
  pub past-at : (k from : ℕ) → slice_get (boundaries_of s text) k ≡ Some from → IsFirst (IsFree s.release (One s.terminator) text from) from (length text) None
      → (length (segments_of s text) ≡ k) × (tail_of s text ≡ cond (ltb (lead text from (length text)) (length text)) (Some (lead text from (length text))) None)
  unfolding boundaries_of segments_of tail_of
  past-at k from h first =
      let none : slice_get (ends_of s text) k ≡ None = first-end k from None h first in
      let few : length (ends_of s text) ≤ k = length-none (ends_of s text) k none in
      let more : k < length (boundaries_of s text) = slice_get_within (boundaries_of s text) k from h in
      let starts : length (map (λ (e : ℕ). e + 1) (ends_of s text)) ≡ length (ends_of s text) = length-map (ends_of s text) (λ (e : ℕ). e + 1) in
      let all : length (ends_of s text) ≡ k = omega arith in
      let count : length (segments_of s text) ≡ min (length (boundaries_of s text)) (length (ends_of s text)) =
      length-map (zip (boundaries_of s text) (ends_of s text)) (segment_in text) ∙ length-zip (boundaries_of s text) (ends_of s text) in
      let last : get_or (boundaries_of s text) (length (ends_of s text)) 0 ≡ from =
      ap (λ (i : ℕ). get_or (boundaries_of s text) i 0) all ∙ get_or_from_slice_get (boundaries_of s text) k from 0 h in (
        omega arith,
        ap (λ (i : ℕ). cond (ltb (lead text i (length text)) (length text)) (Some (lead text i (length text))) None) last,
      )

module _ (s : Service) (text : List ℕ) where
  -- the body's start is the first boundary
  pub boundary-zero : slice_get (boundaries_of s text) 0 ≡ Some s.body
  unfolding boundaries_of
  boundary-zero = refl

  pub first-boundary : IsBoundary s text s.body
  first-boundary = (0, boundary-zero)

module _ (s : Service) (text : List ℕ) (usable : IsUsable s text) where
  pub boundary-high : (from : ℕ) → IsBoundary s text from → from ≤ length text
  boundary-high from boundary = (boundary-at s text usable boundary.0 from boundary.1).high

  module _ (from len start k : ℕ) (all : len ≡ length text) (h : slice_get (boundaries_of s text) k ≡ Some from) where
    -- what the first unreleased terminator from a boundary on shows, or that there is none
    pub ended-lexed : (end : ℕ) → IsFirst (IsFree s.release (One s.terminator) text from) from len (Some end) → start ≡ lead text from end → IsLexed s text k from (Ended start end)
    ended-lexed end first skipped =
        subst (λ (a : ℕ). IsLexed s text k from (Ended a end)) (sym skipped)
        (ended-at s text usable k from end h (subst (λ (n : ℕ). IsFirst (IsFree s.release (One s.terminator) text from) from n (Some end)) all first))

    past : IsFirst (IsFree s.release (One s.terminator) text from) from len None → start ≡ lead text from len → (length (segments_of s text) ≡ k) × (tail_of s text ≡ cond (ltb start len) (Some start) None)
    past first skipped =
        let at = past-at s text usable k from h (subst (λ (n : ℕ). IsFirst (IsFree s.release (One s.terminator) text from) from n None) all first) in
        let same : lead text from (length text) ≡ start = sym (skipped ∙ ap (lead text from) all) in
        (at.0, at.1 ∙ (ap (λ (a : ℕ). cond (ltb a (length text)) (Some a) None) same ∙ ap (λ (n : ℕ). cond (ltb start n) (Some start) None) (sym all)))

    pub tail-lexed : IsFirst (IsFree s.release (One s.terminator) text from) from len None → start ≡ lead text from len → start < len → IsLexed s text k from (Tail start)
    tail-lexed first skipped below =
        let at = past first skipped in
        (at.0, at.1 ∙ ap (λ (b : Bool). cond b (Some start) None) (lt-ltb start len below))

    pub nothing-lexed : IsFirst (IsFree s.release (One s.terminator) text from) from len None → start ≡ lead text from len → len ≤ start → IsLexed s text k from Nothing
    nothing-lexed first skipped above =
        let at = past first skipped in
        (at.0, at.1 ∙ ap (λ (b : Bool). cond b (Some start) None) (le-ltb start len above))
