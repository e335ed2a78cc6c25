-- The heads that are still to come at a place, read one after the other.
use Rattle.std.proofs.Common.{◌≡◌, ℕ, zero, suc, ◌+◌, ◌-◌, ◌<◌, ◌≤◌, Bool, false, List, [], ◌∷◌, Option, Some, None, length, map, refl, sym, ap, subst, ◌∙◌, inl, inr, arith, eq-eqb}
use Rattle.std.specs.Prelude.{find, is_some, ◌==◌}
use Rattle.std.specs.Option.{option_map_or, option_and_then}
use Rattle.std.specs.List.{range_with_len, filter_map}
use Rattle.std.proofs.lemmas.Bool.{cases_Bool, ne_eqb}
use Rattle.edi_tables.specs.Extents.{tag_in}
use Rattle.envelope_check.specs.Head.{Head}
use Rattle.envelope_check.specs.declared.head.HeadKind.{HeadKind}
use Rattle.envelope_check.specs.declared.head.SegmentMark.{SegmentMark}
use Rattle.envelope_check.specs.Heads.{kind_of, tags_of, start_in, HeadPlace, head_place_of, head_place, head_of, Fits}
use Rattle.envelope_check.specs.Known.{kind_in, head_here, heads_after, has_kind, next_number}

pub length_tags : (marks : List SegmentMark) → length (tags_of marks) ≡ length marks
length_tags [] = refl
length_tags (mark ∷ marks) = ap (λ n. suc n) (length_tags marks)

-- these are the heads of n segments from place a on
pub record Heads (marks : List SegmentMark) (a n : ℕ) (rest : List Head) : Type 0 where
  pub fits : map head_place_of rest ≡ filter_map (head_place marks) (range_with_len a n)

abbrev pub kind_at : List SegmentMark → ℕ → Option HeadKind
kind_at marks i = kind_of (tag_in (tags_of marks) i)

-- the segment at place a is no head, or it is the first
pub data Next (marks : List SegmentMark) (a n : ℕ) (rest : List Head) : Type 0 where
  absent : kind_at marks a ≡ None → Heads marks (a + 1) n rest → Next marks a n rest
  present : (head : Head) (after : List Head) → rest ≡ head ∷ after → head.segment ≡ a + 1 → kind_at marks a ≡ Some head.kind → Heads marks (a + 1) n after → Next marks a n rest

absent_at : (marks : List SegmentMark) (a n : ℕ) (rest : List Head) → kind_at marks a ≡ None → map head_place_of rest ≡ filter_map (head_place marks) (a ∷ range_with_len (a + 1) n) → Next marks a n rest
absent_at marks a n rest none fits = absent none (record { fits = rw none at fits })

empty_full : (y : HeadPlace) (ys : List HeadPlace) → [] ≡ y ∷ ys → ⊥
empty_full y ys same = cc

same_first : (x y : HeadPlace) (xs ys : List HeadPlace) → x ∷ xs ≡ y ∷ ys → x ≡ y
same_first x y xs ys same = cc

present_at : (marks : List SegmentMark) (a n : ℕ) (kind : HeadKind) (rest : List Head) → kind_at marks a ≡ Some kind → map head_place_of rest ≡ (record { segment = a + 1; start = start_in marks a; kind = kind }) ∷ filter_map (head_place marks) (range_with_len (a + 1) n) → Next marks a n rest
present_at marks a n kind [] here fits = absurd (empty_full (record { segment = a + 1; start = start_in marks a; kind = kind }) _ fits)
present_at marks a n kind (head ∷ after) here fits =
    let place = same_first (head_place_of head) (record { segment = a + 1; start = start_in marks a; kind = kind }) (map head_place_of after) (filter_map (head_place marks) (range_with_len (a + 1) n)) fits in
    let same : head.segment ≡ a + 1 = ap (λ (p : HeadPlace). p.segment) place in
    let kinds : head.kind ≡ kind = ap (λ (p : HeadPlace). p.kind) place in
    let more : map head_place_of after ≡ filter_map (head_place marks) (range_with_len (a + 1) n) = cc in
    present head after refl same (here ∙ ap Some (sym kinds)) (record { fits = more })

next_by : (marks : List SegmentMark) (a n : ℕ) (rest : List Head) (kind : Option HeadKind) → kind_at marks a ≡ kind → Heads marks a (suc n) rest → Next marks a n rest
next_by marks a n rest None here heads = absent_at marks a n rest here heads.fits
next_by marks a n rest (Some kind) here heads = present_at marks a n kind rest here (rw here at heads.fits)

pub next : (marks : List SegmentMark) (a n : ℕ) (rest : List Head) → Heads marks a (suc n) rest → Next marks a n rest
next marks a n rest heads = next_by marks a n rest (kind_at marks a) refl heads

pub no_heads : (marks : List SegmentMark) (a : ℕ) (rest : List Head) → Heads marks a 0 rest → rest ≡ []
no_heads marks a [] heads = refl
no_heads marks a (head ∷ rest) heads = let fits = heads.fits in cc

-- no head of segments from place a on is segment k
find_other : (head : Head) (after : List Head) (k : ℕ) → (head.segment ≡ k → ⊥) → head_of (head ∷ after) k ≡ head_of after k
find_other head after k other = rw (ne_eqb head.segment k other) refl

pub head_of-past : (marks : List SegmentMark) (a n k : ℕ) (rest : List Head) → Heads marks a n rest → k ≤ a → head_of rest k ≡ None
head_of-past marks a zero k rest heads low = ap (λ hs. head_of hs k) (no_heads marks a rest heads)
head_of-past marks a (suc n) k rest heads low = elim (next marks a n rest heads) [
  | absent none later ↦ head_of-past marks (a + 1) n k rest later (omega arith)
  | present head after is here kind later ↦
      ap (λ hs. head_of hs k) is ∙ find_other head after k (λ same. omega arith) ∙ head_of-past marks (a + 1) n k after later (omega arith)
]

-- what the front of the heads to come says of segment k
pub record Front (rest : List Head) (k : ℕ) (head : Option Head) (others : List Head) : Type 0 where
  pub here : head_here rest k ≡ head
  pub after : heads_after rest k ≡ others

front_none : (rest : List Head) (k : ℕ) → head_of rest k ≡ None → Front rest k None rest
front_none [] k none = record { here = refl; after = refl }
front_none (head ∷ after) k none = elim (cases_Bool (head.segment == k)) [
  | inl same ↦ let it = rw same at none in cc
  | inr other ↦ record { here = rw other refl; after = rw other refl }
]

front_some : (head : Head) (after : List Head) (k : ℕ) → head.segment ≡ k → Front (head ∷ after) k (Some head) after
front_some head after k same = record { here = rw (eq-eqb head.segment k same) refl; after = rw (eq-eqb head.segment k same) refl }

-- a segment before the next head is no head, and leaves the same ones to come
pub front_before : (rest : List Head) (k total : ℕ) → k < next_number rest total → Front rest k None rest
front_before [] k total low = record { here = refl; after = refl }
front_before (head ∷ after) k total low =
    let other = ne_eqb head.segment k (λ same. omega arith) in
    record { here = rw other refl; after = rw other refl }

-- the next head is one of the segments to come
pub next_ahead : (marks : List SegmentMark) (a n total : ℕ) (rest : List Head) → Heads marks a n rest → a + n ≡ total → (a < next_number rest total) × (next_number rest total ≤ total + 1)
next_ahead marks a zero total rest heads sum = rw (no_heads marks a rest heads) (omega arith, omega arith)
next_ahead marks a (suc n) total rest heads sum = elim (next marks a n rest heads) [
  | absent none later ↦ let it = next_ahead marks (a + 1) n total rest later (omega arith) in (omega (arith, it.0), it.1)
  | present head after is here kind later ↦ rw is (omega arith, omega arith)
]

-- the heads to come at place i, among all heads
pub record IsAhead (heads : List Head) (marks : List SegmentMark) (i : ℕ) (rest : List Head) : Type 0 where
  pub fits : Heads marks i (length marks - i) rest
  pub same : (k : ℕ) → i < k → head_of heads k ≡ head_of rest k

pub ahead_first : (heads : List Head) (marks : List SegmentMark) → Fits heads marks → IsAhead heads marks 0 heads
ahead_first heads marks fits =
    record { fits = record { fits = subst (λ n. map head_place_of heads ≡ filter_map (head_place marks) (range_with_len 0 n)) (omega arith) fits }; same = λ k past. refl }

-- what a segment is, and what is ahead after it
pub record Here (heads : List Head) (marks : List SegmentMark) (i : ℕ) (here : Option Head) (after : List Head) : Type 0 where
  pub found : here ≡ head_of heads (i + 1)
  pub kind : kind_in here ≡ kind_at marks i
  pub ahead : IsAhead heads marks (i + 1) after

here_absent : (heads : List Head) (marks : List SegmentMark) (i n : ℕ) (rest : List Head) → IsAhead heads marks i rest → length marks - (i + 1) ≡ n → kind_at marks i ≡ None → Heads marks (i + 1) n rest → Here heads marks i (head_here rest (i + 1)) (heads_after rest (i + 1))
here_absent heads marks i n rest ahead left none later =
    let past = head_of-past marks (i + 1) n (i + 1) rest later (omega arith) in
    let front = front_none rest (i + 1) past in
    rw (front.here, front.after) (record {
      found = sym (ahead.same (i + 1) (omega arith) ∙ past);
      kind = sym none;
      ahead = record { fits = rw left later; same = λ k low. ahead.same k (omega arith) };
    })

here_present : (heads : List Head) (marks : List SegmentMark) (i n : ℕ) (head : Head) (after : List Head) → IsAhead heads marks i (head ∷ after) → length marks - (i + 1) ≡ n → head.segment ≡ i + 1 → kind_at marks i ≡ Some head.kind → Heads marks (i + 1) n after → Here heads marks i (head_here (head ∷ after) (i + 1)) (heads_after (head ∷ after) (i + 1))
here_present heads marks i n head after ahead left here kind later =
    let front = front_some head after (i + 1) here in
    rw (front.here, front.after) (record {
      found = sym (ahead.same (i + 1) (omega arith) ∙ rw (eq-eqb head.segment (i + 1) here) refl);
      kind = sym kind;
      ahead = record { fits = rw left later; same = λ k low. ahead.same k (omega arith) ∙ find_other head after k (λ same. omega arith) };
    })

pub here_at : (heads : List Head) (marks : List SegmentMark) (i : ℕ) (rest : List Head) → i < length marks → IsAhead heads marks i rest → Here heads marks i (head_here rest (i + 1)) (heads_after rest (i + 1))
here_at heads marks i rest within ahead =
    let n = length marks - (i + 1) in
    let left : length marks - i ≡ suc n = omega arith in
    let fits : Heads marks i (suc n) rest = subst (λ m. Heads marks i m rest) left ahead.fits in
    elim (next marks i n rest fits) [
      | absent none later ↦ here_absent heads marks i n rest ahead refl none later
      | present head after is here kind later ↦
          subst (λ hs. Here heads marks i (head_here hs (i + 1)) (heads_after hs (i + 1))) (sym is)
          (here_present heads marks i n head after (subst (IsAhead heads marks i) is ahead) refl here kind later)
    ]

-- a test of a place by the kind of its segment
abbrev pub at_kind : (HeadKind → Bool) → List SegmentMark → ℕ → Bool
at_kind p marks j = option_map_or p (kind_at marks j) false

-- the kind of the first head that passes is that of the first place that does
pub find_ahead : (p : HeadKind → Bool) (marks : List SegmentMark) (a n : ℕ) (rest : List Head) → Heads marks a n rest → kind_in (find (λ head. p head.kind) rest) ≡ option_and_then (kind_at marks) (find (at_kind p marks) (range_with_len a n))
find_ahead p marks a zero rest heads = ap (λ hs. kind_in (find (λ head. p head.kind) hs)) (no_heads marks a rest heads)
find_ahead p marks a (suc n) rest heads = elim (next marks a n rest heads) [
  | absent none later ↦ find_ahead p marks (a + 1) n rest later ∙ rw none refl
  | present head after is here kind later ↦
      ap (λ hs. kind_in (find (λ h. p h.kind) hs)) is ∙ elim (cases_Bool (p head.kind)) [
        | inl passes ↦ rw (kind, passes) (sym kind)
        | inr fails ↦ rw (kind, fails) (find_ahead p marks (a + 1) n after later)
      ]
]

-- a head of a kind is among those to come where a segment there is one
pub any_ahead : (p : HeadKind → Bool) (marks : List SegmentMark) (a n : ℕ) (rest : List Head) → Heads marks a n rest → has_kind p rest ≡ is_some (find (at_kind p marks) (range_with_len a n))
any_ahead p marks a zero rest heads = ap (has_kind p) (no_heads marks a rest heads)
any_ahead p marks a (suc n) rest heads = elim (next marks a n rest heads) [
  | absent none later ↦ any_ahead p marks (a + 1) n rest later ∙ rw none refl
  | present head after is here kind later ↦
      ap (has_kind p) is ∙ elim (cases_Bool (p head.kind)) [
        | inl passes ↦ rw (kind, passes) refl
        | inr fails ↦ rw (kind, fails) (any_ahead p marks (a + 1) n after later)
      ]
]
