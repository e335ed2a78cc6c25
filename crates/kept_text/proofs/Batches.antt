-- What the records of a batch are, and what is left of a text after a number of its segments.
use Rattle.std.proofs.Common.{◌≡◌, ℕ, zero, suc, ◌+◌, ◌-◌, ◌<◌, ◌≤◌, List, [], ◌∷◌, ◌++◌, length, get_or, take, drop, Option, Some, None, inl, inr, refl, sym, ap, ◌∙◌, subst, arith, add-one}
use Rattle.std.specs.List.{slice_get}
use Rattle.std.proofs.lemmas.Bool.{cases_lt}
use Rattle.std.proofs.lemmas.List.{take_all}
use Rattle.std.proofs.lemmas.Option.{slice_get-get_or, slice_get_past, slice_get_within}
use Rattle.std.proofs.Math.Seq.{take-append_seam}
use Rattle.dir_compile.specs.declared.parts.Parts.{Parts}
use Rattle.dir_compile.specs.Directory.{IsDirectory}
use Rattle.seg_lexer.specs.Context.{context_of}
use Rattle.seg_lexer.specs.Segments.{IsBoundary, boundaries_of, ends_of}
use Rattle.seg_lexer.specs.Service.{service_of}
use Rattle.seg_lexer.specs.declared.context.Context.{Context}
use Rattle.seg_lexer.proofs.ContextEnds.{context-usable}
use Rattle.segment_records.specs.Records.{IsModeOf, Kept, kept_from, records_from}
use Rattle.segment_records.specs.Count.{segment_count_of}
use Rattle.segment_records.specs.Messages.{mode_after}
use Rattle.segment_records.specs.Segments.{Segment, segments_of_text}
use Rattle.segment_records.specs.Steps.{mode_from}
use Rattle.segment_records.specs.WalkedSegments.{AreStretches, kept_in, mode_left, octets_in, seen_in}
use Rattle.segment_records.specs.declared.mode.Mode.{Mode}
use Rattle.segment_records.specs.declared.mode.Mode.TheVariants.{Outside}
use Rattle.segment_records.proofs.Counts.{mode_more}
use Rattle.segment_records.proofs.Headed.{count_segments}
use Rattle.segment_records.proofs.Held.{mode_first}
use Rattle.segment_records.proofs.ModeLaws.{length_kept, mode_belongs, mode_from_is}
use Rattle.segment_records.proofs.Rests.{kept_rest}
use Rattle.segment_records.proofs.Skipping.{length_seen, made, made_alike, mode_at, mode_before_place, octets_next, seen_get, stretches_at_place, stretches_drop}
use Rattle.segment_records.proofs.Stretches.{body_same, kept_stretches, last_boundary}
use Rattle.segment_records.proofs.Walking.{first_within}
use Rattle.kept_text.specs.Passing.{IsPassing}
use Rattle.kept_text.specs.declared.passing.PassingSegments.TheInside.{Inside}
use Rattle.kept_text.proofs.KeptEnds.{boundary_number}
use Rattle.kept_text.proofs.ModesTaken.{member_at, record_mode}
use Rattle.kept_text.proofs.Records.{drop_kept}

-- the first of a list with a rest are the first of the list
pub taken_full : {A : Type 0} (read rest all : List A) (n : ℕ) → length read ≡ n → read ++ rest ≡ all → read ≡ take n all
taken_full read rest all n long is =
    sym (take-append_seam read rest) ∙ ap (take (length read)) is ∙ ap (λ (n : ℕ). take n all) long

-- and all of it, where it is short
pub taken_all : {A : Type 0} (read all : List A) (n : ℕ) → length read ≤ n → read ≡ all → read ≡ take n all
taken_all read all n short is =
    let long = ap length is in
    is ∙ sym (take_all n all (omega arith))

-- what is at a place of the first so many
pub taken_get : {A : Type 0} (n : ℕ) (xs : List A) (p : ℕ) → p < n → slice_get (take n xs) p ≡ slice_get xs p
taken_get zero xs p low = absurd (omega arith)
taken_get (suc n) [] p low = refl
taken_get (suc n) (x ∷ xs) zero low = refl
taken_get (suc n) (x ∷ xs) (suc p) low = taken_get n xs p (omega arith)

-- what is at a place of what is left
pub dropped_get : {A : Type 0} (b : ℕ) (xs : List A) (p : ℕ) → slice_get (drop b xs) p ≡ slice_get xs (b + p)
dropped_get zero xs p = let place : p ≡ 0 + p = omega arith in ap (slice_get xs) place
dropped_get (suc b) [] p = refl
dropped_get (suc b) (x ∷ xs) p =
    let place : suc (b + p) ≡ suc b + p = omega arith in
    dropped_get b xs p ∙ ap (slice_get (x ∷ xs)) place

-- what is at a place of a batch
pub batch_get : {A : Type 0} (batch xs : List A) (b n p : ℕ) → batch ≡ take n (drop b xs) → p < n → slice_get batch p ≡ slice_get xs (b + p)
batch_get batch xs b n p is low =
    ap (λ ys. slice_get ys p) is ∙ taken_get n (drop b xs) p low ∙ dropped_get b xs p

-- there is a segment for each record
count_kept : (dir : Parts) (text : List ℕ) → length (kept_in dir text) ≡ length (segments_of_text text)
unfolding kept_in segments_of_text
count_kept dir text = length_kept dir (context_of text) Outside (segments_of_text text)

pub count_is : (dir : Parts) (text : List ℕ) → length (kept_in dir text) ≡ segment_count_of text
count_is dir text = count_kept dir text ∙ sym (count_segments text)

module _ (dir : Parts) (directory : IsDirectory dir) (text : List ℕ) where
  -- the mode that the first records leave
  pub mode_left_is : (k : ℕ) → k ≤ length (kept_in dir text) → mode_left Outside (take k (kept_in dir text)) ≡ mode_after dir (segments_of_text text) k
  mode_left_is zero within = sym (mode_first dir (segments_of_text text))
  mode_left_is (suc k) within =
      let found = member_at (kept_in dir text) k (omega arith) in
      subst (λ (n : ℕ). mode_left Outside (take n (kept_in dir text)) ≡ mode_after dir (segments_of_text text) n) (add-one k)
      (mode_at Outside (kept_in dir text) k found.0 found.1 ∙ record_mode dir directory text k found.0 found.1)

  -- the boundary after them
  abbrev pub boundary_after : ℕ → ℕ
  boundary_after k = (context_of text).service.body + octets_in (take k (kept_in dir text))

  pub boundary_is : (k : ℕ) → k ≤ length (kept_in dir text) → IsBoundary (context_of text).service text (boundary_after k)
  boundary_is k within = (k, boundary_number dir text k within)

  pub stretches_after : length text ≤ 4194304 → (k : ℕ) → k ≤ length (kept_in dir text) → AreStretches (1 + k) (boundary_after k) (drop k (kept_in dir text))
  stretches_after short k within =
      stretches_drop 1 (context_of text).service.body (kept_in dir text) k within
      (subst (λ (n : ℕ). AreStretches 1 n (kept_in dir text)) (sym (body_same text)) (kept_stretches dir text short))

  -- no node was counted more often in it than there are octets before
  pub mode_belongs_there : length text ≤ 4194304 → (k : ℕ) → k ≤ length (kept_in dir text)
      → IsModeOf dir (boundary_after k) (mode_left Outside (take k (kept_in dir text)))
  mode_belongs_there short k within =
      let count = count_kept dir text in
      let numbered = (stretches_after short k within).numbered in
      subst (IsModeOf dir (boundary_after k)) (sym (mode_left_is k within))
      (mode_more dir k (boundary_after k) (mode_after dir (segments_of_text text) k) (omega arith)
      (mode_belongs dir directory (segments_of_text text) k (omega arith)))

  -- the records after them are those of the octets after that boundary, from that mode on
  pub rest_is : (k : ℕ) → k ≤ length (kept_in dir text)
      → records_from dir (context_of text) (mode_left Outside (take k (kept_in dir text))) (drop (boundary_after k) text) ≡ drop k (kept_in dir text)
  unfolding kept_in segments_of_text
  rest_is k within =
      let segments : List Segment = segments_of_text text in
      let count = count_kept dir text in
      let mode = mode_left Outside (take k (kept_in dir text)) in
      sym (kept_rest dir (context_of text) text (context-usable text) k (boundary_after k) (boundary_number dir text k within) mode)
      ∙ ap (λ (m : Mode). kept_from dir (context_of text) m (drop k segments)) (mode_left_is k within ∙ sym (mode_from_is dir directory segments k (omega arith)))
      ∙ sym (drop_kept dir (context_of text) Outside segments k)

-- what is found at a place within a list is there
pub found_at : {A : Type 0} (xs : List A) (i : ℕ) (x : A) → i < length xs → x ≡ get_or xs i x → slice_get xs i ≡ Some x
found_at xs i x within is = slice_get-get_or xs i x within ∙ ap Some (sym is)

-- nothing is past the end
pub past_none : {A : Type 0} (xs : List A) (i : ℕ) → slice_get xs i ≡ None → length xs ≤ i
past_none xs i none = elim (cases_lt i (length xs)) [
  | inl less ↦
      let found = member_at xs i less in
      let two : None ≡ Some found.0 = sym none ∙ found.1 in
      absurd (let no : ⊥ = cc in no)
  | inr not_less ↦ not_less
]

module _ (p : Inside) (it : IsPassing p) where
  -- the record of a batch at a place is that of the text as many places after the ones before the batch
  pub batch_at : (q : ℕ) → q < 129 → p.begun + q < length (kept_in p.directory.now p.text.now)
      → (x : Kept) × ((slice_get p.batch.items q ≡ Some x) × (slice_get (kept_in p.directory.now p.text.now) (p.begun + q) ≡ Some x))
  batch_at q low within =
      let found = member_at (kept_in p.directory.now p.text.now) (p.begun + q) within in
      (found.0, (batch_get p.batch.items (kept_in p.directory.now p.text.now) p.begun 129 q it.batch low ∙ found.1, found.1))

  -- what is in a batch is of the text
  pub batch_is : (q : ℕ) (x : Kept) → slice_get p.batch.items q ≡ Some x → q < 129 → slice_get (kept_in p.directory.now p.text.now) (p.begun + q) ≡ Some x
  batch_is q x is low = sym (batch_get p.batch.items (kept_in p.directory.now p.text.now) p.begun 129 q it.batch low) ∙ is

  -- where a batch has nothing, the text has nothing
  pub batch_none : (q : ℕ) → q < 129 → length p.batch.items ≤ q → length (kept_in p.directory.now p.text.now) ≤ p.begun + q
  batch_none q low none = elim (cases_lt (p.begun + q) (length (kept_in p.directory.now p.text.now))) [
    | inl less ↦
        let found = batch_at q low less in
        let within = slice_get_within p.batch.items q found.0 found.1.0 in
        absurd (omega arith)
    | inr not_less ↦ not_less
  ]

  body_here : p.context.service.body ≡ (service_of p.text.now).body
  body_here = ap (λ (c : Context). c.service.body) it.context ∙ body_same p.text.now

  -- after all segments there is the last boundary
  pub last_here : p.begun + p.place ≡ segment_count_of p.text.now
      → p.from ≡ get_or (boundaries_of (service_of p.text.now) p.text.now) (length (ends_of (service_of p.text.now) p.text.now)) 0
  last_here all =
      let count = count_is p.directory.now p.text.now in
      it.from
      ∙ ap (λ (n : ℕ). n + octets_in (take (p.begun + p.place) (kept_in p.directory.now p.text.now))) body_here
      ∙ ap (λ (xs : List Kept). (service_of p.text.now).body + octets_in xs) (take_all (p.begun + p.place) (kept_in p.directory.now p.text.now) (omega arith))
      ∙ last_boundary p.directory.now p.text.now

  -- the mode that the segment before leaves
  pub mode_here : (x : Kept) → 0 < p.place → slice_get p.batch.items (p.place - 1) ≡ Some x
      → x.step.after ≡ mode_left Outside (take (p.begun + p.place) (kept_in p.directory.now p.text.now))
  mode_here x some is =
      let inside = it.inside in
      let at = batch_is (p.place - 1) x is (omega arith) in
      let place : p.begun + (p.place - 1) ≡ p.begun + p.place - 1 = omega arith in
      sym (mode_before_place Outside (kept_in p.directory.now p.text.now) (p.begun + p.place) x (omega arith)
      (ap (slice_get (kept_in p.directory.now p.text.now)) (sym place) ∙ at))

  -- nothing comes after all segments
  pub none_here : length p.batch.items ≤ p.place → slice_get (seen_in p.directory.now p.text.now) (p.begun + p.place) ≡ None
  unfolding seen_in
  none_here none =
      let inside = it.inside in
      let past = batch_none p.place (omega arith) none in
      let long = length_seen 1 (service_of p.text.now).body Outside (kept_in p.directory.now p.text.now) in
      slice_get_past (seen_in p.directory.now p.text.now) (p.begun + p.place) (omega arith)

  -- the segment at hand
  pub seen_at_hand : (x : Kept) (next : Option Kept) (before : Mode) → slice_get p.batch.items p.place ≡ Some x
      → next ≡ slice_get p.batch.items (p.place + 1) → before ≡ mode_left Outside (take (p.begun + p.place) (kept_in p.directory.now p.text.now))
      → Some (made (p.begun + p.place + 1) p.from before x next) ≡ slice_get (seen_in p.directory.now p.text.now) (p.begun + p.place)
  unfolding seen_in
  seen_at_hand x next before is next_is before_is =
      let inside = it.inside in
      let all : List Kept = kept_in p.directory.now p.text.now in
      let k : ℕ = p.begun + p.place in
      let at = batch_is p.place x is (omega arith) in
      let place : p.begun + (p.place + 1) ≡ k + 1 = omega arith in
      let after : slice_get p.batch.items (p.place + 1) ≡ slice_get all (k + 1) =
      batch_get p.batch.items all p.begun 129 (p.place + 1) it.batch (omega arith) ∙ ap (slice_get all) place in
      made_alike (k + 1) (1 + k) p.from ((service_of p.text.now).body + octets_in (take k all)) before (mode_left Outside (take k all)) x x next (slice_get all (k + 1))
      (omega arith) (it.from ∙ ap (λ (n : ℕ). n + octets_in (take k all)) body_here) before_is refl (next_is ∙ after)
      ∙ sym (seen_get 1 (service_of p.text.now).body Outside all k x at)

  -- it lies in a text that isn't too long
  pub stretch_here : (x : Kept) → slice_get p.batch.items p.place ≡ Some x
      → AreStretches (1 + (p.begun + p.place)) p.from (x ∷ drop (p.begun + p.place + 1) (kept_in p.directory.now p.text.now))
  stretch_here x is =
      let inside = it.inside in
      let all : List Kept = kept_in p.directory.now p.text.now in
      let at = batch_is p.place x is (omega arith) in
      subst (λ (n : ℕ). AreStretches (1 + (p.begun + p.place)) n (x ∷ drop (p.begun + p.place + 1) all)) (sym it.from)
      (stretches_at_place p.context.service.body all (p.begun + p.place) x
      (subst (λ (n : ℕ). AreStretches 1 n all) (sym body_here) (kept_stretches p.directory.now p.text.now it.short)) at)

  -- the batch has the segment at hand
  pub at_hand_within : p.begun + p.place < segment_count_of p.text.now → p.place < length p.batch.items
  at_hand_within left =
      let inside = it.inside in
      let count = count_is p.directory.now p.text.now in
      let found = batch_at p.place (omega arith) (omega arith) in
      slice_get_within p.batch.items p.place found.0 found.1.0

  module _ (x : Kept) (is : slice_get p.batch.items p.place ≡ Some x) where
    here : slice_get (kept_in p.directory.now p.text.now) (p.begun + p.place) ≡ Some x
    here = let inside = it.inside in batch_is p.place x is (omega arith)

    pub within_next : p.begun + p.place + 1 ≤ length (kept_in p.directory.now p.text.now)
    within_next = let within = slice_get_within (kept_in p.directory.now p.text.now) (p.begun + p.place) x here in omega arith

    -- the boundary after it
    pub from_next : p.from + x.octets ≡ p.context.service.body + octets_in (take (p.begun + p.place + 1) (kept_in p.directory.now p.text.now))
    from_next =
        let from = it.from in
        omega (arith, octets_next (kept_in p.directory.now p.text.now) (p.begun + p.place) x here)

    pub short_next : p.from + x.octets ≤ 4194304
    short_next = first_within (1 + (p.begun + p.place)) p.from x (drop (p.begun + p.place + 1) (kept_in p.directory.now p.text.now)) (stretch_here x is)

    after_next : p.from + x.octets ≡ boundary_after p.directory.now it.lawful p.text.now (p.begun + p.place + 1)
    after_next = from_next ∙ ap (λ (c : Context). c.service.body + octets_in (take (p.begun + p.place + 1) (kept_in p.directory.now p.text.now))) it.context

    pub boundary_next_here : IsBoundary p.context.service p.text.now (p.from + x.octets)
    boundary_next_here =
        subst (λ (c : Context). IsBoundary c.service p.text.now (p.from + x.octets)) (sym it.context)
        (subst (IsBoundary (context_of p.text.now).service p.text.now) (sym after_next) (boundary_is p.directory.now it.lawful p.text.now (p.begun + p.place + 1) within_next))

    -- the mode after it
    pub mode_next : x.step.after ≡ mode_left Outside (take (p.begun + p.place + 1) (kept_in p.directory.now p.text.now))
    mode_next = sym (mode_at Outside (kept_in p.directory.now p.text.now) (p.begun + p.place) x here)

    pub belongs_next : IsModeOf p.directory.now (p.from + x.octets) x.step.after
    belongs_next =
        subst (λ (n : ℕ). IsModeOf p.directory.now n x.step.after) (sym after_next)
        (subst (IsModeOf p.directory.now (boundary_after p.directory.now it.lawful p.text.now (p.begun + p.place + 1))) (sym mode_next)
        (mode_belongs_there p.directory.now it.lawful p.text.now it.short (p.begun + p.place + 1) within_next))

    -- the records after it
    pub records_next_here : records_from p.directory.now p.context x.step.after (drop (p.from + x.octets) p.text.now)
        ≡ drop (p.begun + p.place + 1) (kept_in p.directory.now p.text.now)
    records_next_here =
        ap (λ (c : Context). records_from p.directory.now c x.step.after (drop (p.from + x.octets) p.text.now)) it.context
        ∙ ap (λ (m : Mode). records_from p.directory.now (context_of p.text.now) m (drop (p.from + x.octets) p.text.now)) mode_next
        ∙ ap (λ (n : ℕ). records_from p.directory.now (context_of p.text.now) (mode_left Outside (take (p.begun + p.place + 1) (kept_in p.directory.now p.text.now))) (drop n p.text.now)) after_next
        ∙ rest_is p.directory.now it.lawful p.text.now (p.begun + p.place + 1) within_next
