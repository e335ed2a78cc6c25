-- The segments of a text by their places, and the walk over them that skips those that aren't notable.
use Rattle.std.proofs.Common.{◌≡◌, ℕ, zero, suc, ◌+◌, ◌-◌, ◌<◌, ◌≤◌, Bool, true, false, cond, List, [], ◌∷◌, length, get_or, take, drop, sum_by, Option, Some, None, refl, sym, ap, ◌∙◌, subst, inl, inr, arith, take-take}
use Rattle.std.specs.Prelude.{filter, slice_get, ◌||◌, if◌then◌else◌}
use Rattle.std.proofs.lemmas.Bool.{cases_Bool, cases_lt}
use Rattle.std.proofs.lemmas.List.{drop_all, drop_more, take_all}
use Rattle.std.proofs.lemmas.List.Sums.{sum_by-cons, sum_by_more, sum_by-take-le}
use Rattle.std.proofs.lemmas.Option.{get_or_from_slice_get, slice_get-get_or, slice_get_past, slice_get_within}
use Rattle.segment_records.specs.Bounds.{bounds_message}
use Rattle.segment_records.specs.Line.{ends_before}
use Rattle.segment_records.specs.Notable.{is_marked, is_notable, marks_of}
use Rattle.segment_records.specs.Records.{Kept}
use Rattle.segment_records.specs.WalkedSegments.{AreStretches, SeenSegment, mode_left, octets_in, seen_from}
use Rattle.segment_records.specs.declared.mode.Mode.{Mode}
use Rattle.segment_records.proofs.NotableLaws.{stops_bounds, unmarked_quiet}
use Rattle.segment_records.proofs.Walking.{stretches_next}

-- a segment by its parts
abbrev pub made : ℕ → ℕ → Mode → Kept → Option Kept → SeenSegment
made number from before kept next = record { number = number; from = from; before = before; kept = kept; next = next }

pub made_alike : (n m f g : ℕ) (b c : Mode) (k l : Kept) (o p : Option Kept) → n ≡ m → f ≡ g → b ≡ c → k ≡ l → o ≡ p
    → Some (made n f b k o) ≡ Some (made m g c l p)
made_alike n m f g b c k l o p en ef eb ek eo =
    ap (λ (v : ℕ). Some (made v f b k o)) en ∙ ap (λ (v : ℕ). Some (made m v b k o)) ef
    ∙ ap (λ (v : Mode). Some (made m g v k o)) eb ∙ ap (λ (v : Kept). Some (made m g c v o)) ek
    ∙ ap (λ (v : Option Kept). Some (made m g c l v)) eo

octets_cons : (kept : Kept) (more : List Kept) (f : ℕ) → (f + kept.octets) + octets_in more ≡ f + octets_in (kept ∷ more)
octets_cons kept more f = omega (arith, sum_by-cons (λ (k : Kept). k.octets) kept more)

-- the segment at a place, of which this is kept
abbrev pub seen_here : ℕ → ℕ → Mode → List Kept → ℕ → Kept → SeenSegment
seen_here number from before records i kept =
    made (number + i) (from + octets_in (take i records)) (mode_left before (take i records)) kept (slice_get records (i + 1))

pub seen_get : (number from : ℕ) (before : Mode) (records : List Kept) (i : ℕ) (kept : Kept) → slice_get records i ≡ Some kept
    → slice_get (seen_from number from before records) i ≡ Some (seen_here number from before records i kept)
seen_get number from before [] zero kept is = absurd (let no : ⊥ = cc in no)
seen_get number from before [] (suc i) kept is = absurd (let no : ⊥ = cc in no)
seen_get number from before (first ∷ more) zero kept is =
    let same : first ≡ kept = cc in
    made_alike number (number + 0) from (from + octets_in []) before before first kept (slice_get more 0) (slice_get more 0)
    (omega arith) (omega arith) refl same refl
seen_get number from before (first ∷ more) (suc i) kept is =
    let place : i + 1 ≡ suc i = omega arith in
    let next : suc i + 1 ≡ suc (suc i) = omega arith in
    let after = first.step.after in
    seen_get (number + 1) (from + first.octets) after more i kept is
    ∙ made_alike (number + 1 + i) (number + suc i) (from + first.octets + octets_in (take i more)) (from + octets_in (first ∷ take i more))
    (mode_left after (take i more)) (mode_left after (take i more)) kept kept (slice_get more (i + 1)) (slice_get (first ∷ more) (suc i + 1))
    (omega arith) (octets_cons first (take i more) from) refl refl
    (ap (slice_get more) place ∙ ap (slice_get (first ∷ more)) (sym next))

-- the segments from a place on
pub seen_drop : (number from : ℕ) (before : Mode) (records : List Kept) (i : ℕ) → i ≤ length records
    → seen_from (number + i) (from + octets_in (take i records)) (mode_left before (take i records)) (drop i records)
    ≡ drop i (seen_from number from before records)
seen_drop number from before records zero low =
    let n : number + 0 ≡ number = omega arith in
    let f : from + 0 ≡ from = omega arith in
    ap (λ (v : ℕ). seen_from v (from + 0) before records) n ∙ ap (λ (v : ℕ). seen_from number v before records) f
seen_drop number from before [] (suc i) low = refl
seen_drop number from before (first ∷ more) (suc i) low =
    let n : number + suc i ≡ number + 1 + i = omega arith in
    ap (λ (v : ℕ). seen_from v (from + octets_in (first ∷ take i more)) (mode_left first.step.after (take i more)) (drop i more)) n
    ∙ ap (λ (v : ℕ). seen_from (number + 1 + i) v (mode_left first.step.after (take i more)) (drop i more)) (sym (octets_cons first (take i more) from))
    ∙ seen_drop (number + 1) (from + first.octets) first.step.after more i (omega arith)

pub length_seen : (number from : ℕ) (before : Mode) (records : List Kept) → length (seen_from number from before records) ≡ length records
length_seen number from before [] = refl
length_seen number from before (first ∷ more) = ap suc (length_seen (number + 1) (from + first.octets) first.step.after more)

-- the mode after the segment at a place
pub mode_at : (before : Mode) (records : List Kept) (i : ℕ) (kept : Kept) → slice_get records i ≡ Some kept
    → mode_left before (take (i + 1) records) ≡ kept.step.after
mode_at before [] zero kept is = absurd (let no : ⊥ = cc in no)
mode_at before [] (suc i) kept is = absurd (let no : ⊥ = cc in no)
mode_at before (first ∷ more) zero kept is = let same : first ≡ kept = cc in ap (λ (k : Kept). k.step.after) same
mode_at before (first ∷ more) (suc i) kept is =
    let next : suc i + 1 ≡ suc (i + 1) = omega arith in
    ap (λ (n : ℕ). mode_left before (take n (first ∷ more))) next ∙ mode_at first.step.after more i kept is

-- the mode before the segment at a place is that after the one before it
pub mode_before_place : (before : Mode) (records : List Kept) (place : ℕ) (kept : Kept) → 0 < place → slice_get records (place - 1) ≡ Some kept
    → mode_left before (take place records) ≡ kept.step.after
mode_before_place before records place kept some is =
    let next : (place - 1) + 1 ≡ place = omega arith in
    ap (λ (n : ℕ). mode_left before (take n records)) (sym next) ∙ mode_at before records (place - 1) kept is

-- what is left from a place on begins with the item there
pub drop_get : {A : Type 0} (xs : List A) (i : ℕ) (x : A) → slice_get xs i ≡ Some x → drop i xs ≡ x ∷ drop (i + 1) xs
drop_get xs i x is =
    drop_more xs i x (slice_get_within xs i x is) ∙ ap (λ y. y ∷ drop (i + 1) xs) (get_or_from_slice_get xs i x x is)

stretches_alike : (n m f g : ℕ) (records : List Kept) → n ≡ m → f ≡ g → AreStretches n f records → AreStretches m g records
stretches_alike n m f g records en ef it =
    subst (λ (v : ℕ). AreStretches m v records) ef (subst (λ (v : ℕ). AreStretches v f records) en it)

-- the stretches from a place on
pub stretches_drop : (number from : ℕ) (records : List Kept) (i : ℕ) → i ≤ length records → AreStretches number from records
    → AreStretches (number + i) (from + octets_in (take i records)) (drop i records)
stretches_drop number from records zero low it =
    stretches_alike number (number + 0) from (from + octets_in []) records (omega arith) (omega arith) it
stretches_drop number from [] (suc i) low it = absurd (omega arith)
stretches_drop number from (first ∷ more) (suc i) low it =
    stretches_alike (number + 1 + i) (number + suc i) (from + first.octets + octets_in (take i more)) (from + octets_in (first ∷ take i more)) (drop i more)
    (omega arith) (octets_cons first (take i more) from)
    (stretches_drop (number + 1) (from + first.octets) more i (omega arith) (stretches_next number from first more it))

-- a text has no more segments than octets
pub place_short : (from : ℕ) (records : List Kept) (i : ℕ) → AreStretches 1 from records → i ≤ length records → i ≤ 4194304
place_short from records i it low =
    let left = stretches_drop 1 from records i low it in
    let within = left.within in
    let numbered = left.numbered in omega arith

pub stretches_at_place : (from : ℕ) (records : List Kept) (i : ℕ) (kept : Kept) → AreStretches 1 from records → slice_get records i ≡ Some kept
    → AreStretches (1 + i) (from + octets_in (take i records)) (kept ∷ drop (i + 1) records)
stretches_at_place from records i kept it is =
    let within = slice_get_within records i kept is in
    subst (AreStretches (1 + i) (from + octets_in (take i records))) (drop_get records i kept is) (stretches_drop 1 from records i (omega arith) it)

-- the weight of the first so many is no less for more of them
pub sum_by_take_le : {A : Type 0} (m : A → ℕ) (xs : List A) (i j : ℕ) → i ≤ j → sum_by m (take i xs) ≤ sum_by m (take j xs)
sum_by_take_le m xs i j low =
    subst (λ ys. sum_by m ys ≤ sum_by m (take j xs)) (take-take i j xs low) (sum_by-take-le m (take j xs) i)

pub sum_by_next : {A : Type 0} (m : A → ℕ) (xs : List A) (i : ℕ) (x : A) → slice_get xs i ≡ Some x → sum_by m (take (i + 1) xs) ≡ sum_by m (take i xs) + m x
sum_by_next m xs i x is = sum_by_more m xs i x (slice_get_within xs i x is) ∙ ap (λ y. sum_by m (take i xs) + m y) (get_or_from_slice_get xs i x x is)

pub octets_next : (records : List Kept) (i : ℕ) (kept : Kept) → slice_get records i ≡ Some kept
    → octets_in (take (i + 1) records) ≡ octets_in (take i records) + kept.octets
octets_next records i kept is = sum_by_next (λ (k : Kept). k.octets) records i kept is

-- a list that a test keeps, from a member on
module _ {A : Type 0} (p : A → Bool) (xs : List A) (i : ℕ) (x : A) (is : slice_get xs i ≡ Some x) where
  pub filter_keeps : p x ≡ true → filter p (drop i xs) ≡ x ∷ filter p (drop (i + 1) xs)
  filter_keeps kept =
      ap (filter p) (drop_get xs i x is) ∙ ap (λ (b : Bool). cond b (x ∷ filter p (drop (i + 1) xs)) (filter p (drop (i + 1) xs))) kept

  pub filter_skips : p x ≡ false → filter p (drop i xs) ≡ filter p (drop (i + 1) xs)
  filter_skips not_kept =
      ap (filter p) (drop_get xs i x is) ∙ ap (λ (b : Bool). cond b (x ∷ filter p (drop (i + 1) xs)) (filter p (drop (i + 1) xs))) not_kept

none_marked : (kept : Kept) → marks_of kept ≡ 0 → is_marked kept ≡ false
none_marked kept none = elim (cases_Bool (is_marked kept)) [
  | inl marked ↦
      let one : marks_of kept ≡ 1 = ap (λ (b : Bool). if b then 1 else 0) marked in absurd (omega arith)
  | inr unmarked ↦ unmarked
]

one_marked : (kept : Kept) → marks_of kept ≡ 1 → is_marked kept ≡ true
one_marked kept one = elim (cases_Bool (is_marked kept)) [
  | inl marked ↦ marked
  | inr unmarked ↦
      let none : marks_of kept ≡ 0 = ap (λ (b : Bool). if b then 1 else 0) unmarked in absurd (omega arith)
]

or_second : (a b : Bool) → b ≡ true → a || b ≡ true
or_second true b is = refl
or_second false b is = is

module _ (from : ℕ) (before : Mode) (records : List Kept) where
  abbrev all : List SeenSegment
  all = seen_from 1 from before records

  abbrev marked_before : ℕ → ℕ
  marked_before i = sum_by marks_of (take i records)

  -- a record up to which none more is marked isn't marked
  unmarked_at : (d q : ℕ) (kept : Kept) → slice_get records q ≡ Some kept → d ≤ q → marked_before (q + 1) ≡ marked_before d
      → (is_marked kept ≡ false) × (marked_before q ≡ marked_before d)
  unmarked_at d q kept is low same =
      let next = sum_by_next marks_of records q kept is in
      let more = sum_by_take_le marks_of records d q low in
      (none_marked kept (omega arith), omega arith)

  unmarked_bounds : (kept : Kept) → is_marked kept ≡ false → bounds_message kept.tag ≡ false
  unmarked_bounds kept unmarked = stops_bounds kept.tag (unmarked_quiet kept unmarked).stops

  -- segments that aren't marked are skipped, up to one that bounds no message
  skip : (d j : ℕ) (last : Kept) → slice_get records (d + j) ≡ Some last → bounds_message last.tag ≡ false
      → marked_before (d + j) ≡ marked_before d → filter is_notable (drop d all) ≡ filter is_notable (drop (d + j) all)
  skip d zero last is inside same = let place : d ≡ d + 0 = omega arith in ap (λ (n : ℕ). filter is_notable (drop n all)) place
  skip d (suc j) last is inside same =
      let q : ℕ = d + j in
      let place : q + 1 ≡ d + suc j = omega arith in
      let below : q < length records = let within = slice_get_within records (d + suc j) last is in omega arith in
      let kept : Kept = get_or records q last in
      let at : slice_get records q ≡ Some kept = slice_get-get_or records q last below in
      let un = unmarked_at d q kept at (omega arith) (ap marked_before place ∙ same) in
      let next : slice_get records (q + 1) ≡ Some last = ap (slice_get records) place ∙ is in
      let not_notable : is_notable (seen_here 1 from before records q kept) ≡ false =
      ap (λ (b : Bool). b || ends_before (slice_get records (q + 1))) un.0
      ∙ ap ends_before next ∙ inside in
      skip d j kept at (unmarked_bounds kept un.0) un.1
      ∙ filter_skips is_notable all q (seen_here 1 from before records q kept) (seen_get 1 from before records q kept at) not_notable
      ∙ ap (λ (n : ℕ). filter is_notable (drop n all)) place

  skip_to : (d q : ℕ) (last : Kept) → d ≤ q → slice_get records q ≡ Some last → bounds_message last.tag ≡ false
      → marked_before q ≡ marked_before d → filter is_notable (drop d all) ≡ filter is_notable (drop q all)
  skip_to d q last low is inside same =
      let place : d + (q - d) ≡ q = omega arith in
      skip d (q - d) last (ap (slice_get records) place ∙ is) inside (ap marked_before place ∙ same)
      ∙ ap (λ (n : ℕ). filter is_notable (drop n all)) place

  -- the segment at a place that is notable is the next one
  take_at : (d q : ℕ) (kept : Kept) (seen : SeenSegment) → slice_get records q ≡ Some kept → slice_get all q ≡ Some seen
      → is_notable (seen_here 1 from before records q kept) ≡ true → filter is_notable (drop d all) ≡ filter is_notable (drop q all)
      → filter is_notable (drop d all) ≡ seen ∷ filter is_notable (drop (q + 1) all)
  take_at d q kept seen at is notable skipped =
      let one = seen_get 1 from before records q kept at in
      let same : seen_here 1 from before records q kept ≡ seen = some_same (sym one ∙ is) in
      skipped ∙ filter_keeps is_notable all q (seen_here 1 from before records q kept) one notable
      ∙ ap (λ (s : SeenSegment). s ∷ filter is_notable (drop (q + 1) all)) same
    where
      some_same : {A : Type 0} {x y : A} → Some x ≡ Some y → x ≡ y
      some_same e = cc

  -- the last segment, where none that is left is marked
  pub take_last : (d q : ℕ) (seen : SeenSegment) → d ≤ q → q + 1 ≡ length records → sum_by marks_of records ≡ marked_before d
      → slice_get all q ≡ Some seen → filter is_notable (drop d all) ≡ seen ∷ filter is_notable (drop (q + 1) all)
  take_last d q seen low last same is =
      let below : q < length records = omega arith in
      let kept : Kept = get_or records q seen.kept in
      let at : slice_get records q ≡ Some kept = slice_get-get_or records q seen.kept below in
      let whole : marked_before (q + 1) ≡ sum_by marks_of records = ap (sum_by marks_of) (take_all (q + 1) records (omega arith)) in
      let un = unmarked_at d q kept at low (whole ∙ same) in
      let none : slice_get records (q + 1) ≡ None = slice_get_past records (q + 1) (omega arith) in
      take_at d q kept seen at is
      (or_second (is_marked kept) (ends_before (slice_get records (q + 1))) (ap ends_before none))
      (skip_to d q kept low at (unmarked_bounds kept un.0) un.1)

  -- the segment before a marked one that bounds a message
  pub take_before : (d q : ℕ) (next : Kept) (seen : SeenSegment) → d ≤ q → slice_get records (q + 1) ≡ Some next
      → bounds_message next.tag ≡ true → marked_before (q + 1) ≡ marked_before d
      → slice_get all q ≡ Some seen → filter is_notable (drop d all) ≡ seen ∷ filter is_notable (drop (q + 1) all)
  take_before d q next seen low follows bounds same is =
      let below : q < length records = let within = slice_get_within records (q + 1) next follows in omega arith in
      let kept : Kept = get_or records q next in
      let at : slice_get records q ≡ Some kept = slice_get-get_or records q next below in
      let un = unmarked_at d q kept at low same in
      take_at d q kept seen at is
      (or_second (is_marked kept) (ends_before (slice_get records (q + 1))) (ap ends_before follows ∙ bounds))
      (skip_to d q kept low at (unmarked_bounds kept un.0) un.1)

  -- a marked one
  pub take_marked : (d q : ℕ) (kept : Kept) (seen : SeenSegment) → d ≤ q → slice_get records q ≡ Some kept → marks_of kept ≡ 1
      → (d < q → bounds_message kept.tag ≡ false) → marked_before q ≡ marked_before d
      → slice_get all q ≡ Some seen → filter is_notable (drop d all) ≡ seen ∷ filter is_notable (drop (q + 1) all)
  take_marked d q kept seen low at one inside same is =
      take_at d q kept seen at is
      (ap (λ (b : Bool). b || ends_before (slice_get records (q + 1))) (one_marked kept one))
      (elim (cases_lt d q) [
        | inl less ↦ skip_to d q kept low at (inside less) same
        | inr not_less ↦ let place : d ≡ q = omega arith in ap (λ (n : ℕ). filter is_notable (drop n all)) place
      ])

  -- a marked one before which no more are marked than are done with isn't done with
  pub rank_after : (d q : ℕ) (kept : Kept) → slice_get records q ≡ Some kept → marks_of kept ≡ 1 → marked_before q ≡ marked_before d → d ≤ q
  rank_after d q kept at one same = elim (cases_lt q d) [
    | inl less ↦
        let next = sum_by_next marks_of records q kept at in
        let more = sum_by_take_le marks_of records (q + 1) d (omega arith) in
        absurd (omega arith)
    | inr not_less ↦ not_less
  ]

  -- none is left
  pub take_none : (d : ℕ) → d ≡ length records → filter is_notable (drop d all) ≡ []
  take_none d end = ap (filter is_notable) (drop_all d all (omega (arith, length_seen 1 from before records)))
