-- The messages of a text that are asked for: all of them, or those that have one of some errors.
use Rattle.std.proofs.Common.{◌≡◌, ℕ, ◌-◌, ◌≤◌, Bool, true, false, ◌||◌, cond, leb, ltb, List, [], ◌∷◌, ◌++◌, length, drop, Option, Some, None, refl, sym, ap, ◌∙◌, inl, inr, arith, subst}
use Rattle.std.specs.Prelude.{filter, if◌then◌else◌, is_some}
use Rattle.std.specs.List.{list_any}
use Rattle.std.specs.List.Sorted.{IsPartitionPoint}
use Rattle.std.specs.Option.{ForSome, option_map}
use Rattle.std.proofs.lemmas.Bool.{cases_Bool, cases_lt, le-ltb, lt-ltb}
use Rattle.std.proofs.lemmas.List.{append_assoc, length-drop, length-take-le}
use Rattle.std.proofs.lemmas.List.Elements.{filter-append}
use Rattle.contrl_writer.specs.Levels.{is_among}
use Rattle.contrl_writer.specs.Needed.{is_touched}
use Rattle.contrl_writer.specs.Range.{IsRange}
use Rattle.contrl_writer.proofs.RangeLemmas.{filter-range, range-among}
use Rattle.seg_lexer.specs.declared.service.Service.{Service}
use Rattle.contrl_segments.specs.declared.summary.MessageHead.{MessageHead}
use Rattle.segment_records.specs.Look.{seen_of}
use Rattle.segment_records.specs.WalkedSegments.{LiesIn, SeenSegment}
use Rattle.segment_records.specs.Spans.{Spanning, ended_by, heads_from, last_by, message_seen}
use Rattle.segment_records.proofs.Spanned.{heads_done, heads_on, heads_stop}
use Rattle.edi_engine.specs.declared.message_heads.Opened.{Opened}

-- a walk that gathers heads, of which those are kept that pass a test: one member further
module _ {S H : Type 0} (p : H → Bool) (by : Spanning S H) (count : ℕ) where
  module _ (left : List S) (x : S) (rest : List S) (is : left ≡ x ∷ rest) where
    pub asked_stop : (done more all : List H) (current after : Option H) (last : ℕ) → by.stops x ≡ true → last ≡ last_by (by.closes x) (by.number x)
        → more ≡ done ++ filter p (ended_by by.ended current last) → after ≡ (if by.opens x then Some (by.head x) else None)
        → done ++ filter p (heads_from by count current left) ≡ all → more ++ filter p (heads_from by count after rest) ≡ all
    asked_stop done more all current after last stops last_is more_is after_is so_far =
        let ended : List H = ended_by by.ended current last in
        let later : List H = heads_from by count after rest in
        ap (λ (ys : List H). ys ++ filter p later) more_is
        ∙ append_assoc done (filter p ended) (filter p later)
        ∙ ap (λ (ys : List H). done ++ ys) (sym (filter-append p ended later))
        ∙ ap (λ (ys : List H). done ++ filter p ys) (heads_stop by count left x rest is [] ended (heads_from by count current left) current after last stops last_is refl after_is refl)
        ∙ so_far

    pub asked_on : (done all : List H) (current : Option H) → by.stops x ≡ false → done ++ filter p (heads_from by count current left) ≡ all
        → done ++ filter p (heads_from by count current rest) ≡ all
    asked_on done all current fails so_far =
        ap (λ (ys : List H). done ++ filter p ys) (heads_on by count left x rest is [] (heads_from by count current left) current fails refl) ∙ so_far

  -- no member is left
  pub asked_done : (left : List S) → left ≡ [] → (done more all : List H) (current : Option H) → more ≡ done ++ filter p (ended_by by.ended current count)
      → done ++ filter p (heads_from by count current left) ≡ all → more ≡ all
  asked_done left none done more all current more_is so_far =
      more_is ∙ ap (λ (ys : List H). done ++ filter p ys) (heads_done by count left none [] (ended_by by.ended current count) (heads_from by count current left) current refl refl) ∙ so_far

-- the message that a segment opens in a group, if it is a UNH
module _ (service : Service) (text : List ℕ) where
  abbrev pub head_opened : Opened → MessageHead
  head_opened opened = message_seen service text opened.group (seen_of opened.unh)

  abbrev pub LiesOpened : Opened → Type 0
  LiesOpened opened = LiesIn text (seen_of opened.unh)

  -- it is of this segment in this group
  abbrev pub IsOpened : Option ℕ → SeenSegment → Opened → Type 0
  IsOpened group seen opened = (opened.group ≡ group) × (seen_of opened.unh ≡ seen)

  pub opened_head : (o : Option Opened) (group : Option ℕ) (seen : SeenSegment) (v : Bool) → is_some o ≡ v → ForSome o (IsOpened group seen)
      → option_map head_opened o ≡ (if v then Some (message_seen service text group seen) else None)
  opened_head None group seen v is here = ap (λ (w : Bool). if w then Some (message_seen service text group seen) else None) is
  opened_head (Some x) group seen v is here =
      let own = here x refl in
      ap (λ (g : Option ℕ). Some (message_seen service text g (seen_of x.unh))) own.0
      ∙ ap (λ (s : SeenSegment). Some (message_seen service text group s)) own.1
      ∙ ap (λ (w : Bool). if w then Some (message_seen service text group seen) else None) is

  pub opened_lies : (o : Option Opened) (group : Option ℕ) (seen : SeenSegment) → ForSome o (IsOpened group seen) → LiesIn text seen → ForSome o LiesOpened
  opened_lies o group seen here lies = λ x is. subst (LiesIn text) (sym (here x is).1) lies

-- one of all passes a test where the filter keeps some
any-length : {X : Type 0} (p : X → Bool) (xs : List X) → list_any p xs ≡ ltb 0 (length (filter p xs))
any-length p [] = refl
any-length p (x ∷ xs) = elim (cases_Bool (p x)) [
  | inl is ↦
      ap (λ (b : Bool). b || list_any p xs) is
      ∙ sym (lt-ltb 0 (length (x ∷ filter p xs)) (omega arith))
      ∙ sym (ap (λ (b : Bool). ltb 0 (length (cond b (x ∷ filter p xs) (filter p xs)))) is)
  | inr isnt ↦
      ap (λ (b : Bool). b || list_any p xs) isnt
      ∙ any-length p xs
      ∙ sym (ap (λ (b : Bool). ltb 0 (length (cond b (x ∷ filter p xs) (filter p xs)))) isnt)
]

-- an error is at one of the segments first..last, where those before the one end before those up to the other
module _ {X : Type 0} (n : X → ℕ) (xs : List X) (first last from to : ℕ) (from_within : from ≤ length xs) (to_within : to ≤ length xs)
    (low : IsPartitionPoint (λ x. ltb (n x) first ≡ true) (λ x. ltb (n x) first ≡ false) xs from)
    (high : IsPartitionPoint (λ x. leb (n x) last ≡ true) (λ x. leb (n x) last ≡ false) xs to) where
  abbrev inside : X → Bool
  inside x = is_among first last (n x)

  kept_many : (end : ℕ) → from ≤ end → end ≤ length xs → IsRange inside xs from (end - from) → length (filter inside xs) ≡ end - from
  kept_many end above within range =
      let left : length (drop from xs) ≡ length xs - from = length-drop from xs in
      ap length (sym (filter-range inside xs from (end - from) range)) ∙ length-take-le (end - from) (drop from xs) (omega arith)

  pub some_among : ltb from to ≡ list_any inside xs
  some_among = elim (cases_lt from to) [
    | inl less ↦
        let many : length (filter inside xs) ≡ to - from = kept_many to (omega arith) to_within (range-among n xs first last from to from_within to_within low high to (omega arith) (omega arith) to_within (λ below. refl)) in
        lt-ltb from to less ∙ sym (any-length inside xs ∙ lt-ltb 0 (length (filter inside xs)) (omega arith))
    | inr least ↦
        let many : length (filter inside xs) ≡ from - from = kept_many from (omega arith) from_within (range-among n xs first last from to from_within to_within low high from (omega arith) least from_within (λ below. absurd (omega arith))) in
        le-ltb from to least ∙ sym (any-length inside xs ∙ le-ltb 0 (length (filter inside xs)) (omega arith))
  ]

-- none is where there is no error
pub none_touched : (messages : List MessageHead) → filter (is_touched []) messages ≡ []
none_touched [] = refl
none_touched (m ∷ ms) = none_touched ms

pub no_errors : {X : Type 0} (xs : List X) → length xs ≡ 0 → xs ≡ []
no_errors [] none = refl
no_errors (x ∷ xs) none = absurd (omega arith)

-- all are asked for where no errors are given
pub all_asked : {X : Type 0} (xs : List X) → filter (λ x. true) xs ≡ xs
all_asked [] = refl
all_asked (x ∷ xs) = ap (λ ys. x ∷ ys) (all_asked xs)
