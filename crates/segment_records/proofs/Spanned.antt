-- Heads that are gathered from members one after the other are those of the extents: one for each place that opens one.
use Rattle.std.proofs.Common.{◌≡◌, ℕ, ◌+◌, ◌-◌, ◌<◌, Bool, true, false, cond, List, [], ◌∷◌, ◌++◌, length, Option, Some, None, refl, sym, ap, ◌∙◌, inl, inr, arith}
use Rattle.std.specs.Prelude.{map, if◌then◌else◌}
use Rattle.std.specs.List.{range_with_len, filter_map, cons_option}
use Rattle.std.specs.Option.{option_map}
use Rattle.std.proofs.lemmas.Bool.{cases_Bool, cases_eq, false≢true, false_from_ne_true}
use Rattle.std.proofs.lemmas.List.{append-nil, append_assoc}
use Rattle.edi_tables.specs.Extents.{Extent}
use Rattle.edi_tables.proofs.Openings.{AreMarks, IsClear, next_stop, stretch, stretch_to}
use Rattle.edi_tables.proofs.Searching.{find_is, find_none}
use Rattle.segment_records.specs.Spans.{Spanning, ended_by, heads_from, last_by}

-- a member is that of a place: by the tests of the place, its number, and the head that it opens
pub record IsAt {S H : Type 0} (by : Spanning S H) (o c s : ℕ → Bool) (make : ℕ → H) (k : ℕ) (x : S) : Type 0 where
  pub opens : by.opens x ≡ o k
  pub closes : by.closes x ≡ c k
  pub stops : by.stops x ≡ s k
  pub number : by.number x ≡ k + 1
  pub head : o k ≡ true → by.head x ≡ make k

-- members are those of the places from one on
abbrev pub AreAt : {S H : Type 0} → Spanning S H → (ℕ → Bool) → (ℕ → Bool) → (ℕ → Bool) → (ℕ → H) → ℕ → List S → Type 0
AreAt by o c s make k [] = Unit {0}
AreAt by o c s make k (x ∷ xs) = IsAt by o c s make k x × AreAt by o c s make (k + 1) xs

-- what is open before a place, if anything is
record IsCurrent (s : ℕ → Bool) (k a : ℕ) : Type 0 where
  before : a < k
  clear : IsClear s a k

abbrev Current : (ℕ → Bool) → ℕ → Option ℕ → Type 0
Current s k None = Unit {0}
Current s k (Some a) = IsCurrent s k a

module _ (o c s : ℕ → Bool) (n : ℕ) where
  -- an extent that nothing stops runs to the last
  last_end : (a : ℕ) → a < n → IsClear s a n → (stretch c s n a).last ≡ n
  last_end a before clear =
      let none : next_stop s n a ≡ None = find_none s (a + 1) (n - (a + 1)) n (omega arith) (record { none = λ k from below. clear.clear k (omega arith) below }) in
      ap (λ (r : Option ℕ). (stretch_to c n a r).last) none

  last_to : (a k : ℕ) (v : Bool) → c k ≡ v → (stretch_to c n a (Some k)).last ≡ last_by v (k + 1)
  last_to a k true is = rw is refl
  last_to a k false is = rw is (omega arith)

  -- another ends with the place that stops it, or before it
  last_stop : (a k : ℕ) → IsCurrent s k a → k < n → s k ≡ true → (stretch c s n a).last ≡ last_by (c k) (k + 1)
  last_stop a k it below stops =
      let stop : next_stop s n a ≡ Some k = find_is s (a + 1) (n - (a + 1)) n k (omega (arith, it.before)) (record {
        from = omega (arith, it.before);
        below = below;
        passes = stops;
        none = λ j from low. it.clear.clear j (omega arith) low;
      }) in
      ap (λ (r : Option ℕ). (stretch_to c n a r).last) stop ∙ last_to a k (c k) refl

  later : (k : ℕ) (current : Option ℕ) → s k ≡ false → Current s k current → Current s (k + 1) current
  later k None fails it = tt
  later k (Some a) fails it = record {
    before = omega (arith, it.before);
    clear = record {
      clear = λ j past below. elim (cases_eq j k) [
        | inl same ↦ ap s same ∙ fails
        | inr other ↦ it.clear.clear j past (omega arith)
      ];
    };
  }

  begins : (k : ℕ) (v : Bool) → Current s (k + 1) (cond v (Some k) None)
  begins k true = record { before = omega arith; clear = record { clear = λ j past below. absurd (omega arith) } }
  begins k false = tt

module _ {S H : Type 0} (by : Spanning S H) (o c s : ℕ → Bool) (make : ℕ → H) (n : ℕ) where
  -- the head of the extent from a place on
  abbrev pub head_at : ℕ → H
  head_at a = by.ended (make a) (stretch c s n a).last

  abbrev pub each : ℕ → Option H
  each b = cond (o b) (Some (head_at b)) None

  abbrev told : Option ℕ → List H
  told None = []
  told (Some a) = head_at a ∷ []

  ended_last : (k : ℕ) (current : Option ℕ) → k ≡ n → Current s k current → ended_by by.ended (option_map make current) n ≡ told current
  ended_last k None end it = refl
  ended_last k (Some a) end it =
      ap (λ (last : ℕ). by.ended (make a) last ∷ [])
      (sym (last_end o c s n a (omega (arith, it.before)) (record { clear = λ j past below. it.clear.clear j past (omega arith) })))

  ended_here : (k : ℕ) (current : Option ℕ) (closes : Bool) (number : ℕ) → closes ≡ c k → number ≡ k + 1 → k < n → s k ≡ true → Current s k current
      → ended_by by.ended (option_map make current) (last_by closes number) ≡ told current
  ended_here k None closes number closes_is number_is below stops it = refl
  ended_here k (Some a) closes number closes_is number_is below stops it =
      ap (λ (last : ℕ). by.ended (make a) last ∷ [])
      (ap (λ (v : Bool). last_by v number) closes_is ∙ ap (last_by (c k)) number_is ∙ sym (last_stop o c s n a k it below stops))

  opened_here : (k : ℕ) (x : S) (v : Bool) → o k ≡ v → IsAt by o c s make k x
      → (if by.opens x then Some (by.head x) else None) ≡ option_map make (cond v (Some k) None)
  opened_here k x true is at = rw (at.opens ∙ is) (ap Some (at.head is))
  opened_here k x false is at = rw (at.opens ∙ is) refl

  joined : (k : ℕ) (v : Bool) (more : List H) → told (cond v (Some k) None) ++ more ≡ cons_option (cond v (Some (head_at k)) None) more
  joined k true more = refl
  joined k false more = refl

  module _ (marks : AreMarks o c s) where
    never_opens : (k : ℕ) → s k ≡ false → o k ≡ false
    never_opens k fails = false_from_ne_true _ (λ shows. false≢true (sym fails ∙ marks.opening k shows))

    heads_left : (k : ℕ) (xs : List S) (current : Option ℕ) → k + length xs ≡ n → AreAt by o c s make k xs → Current s k current
        → heads_from by n (option_map make current) xs ≡ told current ++ filter_map each (range_with_len k (length xs))
    heads_left k [] current sum at it = ended_last k current (omega arith) it ∙ sym (append-nil (told current))
    heads_left k (x ∷ xs) current sum at it =
        let here : IsAt by o c s make k x = at.0 in
        let ended : List H = ended_by by.ended (option_map make current) (last_by (by.closes x) (by.number x)) in
        let opened : Option H = if by.opens x then Some (by.head x) else None in
        let on : List H = heads_from by n (option_map make current) xs in
        let more : List H = filter_map each (range_with_len (k + 1) (length xs)) in
        elim (cases_Bool (s k)) [
          | inl stops ↦
              ap (λ (v : Bool). if v then ended ++ heads_from by n opened xs else on) (here.stops ∙ stops)
              ∙ ap (λ (ys : List H). ys ++ heads_from by n opened xs) (ended_here k current (by.closes x) (by.number x) here.closes here.number (omega arith) stops it)
              ∙ ap (λ (next : Option H). told current ++ heads_from by n next xs) (opened_here k x (o k) refl here)
              ∙ ap (λ (ys : List H). told current ++ ys) (heads_left (k + 1) xs (cond (o k) (Some k) None) (omega arith) at.1 (begins o c s n k (o k)))
              ∙ ap (λ (ys : List H). told current ++ ys) (joined k (o k) more)
          | inr fails ↦
              ap (λ (v : Bool). if v then ended ++ heads_from by n opened xs else on) (here.stops ∙ fails)
              ∙ heads_left (k + 1) xs current (omega arith) at.1 (later o c s n k current fails it)
              ∙ ap (λ (v : Bool). told current ++ cons_option (cond v (Some (head_at k)) None) more) (sym (never_opens k fails))
        ]

    -- all heads, where the members are those of all places
    pub heads_are : (xs : List S) → length xs ≡ n → AreAt by o c s make 0 xs → heads_from by n None xs ≡ filter_map each (range_with_len 0 n)
    heads_are xs long at =
        heads_left 0 xs None (omega arith) at tt ∙ ap (λ (m : ℕ). filter_map each (range_with_len 0 m)) long

  -- they are made of the extents
  pub heads_mapped : (f : Extent → H) → ((b : ℕ) → f (stretch c s n b) ≡ head_at b) → (bs : List ℕ)
      → map f (filter_map (λ b. cond (o b) (Some (stretch c s n b)) None) bs) ≡ filter_map each bs
  heads_mapped f same [] = refl
  heads_mapped f same (b ∷ bs) =
      one (o b) (filter_map (λ b. cond (o b) (Some (stretch c s n b)) None) bs)
      ∙ ap (λ (ys : List H). cons_option (each b) ys) (heads_mapped f same bs)
    where
      one : (v : Bool) (more : List Extent) → map f (cons_option (cond v (Some (stretch c s n b)) None) more) ≡ cons_option (cond v (Some (head_at b)) None) (map f more)
      one true more = ap (λ (head : H). head ∷ map f more) (same b)
      one false more = refl

-- one member further
module _ {S H : Type 0} (by : Spanning S H) (count : ℕ) (left : List S) (x : S) (rest : List S) (is : left ≡ x ∷ rest) where
  abbrev next : Option H
  next = if by.opens x then Some (by.head x) else None

  abbrev here : Bool → Option H → List H
  here stops current =
      if stops then ended_by by.ended current (last_by (by.closes x) (by.number x)) ++ heads_from by count next rest
      else heads_from by count current rest

  pub heads_stop : (done more all : List H) (current after : Option H) (last : ℕ) → by.stops x ≡ true → last ≡ last_by (by.closes x) (by.number x)
      → more ≡ done ++ ended_by by.ended current last → after ≡ next → done ++ heads_from by count current left ≡ all → more ++ heads_from by count after rest ≡ all
  heads_stop done more all current after last stops last_is more_is after_is so_far =
      ap (λ (o : Option H). more ++ heads_from by count o rest) after_is
      ∙ ap (λ (ys : List H). ys ++ heads_from by count next rest) (more_is ∙ ap (λ (n : ℕ). done ++ ended_by by.ended current n) last_is)
      ∙ append_assoc done (ended_by by.ended current (last_by (by.closes x) (by.number x))) (heads_from by count next rest)
      ∙ ap (λ (v : Bool). done ++ here v current) (sym stops)
      ∙ ap (λ (xs : List S). done ++ heads_from by count current xs) (sym is) ∙ so_far

  pub heads_on : (done all : List H) (current : Option H) → by.stops x ≡ false → done ++ heads_from by count current left ≡ all
      → done ++ heads_from by count current rest ≡ all
  heads_on done all current fails so_far =
      ap (λ (v : Bool). done ++ here v current) (sym fails) ∙ ap (λ (xs : List S). done ++ heads_from by count current xs) (sym is) ∙ so_far

-- no member is left
pub heads_done : {S H : Type 0} (by : Spanning S H) (count : ℕ) (left : List S) → left ≡ [] → (done more all : List H) (current : Option H)
    → more ≡ done ++ ended_by by.ended current count → done ++ heads_from by count current left ≡ all → more ≡ all
heads_done by count left none done more all current more_is so_far =
    more_is ∙ ap (λ xs. done ++ heads_from by count current xs) (sym none) ∙ so_far
