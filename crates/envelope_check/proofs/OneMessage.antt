-- A text of one message, in an interchange without functional groups, has no envelope error, where its counts and references are right.
use Rattle.std.proofs.Common.{◌≡◌, ℕ, ◌+◌, ◌≤◌, Bool, true, false, not, cond, eqb, Option, Some, None, List, [], ◌∷◌, ◌++◌, length, refl, sym, ap, ◌∙◌, arith, eq-eqb, length-append}
use Rattle.std.specs.Borrow.{Bor}
use Rattle.std.specs.Option.{option_map_or}
use Rattle.std.specs.Str.{bytes_eq}
use Rattle.std.proofs.lemmas.Slice.Eq.{bytes_eq-Decides}
use Rattle.edi_octets.specs.Decimal.{decimal_in}
use Rattle.edi_tables.specs.Rows.{when}
use Rattle.error_ledger.specs.declared.error.ErrorLine.{ErrorLine}
use Rattle.error_ledger.specs.declared.kind.Kind.TheVariants.{Count, Reference}
use Rattle.envelope_check.specs.Envelope.{envelope_errors_of, gives}
use Rattle.envelope_check.specs.Heads.{Fits}
use Rattle.envelope_check.specs.Known.{error_of, errors_by, head_here, heads_after, mark_at, rules_by}
use Rattle.envelope_check.specs.Head.{Head}
use Rattle.envelope_check.specs.declared.head.HeadKind.{HeadKind}
use Rattle.envelope_check.specs.declared.head.HeadKind.TheVariants.{Unb, Unh, Unt, Unz}
use Rattle.envelope_check.specs.declared.head.SegmentMark.{SegmentMark}
use Rattle.envelope_check.specs.declared.known.Known.{Known}
use Rattle.envelope_check.proofs.Progress.{IsDone, done_all, done_first, done_one, sound_done}

-- a head with these values
abbrev pub head_with : ℕ → ℕ → HeadKind → List ℕ → List ℕ → List ℕ → Bool → Head
head_with segment start kind reference count name tabled =
    record { segment = segment; start = start; kind = kind; reference = reference; count = count; name = name; tabled = tabled }

-- a head as it is lent
abbrev lent : Head → Bor Head
lent head = record { ref_ptr = (0, 0); now = head }

-- the rules on counts and references hold
two_hold : (p q : Bool) (count reference : ErrorLine) → p ≡ false → q ≡ false → [] ≡ when p count ++ (when q reference ++ [])
two_hold false false count reference one two = refl
two_hold true q count reference one two = absurd (let never : true ≡ false = one in let no_bool : ⊥ = cc in no_bool)
two_hold false true count reference one two = absurd (let never : true ≡ false = two in let no_bool : ⊥ = cc in no_bool)

counts : (value : List ℕ) (m n : ℕ) → decimal_in value ≡ Some m → m ≡ n → not (gives value n) ≡ false
counts value m n is same = ap (λ (o : Option ℕ). not (option_map_or (λ k. eqb k n) o false)) is ∙ ap not (eq-eqb m n same)

refers : (value : List ℕ) → not (bytes_eq value value) ≡ false
refers value = ap not ((bytes_eq-Decides value value).1 refl)

module _ (mb mh mu mz : SegmentMark) (mids : List SegmentMark) (own reference count last name : List ℕ) (s t v w : ℕ) (c0 n0 c1 n3 n4 : List ℕ) (t0 t3 t4 : Bool) where
  abbrev marks_here : List SegmentMark
  marks_here = mb ∷ mh ∷ (mids ++ mu ∷ mz ∷ [])

  abbrev opening : Head
  opening = head_with 1 s Unb own c0 n0 t0

  abbrev message : Head
  message = head_with 2 t Unh reference c1 name true

  abbrev closing : Head
  closing = head_with (length mids + 3) v Unt reference count n3 t3

  abbrev ending : Head
  ending = head_with (length mids + 4) w Unz own last n4 t4

  abbrev heads_here : List Head
  heads_here = opening ∷ message ∷ closing ∷ ending ∷ []

  abbrev known_at : (ended : Bool) (i : ℕ) → Option (Bor Head) → (j messages : ℕ) → j ≤ i → messages ≤ i → Known
  known_at ended i held j messages few_j few_m = record {
    has_groups = false;
    interchange = Some (lent opening);
    ended = ended;
    message = held;
    message_segments = j;
    group = None;
    group_messages = messages;
    segments = i;
    groups = 0;
    messages = messages;
    few_message_segments = few_j;
    few_group_messages = few_m;
    few_groups = omega arith;
    few_messages = few_m;
  }

  module _ (fits : Fits heads_here marks_here) (counted : decimal_in count ≡ Some (length mids + 2)) (one : decimal_in last ≡ Some 1) where
    long : length marks_here ≡ length mids + 4
    long = omega (arith, length-append mids (mu ∷ mz ∷ []))

    -- UNT and UNZ
    end_walk : (i j : ℕ) (few_j : j ≤ i) (few_m : 1 ≤ i) → i ≡ length mids + 2 → j ≡ length mids + 1
        → IsDone heads_here marks_here i (known_at false i (Some (lent message)) j 1 few_j few_m) (closing ∷ ending ∷ []) [] → envelope_errors_of heads_here marks_here ≡ []
    unfolding errors_by rules_by
    end_walk i j few_j few_m at_i at_j done =
        let here : Some closing ≡ head_here (closing ∷ ending ∷ []) (i + 1) =
        sym (ap (λ (b : Bool). let none : Option Head = None in cond b (Some closing) none) (eq-eqb (length mids + 3) (i + 1) (omega arith))) in
        let after : ending ∷ [] ≡ heads_after (closing ∷ ending ∷ []) (i + 1) =
        sym (ap (λ (b : Bool). cond b (ending ∷ []) (closing ∷ ending ∷ [])) (eq-eqb (length mids + 3) (i + 1) (omega arith))) in
        let second : IsDone heads_here marks_here (i + 1) (known_at false (i + 1) None (j + 1) 1 (omega arith) (omega arith)) (ending ∷ []) [] =
        done_one heads_here marks_here i (known_at false i (Some (lent message)) j 1 few_j few_m) (known_at false (i + 1) None (j + 1) 1 (omega arith) (omega arith)) (closing ∷ ending ∷ []) (ending ∷ []) [] [] (Some closing)
        (omega (arith, long)) done here after
        (record { has_groups = refl; interchange = refl; ended = refl; message = refl; message_segments = refl; group = refl; group_messages = refl; segments = refl; groups = refl; messages = refl })
        (two_hold (not (gives count (j + 1))) (not (bytes_eq reference reference)) (error_of (i + 1) (mark_at marks_here i) 1 Count) (error_of (i + 1) (mark_at marks_here i) 2 Reference) (counts count (length mids + 2) (j + 1) counted (omega arith)) (refers reference)) in
        let last_here : Some ending ≡ head_here (ending ∷ []) (i + 1 + 1) =
        sym (ap (λ (b : Bool). let none : Option Head = None in cond b (Some ending) none) (eq-eqb (length mids + 4) (i + 1 + 1) (omega arith))) in
        let none_after : [] ≡ heads_after (ending ∷ []) (i + 1 + 1) =
        sym (ap (λ (b : Bool). cond b [] (ending ∷ [])) (eq-eqb (length mids + 4) (i + 1 + 1) (omega arith))) in
        let third_done : IsDone heads_here marks_here (i + 1 + 1) (known_at true (i + 1 + 1) None (j + 1 + 1) 1 (omega arith) (omega arith)) [] [] =
        done_one heads_here marks_here (i + 1) (known_at false (i + 1) None (j + 1) 1 (omega arith) (omega arith)) (known_at true (i + 1 + 1) None (j + 1 + 1) 1 (omega arith) (omega arith)) (ending ∷ []) [] [] [] (Some ending)
        (omega (arith, long)) second last_here none_after
        (record { has_groups = refl; interchange = refl; ended = refl; message = refl; message_segments = refl; group = refl; group_messages = refl; segments = refl; groups = refl; messages = refl })
        (two_hold (not (gives last 1)) (not (bytes_eq own own)) (error_of (i + 1 + 1) (mark_at marks_here (i + 1)) 1 Count) (error_of (i + 1 + 1) (mark_at marks_here (i + 1)) 2 Reference) (counts last 1 1 one refl) (refers own)) in
        sym (done_all heads_here marks_here (i + 1 + 1) (known_at true (i + 1 + 1) None (j + 1 + 1) 1 (omega arith) (omega arith)) [] [] third_done (omega (arith, long)))

    pub envelope_free : envelope_errors_of heads_here marks_here ≡ []
    unfolding errors_by rules_by
    envelope_free =
        let first : IsDone heads_here marks_here 0 (known_at false 0 None 0 0 (omega arith) (omega arith)) heads_here [] =
        done_first heads_here marks_here (known_at false 0 None 0 0 (omega arith) (omega arith)) [] fits
        (record { has_groups = refl; interchange = refl; ended = refl; message = refl; group = refl; segments = refl; groups = refl; messages = refl }) refl in
        let second : IsDone heads_here marks_here 1 (known_at false 1 None 1 0 (omega arith) (omega arith)) (message ∷ closing ∷ ending ∷ []) [] =
        done_one heads_here marks_here 0 (known_at false 0 None 0 0 (omega arith) (omega arith)) (known_at false 1 None 1 0 (omega arith) (omega arith)) heads_here (message ∷ closing ∷ ending ∷ []) [] [] (Some opening)
        (omega (arith, long)) first refl refl
        (record { has_groups = refl; interchange = refl; ended = refl; message = refl; message_segments = refl; group = refl; group_messages = refl; segments = refl; groups = refl; messages = refl })
        refl in
        let third : IsDone heads_here marks_here 2 (known_at false 2 (Some (lent message)) 1 1 (omega arith) (omega arith)) (closing ∷ ending ∷ []) [] =
        done_one heads_here marks_here 1 (known_at false 1 None 1 0 (omega arith) (omega arith)) (known_at false 2 (Some (lent message)) 1 1 (omega arith) (omega arith)) (message ∷ closing ∷ ending ∷ []) (closing ∷ ending ∷ []) [] [] (Some message)
        (omega (arith, long)) second refl refl
        (record { has_groups = refl; interchange = refl; ended = refl; message = refl; message_segments = refl; group = refl; group_messages = refl; segments = refl; groups = refl; messages = refl })
        refl in
        -- the segments between UNH and UNT
        end_walk (2 + length mids) (1 + length mids) (omega arith) (omega arith) (omega arith) (omega arith)
        (sound_done heads_here marks_here 2 (length mids) (known_at false 2 (Some (lent message)) 1 1 (omega arith) (omega arith)) (known_at false (2 + length mids) (Some (lent message)) (1 + length mids) 1 (omega arith) (omega arith))
        (closing ∷ ending ∷ []) [] refl refl (omega arith) third
        (record { has_groups = refl; interchange = refl; ended = refl; message = refl; message_segments = refl; group = refl; group_messages = refl; segments = refl; groups = refl; messages = refl }))
