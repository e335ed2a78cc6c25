-- How the errors of a text are reported segment by segment.
use Rattle.std.proofs.Common.{◌≡◌, ℕ, zero, suc, ◌+◌, ◌-◌, ◌<◌, ◌≤◌, Bool, true, false, ◌||◌, List, [], ◌∷◌, ◌++◌, Option, Some, None, length, refl, sym, ap, subst, ◌∙◌, not, arith, add-one, append_assoc, append-nil}
use Rattle.std.specs.Prelude.{slice_get, is_some, if◌then◌else◌}
use Rattle.std.specs.List.{range_with_len, flat_map}
use Rattle.std.proofs.lemmas.List.Concat.{flat_map-append}
use Rattle.edi_tables.specs.Rows.{when}
use Rattle.error_ledger.specs.declared.error.ErrorLine.{ErrorLine}
use Rattle.error_ledger.specs.declared.kind.Kind.{Kind}
use Rattle.error_ledger.specs.declared.kind.Kind.TheVariants.{NoUnb, NoUnz}
use Rattle.envelope_check.specs.Head.{Head}
use Rattle.envelope_check.specs.declared.head.SegmentMark.{SegmentMark}
use Rattle.envelope_check.specs.declared.known.Known.{Known}
use Rattle.envelope_check.specs.Heads.{tags_of, Fits}
use Rattle.envelope_check.specs.Envelope.{envelope_errors_at, text_errors, error_of_text, envelope_errors_of}
use Rattle.envelope_check.specs.Known.{IsKnownFirst, IsKnownAfter, IsKnownAfterOthers, first_unb, has_kind, is_unz, head_here, heads_after, next_number, sound_run_by, rules_by, mark_at, errors_by}
use Rattle.envelope_check.proofs.Ahead.{length_tags, IsAhead, Here, here_at, ahead_first, front_before, next_ahead}
use Rattle.envelope_check.proofs.IsKnown.{IsKnown, known_first, known_next, known_same, later, later_others, last_other, text_errors_by}
use Rattle.envelope_check.proofs.RuleLaws.{Site}
use Rattle.envelope_check.proofs.SegmentErrors.{errors_here, sound_segment}

-- the errors of the text as a whole and of the segments before place i
abbrev pub errors_before : List Head → List SegmentMark → ℕ → List ErrorLine
errors_before heads marks i = text_errors (tags_of marks) ++ flat_map (envelope_errors_at heads marks) (range_with_len 0 i)

-- the segments before place i are done
pub record IsDone (heads : List Head) (marks : List SegmentMark) (i : ℕ) (known : Known) (rest : List Head) (errors : List ErrorLine) : Type 0 where
  pub within : i ≤ length marks
  pub so_far : IsKnown heads (tags_of marks) i known
  pub ahead : IsAhead heads marks i rest
  pub told : errors ≡ errors_before heads marks i

pub done_first : (heads : List Head) (marks : List SegmentMark) (known : Known) (errors : List ErrorLine) → Fits heads marks → IsKnownFirst heads known
    → errors ≡ when (not (is_some (first_unb heads))) (error_of_text NoUnb) ++ when (not (has_kind is_unz heads)) (error_of_text NoUnz) → IsDone heads marks known.segments known heads errors
done_first heads marks known errors fits first told =
    subst (λ i. IsDone heads marks i known heads errors) (sym first.segments) (record {
      within = omega arith;
      so_far = known_first heads marks known fits first;
      ahead = ahead_first heads marks fits;
      told = told ∙ sym (text_errors_by heads marks fits) ∙ sym (append-nil (text_errors (tags_of marks)));
    })

mark_there : (marks : List SegmentMark) (i : ℕ) → i < length marks → slice_get marks i ≡ Some (mark_at marks i)
mark_there [] i within = absurd (omega arith)
mark_there (mark ∷ marks) zero within = refl
mark_there (mark ∷ marks) (suc i) within = mark_there marks i (omega arith)

range_more : (a n j : ℕ) → a + n ≡ j → range_with_len a (suc n) ≡ range_with_len a n ++ j ∷ []
range_more a zero j sum = ap (λ k. k ∷ []) (omega arith)
range_more a (suc n) j sum = ap (λ ks. a ∷ ks) (range_more (a + 1) n j (omega arith))

errors_more : (heads : List Head) (marks : List SegmentMark) (i : ℕ) → errors_before heads marks i ++ envelope_errors_at heads marks i ≡ errors_before heads marks (i + 1)
errors_more heads marks i =
    append_assoc (text_errors (tags_of marks)) (flat_map (envelope_errors_at heads marks) (range_with_len 0 i)) (envelope_errors_at heads marks i)
    ∙ ap (λ es. text_errors (tags_of marks) ++ es)
    (ap (λ es. flat_map (envelope_errors_at heads marks) (range_with_len 0 i) ++ es) (sym (append-nil (envelope_errors_at heads marks i)))
    ∙ sym (flat_map-append (envelope_errors_at heads marks) (range_with_len 0 i) (i ∷ []))
    ∙ ap (flat_map (envelope_errors_at heads marks)) (sym (ap (range_with_len 0) (add-one i) ∙ range_more 0 i i (omega arith))))

-- the segment at place i is done
pub done_one : (heads : List Head) (marks : List SegmentMark) (i : ℕ) (old new : Known) (rest after : List Head) (errors result : List ErrorLine) (here : Option Head)
    → i < length marks → IsDone heads marks i old rest errors → here ≡ head_here rest (i + 1) → after ≡ heads_after rest (i + 1) → IsKnownAfter old here new
    → result ≡ errors ++ errors_by (i + 1) (mark_at marks i) (rules_by old here after) → IsDone heads marks (i + 1) new after result
done_one heads marks i old new rest after errors result here within done here_is after_is next told =
    let segment : Here heads marks i here after =
    subst (λ a. Here heads marks i here a) (sym after_is) (subst (λ h. Here heads marks i h (heads_after rest (i + 1))) (sym here_is) (here_at heads marks i rest within done.ahead)) in
    let site : Site heads marks i old here after = record { within = omega (arith, length_tags marks); so_far = done.so_far; segment = segment } in
    record {
      within = omega arith;
      so_far = known_next heads marks i old new here after within segment done.so_far next;
      ahead = segment.ahead;
      told = told ∙ ap (λ es. errors ++ es) (sym (errors_here heads marks i old here after (mark_at marks i) site (mark_there marks i within)))
          ∙ ap (λ es. es ++ envelope_errors_at heads marks i) done.told ∙ errors_more heads marks i;
    }

-- the next segment is done
pub done_next : (heads : List Head) (marks now : List SegmentMark) (old new : Known) (rest after : List Head) (errors result : List ErrorLine) (here : Option Head) (rules : List (Bool × ℕ × Kind))
    → old.segments < length marks → now ≡ marks → IsDone heads marks old.segments old rest errors → here ≡ head_here rest (old.segments + 1) → after ≡ heads_after rest (old.segments + 1) → rules ≡ rules_by old here after
    → result ≡ errors ++ errors_by (old.segments + 1) (mark_at now (old.segments + 1 - 1)) rules → IsKnownAfter old here new → IsDone heads marks new.segments new after result
done_next heads marks now old new rest after errors result here rules within same done here_is after_is rules_are told next =
    let mark : mark_at now (old.segments + 1 - 1) ≡ mark_at marks old.segments =
    ap (λ ms. mark_at ms (old.segments + 1 - 1)) same ∙ ap (mark_at marks) (omega arith) in
    let told_now = told ∙ ap (λ m. errors ++ errors_by (old.segments + 1) m rules) mark ∙ ap (λ rs. errors ++ errors_by (old.segments + 1) (mark_at marks old.segments) rs) rules_are in
    subst (λ i. IsDone heads marks i new after result) (sym next.segments)
    (done_one heads marks old.segments old new rest after errors result here within done here_is after_is next told_now)

-- so are n segments that come before the next head, in an open message and before the end
pub sound_done : (heads : List Head) (marks : List SegmentMark) (i n : ℕ) (old new : Known) (rest : List Head) (errors : List ErrorLine)
    → old.ended ≡ false → is_some old.message ≡ true → i + n < next_number rest (length marks) → IsDone heads marks i old rest errors → IsKnownAfterOthers old n new → IsDone heads marks (i + n) new rest errors
sound_done heads marks i zero old new rest errors before inside low done all =
    let same : IsDone heads marks i new rest errors =
    record { within = done.within; so_far = known_same heads (tags_of marks) i old new done.so_far all; ahead = done.ahead; told = done.told } in
    subst (λ j. IsDone heads marks j new rest errors) (omega arith) same
sound_done heads marks i (suc n) old new rest errors before inside low done all =
    let bounds = next_ahead marks i (length marks - i) (length marks) rest done.ahead.fits (omega (arith, done.within)) in
    let most = sound_done heads marks i n old (later old n) rest errors before inside (omega arith) done (later_others old n) in
    let front = front_before rest (i + n + 1) (length marks) (omega arith) in
    let none = sound_segment (i + n + 1) (mark_at marks (i + n)) (later old n) rest before inside in
    subst (λ j. IsDone heads marks j new rest errors) (omega arith)
    (done_one heads marks (i + n) (later old n) new rest rest errors errors None (omega (arith, bounds.1)) most (sym front.here) (sym front.after) (last_other old new n all)
    (sym (ap (λ es. errors ++ es) none ∙ append-nil errors)))

-- a run that isn't empty lies in an open message, before the end and before the next head
record IsRun (known : Known) (rest : List Head) (total n : ℕ) : Type 0 where
  before : known.ended ≡ false
  inside : is_some known.message ≡ true
  length_is : n ≡ next_number rest total - 1 - known.segments

run_by : (known : Known) (rest : List Head) (total n : ℕ) (ended in_message : Bool) → known.ended ≡ ended → is_some known.message ≡ in_message → 0 < n → n ≡ (if ended || not in_message then 0 else next_number rest total - 1 - known.segments) → IsRun known rest total n
run_by known rest total n false true before inside some is = record { before = before; inside = inside; length_is = is }
run_by known rest total n false false before inside some is = absurd (omega (arith, is))
run_by known rest total n true in_message before inside some is = absurd (omega (arith, is))

at_most : (none : Bool) (i n next total : ℕ) → n ≡ (if none then 0 else next - 1 - i) → i ≤ total → next ≤ total + 1 → i + n ≤ total
at_most true i n next total is low high = omega (arith, is)
at_most false i n next total is low high = omega (arith, is)

-- how far a run goes: not past the last segment
pub run_within : (heads : List Head) (marks : List SegmentMark) (known : Known) (rest : List Head) (errors : List ErrorLine) (n : ℕ) → IsDone heads marks known.segments known rest errors → n ≡ sound_run_by known rest (length marks) → known.segments + n ≤ length marks
run_within heads marks known rest errors n done is =
    let bounds = next_ahead marks known.segments (length marks - known.segments) (length marks) rest done.ahead.fits (omega (arith, done.within)) in
    at_most (known.ended || not (is_some known.message)) known.segments n (next_number rest (length marks)) (length marks) is done.within bounds.1

-- the run that is skipped is done
done_run : (heads : List Head) (marks : List SegmentMark) (old new : Known) (rest : List Head) (errors : List ErrorLine) (n : ℕ) → IsDone heads marks old.segments old rest errors → 0 < n → n ≡ sound_run_by old rest (length marks) → IsKnownAfterOthers old n new → IsDone heads marks new.segments new rest errors
done_run heads marks old new rest errors n done some is all =
    let run = run_by old rest (length marks) n old.ended (is_some old.message) refl refl some is in
    let bounds = next_ahead marks old.segments (length marks - old.segments) (length marks) rest done.ahead.fits (omega (arith, done.within)) in
    subst (λ i. IsDone heads marks i new rest errors) (sym all.segments)
    (sound_done heads marks old.segments n old new rest errors run.before run.inside (omega (arith, run.length_is, bounds.0)) done all)

-- so it is where the run has no segment
pub done_skip : (heads : List Head) (marks : List SegmentMark) (old new : Known) (rest : List Head) (errors : List ErrorLine) (n : ℕ) → IsDone heads marks old.segments old rest errors → n ≡ sound_run_by old rest (length marks) → IsKnownAfterOthers old n new → IsDone heads marks new.segments new rest errors
done_skip heads marks old new rest errors zero done is all =
    let same : IsDone heads marks old.segments new rest errors =
    record { within = done.within; so_far = known_same heads (tags_of marks) old.segments old new done.so_far all; ahead = done.ahead; told = done.told } in
    subst (λ j. IsDone heads marks j new rest errors) (omega (arith, all.segments)) same
done_skip heads marks old new rest errors (suc n) done is all =
    done_run heads marks old new rest errors (suc n) done (omega arith) is all

-- the next head is still to come
pub next_to_come : (heads : List Head) (marks : List SegmentMark) (known : Known) (rest : List Head) (errors : List ErrorLine) → IsDone heads marks known.segments known rest errors → known.segments < next_number rest (length marks)
next_to_come heads marks known rest errors done =
    (next_ahead marks known.segments (length marks - known.segments) (length marks) rest done.ahead.fits (omega (arith, done.within))).0

pub done_all : (heads : List Head) (marks : List SegmentMark) (i : ℕ) (known : Known) (rest : List Head) (errors : List ErrorLine) → IsDone heads marks i known rest errors → length marks ≤ i → errors ≡ envelope_errors_of heads marks
unfolding envelope_errors_of
done_all heads marks i known rest errors done all =
    let same : i ≡ length marks = omega (arith, done.within) in
    done.told ∙ ap (errors_before heads marks) same
