-- Where the rerun of an edit ends, said of the modes after numbers of segments: so no more segments are placed again
-- than it has.
use Rattle.std.proofs.Common.{◌≡◌, ℕ, ◌+◌, ◌-◌, ◌<◌, ◌≤◌, true, false, List, length, get_or, drop, Option, Some, None, inl, inr, sym, ap, ◌∙◌, subst, arith}
use Rattle.std.specs.Prelude.{nat_le}
use Rattle.std.specs.List.{slice_get}
use Rattle.std.proofs.lemmas.Bool.{and_from, and_left, and_right, cases_lt, le-leb, lt-leb}
use Rattle.std.proofs.lemmas.Option.{slice_get-get_or}
use Rattle.dir_compile.specs.declared.parts.Parts.{Parts}
use Rattle.dir_compile.specs.Directory.{IsDirectory}
use Rattle.seg_lexer.specs.Context.{context_of}
use Rattle.seg_lexer.specs.Segments.{boundaries_of, ends_of}
use Rattle.seg_lexer.specs.Service.{IsUsable}
use Rattle.seg_lexer.specs.declared.service.Service.{Service}
use Rattle.seg_lexer.proofs.EditLemmas.{drop-spliced}
use Rattle.seg_lexer.proofs.EndsLemmas.{ends-ascending}
use Rattle.seg_lexer.proofs.SegmentsLemmas.{boundary-high}
use Rattle.seg_lexer.proofs.ContextEnds.{context-usable}
use Rattle.segment_records.specs.Bounds.{stops_message}
use Rattle.segment_records.specs.Messages.{mode_after}
use Rattle.segment_records.specs.Segments.{Segment, segments_by}
use Rattle.segment_records.specs.declared.mode.Mode.{Mode}
use Rattle.kept_text.specs.Edit.{Edit, edited}
use Rattle.kept_text.specs.Stretch.{first_kept, segments_before, stretch_from, stretch_to}
use Rattle.kept_text.specs.Rerun.{is_same_mode, mode_before, modes_meet, rerun_of}
use Rattle.kept_text.proofs.Contexts.{is_met, mode_before_is}
use Rattle.kept_text.proofs.Later.{later_boundary, modes_after_head}
use Rattle.kept_text.proofs.Modes.{same_from}
use Rattle.kept_text.proofs.Places.{starts_ascend}
use Rattle.kept_text.proofs.Reached.{before_boundary, boundary_after}
use Rattle.kept_text.proofs.Rerunning.{rerun_least, rerun_most}

-- a later boundary is greater
ascend : (s : Service) (text : List ℕ) → IsUsable s text → (i m x y : ℕ) → i < m
    → slice_get (boundaries_of s text) i ≡ Some x
    → slice_get (boundaries_of s text) m ≡ Some y → x < y
unfolding boundaries_of
ascend s text usable i m x y less one other =
    starts_ascend s.body (ends_of s text) i m x y (ends-ascending s text usable.body) less one other

module _ (text : List ℕ) (edit : Edit) (service : (context_of (edited text edit)).service ≡ (context_of text).service) where
  -- the edited text can be read by the same service characters
  pub usable_too : IsUsable (context_of text).service (edited text edit)
  usable_too = subst (λ (s : Service). IsUsable s (edited text edit)) service (context-usable (edited text edit))

module _ (dir : Parts) (text : List ℕ) (edit : Edit) (service : (context_of (edited text edit)).service ≡ (context_of text).service)
    (first : ℕ)
    (begins : slice_get (boundaries_of (context_of text).service (edited text edit)) first
    ≡ Some (stretch_from (context_of text).service text edit)) where
  abbrev s : Service
  s = (context_of text).service

  abbrev new : List ℕ
  new = edited text edit

  -- where no end is kept, all segments from the stretch's beginning on are placed again
  pub placed_whole : first_kept (context_of text).service text edit ≡ None
      → length (ends_of (context_of text).service (edited text edit)) - first ≤ rerun_of dir text edit
  placed_whole none =
      let to : stretch_to s text edit ≡ length new =
      ap (λ (o : Option ℕ). elim o [ None ↦ length new | Some end ↦ end + 1 ]) none in
      let early : (i b : ℕ) → i < length (ends_of s new) → slice_get (boundaries_of s new) i ≡ Some b
      → is_met dir text edit b ≡ false = λ i b below at.
      let end : ℕ = get_or (ends_of s new) i 0 in
      let next : slice_get (boundaries_of s new) (i + 1) ≡ Some (end + 1) =
      boundary_after s new i end (slice_get-get_or (ends_of s new) i 0 below) in
      let less : b < end + 1 =
      ascend s new (usable_too text edit service) i (i + 1) b (end + 1) (omega arith) at next in
      let high : end + 1 ≤ length new =
      boundary-high s new (usable_too text edit service) (end + 1) (i + 1, next) in
      and_left _ _ (lt-leb (stretch_to s text edit) b (omega arith)) in
      rerun_least dir text edit (usable_too text edit service) first begins (length (ends_of s new))
      (omega arith) early

  module _ (within : edit.at + edit.cut ≤ length text) (e q j : ℕ)
      (kept : first_kept (context_of text).service text edit ≡ Some e)
      (past : edit.at + length edit.put ≤ e)
      (after : slice_get (boundaries_of (context_of text).service (edited text edit)) q ≡ Some (e + 1))
      (before : slice_get (boundaries_of (context_of text).service text) j
      ≡ Some (e + 1 - length edit.put + edit.cut)) where
    -- the stretch ends after the end that is kept
    to : stretch_to (context_of text).service text edit ≡ e + 1
    to = ap (λ (o : Option ℕ). elim o [ None ↦ length new | Some end ↦ end + 1 ]) kept

    -- from there on the texts are the same
    shared : drop (e + 1) (edited text edit) ≡ drop (e + 1 - length edit.put + edit.cut) text
    shared =
        let i : ℕ = e + 1 - (edit.at + length edit.put) in
        let one : e + 1 ≡ edit.at + length edit.put + i = omega arith in
        let other : edit.at + edit.cut + i ≡ e + 1 - length edit.put + edit.cut = omega arith in
        ap (λ (n : ℕ). drop n new) one ∙ drop-spliced s text edit.at edit.cut edit.put within i
        ∙ ap (λ (n : ℕ). drop n text) other

    mode_now : (m b : ℕ) → slice_get (boundaries_of s new) m ≡ Some b
        → mode_before dir new b ≡ mode_after dir (segments_by s new) m
    mode_now m b at =
        mode_before_is dir new b
        ∙ ap (λ (v : Service). mode_after dir (segments_by v new) (segments_before v new b)) service
        ∙ ap (mode_after dir (segments_by s new)) (before_boundary s new (usable_too text edit service) m b at)

    mode_then : (m b : ℕ) → slice_get (boundaries_of s text) m ≡ Some b
        → mode_before dir text b ≡ mode_after dir (segments_by s text) m
    mode_then m b at =
        mode_before_is dir text b
        ∙ ap (mode_after dir (segments_by s text)) (before_boundary s text (context-usable text) m b at)

    later : (i b : ℕ) → slice_get (boundaries_of s new) (q + i) ≡ Some b
        → (z : ℕ) × (e + 1 + z ≡ b)
        × (slice_get (boundaries_of s text) (j + i) ≡ Some (e + 1 - length edit.put + edit.cut + z))
    later =
        later_boundary s text new (context-usable text) (usable_too text edit service) j
        (e + 1 - length edit.put + edit.cut) q (e + 1) before after shared

    -- the modes meet at a boundary where they are the same after as many segments from there on
    pub meet_at : (i b : ℕ) → slice_get (boundaries_of s new) (q + i) ≡ Some b
        → modes_meet dir text edit b
        ≡ is_same_mode (mode_after dir (segments_by s new) (q + i)) (mode_after dir (segments_by s text) (j + i))
    meet_at i b at =
        let other = later i b at in
        let there : e + 1 - length edit.put + edit.cut + other.0 ≡ b - length edit.put + edit.cut =
        omega (arith, other.1) in
        ap (λ (mode : Mode). is_same_mode mode (mode_before dir text (b - length edit.put + edit.cut)))
        (mode_now (q + i) b at)
        ∙ ap (is_same_mode (mode_after dir (segments_by s new) (q + i)))
        (ap (mode_before dir text) (sym there)
        ∙ mode_then (j + i) (e + 1 - length edit.put + edit.cut + other.0) other.2)

    -- where p modes differ one after the other from there on, the segments up to the last of them are placed again
    pub placed_within : (p : ℕ) → q + p ≤ length (ends_of s new)
        → ((i : ℕ) → i < p
        → is_same_mode (mode_after dir (segments_by s new) (q + i)) (mode_after dir (segments_by s text) (j + i))
        ≡ false)
        → q + p - first ≤ rerun_of dir text edit
    placed_within p high apart =
        let none : (i b : ℕ) → i < q + p → slice_get (boundaries_of s new) i ≡ Some b
        → is_met dir text edit b ≡ false = λ i b below at. elim (cases_lt i q) [
          | inl early ↦
              let less : b < e + 1 = ascend s new (usable_too text edit service) i q b (e + 1) early at after in
              let end : stretch_to s text edit ≡ e + 1 = to in
              and_left _ _ (lt-leb (stretch_to s text edit) b (omega arith))
          | inr late ↦
              let place : i ≡ q + (i - q) = omega arith in
              and_right (nat_le (stretch_to s text edit) b) (modes_meet dir text edit b)
              (meet_at (i - q) b (ap (slice_get (boundaries_of s new)) (sym place) ∙ at)
              ∙ apart (i - q) (omega arith))
        ] in
        rerun_least dir text edit (usable_too text edit service) first begins (q + p) high none

    -- a segment from there on that bounds an extent ends what is placed again
    pub rerun_to_head : IsDirectory dir → (i b : ℕ) (segment : Segment)
        → slice_get (segments_by s new) (q + i) ≡ Some segment
        → stops_message segment.tag ≡ true → slice_get (boundaries_of s new) (q + i + 1) ≡ Some b
        → rerun_of dir text edit ≤ q + i + 1 - first
    rerun_to_head directory i b segment is bounds at =
        let next : q + (i + 1) ≡ q + i + 1 = omega arith in
        let next_too : j + (i + 1) ≡ j + i + 1 = omega arith in
        let at_next : slice_get (boundaries_of s new) (q + (i + 1)) ≡ Some b =
        ap (slice_get (boundaries_of s new)) next ∙ at in
        let other = later (i + 1) b at_next in
        let end : stretch_to s text edit ≡ e + 1 = to in
        let far : nat_le (stretch_to s text edit) b ≡ true =
        le-leb (stretch_to s text edit) b (omega (arith, other.1)) in
        let modes : mode_after dir (segments_by s new) (q + (i + 1))
        ≡ mode_after dir (segments_by s text) (j + (i + 1)) =
        ap (mode_after dir (segments_by s new)) next
        ∙ modes_after_head s text new (context-usable text) (usable_too text edit service) j
        (e + 1 - length edit.put + edit.cut) q (e + 1)
        before after shared dir directory i segment is bounds
        ∙ ap (mode_after dir (segments_by s text)) (sym next_too) in
        let met : modes_meet dir text edit b ≡ true = meet_at (i + 1) b at_next ∙ same_from _ _ modes in
        rerun_most dir text edit (usable_too text edit service) first begins (q + i + 1) b at
        (and_from (nat_le (stretch_to s text edit) b) (modes_meet dir text edit b) far met)
