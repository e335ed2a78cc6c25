-- What comes before the stretch of an edit: it is the same in the text and in the edited text.
use Rattle.std.proofs.Common.{◌≡◌, ℕ, ◌+◌, ◌<◌, ◌≤◌, List, [], ◌++◌, length, take, drop, Some, inl, inr, refl, sym, ap, ◌∙◌, arith}
use Rattle.std.specs.List.{slice_get}
use Rattle.std.proofs.lemmas.Bool.{cases_lt}
use Rattle.std.proofs.lemmas.List.{length-take-le, take-append-drop, take-append-le, take-take}
use Rattle.seg_lexer.specs.Segments.{boundaries_of, ends_of}
use Rattle.seg_lexer.specs.Service.{IsUsable}
use Rattle.seg_lexer.specs.Whole.{after_last}
use Rattle.seg_lexer.specs.declared.service.Service.{Service}
use Rattle.seg_lexer.proofs.EndsLemmas.{IsAscending-lower, below-none, ends-ascending, ends-before}
use Rattle.segment_records.specs.Segments.{segments_by}
use Rattle.kept_text.specs.Edit.{Edit, edited}
use Rattle.kept_text.specs.Stretch.{stretch_from}
use Rattle.kept_text.proofs.Places.{below, start_at, start_within}
use Rattle.kept_text.proofs.Taken.{segments_taken}

-- how many segments end before an edit's place
abbrev pub segments_kept : Service → List ℕ → Edit → ℕ
segments_kept s text edit = length (below edit.at (ends_of s text))

module _ (s : Service) (text : List ℕ) (place : ℕ) where
  -- no end is below a place before the body
  below_body : IsUsable s text → place < s.body → below place (ends_of s text) ≡ []
  below_body usable early =
      below-none place (ends_of s text)
      (IsAscending-lower place s.body (ends_of s text) (omega arith) (ends-ascending s text usable.body))

  -- those below another place are the ends of the octets before it
  below_body_front : (front rest : List ℕ) → front ++ rest ≡ text → length front ≡ place → s.body ≤ place
      → below place (ends_of s text) ≡ ends_of s front
  below_body_front front rest whole long late =
      ap (λ (xs : List ℕ). below place (ends_of s xs)) (sym whole)
      ∙ ap (λ (n : ℕ). below n (ends_of s (front ++ rest))) (sym long)
      ∙ ends-before s front rest (omega arith)

module _ (s : Service) (text : List ℕ) (edit : Edit) (within : edit.at + edit.cut ≤ length text)
    (usable : IsUsable s text) (usable_too : IsUsable s (edited text edit)) where
  abbrev new : List ℕ
  new = edited text edit

  front_long : length (take edit.at text) ≡ edit.at
  front_long = length-take-le edit.at text (omega arith)

  -- the ends before an edit stay as they are
  pub below_same : below edit.at (ends_of s new) ≡ below edit.at (ends_of s text)
  below_same = elim (cases_lt edit.at s.body) [
    | inl early ↦ below_body s new edit.at usable_too early ∙ sym (below_body s text edit.at usable early)
    | inr late ↦
        let front : List ℕ = take edit.at text in
        let whole : front ++ drop edit.at text ≡ text = take-append-drop edit.at text in
        below_body_front s new edit.at front (edit.put ++ drop (edit.at + edit.cut) text) refl front_long late
        ∙ sym (below_body_front s text edit.at front (drop edit.at text) whole front_long late)
  ]

  -- so the stretch begins at a boundary of both texts, with the same number
  pub from_is : stretch_from s text edit ≡ after_last s.body (below edit.at (ends_of s text))
  from_is = ap (after_last s.body) below_same

  pub from_old : slice_get (boundaries_of s text) (segments_kept s text edit) ≡ Some (stretch_from s text edit)
  unfolding boundaries_of
  from_old =
      start_at s.body edit.at (ends_of s text) (ends-ascending s text usable.body)
      ∙ ap Some (sym from_is)

  pub from_new : slice_get (boundaries_of s new) (segments_kept s text edit) ≡ Some (stretch_from s text edit)
  unfolding boundaries_of
  from_new =
      ap (λ (es : List ℕ). slice_get (boundaries_of s new) (length es)) (sym below_same)
      ∙ start_at s.body edit.at (ends_of s new) (ends-ascending s new usable_too.body)

  -- where the body's start isn't past the edit, the stretch's beginning isn't, and the octets before it are the same
  pub from_within : s.body ≤ edit.at → stretch_from s text edit ≤ edit.at
  from_within late = start_within s.body edit.at (ends_of s new) late

  pub octets_before_same : s.body ≤ edit.at
      → take (stretch_from s text edit) new ≡ take (stretch_from s text edit) text
  octets_before_same late =
      let low = from_within late in
      let long = front_long in
      let from : ℕ = stretch_from s text edit in
      take-append-le from (take edit.at text) (edit.put ++ drop (edit.at + edit.cut) text) (omega arith)
      ∙ take-take from edit.at text low

  -- the segments that end before an edit stay as they are
  pub before_same : take (segments_kept s text edit) (segments_by s new)
      ≡ take (segments_kept s text edit) (segments_by s text)
  before_same = elim (cases_lt edit.at s.body) [
    | inl early ↦
        let count : segments_kept s text edit ≡ 0 = ap length (below_body s text edit.at usable early) in
        ap (λ (k : ℕ). take k (segments_by s new)) count
        ∙ ap (λ (k : ℕ). take k (segments_by s text)) (sym count)
    | inr late ↦
        segments_taken s new usable_too (segments_kept s text edit) (stretch_from s text edit) from_new
        ∙ ap (segments_by s) (octets_before_same late)
        ∙ sym (segments_taken s text usable (segments_kept s text edit) (stretch_from s text edit) from_old)
  ]
