-- The errors of a segment, by the rules in terms of what is known there.
use Rattle.std.proofs.Common.{◌≡◌, ℕ, zero, suc, ◌+◌, Bool, true, false, not, ◌&&◌, ◌||◌, List, [], ◌∷◌, ◌++◌, inl, inr, Option, Some, None, refl, sym, ap, ◌∙◌, append_assoc, append-nil}
use Rattle.std.specs.Prelude.{slice_get, is_some}
use Rattle.std.specs.Option.{option_copied, option_map_or}
use Rattle.std.specs.List.{list_any}
use Rattle.std.proofs.lemmas.Bool.{cases_Bool}
use Rattle.edi_tables.specs.Extents.{tag_in}
use Rattle.edi_tables.specs.declared.tag.Tag.{Tag}
use Rattle.edi_tables.specs.Rows.{when}
use Rattle.error_ledger.specs.declared.error.ErrorLine.{ErrorLine}
use Rattle.error_ledger.specs.declared.kind.Kind.{Kind}
use Rattle.error_ledger.specs.declared.kind.Kind.TheVariants.{SecondUnb, AfterEnd, Outside, EmptyInterchange, Mixed, Reference, Count, NoUne, EmptyGroup, GroupType, NoTable}
use Rattle.envelope_check.specs.Head.{Head}
use Rattle.envelope_check.specs.declared.head.HeadKind.{HeadKind}
use Rattle.envelope_check.specs.declared.head.HeadKind.TheVariants.{Unh, Unt}
use Rattle.envelope_check.specs.declared.head.SegmentMark.{SegmentMark}
use Rattle.envelope_check.specs.declared.known.Known.{Known}
use Rattle.envelope_check.specs.Heads.{tags_of, start_in}
use Rattle.envelope_check.specs.Envelope.{envelope_errors_at, error_with, is_second_unb, is_after_end, is_outside, is_empty_interchange, is_mixed, lacks_une, is_empty_group, is_of_other_type, miscounts, refers_elsewhere, lacks_table}
use Rattle.envelope_check.specs.Known.{
  count_due_by,
  empty_group_by,
  empty_interchange_by,
  errors_by,
  group_end,
  is_unh,
  lacks_table_by,
  lacks_une_by,
  miscounts_by,
  mixed_by,
  next_but_unt,
  opening_by,
  other_type_by,
  outside_by,
  refers_elsewhere_by,
  rules_by,
  second_unb_by,
  told,
}
use Rattle.envelope_check.proofs.RuleLaws.{Site, second_unb_is, outside_is, empty_interchange_is, mixed_is, other_type_is, lacks_table_is}
use Rattle.envelope_check.proofs.GroupAhead.{lacks_une_is, empty_group_is}
use Rattle.envelope_check.proofs.Closing.{miscounts_is, refers_elsewhere_is}

eleven : (a b c d e f g h i j k : List ErrorLine) → a ++ b ++ c ++ d ++ e ++ f ++ g ++ h ++ i ++ j ++ k ≡ a ++ (b ++ (c ++ (d ++ (e ++ (f ++ (g ++ (h ++ (i ++ (j ++ (k ++ []))))))))))
eleven a b c d e f g h i j k = simp (append_assoc, append-nil)

told_same : (k start : ℕ) (tag : Option Tag) (mark : SegmentMark) (p q : Bool) (element : ℕ) (kind : Kind) → start ≡ mark.start → tag ≡ mark.tag → p ≡ q → when p (error_with k start tag element kind) ≡ told k mark (q, element, kind)
told_same k start tag mark p q element kind same_start same_tag same = rw (same_start, same_tag, same) refl

append_same : (a b c d : List ErrorLine) → a ≡ b → c ≡ d → a ++ c ≡ b ++ d
append_same a b c d first second = rw (first, second) refl

start_of : (marks : List SegmentMark) (i : ℕ) (mark : SegmentMark) → slice_get marks i ≡ Some mark → start_in marks i ≡ mark.start
start_of marks i mark here = ap (λ o. option_map_or (λ (m : SegmentMark). m.start) o 0) here

tag_of : (marks : List SegmentMark) (i : ℕ) (mark : SegmentMark) → slice_get marks i ≡ Some mark → tag_in (tags_of marks) i ≡ mark.tag
tag_of [] i mark here = cc
tag_of (m ∷ marks) zero mark here = let same : m ≡ mark = cc in ap (λ (q : SegmentMark). q.tag) same
tag_of (m ∷ marks) (suc i) mark here = tag_of marks i mark here

pub errors_here : (heads : List Head) (marks : List SegmentMark) (i : ℕ) (known : Known) (here : Option Head) (after : List Head) (mark : SegmentMark) → Site heads marks i known here after → slice_get marks i ≡ Some mark → envelope_errors_at heads marks i ≡ errors_by (i + 1) mark (rules_by known here after)
unfolding envelope_errors_at errors_by rules_by
errors_here heads marks i known here after mark site is =
    let start = start_of marks i mark is in
    let tag = tag_of marks i mark is in
    let one : (p q : Bool) (element : ℕ) (kind : Kind) → p ≡ q → when p (error_with (i + 1) (start_in marks i) (tag_in (tags_of marks) i) element kind) ≡ told (i + 1) mark (q, element, kind) =
    λ p q element kind same. told_same (i + 1) (start_in marks i) (tag_in (tags_of marks) i) mark p q element kind start tag same in
    let tags = tags_of marks in
    let told_if = λ (p : Bool) (element : ℕ) (kind : Kind). when p (error_with (i + 1) (start_in marks i) (tag_in tags i) element kind) in
    eleven (told_if (is_second_unb tags i) 0 SecondUnb) (told_if (is_after_end tags i) 0 AfterEnd) (told_if (is_outside tags i) 0 Outside)
    (told_if (is_empty_interchange tags i) 0 EmptyInterchange) (told_if (is_mixed tags i) 0 Mixed) (told_if (lacks_une tags i) 0 NoUne)
    (told_if (is_empty_group tags i) 0 EmptyGroup) (told_if (is_of_other_type heads tags i) 0 GroupType) (told_if (miscounts heads tags i) 1 Count)
    (told_if (refers_elsewhere heads tags i) 2 Reference) (told_if (lacks_table heads tags i) 2 NoTable)
    ∙ append_same _ _ _ _ (one _ _ 0 SecondUnb (second_unb_is heads marks i known here after site))
    (append_same _ _ _ _ (one _ _ 0 AfterEnd (sym site.so_far.ended))
    (append_same _ _ _ _ (one _ _ 0 Outside (outside_is heads marks i known here after site))
    (append_same _ _ _ _ (one _ _ 0 EmptyInterchange (empty_interchange_is heads marks i known here after site))
    (append_same _ _ _ _ (one _ _ 0 Mixed (mixed_is heads marks i known here after site))
    (append_same _ _ _ _ (one _ _ 0 NoUne (lacks_une_is heads marks i known here after site))
    (append_same _ _ _ _ (one _ _ 0 EmptyGroup (empty_group_is heads marks i known here after site))
    (append_same _ _ _ _ (one _ _ 0 GroupType (other_type_is heads marks i known here after site))
    (append_same _ _ _ _ (one _ _ 1 Count (miscounts_is heads marks i known here after site))
    (append_same _ _ _ _ (one _ _ 2 Reference (refers_elsewhere_is heads marks i known here after site))
    (append_same _ _ _ _ (one _ _ 2 NoTable (lacks_table_is heads marks i known here after site))
    refl))))))))))

-- a segment that breaks no rule has no errors
pub none_broken : (k : ℕ) (mark : SegmentMark) (rules : List (Bool × ℕ × Kind)) → list_any (λ (rule : Bool × ℕ × Kind). rule.0) rules ≡ false → errors_by k mark rules ≡ []
unfolding errors_by
none_broken k mark [] none = refl
none_broken k mark (rule ∷ rules) none = elim (cases_Bool rule.0) [
  | inl broken ↦ let it = rw broken at none in cc
  | inr kept ↦ let more = rw kept at none in rw kept (none_broken k mark rules more)
]

-- a segment that is no head breaks no rule before the end and in an open message
pub sound_segment : (k : ℕ) (mark : SegmentMark) (known : Known) (after : List Head) → known.ended ≡ false → is_some known.message ≡ true → errors_by k mark (rules_by known None after) ≡ []
unfolding errors_by rules_by
sound_segment k mark known after before inside = rw (before, inside) refl

none_of : (a b c d e f g h i j k : Bool) → a ≡ false → b ≡ false → c ≡ false → d ≡ false → e ≡ false → f ≡ false → g ≡ false → h ≡ false → i ≡ false → j ≡ false → k ≡ false
    → (a || (b || (c || (d || (e || (f || (g || (h || (i || (j || (k || false))))))))))) ≡ false
none_of a b c d e f g h i j k aa bb cc dd ee ff gg hh ii jj kk = rw (aa, bb, cc, dd, ee, ff, gg, hh, ii, jj, kk) refl

-- a UNH or a UNT that is as it should be breaks no rule before the end
module _ (known : Known) (head : Head) (after : List Head) (before : known.ended ≡ false) where
  pub sound_start : head.kind ≡ Unh → lacks_table_by (Some head) ≡ false → mixed_by (Some head.kind) (is_some known.group) known.has_groups ≡ false
      → other_type_by (Some head.kind) (Some head) (option_copied known.group) ≡ false
      → list_any (λ (rule : Bool × ℕ × Kind). rule.0) (rules_by known (Some head) after) ≡ false
  unfolding rules_by
  sound_start kind table mixed name = none_of _ _ _ _ _ _ _ _ _ _ _
      (ap (λ (k : HeadKind). second_unb_by (Some k) known.segments known.ended) kind)
      before
      (ap (λ (k : HeadKind). outside_by (Some k) known.ended (is_some known.message) (is_some known.group)) kind
      ∙ ap (λ (e : Bool). outside_by (Some Unh) e (is_some known.message) (is_some known.group)) before)
      (ap (λ (k : HeadKind). empty_interchange_by (Some k) known.ended known.groups known.messages) kind)
      mixed
      (ap (λ (k : HeadKind). lacks_une_by (Some k) (group_end after)) kind)
      (ap (λ (k : HeadKind). empty_group_by (Some k) (next_but_unt after)) kind)
      name
      (ap (λ (k : HeadKind). miscounts_by (Some head) (count_due_by (Some k) known)) kind)
      (ap (λ (k : HeadKind). refers_elsewhere_by (Some head) (opening_by (Some k) known)) kind)
      table

  pub sound_end : head.kind ≡ Unt → is_some known.message ≡ true → miscounts_by (Some head) (count_due_by (Some head.kind) known) ≡ false
      → refers_elsewhere_by (Some head) (opening_by (Some head.kind) known) ≡ false
      → list_any (λ (rule : Bool × ℕ × Kind). rule.0) (rules_by known (Some head) after) ≡ false
  unfolding rules_by
  sound_end kind inside count reference = none_of _ _ _ _ _ _ _ _ _ _ _
      (ap (λ (k : HeadKind). second_unb_by (Some k) known.segments known.ended) kind)
      before
      (ap (λ (k : HeadKind). outside_by (Some k) known.ended (is_some known.message) (is_some known.group)) kind
      ∙ ap (λ (e : Bool). outside_by (Some Unt) e (is_some known.message) (is_some known.group)) before
      ∙ ap (λ (m : Bool). outside_by (Some Unt) false m (is_some known.group)) inside)
      (ap (λ (k : HeadKind). empty_interchange_by (Some k) known.ended known.groups known.messages) kind)
      (ap (λ (k : HeadKind). mixed_by (Some k) (is_some known.group) known.has_groups) kind)
      (ap (λ (k : HeadKind). lacks_une_by (Some k) (group_end after)) kind)
      (ap (λ (k : HeadKind). empty_group_by (Some k) (next_but_unt after)) kind)
      (ap (λ (k : HeadKind). other_type_by (Some k) (Some head) (option_copied known.group)) kind)
      count
      reference
      (ap (λ (k : HeadKind). is_unh k && not head.tabled) kind)
