-- The rerun of an edit by numbers of boundaries: it goes at least to the first boundary that can end it, and no further
-- than any that does.
use Rattle.std.proofs.Common.{◌≡◌, ℕ, ◌-◌, ◌<◌, ◌≤◌, true, false, List, length, Option, Some, None, inl, inr, refl, ap, ◌∙◌, arith}
use Rattle.std.specs.Prelude.{unwrap_or}
use Rattle.std.specs.List.{find, slice_get}
use Rattle.std.proofs.lemmas.Bool.{both_ways, cases_lt}
use Rattle.dir_compile.specs.declared.parts.Parts.{Parts}
use Rattle.seg_lexer.specs.Context.{context_of}
use Rattle.seg_lexer.specs.Segments.{boundaries_of, ends_of}
use Rattle.seg_lexer.specs.Service.{IsUsable}
use Rattle.seg_lexer.specs.declared.service.Service.{Service}
use Rattle.kept_text.specs.Edit.{Edit, edited}
use Rattle.kept_text.specs.Stretch.{segments_before, stretch_from}
use Rattle.kept_text.specs.Rerun.{rerun_of}
use Rattle.kept_text.proofs.Contexts.{is_met, rerun_is, rerun_with}
use Rattle.kept_text.proofs.Finds.{found_at, found_by}
use Rattle.kept_text.proofs.Reached.{before_boundary, before_end}

module _ (dir : Parts) (text : List ℕ) (edit : Edit) (usable : IsUsable (context_of text).service (edited text edit))
    (first : ℕ)
    (begins : slice_get (boundaries_of (context_of text).service (edited text edit)) first
    ≡ Some (stretch_from (context_of text).service text edit)) where
  abbrev s : Service
  s = (context_of text).service

  abbrev new : List ℕ
  new = edited text edit

  -- where it ends
  abbrev end : Option ℕ
  end = find (is_met dir text edit) (boundaries_of (context_of text).service (edited text edit))

  first_count : segments_before (context_of text).service (edited text edit)
      (stretch_from (context_of text).service text edit) ≡ first
  first_count = before_boundary s new usable first (stretch_from s text edit) begins

  -- at least m segments end before the place that was found
  least_by : (m : ℕ) → m ≤ length (ends_of s new)
      → ((i b : ℕ) → i < m → slice_get (boundaries_of s new) i ≡ Some b → is_met dir text edit b ≡ false)
      → (found : Option ℕ) → find (is_met dir text edit) (boundaries_of s new) ≡ found
      → m ≤ segments_before s new (unwrap_or found (length new))
  least_by m within none None is = omega (arith, before_end s new usable)
  least_by m within none (Some b) is =
      let at = found_at (is_met dir text edit) (boundaries_of s new) b is in
      let past : m ≤ at.0 = elim (cases_lt at.0 m) [
        | inl below ↦ absurd (both_ways (is_met dir text edit b) (none at.0 b below at.1) at.2)
        | inr past ↦ past
      ] in
      omega (arith, before_boundary s new usable at.0 b at.1)

  -- where no boundary before number m can end it, it goes as far as that
  pub rerun_least : (m : ℕ) → m ≤ length (ends_of s new)
      → ((i b : ℕ) → i < m → slice_get (boundaries_of s new) i ≡ Some b → is_met dir text edit b ≡ false)
      → m - first ≤ rerun_of dir text edit
  rerun_least m within none =
      let least : m ≤ segments_before s new (unwrap_or end (length new)) = least_by m within none end refl in
      let is : rerun_of dir text edit ≡ rerun_with s text edit end = rerun_is dir text edit in
      let count = first_count in
      omega arith

  -- where boundary m can end it, it goes no further
  pub rerun_most : (m b : ℕ) → slice_get (boundaries_of s new) m ≡ Some b → is_met dir text edit b ≡ true
      → rerun_of dir text edit ≤ m - first
  rerun_most m b at met =
      let found = found_by (is_met dir text edit) (boundaries_of s new) m b at met in
      let to : unwrap_or end (length new) ≡ found.0 = ap (λ (o : Option ℕ). unwrap_or o (length new)) found.2 in
      let most : segments_before s new (unwrap_or end (length new)) ≡ found.1 =
      ap (segments_before s new) to ∙ before_boundary s new usable found.1 found.0 found.3 in
      let is : rerun_of dir text edit ≡ rerun_with s text edit end = rerun_is dir text edit in
      let low = found.4 in
      let count = first_count in
      omega arith
