-- How far the stretch of an edit reaches, given by the numbers of ends.
use Rattle.std.proofs.Common.{◌≡◌, ℕ, suc, ◌+◌, ◌-◌, ◌<◌, ◌≤◌, false, List, length, drop, Some, None, ap, ◌∙◌, arith}
use Rattle.std.specs.List.{find, slice_get}
use Rattle.std.specs.Option.{option_map}
use Rattle.std.proofs.lemmas.List.{length-map, length-take-le}
use Rattle.std.proofs.lemmas.Option.{slice_get-map, slice_get_within}
use Rattle.seg_lexer.specs.Context.{context_of}
use Rattle.seg_lexer.specs.Segments.{boundaries_of, ends_of}
use Rattle.seg_lexer.specs.Service.{IsUsable}
use Rattle.seg_lexer.specs.declared.service.Service.{Service}
use Rattle.seg_lexer.proofs.EndsLemmas.{below-all, ends-ascending, ends-below}
use Rattle.kept_text.specs.Edit.{Edit, edited}
use Rattle.kept_text.specs.Stretch.{ends_moved, first_kept, is_among, reach_of, segments_before, stretch_from}
use Rattle.kept_text.proofs.Among.{among_no}
use Rattle.kept_text.proofs.Contexts.{reach_is, reach_with}
use Rattle.kept_text.proofs.Finds.{find_skip}
use Rattle.kept_text.proofs.Fronts.{below_same, from_new, segments_kept}
use Rattle.kept_text.proofs.Places.{below, below_start, counted_below}

module _ (s : Service) (text : List ℕ) (usable : IsUsable s text) where
  -- as many segments end before boundary m
  pub before_boundary : (m place : ℕ) → slice_get (boundaries_of s text) m ≡ Some place
      → segments_before s text place ≡ m
  unfolding boundaries_of
  before_boundary m place at =
      let es : List ℕ = ends_of s text in
      let count : length (boundaries_of s text) ≡ suc (length es) =
      ap (λ (n : ℕ). suc n) (length-map es (λ (e : ℕ). e + 1)) in
      let within : m < length (boundaries_of s text) = slice_get_within (boundaries_of s text) m place at in
      ap length (below_start s.body es m place (ends-ascending s text usable.body) at)
      ∙ length-take-le m es (omega arith)

  -- all end before the end of the text
  pub before_end : segments_before s text (length text) ≡ length (ends_of s text)
  before_end = ap length (below-all (length text) (ends_of s text) (ends-below s text usable.body))

-- after end m comes boundary m + 1
pub boundary_after : (s : Service) (text : List ℕ) (m e : ℕ) → slice_get (ends_of s text) m ≡ Some e
    → slice_get (boundaries_of s text) (m + 1) ≡ Some (e + 1)
unfolding boundaries_of
boundary_after s text m e end =
    let next : m + 1 ≡ suc m = omega arith in
    ap (slice_get (boundaries_of s text)) next
    ∙ slice_get-map (λ (e : ℕ). e + 1) (ends_of s text) m
    ∙ ap (option_map (λ (e : ℕ). e + 1)) end

module _ (s : Service) (text : List ℕ) (edit : Edit) (within : edit.at + edit.cut ≤ length text)
    (usable : IsUsable s text) (usable_too : IsUsable s (edited text edit)) where
  -- no end before an edit is kept: those that are moved are past it
  pub front_not : (i x : ℕ) → i < segments_kept s text edit → slice_get (ends_of s (edited text edit)) i ≡ Some x
      → is_among (ends_moved s text edit) x ≡ false
  front_not i x before end =
      let same : length (below edit.at (ends_of s (edited text edit))) ≡ segments_kept s text edit =
      ap length (below_same s text edit within usable usable_too) in
      let low : x < edit.at =
      counted_below s.body edit.at (ends_of s (edited text edit)) i x
      (ends-ascending s (edited text edit) usable_too.body) (omega arith) end in
      among_no edit.at edit.cut (length edit.put) x (ends_of s text) (λ k y is past moved. omega arith)

  -- the search for it can begin after them
  pub kept_rest : first_kept s text edit
      ≡ find (is_among (ends_moved s text edit)) (drop (segments_kept s text edit) (ends_of s (edited text edit)))
  kept_rest =
      find_skip
      (is_among (ends_moved s text edit)) (segments_kept s text edit) (ends_of s (edited text edit)) front_not

  -- the segments of the edited text that end before the stretch
  pub before_from : segments_before s (edited text edit) (stretch_from s text edit) ≡ segments_kept s text edit
  before_from =
      before_boundary s (edited text edit) usable_too (segments_kept s text edit) (stretch_from s text edit)
      (from_new s text edit within usable usable_too)

  reach_to : (m e : ℕ) → slice_get (ends_of s (edited text edit)) m ≡ Some e
      → reach_with s text edit (Some e) ≡ m + 1 - segments_kept s text edit
  reach_to m e end =
      let to : segments_before s (edited text edit) (e + 1) ≡ m + 1 =
      before_boundary s (edited text edit) usable_too (m + 1) (e + 1) (boundary_after s (edited text edit) m e end) in
      let from = before_from in
      omega arith

  reach_all : reach_with s text edit None ≡ length (ends_of s (edited text edit)) - segments_kept s text edit + 1
  reach_all =
      let to = before_end s (edited text edit) usable_too in
      let from = before_from in
      omega arith

module _ (text : List ℕ) (edit : Edit) (within : edit.at + edit.cut ≤ length text)
    (usable : IsUsable (context_of text).service text) (usable_too : IsUsable (context_of text).service (edited text edit)) where
  -- a stretch that ends after end m has the segments up to there
  pub reach_kept : (m e : ℕ) → slice_get (ends_of (context_of text).service (edited text edit)) m ≡ Some e
      → first_kept (context_of text).service text edit ≡ Some e
      → reach_of text edit ≡ m + 1 - segments_kept (context_of text).service text edit
  reach_kept m e end kept =
      let s = (context_of text).service in
      reach_is text edit
      ∙ ap (reach_with s text edit) kept ∙ reach_to s text edit within usable usable_too m e end

  -- one that goes on to the end of the text has all others, and counts one more
  pub reach_whole : first_kept (context_of text).service text edit ≡ None
      → reach_of text edit
      ≡ length (ends_of (context_of text).service (edited text edit)) - segments_kept (context_of text).service text edit + 1
  reach_whole kept =
      let s = (context_of text).service in
      reach_is text edit
      ∙ ap (reach_with s text edit) kept ∙ reach_all s text edit within usable usable_too
