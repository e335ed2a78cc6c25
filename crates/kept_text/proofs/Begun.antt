-- A text is read from its body's start on.
use Rattle.std.proofs.Common.{◌≡◌, ℕ, ◌≤◌, List, length, take, drop, sym, ap, ◌∙◌, subst, arith}
use Rattle.std.proofs.lemmas.List.{length-map}
use Rattle.dir_compile.specs.declared.parts.Parts.{Parts}
use Rattle.seg_lexer.specs.Context.{context_of}
use Rattle.seg_lexer.specs.Segments.{IsBoundary}
use Rattle.seg_lexer.specs.Service.{IsUsable}
use Rattle.seg_lexer.specs.Whole.{at_start}
use Rattle.seg_lexer.specs.declared.context.Context.{Context}
use Rattle.seg_lexer.specs.declared.service.Service.{Service}
use Rattle.seg_lexer.proofs.SegmentsLemmas.{boundary-zero, first-boundary}
use Rattle.seg_lexer.proofs.ContextEnds.{context-usable}
use Rattle.segment_records.specs.Records.{kept_from, records_from}
use Rattle.segment_records.specs.Segments.{segments_by, segments_of_text}
use Rattle.segment_records.specs.declared.mode.Mode.TheVariants.{Outside}
use Rattle.segment_records.proofs.BodyLaws.{moved_on, whole_is_body}
use Rattle.segment_records.proofs.ModeLaws.{length_kept}
use Rattle.segment_records.specs.Count.{segment_count_of}
use Rattle.segment_records.specs.WalkedSegments.{kept_in}
use Rattle.segment_records.proofs.Rests.{rest_count, rest_segments}
use Rattle.segment_records.proofs.Stretches.{few_segments}
use Rattle.kept_text.proofs.Contexts.{count_same}

-- by its context
module _ (text : List ℕ) (context : Context) (is : context ≡ context_of text) where
  service_is : context.service ≡ (context_of text).service
  service_is = ap (λ (c : Context). c.service) is

  pub usable_by : IsUsable context.service text
  usable_by = subst (λ (s : Service). IsUsable s text) (sym service_is) (context-usable text)

  pub boundary_by : IsBoundary context.service text context.service.body
  boundary_by = first-boundary context.service text

  -- the octets after the body's start have all its segments
  pub count_by : rest_count context.service text context.service.body ≡ segment_count_of text
  count_by =
      let s = context.service in
      sym (ap length (rest_segments s text usable_by 0 s.body (boundary-zero s text))
      ∙ length-map (segments_by (at_start s) (drop s.body text)) (moved_on (length (take s.body text))))
      ∙ ap (λ (s : Service). length (segments_by s text)) service_is
      ∙ sym (count_same text)

  -- and what is kept of them is what is kept of it
  pub kept_by : (dir : Parts) → records_from dir context Outside (drop context.service.body text) ≡ kept_in dir text
  unfolding kept_in segments_of_text
  kept_by dir =
      sym (whole_is_body dir context text)
      ∙ ap (λ (s : Service). kept_from dir context Outside (segments_by s text)) service_is
      ∙ ap (λ (c : Context). kept_from dir c Outside (segments_by (context_of text).service text)) is

-- a text has no more records than octets
pub few_kept : (dir : Parts) (text : List ℕ) → length (kept_in dir text) ≤ length text
unfolding kept_in segments_of_text
few_kept dir text =
    let count = length_kept dir (context_of text) Outside (segments_by (context_of text).service text) in
    let few = few_segments (context_of text).service text in
    omega arith
