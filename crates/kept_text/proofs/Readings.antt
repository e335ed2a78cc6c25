-- What is kept of a text, in the words of its directory and its text.
use Rattle.std.proofs.Common.{◌≡◌, ℕ, ◌+◌, ◌≤◌, List, length, take, get_or, sym, ap, ◌∙◌, subst, arith}
use Rattle.seg_lexer.specs.Context.{context_of}
use Rattle.seg_lexer.specs.Segments.{boundaries_of, ends_of}
use Rattle.seg_lexer.specs.Service.{IsUsable, service_of}
use Rattle.seg_lexer.specs.declared.context.Context.{Context}
use Rattle.seg_lexer.specs.declared.service.Service.{Service}
use Rattle.seg_lexer.proofs.ContextEnds.{context-usable}
use Rattle.segment_records.specs.Messages.{mode_after}
use Rattle.segment_records.specs.Records.{Kept}
use Rattle.segment_records.specs.Segments.{segments_of_text}
use Rattle.segment_records.specs.declared.mode.Mode.{Mode}
use Rattle.segment_records.specs.declared.mode.Mode.TheVariants.{Outside}
use Rattle.segment_records.proofs.ModeLaws.{length_kept}
use Rattle.segment_records.specs.Count.{segment_count_of}
use Rattle.kept_text.specs.declared.kept.KeptText.TheInside.{Inside}
use Rattle.kept_text.specs.Again.{last_mode}
use Rattle.kept_text.specs.Kept.{IsKeptText}
use Rattle.kept_text.proofs.Contexts.{body_same, count_same}
use Rattle.kept_text.proofs.ModesTaken.{modes_taken}
use Rattle.segment_records.specs.WalkedSegments.{AreStretches, kept_in, octets_in, seen_from, seen_in}
use Rattle.segment_records.proofs.Stretches.{few_segments, kept_stretches, last_boundary}

module _ (e : Inside) (it : IsKeptText e) where
  pub service_is : e.context.service ≡ (context_of e.text).service
  service_is = ap (λ (c : Context). c.service) it.context

  pub service_usable : IsUsable e.context.service e.text
  service_usable = subst (λ (s : Service). IsUsable s e.text) (sym service_is) (context-usable e.text)

  body_is : e.context.service.body ≡ (service_of e.text).body
  body_is = ap (λ (s : Service). s.body) service_is ∙ body_same e.text

  pub body_within : e.context.service.body ≤ length e.text
  body_within = service_usable.body

  pub stretches : AreStretches 1 e.context.service.body e.records
  stretches =
      subst (λ (kept : List Kept). AreStretches 1 e.context.service.body kept) (sym it.records)
      (subst (λ (n : ℕ). AreStretches 1 n (kept_in e.directory.now e.text)) (sym body_is) (kept_stretches e.directory.now e.text it.short))

  pub segments_are : seen_from 1 e.context.service.body e.outside e.records ≡ seen_in e.directory.now e.text
  unfolding seen_in
  segments_are =
      ap (λ (n : ℕ). seen_from 1 n e.outside e.records) body_is
      ∙ ap (λ (m : Mode). seen_from 1 (service_of e.text).body m e.records) it.outside
      ∙ ap (seen_from 1 (service_of e.text).body Outside) it.records

  pub boundary_is : e.context.service.body + octets_in e.records ≡ get_or (boundaries_of (service_of e.text) e.text) (length (ends_of (service_of e.text) e.text)) 0
  boundary_is =
      ap (λ (n : ℕ). n + octets_in e.records) body_is
      ∙ ap (λ (kept : List Kept). (service_of e.text).body + octets_in kept) it.records
      ∙ last_boundary e.directory.now e.text

  pub boundary_within : e.context.service.body + octets_in e.records ≤ 4194304
  boundary_within = stretches.within

  -- a record for each segment
  pub count_is : length e.records ≡ segment_count_of e.text
  unfolding kept_in segments_of_text
  count_is =
      ap length it.records
      ∙ length_kept e.directory.now (context_of e.text) Outside (segments_of_text e.text)
      ∙ sym (count_same e.text)

  pub few_records : length e.records ≤ length e.text
  unfolding kept_in segments_of_text
  few_records =
      let few = few_segments (context_of e.text).service e.text in
      let count = ap length it.records ∙ length_kept e.directory.now (context_of e.text) Outside (segments_of_text e.text) in
      omega arith

  -- the mode after the first records
  pub mode_is : (k : ℕ) → k ≤ length e.records → last_mode e.outside (take k e.records) ≡ mode_after e.directory.now (segments_of_text e.text) k
  mode_is k within =
      ap (λ (m : Mode). last_mode m (take k e.records)) it.outside
      ∙ ap (λ (kept : List Kept). last_mode Outside (take k kept)) it.records
      ∙ modes_taken e.directory.now it.directory e.text k (subst (λ (kept : List Kept). k ≤ length kept) it.records within)
