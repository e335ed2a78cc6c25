-- What comes before a boundary of a text: as many ends, and as many segments, as its number tells.
use Rattle.std.proofs.Common.{◌≡◌, ℕ, ◌+◌, ◌<◌, ◌≤◌, ltb, List, length, take, drop, Some, sym, ap, ◌∙◌, arith, take-append-drop}
use Rattle.std.specs.Prelude.{map}
use Rattle.std.specs.List.{filter, slice_get}
use Rattle.std.proofs.lemmas.List.{length-map, length-take-le, take_at}
use Rattle.std.proofs.lemmas.Option.{slice_get_within}
use Rattle.seg_lexer.specs.Segments.{IsBoundary, boundaries_of, ends_of}
use Rattle.seg_lexer.specs.Service.{IsUsable}
use Rattle.seg_lexer.specs.Whole.{IsWhole, at_start}
use Rattle.seg_lexer.specs.declared.service.Service.{Service}
use Rattle.seg_lexer.proofs.EndsLemmas.{ends-ascending, ends-before}
use Rattle.seg_lexer.proofs.SegmentsLemmas.{boundary-high}
use Rattle.seg_lexer.proofs.WholeLemmas.{whole-take}
use Rattle.segment_records.specs.Segments.{segments_by}
use Rattle.segment_records.proofs.BodyLaws.{moved_on, segments_append}
use Rattle.segment_records.proofs.Rests.{length_segments}
use Rattle.kept_text.proofs.Places.{below_start}

module _ (s : Service) (text : List ℕ) (usable : IsUsable s text) (k from : ℕ)
    (at : slice_get (boundaries_of s text) k ≡ Some from) where
  -- as many ends come before a boundary as its number tells
  pub ends_taken : filter (λ e. ltb e from) (ends_of s text) ≡ take k (ends_of s text)
  unfolding boundaries_of
  ends_taken = below_start s.body (ends_of s text) k from (ends-ascending s text usable.body) at

  -- and no more than there are
  pub boundary_number : k ≤ length (ends_of s text)
  unfolding boundaries_of
  boundary_number =
      let within : k < length (boundaries_of s text) = slice_get_within (boundaries_of s text) k from at in
      let count : length (map (λ (e : ℕ). e + 1) (ends_of s text)) ≡ length (ends_of s text) =
      length-map (ends_of s text) (λ (e : ℕ). e + 1) in
      omega arith

  boundary : IsBoundary s text from
  boundary = (k, at)

  whole : IsWhole s (take from text)
  whole = whole-take s text usable from boundary

  -- the ends of the octets before it are the first ends
  pub ends_front : ends_of s (take from text) ≡ take k (ends_of s text)
  ends_front =
      let long : length (take from text) ≡ from =
      length-take-le from text (boundary-high s text usable from boundary) in
      sym (ends-before s (take from text) (drop from text) whole.body)
      ∙ ap (λ (xs : List ℕ). filter (λ e. ltb e (length (take from text))) (ends_of s xs))
      (take-append-drop from text)
      ∙ ap (λ (n : ℕ). filter (λ e. ltb e n) (ends_of s text)) long
      ∙ ends_taken

  -- and the segments of those octets are the first segments
  pub segments_taken : take k (segments_by s text) ≡ segments_by s (take from text)
  segments_taken =
      let count : length (segments_by s (take from text)) ≡ k =
      length_segments s (take from text) ∙ ap length ends_front
      ∙ length-take-le k (ends_of s text) boundary_number in
      ap (take k)
      (ap (segments_by s) (sym (take-append-drop from text))
      ∙ segments_append s (take from text) (drop from text) whole)
      ∙ take_at (segments_by s (take from text))
      (map (moved_on (length (take from text))) (segments_by (at_start s) (drop from text))) k count
