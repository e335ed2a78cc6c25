-- How many segments come before a boundary and after it, and what that says of an edit.
use Rattle.std.proofs.Common.{◌≡◌, ℕ, zero, suc, ◌+◌, ◌≤◌, List, [], ◌∷◌, Some, length, take, drop, ap, arith, length-drop}
use Rattle.std.specs.Prelude.{map}
use Rattle.std.specs.List.{slice_get}
use Rattle.std.proofs.lemmas.List.{length-map}
use Rattle.seg_lexer.specs.Segments.{boundaries_of, ends_of}
use Rattle.seg_lexer.specs.Service.{IsUsable}
use Rattle.seg_lexer.specs.Whole.{at_start}
use Rattle.seg_lexer.specs.declared.service.Service.{Service}
use Rattle.seg_lexer.proofs.EndsLemmas.{IsAscending, ends-ascending}
use Rattle.seg_lexer.proofs.SegmentsLemmas.{boundary-high}
use Rattle.segment_records.specs.Segments.{segments_by}
use Rattle.segment_records.proofs.BodyLaws.{moved_on}
use Rattle.segment_records.proofs.Rests.{length_segments, rest_count, rest_segments}
use Rattle.segment_records.proofs.Stretches.{few_segments}
use Rattle.kept_text.proofs.Taken.{boundary_number}

-- a boundary isn't before as many octets as its number
number_low : (b : ℕ) (es : List ℕ) (k from : ℕ) → IsAscending b es → slice_get (b ∷ map (λ e. e + 1) es) k ≡ Some from → b + k ≤ from
number_low b es zero from order is = let same : b ≡ from = cc in omega arith
number_low b [] (suc k) from order is = absurd (let no : ⊥ = cc in no)
number_low b (e ∷ es) (suc k) from order is =
    let later = number_low (e + 1) es k from order.1 is in
    let low = order.0 in omega arith

module _ (s : Service) (text : List ℕ) (usable : IsUsable s text) (k from : ℕ) (at : slice_get (boundaries_of s text) k ≡ Some from) where
  pub boundary_low : k ≤ from
  unfolding boundaries_of
  boundary_low = omega (arith, number_low s.body (ends_of s text) k from (ends-ascending s text usable.body) at)

  -- as many segments come before a boundary as its number, and the others after it
  pub rest_is : k + rest_count s text from ≡ length (segments_by s text)
  rest_is =
      let rest = ap length (rest_segments s text usable k from at) in
      let moved = length-map (segments_by (at_start s) (drop from text)) (moved_on (length (take from text))) in
      omega (arith, length-drop k (segments_by s text), length_segments s text, boundary_number s text usable k from at)

  -- there are no more of those than octets
  pub rest_few : from + rest_count s text from ≤ length text
  rest_few =
      let few = few_segments (at_start s) (drop from text) in
      let high = boundary-high s text usable from (k, at) in
      omega (arith, length-drop from text)
