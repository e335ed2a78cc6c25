-- What is after the last segment of a text.
use Rattle.std.proofs.Common.{◌≡◌, ℕ, ◌+◌, ◌<◌, List, ◌∷◌, length, get_or, Some, sym, ap, ◌∙◌, subst, arith}
use Rattle.std.specs.Prelude.{map}
use Rattle.std.specs.List.{slice_get}
use Rattle.std.proofs.lemmas.Bool.{ltb-true}
use Rattle.std.proofs.lemmas.List.{length-map}
use Rattle.std.proofs.lemmas.Option.{cond_some, slice_get-get_or, slice_get_within}
use Rattle.seg_lexer.specs.Segments.{IsSegment, boundaries_of, ends_of, segments_of, tail_of}
use Rattle.seg_lexer.specs.declared.service.Service.{Service}
use Rattle.segment_records.proofs.Rests.{length_segments, same_count}

-- the last boundary is one
pub last_at : (s : Service) (text : List ℕ) (from : ℕ) → from ≡ get_or (boundaries_of s text) (length (ends_of s text)) 0
    → slice_get (boundaries_of s text) (length (ends_of s text)) ≡ Some from
unfolding boundaries_of
last_at s text from is =
    let all = length-map (ends_of s text) (λ (e : ℕ). e + 1) in
    slice_get-get_or (s.body ∷ map (λ e. e + 1) (ends_of s text)) (length (ends_of s text)) 0 (omega arith) ∙ ap Some (sym is)

-- after it there is no segment
pub none_past : (s : Service) (text : List ℕ) (from start end : ℕ) → IsSegment s text (length (ends_of s text)) from (record { from = start; to = end }) → ⊥
none_past s text from start end it =
    let within = slice_get_within (segments_of s text) (length (ends_of s text)) _ it.segment in
    let count = same_count s text in
    let ends = length_segments s text in
    omega arith

-- a tail begins inside the text
pub tail_within : (s : Service) (text : List ℕ) (start : ℕ) → tail_of s text ≡ Some start → start < length text
unfolding tail_of
tail_within s text start is =
    let found = cond_some _ _ _ is in
    subst (λ (x : ℕ). x < length text) found.1 (ltb-true _ _ found.0)
