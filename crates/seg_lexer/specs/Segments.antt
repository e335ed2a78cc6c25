-- Segments of a text (ISO 9735): what unreleased terminators end, and what is left after the last of them.
use Rattle.std.specs.Prelude.{ℕ, ◌+◌, ◌-◌, ◌≡◌, ◌≤◌, ◌<◌, Bool, not, ◌&&◌, ◌==◌, nat_lt, List, ◌∷◌, length, map, filter, slice_get, slice_index, Option, Some, None, if◌then◌else◌}
use Rattle.std.specs.List.{range_with_len, zip}
use Rattle.edi_tables.specs.Octets.{Octets}
use Rattle.seg_lexer.specs.Breaks.{lead}
use Rattle.seg_lexer.specs.Released.{is_released}
use Rattle.seg_lexer.specs.Stretch.{Stretch}
use Rattle.seg_lexer.specs.declared.service.Service.{Service}
use Rattle.seg_lexer.specs.declared.segment.Lexed.{Lexed}
use Rattle.seg_lexer.specs.declared.segment.Lexed.TheVariants.{Ended, Tail, Nothing}

-- an end: the place of a terminator that no octet of the body releases
abbrev pub is_end : Service → Octets → ℕ → Bool
is_end s text i = slice_index text i == s.terminator && not (is_released s.release text s.body i)

-- the places of the body
abbrev pub places_of : Service → Octets → List ℕ
places_of s text = range_with_len s.body (length text - s.body)

-- every end of the body, ascending
unfoldable pub ends_of : Service → Octets → List ℕ
ends_of s text = filter (is_end s text) (places_of s text)

-- where a segment, or the tail, may begin: the body's start and the octet after each end
unfoldable pub boundaries_of : Service → Octets → List ℕ
boundaries_of s text = s.body ∷ map (λ e. e + 1) (ends_of s text)

-- the segment between a boundary and the next end: the stretch from its first octet that is neither CR nor LF
-- to its terminator
abbrev pub segment_in : Octets → ℕ × ℕ → Stretch
segment_in text p = record { from = lead text p.0 p.1; to = p.1 }

-- every segment, in order
unfoldable pub segments_of : Service → Octets → List Stretch
segments_of s text = map (segment_in text) (zip (boundaries_of s text) (ends_of s text))

-- the first octet of the tail: what is left after the last end without leading CR and LF, where that isn't empty
unfoldable pub tail_of : Service → Octets → Option ℕ
tail_of s text =
    let start = lead text (slice_index (boundaries_of s text) (length (ends_of s text))) (length text) in
    if nat_lt start (length text) then Some start else None

-- place `from` is a boundary
abbrev pub IsBoundary : Service → Octets → ℕ → Type 0
IsBoundary s text from = (k : ℕ) × (slice_get (boundaries_of s text) k ≡ Some from)

-- segment k is this stretch, it begins at or after place `from`, and boundary k + 1 is the place after its end
pub record IsSegment (s : Service) (text : Octets) (k from : ℕ) (place : Stretch) : Type 0 where
  pub segment : slice_get (segments_of s text) k ≡ Some place
  pub next : slice_get (boundaries_of s text) (k + 1) ≡ Some (place.to + 1)
  pub low : from ≤ place.from
  pub ordered : place.from ≤ place.to
  pub within : place.to < length text

-- what is found at boundary k, which is the place `from`: segment k; or, after the last segment, the tail or nothing
abbrev pub IsLexed : Service → Octets → ℕ → ℕ → Lexed → Type 0
IsLexed s text k from (Ended start end) = IsSegment s text k from (record { from = start; to = end })
IsLexed s text k from (Tail start) = (length (segments_of s text) ≡ k) × (tail_of s text ≡ Some start)
IsLexed s text k from Nothing = (length (segments_of s text) ≡ k) × (tail_of s text ≡ None)
