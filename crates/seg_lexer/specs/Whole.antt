-- Texts that are put together: whole segments, what comes after them, and what an edit puts in place.
use Rattle.std.specs.Prelude.{ℕ, ◌+◌, ◌≡◌, ◌≤◌, false, List, [], ◌∷◌, length, map}
use Rattle.std.specs.List.{splice}
use Rattle.edi_tables.specs.Octets.{Octets}
use Rattle.seg_lexer.specs.Released.{is_released}
use Rattle.seg_lexer.specs.Segments.{ends_of, segments_of}
use Rattle.seg_lexer.specs.Stretch.{octets_in}
use Rattle.seg_lexer.specs.declared.service.Service.{Service}

-- the same characters, for a text whose body begins at its first octet
abbrev pub at_start : Service → Service
at_start s = record s { body = 0 }

-- the place after the last of these ends, or else b
abbrev pub after_last : ℕ → List ℕ → ℕ
after_last b [] = b
after_last b (e ∷ es) = after_last (e + 1) es

-- the body is whole segments: nothing is left after the last end, and no octet of it releases what may follow
pub record IsWhole (s : Service) (text : Octets) : Type 0 where
  pub body : s.body ≤ length text
  pub free : is_released s.release text s.body (length text) ≡ false
  pub last : after_last s.body (ends_of s text) ≡ length text

-- the octets of each segment
abbrev pub contents_of : Service → Octets → List Octets
contents_of s text = map (octets_in text) (segments_of s text)

-- the text after an edit: others come in place of `cut` octets from place `at` on
abbrev pub spliced : Octets → ℕ → ℕ → Octets → Octets
spliced text at cut put = splice text at (at + cut) put
