-- The context of a text: its service characters, and what its first segment settles for all,
-- the level of its characters and the version of its syntax.
use Rattle.std.specs.Prelude.{ℕ, Bool, false, not, ◌&&◌, ◌||◌, ◌==◌, nat_eq, List, [], slice_get, slice_index, codes, Option, Some, None, if◌then◌else◌}
use Rattle.std.specs.List.{list_any, starts_with}
use Rattle.std.specs.Str.{bytes_eq}
use Rattle.edi_tables.specs.Octets.{Octets}
use Rattle.seg_lexer.specs.Fields.{Component, components_at, octets_at}
use Rattle.seg_lexer.specs.Segments.{segments_of}
use Rattle.seg_lexer.specs.Service.{characters_of, is_plain, service_of}
use Rattle.seg_lexer.specs.Stretch.{Stretch}
use Rattle.seg_lexer.specs.Tag.{tag_of}
use Rattle.seg_lexer.specs.declared.service.Service.{Service}
use Rattle.seg_lexer.specs.declared.context.Context.{Context}
use Rattle.seg_lexer.specs.declared.context.Level.{Level}
use Rattle.seg_lexer.specs.declared.context.Level.TheVariants.{A, B, C, D, E, F}

-- a segment has this tag
abbrev pub is_tagged : Octets → Option Octets → Bool
is_tagged tag None = false
is_tagged tag (Some octets) = bytes_eq octets tag

-- what the segment that opens an interchange (UNB) says; another segment says nothing here
abbrev pub opening_in : List Component → List Component
opening_in components = if is_tagged (codes "UNB") (tag_of components) then components else []

-- the same of the first segment of a text, if there is one
abbrev pub opening_components_of : Service → Octets → Option Stretch → List Component
opening_components_of s text None = []
opening_components_of s text (Some p) = opening_in (components_at s text p.from p.to)

-- the level that an interchange names, `UNOA` to `UNOF`; any other is read as `UNOB`
abbrev pub level_in : Option Octets → Level
level_in None = B
level_in (Some octets) =
    if bytes_eq octets (codes "UNOA") then A
    else if bytes_eq octets (codes "UNOC") then C
    else if bytes_eq octets (codes "UNOD") then D
    else if bytes_eq octets (codes "UNOE") then E
    else if bytes_eq octets (codes "UNOF") then F
    else B

-- the version of the syntax that an interchange names, `1` to `4`; any other is read as version 3
abbrev pub version_in : Option Octets → ℕ
version_in None = 3
version_in (Some octets) =
    if bytes_eq octets (codes "1") then 1
    else if bytes_eq octets (codes "2") then 2
    else if bytes_eq octets (codes "4") then 4
    else 3

-- the octet in the place of a repetition separator: octet 7 of a service string advice that can be used, and `*` in
-- every other text
abbrev pub repetition_octet : Service → Octets → ℕ
repetition_octet s text = if s.sound && starts_with nat_eq text (codes "UNA") then slice_index text 7 else 42

-- an octet can't separate repetitions: it is another service character, a letter, a digit, CR or LF
abbrev pub is_unusable : Service → ℕ → Bool
is_unusable s x = list_any (λ y. y == x) (characters_of s) || is_plain x && not (x == 32)

-- what separates the repetitions of an element, by the version of the syntax: nothing in versions 1 to 3; in version 4
-- that octet, unless it can't, or is a space, which means that there is no separator
abbrev pub repetition_separator : ℕ → Service → Octets → Option ℕ
repetition_separator version s text =
    let x = repetition_octet s text in
    if version == 4 && not (x == 32) && not (is_unusable s x) then Some x else None

-- the service string advice is sound, by the version of the syntax: it is absent or acceptable, and in version 4 its
-- octet for repetitions isn't one that can't separate them
abbrev pub is_sound_in : ℕ → Service → Octets → Bool
is_sound_in version s text = s.sound && not (version == 4 && is_unusable s (repetition_octet s text))

-- the service characters of a text, by the version of its syntax
abbrev pub service_in : ℕ → Service → Octets → Service
service_in version s text =
    record s { repetition = repetition_separator version s text; sound = is_sound_in version s text }

-- the context that an opening settles: the level is component 1 of element 1 (0001), the version component 2 (0002)
abbrev pub context_in : Service → Octets → List Component → Context
context_in s text opening = let version = version_in (octets_at 1 2 opening) in record {
  service = service_in version s text;
  level = level_in (octets_at 1 1 opening);
  version = version;
}

-- the context of a text, which no segment but the first settles; the first is cut without repetitions for that
unfoldable pub context_of : Octets → Context
context_of text =
    let s = service_of text in
    context_in s text (opening_components_of s text (slice_get (segments_of s text) 0))
