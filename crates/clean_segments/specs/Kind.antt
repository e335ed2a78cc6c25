-- For bodies and their invariants: what each octet is to a first look at a segment.
use Rattle.std.specs.Prelude.{◌≡◌, ◌≢◌, ◌<◌, ◌≤◌, ◌||◌, ◌==◌, ℕ, List, slice_get, slice_index, Some, if◌then◌else◌}
use Rattle.edi_tables.specs.Octets.{Octets}
use Rattle.seg_lexer.specs.Fields.{is_separator}
use Rattle.seg_lexer.specs.Released.{is_release}
use Rattle.seg_lexer.specs.declared.context.Level.{Level}
use Rattle.seg_lexer.specs.declared.service.Separators.{Separators}
use Rattle.element_check.specs.Repertoire.{is_admitted}
use Rattle.clean_segments.specs.declared.kinds.OctetKind.{OctetKind}
use Rattle.clean_segments.specs.declared.kinds.OctetKind.TheVariants.{Inner, Element, Component, Stop}

-- what an octet is, by what a segment is cut by and a level: the look ends at the release character, at what separates
-- repetitions, and at an octet that the level doesn't admit in a value
unfoldable pub kind_of : Separators → Level → ℕ → OctetKind
kind_of sp level x =
    if is_release sp.release x || is_separator sp.repetition x then Stop
    else if x == sp.element then Element
    else if x == sp.component then Component
    else if is_admitted level x then Inner else Stop

-- these are the kinds of all octets
abbrev pub AreKinds : Separators → Level → List OctetKind → Type 0
AreKinds sp level kinds = (x : ℕ) → x < 256 → slice_get kinds x ≡ Some (kind_of sp level x)

-- the octets of a segment from place a up to place b are parts of a value
abbrev pub AreInner : Separators → Level → Octets → ℕ → ℕ → Type 0
AreInner sp level xs a b = (k : ℕ) → a ≤ k → k < b → kind_of sp level (slice_index xs k) ≡ Inner

-- a look doesn't end at one of the first n octets of a segment
abbrev pub IsPassed : Separators → Level → Octets → ℕ → Type 0
IsPassed sp level xs n = (k : ℕ) → k < n → kind_of sp level (slice_index xs k) ≢ Stop
