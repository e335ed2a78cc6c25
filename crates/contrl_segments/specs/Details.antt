-- What an acknowledgement tells of one error: its code (0085), the service segment it is at (0013), and its place
-- in the segment (S011).
use Rattle.std.specs.Prelude.{◌+◌, Bool, ◌&&◌, nat_le, List, [], ◌∷◌, Option, Some, None, codes, decimal, if◌then◌else◌}
use Rattle.std.specs.List.{list_any}
use Rattle.std.specs.Str.{bytes_eq}
use Rattle.edi_tables.specs.Octets.{Octets}
use Rattle.edi_tables.specs.declared.tag.Tag.{Tag}
use Rattle.error_ledger.specs.declared.error.ErrorLine.{ErrorLine}
use Rattle.error_ledger.specs.declared.kind.Kind.{Kind}
use Rattle.error_ledger.specs.declared.kind.Kind.TheVariants.{BadUna, NoUnz, NoUne}
use Rattle.error_ledger.specs.Kinds.{code_of}
use Rattle.contrl_segments.specs.Written.{Element, alone}

-- the segments that open and close interchanges, groups and messages
abbrev pub is_envelope_tag : Octets → Bool
is_envelope_tag tag =
    list_any (bytes_eq tag) (codes "UNB" ∷ codes "UNG" ∷ codes "UNH" ∷ codes "UNT" ∷ codes "UNE" ∷ codes "UNZ" ∷ [])

-- the tag of such a segment; any other is not given
abbrev pub envelope_tag : Option Tag → Octets
envelope_tag None = []
envelope_tag (Some tag) = if is_envelope_tag tag.octets then tag.octets else []

-- 0013: the segment that is bad or missing, or else the envelope segment that the error is at
abbrev pub tag_told : Kind → Option Tag → Octets
tag_told BadUna tag = codes "UNA"
tag_told NoUnz tag = codes "UNZ"
tag_told NoUne tag = codes "UNE"
tag_told _ tag = envelope_tag tag

-- a place whose numbers have at most three digits: elements are counted with the tag, which has position 1
abbrev pub is_near : ErrorLine → Bool
is_near e = nat_le e.element 998 && nat_le e.component 999

-- S011 is given for an error at such a place of an element
abbrev pub has_position : ErrorLine → Bool
has_position e = nat_le 1 e.element && is_near e

-- 0098, the position of the element
abbrev pub element_told : ErrorLine → Octets
element_told e = if has_position e then decimal (e.element + 1) else []

-- 0104, the number of the component, where the error is at one
abbrev pub component_told : ErrorLine → Octets
component_told e = if has_position e && nat_le 1 e.component then decimal e.component else []

-- S011: the position of the element and the number of the component
abbrev pub position_of : ErrorLine → Element
position_of e = element_told e ∷ component_told e ∷ []

-- 0085, the code of the error
abbrev pub code_told : ErrorLine → Octets
code_told e = decimal (code_of e.kind)

-- the elements that tell of an error
abbrev pub details_of : ErrorLine → List Element
details_of e = alone (code_told e) ∷ alone (tag_told e.kind e.tag) ∷ position_of e ∷ []

-- the same of the error of a segment that may tell of none
abbrev pub details_told : Option ErrorLine → List Element
details_told None = []
details_told (Some e) = details_of e
