-- The segments that open and close envelopes, and what they say.
use Rattle.std.specs.Prelude.{◌≡◌, ◌+◌, ℕ, Bool, false, ◌==◌, List, [], ◌∷◌, length, map, find, slice_get, Option, codes}
use Rattle.std.specs.Option.{option_map, option_map_or}
use Rattle.std.specs.List.{range_with_len, filter_map}
use Rattle.edi_tables.specs.Octets.{Octets}
use Rattle.edi_tables.specs.declared.tag.Tag.{Tag}
use Rattle.edi_tables.specs.Rows.{has_name}
use Rattle.edi_tables.specs.Extents.{tag_in}
use Rattle.envelope_check.specs.Head.{Head}
use Rattle.envelope_check.specs.declared.head.HeadKind.{HeadKind}
use Rattle.envelope_check.specs.declared.head.HeadKind.TheVariants.{Unb, Ung, Unh, Unt, Une, Unz}
use Rattle.envelope_check.specs.declared.head.SegmentMark.{SegmentMark}

-- the tag of each kind
abbrev pub name_of : HeadKind → Octets
name_of Unb = codes "UNB"
name_of Ung = codes "UNG"
name_of Unh = codes "UNH"
name_of Unt = codes "UNT"
name_of Une = codes "UNE"
name_of Unz = codes "UNZ"

-- which of the six kinds a tag is, if it is one
abbrev pub kind_of : Option Tag → Option HeadKind
kind_of tag = find (λ kind. has_name (name_of kind) tag) (Unb ∷ Ung ∷ Unh ∷ Unt ∷ Une ∷ Unz ∷ [])

-- the tags of all segments, in order
abbrev pub tags_of : List SegmentMark → List (Option Tag)
tags_of marks = map (λ mark. mark.tag) marks

-- the first octet of the segment at place i
abbrev pub start_in : List SegmentMark → ℕ → ℕ
start_in marks i = option_map_or (λ mark. mark.start) (slice_get marks i) 0

-- where a head is: the number of its segment, its first octet, and which of the six kinds it is
pub record HeadPlace : Type 0 where
  pub segment : ℕ
  pub start : ℕ
  pub kind : HeadKind

-- where a head is, without what it says
abbrev pub head_place_of : Head → HeadPlace
head_place_of head = record { segment = head.segment; start = head.start; kind = head.kind }

-- where segment k with this mark is as a head, if its tag is one of the six
abbrev pub place_by : ℕ → SegmentMark → Option HeadPlace
place_by k mark = option_map (λ kind. record { segment = k; start = mark.start; kind = kind }) (kind_of mark.tag)

-- where the head at place i is, if the segment there has one of the six tags
abbrev pub head_place : List SegmentMark → ℕ → Option HeadPlace
head_place marks i =
    option_map (λ kind. record { segment = i + 1; start = start_in marks i; kind = kind })
    (kind_of (tag_in (tags_of marks) i))

-- the heads are all segments with the six tags, in order
abbrev pub Fits : List Head → List SegmentMark → Type 0
Fits heads marks = map head_place_of heads ≡ filter_map (head_place marks) (range_with_len 0 (length marks))

-- the head that segment k is
abbrev pub head_of : List Head → ℕ → Option Head
head_of heads k = find (λ head. head.segment == k) heads

-- the reference that segment k gives
abbrev pub reference_of : List Head → ℕ → Octets
reference_of heads k = option_map_or (λ head. head.reference) (head_of heads k) []

-- the count that segment k gives
abbrev pub count_of : List Head → ℕ → Octets
count_of heads k = option_map_or (λ head. head.count) (head_of heads k) []

-- the type of message that segment k gives: 0065 of UNH, 0038 of UNG
abbrev pub message_type_of : List Head → ℕ → Octets
message_type_of heads k = option_map_or (λ head. head.name) (head_of heads k) []

-- the directory has a table for the message that segment k opens
abbrev pub is_tabled : List Head → ℕ → Bool
is_tabled heads k = option_map_or (λ head. head.tabled) (head_of heads k) false
