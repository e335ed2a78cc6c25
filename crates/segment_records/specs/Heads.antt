-- The segments of a text as the rules on envelopes see them.
use Rattle.std.specs.Prelude.{ℕ, Bool, false, List, [], map, Option, is_some}
use Rattle.std.specs.Option.{option_map}
use Rattle.std.specs.List.{enumerate_from, filter_map}
use Rattle.dir_compile.specs.Directory.{Directory}
use Rattle.edi_tables.specs.Octets.{Octets}
use Rattle.edi_tables.specs.declared.tag.Tag.{Tag}
use Rattle.seg_lexer.specs.Fields.{Component}
use Rattle.envelope_check.specs.Heads.{kind_of}
use Rattle.envelope_check.specs.Head.{Head}
use Rattle.envelope_check.specs.declared.head.HeadKind.{HeadKind}
use Rattle.envelope_check.specs.declared.head.HeadKind.TheVariants.{Unb, Ung, Unh, Unt, Une, Unz}
use Rattle.envelope_check.specs.declared.head.HeadValues.{HeadValues}
use Rattle.envelope_check.specs.declared.head.SegmentMark.{SegmentMark}
use Rattle.segment_records.specs.Segments.{Segment, value_in}
use Rattle.segment_records.specs.Messages.{table_for}

-- the reference that a segment of this kind gives: 0020 of UNB and UNZ, 0048 of UNG and UNE, 0062 of UNH and UNT
abbrev pub reference_in : List Component → HeadKind → Octets
reference_in components Unb = value_in components 5 1
reference_in components Ung = value_in components 5 1
reference_in components Unh = value_in components 1 1
reference_in components Unt = value_in components 2 1
reference_in components Une = value_in components 2 1
reference_in components Unz = value_in components 2 1

-- the count that it gives: 0074 of UNT, 0060 of UNE, 0036 of UNZ
abbrev pub count_in : List Component → HeadKind → Octets
count_in components Unt = value_in components 1 1
count_in components Une = value_in components 1 1
count_in components Unz = value_in components 1 1
count_in components _ = []

-- the type of message that it gives: 0065 of UNH, 0038 of UNG
abbrev pub name_in : List Component → HeadKind → Octets
name_in components Unh = value_in components 2 1
name_in components Ung = value_in components 1 1
name_in components _ = []

-- what it gives beside its reference: its count or its name
abbrev pub other_in : List Component → HeadKind → Octets
other_in components Unb = []
other_in components Ung = value_in components 1 1
other_in components Unh = value_in components 2 1
other_in components Unt = value_in components 1 1
other_in components Une = value_in components 1 1
other_in components Unz = value_in components 1 1

-- the values that it gives
abbrev pub values_in : List Component → HeadKind → HeadValues
values_in components kind = record { reference = reference_in components kind; other = other_in components kind }

-- the values that a segment with this tag gives, where it is a head
abbrev pub given_by : Option Tag → List Component → Option HeadValues
given_by tag components = option_map (values_in components) (kind_of tag)

-- for bodies: the element of the second of the two values that are read of a head, where the first is in element 1
abbrev pub second_element : HeadKind → ℕ
second_element Unb = 5
second_element Ung = 5
second_element Unh = 2
second_element Unt = 2
second_element Une = 2
second_element Unz = 2

-- a UNH whose message the directory has a segment table for
abbrev pub tabled_in : Directory → List Component → HeadKind → Bool
tabled_in dir components Unh = is_some (table_for dir components)
tabled_in dir components _ = false

-- segment k as a head of this kind
abbrev pub head_of : Directory → ℕ → Segment → HeadKind → Head
head_of dir k segment kind = record {
  segment = k;
  start = segment.start;
  kind = kind;
  reference = reference_in segment.components kind;
  count = count_in segment.components kind;
  name = name_in segment.components kind;
  tabled = tabled_in dir segment.components kind;
}

-- segment k as a head, where its tag is one of the six
abbrev pub head_at : Directory → ℕ × Segment → Option Head
head_at dir p = option_map (head_of dir p.0 p.1) (kind_of p.1.tag)

-- all segments that open or close an envelope, in order
unfoldable pub heads_of : Directory → List Segment → List Head
heads_of dir segments = filter_map (head_at dir) (enumerate_from 1 segments)

-- the mark of a segment: its first octet and its tag
abbrev pub mark_of : Segment → SegmentMark
mark_of segment = record { start = segment.start; tag = segment.tag }

-- the first octet and the tag of each segment
abbrev pub marks_of : List Segment → List SegmentMark
marks_of segments = map mark_of segments
