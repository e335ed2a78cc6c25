-- The reduced directory of a drill: that of the example, with the message TSTORD alone.
use Rattle.std.specs.Prelude.{ℕ, List, [], ◌∷◌, codes}
use Rattle.edi_tables.specs.Octets.{Octets}
use Rattle.edi_tables.specs.declared.element.Class.{Class}
use Rattle.edi_tables.specs.declared.element.Class.TheVariants.{N, An}
use Rattle.edi_tables.specs.declared.element.ElementDef.{ElementDef}
use Rattle.edi_tables.specs.declared.element.CodeList.{CodeList}
use Rattle.edi_tables.specs.declared.element.CompositeDef.{CompositeDef}
use Rattle.edi_tables.specs.declared.segment.SegmentDef.{SegmentDef}
use Rattle.edi_tables.specs.declared.segment.TableRow.{TableRow}
use Rattle.edi_tables.specs.declared.segment.MessageDef.{MessageDef}
use Rattle.dir_compile.specs.declared.parts.Parts.{Parts}
use Rattle.dir_compile.specs.Directory.{Directory}
use Rattle.dir_compile.specs.InOrder.{ordered_parts}
use Rattle.service_tables.specs.ServiceTables.{M, C, up_to, repr_of, part, alone, composite, composite_of, segment_of, segment_row, group_row}

-- an element with values of up to so many octets
abbrev pub element : Octets → Class → ℕ → ElementDef
element code class most = record { code = record { octets = code }; repr = repr_of class (up_to most) }

-- the codes of an element
abbrev pub list_of : Octets → List Octets → CodeList
list_of code values = record { element = record { octets = code }; values = values }

-- the data elements, each with its representation
abbrev pub elements : List ElementDef
elements =
    element (codes "1000") An 35
    ∷ element (codes "1001") An 3
    ∷ element (codes "1004") An 35
    ∷ element (codes "1082") N 6
    ∷ element (codes "1131") An 3
    ∷ element (codes "1153") An 3
    ∷ element (codes "1154") An 35
    ∷ element (codes "1225") An 3
    ∷ element (codes "1229") An 3
    ∷ element (codes "2005") An 3
    ∷ element (codes "2379") An 3
    ∷ element (codes "2380") An 35
    ∷ element (codes "3035") An 3
    ∷ element (codes "3039") An 17
    ∷ element (codes "3055") An 3
    ∷ element (codes "3139") An 3
    ∷ element (codes "3412") An 35
    ∷ element (codes "3413") An 17
    ∷ element (codes "5004") N 18
    ∷ element (codes "5025") An 3
    ∷ element (codes "5118") N 15
    ∷ element (codes "5125") An 3
    ∷ element (codes "6060") N 15
    ∷ element (codes "6063") An 3
    ∷ element (codes "6411") An 3
    ∷ element (codes "7140") An 35
    ∷ element (codes "7143") An 3
    ∷ []

-- the code lists of two of the data elements
abbrev pub lists : List CodeList
lists =
    list_of (codes "1001") (codes "220" ∷ codes "231" ∷ [])
    ∷ list_of (codes "2005") (codes "2" ∷ codes "137" ∷ [])
    ∷ []

-- the composites, each with its components in order
abbrev pub composites : List CompositeDef
composites =
    composite_of (codes "C002") (
    part (codes "1001") An (up_to 3) C ∷
    part (codes "1131") An (up_to 3) C ∷
    part (codes "1000") An (up_to 35) C ∷ [])
    ∷ composite_of (codes "C056") (
    part (codes "3413") An (up_to 17) C ∷
    part (codes "3412") An (up_to 35) C ∷ [])
    ∷ composite_of (codes "C082") (
    part (codes "3039") An (up_to 17) M ∷
    part (codes "1131") An (up_to 3) C ∷
    part (codes "3055") An (up_to 3) C ∷ [])
    ∷ composite_of (codes "C186") (
    part (codes "6063") An (up_to 3) M ∷
    part (codes "6060") N (up_to 15) M ∷
    part (codes "6411") An (up_to 3) C ∷ [])
    ∷ composite_of (codes "C212") (
    part (codes "7140") An (up_to 35) C ∷
    part (codes "7143") An (up_to 3) C ∷ [])
    ∷ composite_of (codes "C506") (
    part (codes "1153") An (up_to 3) M ∷
    part (codes "1154") An (up_to 35) C ∷ [])
    ∷ composite_of (codes "C507") (
    part (codes "2005") An (up_to 3) M ∷
    part (codes "2380") An (up_to 35) C ∷
    part (codes "2379") An (up_to 3) C ∷ [])
    ∷ composite_of (codes "C509") (
    part (codes "5125") An (up_to 3) M ∷
    part (codes "5118") N (up_to 15) C ∷ [])
    ∷ composite_of (codes "C516") (
    part (codes "5025") An (up_to 3) M ∷
    part (codes "5004") N (up_to 18) C ∷ [])
    ∷ []

-- the segments, each with its items in order
abbrev pub segments : List SegmentDef
segments =
    segment_of (codes "BGM") (
    composite (codes "C002") C ∷
    alone (codes "1004") An (up_to 35) C ∷
    alone (codes "1225") An (up_to 3) C ∷ [])
    ∷ segment_of (codes "CTA") (
    alone (codes "3139") An (up_to 3) C ∷
    composite (codes "C056") C ∷ [])
    ∷ segment_of (codes "DTM") (
    composite (codes "C507") M ∷ [])
    ∷ segment_of (codes "LIN") (
    alone (codes "1082") N (up_to 6) C ∷
    alone (codes "1229") An (up_to 3) C ∷
    composite (codes "C212") C ∷ [])
    ∷ segment_of (codes "MOA") (
    composite (codes "C516") M ∷ [])
    ∷ segment_of (codes "NAD") (
    alone (codes "3035") An (up_to 3) M ∷
    composite (codes "C082") C ∷ [])
    ∷ segment_of (codes "PRI") (
    composite (codes "C509") C ∷ [])
    ∷ segment_of (codes "QTY") (
    composite (codes "C186") M ∷ [])
    ∷ segment_of (codes "RFF") (
    composite (codes "C506") M ∷ [])
    ∷ []

-- the segment table of TSTORD
abbrev pub order_rows : List TableRow
order_rows =
    segment_row (codes "UNH") M 1 0
    ∷ segment_row (codes "BGM") M 1 0
    ∷ segment_row (codes "DTM") M 2 0
    ∷ group_row C 2 0
    ∷ segment_row (codes "NAD") M 1 1
    ∷ segment_row (codes "CTA") C 1 1
    ∷ group_row C 3 0
    ∷ segment_row (codes "LIN") M 1 1
    ∷ segment_row (codes "QTY") C 1 1
    ∷ group_row C 2 1
    ∷ segment_row (codes "PRI") M 1 2
    ∷ segment_row (codes "DTM") C 1 2
    ∷ segment_row (codes "UNS") M 1 0
    ∷ segment_row (codes "MOA") C 1 0
    ∷ segment_row (codes "UNT") M 1 0
    ∷ []

-- the messages: TSTORD alone
abbrev pub order_messages : List MessageDef
order_messages = record { name = codes "TSTORD"; rows = order_rows } ∷ []

-- the parts of the reduced directory: D.96A of UN, and these definitions
unfoldable pub reduced : Parts
reduced = record {
  version = codes "D";
  release = codes "96A";
  agency = codes "UN";
  elements = elements;
  lists = lists;
  composites = composites;
  segments = segments;
  messages = order_messages;
}

-- the reduced directory: its parts, in ascending order of names
abbrev pub drill_directory : Directory
drill_directory = ordered_parts reduced
