-- The service segments, their composites, and the segment table of CONTRL.
use Rattle.std.specs.Prelude.{ℕ, ◌==◌, Bool, true, false, List, [], ◌∷◌, Option, Some, None, codes, if◌then◌else◌}
use Rattle.std.specs.Str.{bytes_eq}
use Rattle.edi_tables.specs.Octets.{Octets}
use Rattle.edi_tables.specs.declared.element.Class.{Class}
use Rattle.edi_tables.specs.declared.element.Class.TheVariants.{A, N, An}
use Rattle.edi_tables.specs.declared.element.CompositeDef.{CompositeDef}
use Rattle.edi_tables.specs.declared.element.PartDef.{PartDef}
use Rattle.edi_tables.specs.declared.element.Repr.{Repr}
use Rattle.edi_tables.specs.declared.segment.ItemDef.{ItemDef}
use Rattle.edi_tables.specs.declared.segment.ItemDef.TheVariants.{Alone, Composite}
use Rattle.edi_tables.specs.declared.segment.SegmentDef.{SegmentDef}
use Rattle.edi_tables.specs.declared.segment.TableRow.{TableRow}

-- the status `M`: mandatory
abbrev pub M : Bool
M = true

-- the status `C`: conditional
abbrev pub C : Bool
C = false

-- a length: so many octets exactly, or up to so many
pub record Length : Type 0 where
  pub exact : Bool
  pub max : ℕ

-- a fixed length: exactly so many octets
abbrev pub exactly : ℕ → Length
exactly n = record { exact = true; max = n }

-- a variable length: up to so many octets
abbrev pub up_to : ℕ → Length
up_to n = record { exact = false; max = n }

-- a representation: the class of the octets, and how many there are
abbrev pub repr_of : Class → Length → Repr
repr_of class long = record { class = class; exact = long.exact; max = long.max }

-- a data element: its code, class, length and status
abbrev pub part : Octets → Class → Length → Bool → PartDef
part code class long must = record { code = record { octets = code }; must = must; repr = repr_of class long }

-- a stand-alone data element, without repetitions
abbrev pub alone : Octets → Class → Length → Bool → ItemDef
alone code class long must = Alone (part code class long must) 1

-- a composite where it is used, without repetitions: its code and its status
abbrev pub composite : Octets → Bool → ItemDef
composite code must = Composite (record { octets = code }) must 1

-- the composite of these parts
abbrev pub composite_of : Octets → List PartDef → CompositeDef
composite_of code parts = record { code = record { octets = code }; parts = parts }

-- the segment of these items
abbrev pub segment_of : Octets → List ItemDef → SegmentDef
segment_of tag items = record { tag = record { octets = tag }; items = items }

-- the length of a date (0017) in a version of the syntax: the year has four digits in version 4, and two before it
abbrev pub date_length : ℕ → Length
date_length version = exactly (if version == 4 then 8 else 6)

-- the composites of the service segments in a version of the syntax, with their components in order
abbrev pub service_composites : ℕ → List CompositeDef
service_composites version =
    composite_of (codes "S001") (
    part (codes "0001") A (exactly 4) M ∷
    part (codes "0002") N (exactly 1) M ∷ [])
    ∷ composite_of (codes "S002") (
    part (codes "0004") An (up_to 35) M ∷
    part (codes "0007") An (up_to 4) C ∷
    part (codes "0008") An (up_to 14) C ∷ [])
    ∷ composite_of (codes "S003") (
    part (codes "0010") An (up_to 35) M ∷
    part (codes "0007") An (up_to 4) C ∷
    part (codes "0014") An (up_to 14) C ∷ [])
    ∷ composite_of (codes "S004") (
    part (codes "0017") N (date_length version) M ∷
    part (codes "0019") N (exactly 4) M ∷ [])
    ∷ composite_of (codes "S005") (
    part (codes "0022") An (up_to 14) M ∷
    part (codes "0025") An (exactly 2) C ∷ [])
    ∷ composite_of (codes "S006") (
    part (codes "0040") An (up_to 35) M ∷
    part (codes "0007") An (up_to 4) C ∷ [])
    ∷ composite_of (codes "S007") (
    part (codes "0044") An (up_to 35) M ∷
    part (codes "0007") An (up_to 4) C ∷ [])
    ∷ composite_of (codes "S008") (
    part (codes "0052") An (up_to 3) M ∷
    part (codes "0054") An (up_to 3) M ∷
    part (codes "0057") An (up_to 6) C ∷ [])
    ∷ composite_of (codes "S009") (
    part (codes "0065") An (up_to 6) M ∷
    part (codes "0052") An (up_to 3) M ∷
    part (codes "0054") An (up_to 3) M ∷
    part (codes "0051") An (up_to 2) M ∷
    part (codes "0057") An (up_to 6) C ∷ [])
    ∷ composite_of (codes "S010") (
    part (codes "0070") N (up_to 2) M ∷
    part (codes "0073") A (exactly 1) C ∷ [])
    ∷ composite_of (codes "S011") (
    part (codes "0098") N (up_to 3) M ∷
    part (codes "0104") N (up_to 3) C ∷ [])
    ∷ []

-- the service segments, with their data elements in order
abbrev pub service_segments : List SegmentDef
service_segments =
    segment_of (codes "UNB") (
    composite (codes "S001") M ∷
    composite (codes "S002") M ∷
    composite (codes "S003") M ∷
    composite (codes "S004") M ∷
    alone (codes "0020") An (up_to 14) M ∷
    composite (codes "S005") C ∷
    alone (codes "0026") An (up_to 14) C ∷
    alone (codes "0029") A (exactly 1) C ∷
    alone (codes "0031") N (exactly 1) C ∷
    alone (codes "0032") An (up_to 35) C ∷
    alone (codes "0035") N (exactly 1) C ∷ [])
    ∷ segment_of (codes "UNG") (
    alone (codes "0038") An (up_to 6) M ∷
    composite (codes "S006") M ∷
    composite (codes "S007") M ∷
    composite (codes "S004") M ∷
    alone (codes "0048") An (up_to 14) M ∷
    alone (codes "0051") An (up_to 2) M ∷
    composite (codes "S008") M ∷
    alone (codes "0058") An (up_to 14) C ∷ [])
    ∷ segment_of (codes "UNH") (
    alone (codes "0062") An (up_to 14) M ∷
    composite (codes "S009") M ∷
    alone (codes "0068") An (up_to 35) C ∷
    composite (codes "S010") C ∷ [])
    ∷ segment_of (codes "UNT") (
    alone (codes "0074") N (up_to 6) M ∷
    alone (codes "0062") An (up_to 14) M ∷ [])
    ∷ segment_of (codes "UNE") (
    alone (codes "0060") N (up_to 6) M ∷
    alone (codes "0048") An (up_to 14) M ∷ [])
    ∷ segment_of (codes "UNZ") (
    alone (codes "0036") N (up_to 6) M ∷
    alone (codes "0020") An (up_to 14) M ∷ [])
    ∷ segment_of (codes "UNS") (
    alone (codes "0081") A (exactly 1) M ∷ [])
    ∷ segment_of (codes "UCI") (
    alone (codes "0020") An (up_to 14) M ∷
    composite (codes "S002") M ∷
    composite (codes "S003") M ∷
    alone (codes "0083") An (up_to 3) M ∷
    alone (codes "0085") An (up_to 3) C ∷
    alone (codes "0013") An (exactly 3) C ∷
    composite (codes "S011") C ∷ [])
    ∷ segment_of (codes "UCF") (
    alone (codes "0048") An (up_to 14) M ∷
    composite (codes "S006") M ∷
    composite (codes "S007") M ∷
    alone (codes "0083") An (up_to 3) M ∷
    alone (codes "0085") An (up_to 3) C ∷
    alone (codes "0013") An (exactly 3) C ∷
    composite (codes "S011") C ∷ [])
    ∷ segment_of (codes "UCM") (
    alone (codes "0062") An (up_to 14) M ∷
    composite (codes "S009") M ∷
    alone (codes "0083") An (up_to 3) M ∷
    alone (codes "0085") An (up_to 3) C ∷
    alone (codes "0013") An (exactly 3) C ∷
    composite (codes "S011") C ∷ [])
    ∷ segment_of (codes "UCS") (
    alone (codes "0096") N (up_to 6) M ∷
    alone (codes "0085") An (up_to 3) C ∷ [])
    ∷ segment_of (codes "UCD") (
    alone (codes "0085") An (up_to 3) M ∷
    composite (codes "S011") M ∷ [])
    ∷ []

-- the row of a segment in a segment table: its tag, its status, its greatest count and its depth
abbrev pub segment_row : Octets → Bool → ℕ → ℕ → TableRow
segment_row tag must max depth = record { tag = Some (record { octets = tag }); must = must; max = max; depth = depth }

-- the row of a group, which has no tag: its status, its greatest count and its depth
abbrev pub group_row : Bool → ℕ → ℕ → TableRow
group_row must max depth = record { tag = None; must = must; max = max; depth = depth }

-- the segment table of CONTRL
abbrev pub contrl_table_rows : List TableRow
contrl_table_rows =
    segment_row (codes "UNH") M 1 0
    ∷ segment_row (codes "UCI") M 1 0
    ∷ group_row C 999999 0
    ∷ segment_row (codes "UCM") M 1 1
    ∷ group_row C 999 1
    ∷ segment_row (codes "UCS") M 1 2
    ∷ segment_row (codes "UCD") C 99 2
    ∷ group_row C 999999 0
    ∷ segment_row (codes "UCF") M 1 1
    ∷ group_row C 999999 1
    ∷ segment_row (codes "UCM") M 1 2
    ∷ group_row C 999 2
    ∷ segment_row (codes "UCS") M 1 3
    ∷ segment_row (codes "UCD") C 99 3
    ∷ segment_row (codes "UNT") M 1 0
    ∷ []

-- what the first of these with that name holds, if there is one
abbrev pub held_by : {A B : Type 0} → (A → Octets) → (A → B) → List A → Octets → Option B
held_by name value [] wanted = None
held_by name value (x ∷ xs) wanted =
    if bytes_eq (name x) wanted then Some (value x) else held_by name value xs wanted

-- the data elements of a service segment, if there is one of that tag
unfoldable pub service_items_of : Octets → Option (List ItemDef)
service_items_of tag = held_by (λ segment. segment.tag.octets) (λ segment. segment.items) service_segments tag

-- the components of a composite of the service segments in a version of the syntax, if there is one of that code
unfoldable pub service_parts_of : ℕ → Octets → Option (List PartDef)
service_parts_of version code =
    held_by (λ composite. composite.code.octets) (λ composite. composite.parts) (service_composites version) code
