-- Guides on a small directory, worked by hand: what they leave, and which fault comes first.
use Rattle.std.proofs.Common.{◌≡◌, ℕ, Bool, true, false, List, [], ◌∷◌, ◌++◌, Some, None, Result, Ok, Err, refl}
use Rattle.std.specs.Prelude.{codes}
use Rattle.edi_tables.specs.Rows.{parent_of, end_of}
use Rattle.edi_tables.specs.declared.element.Class.TheVariants.{An}
use Rattle.edi_tables.specs.declared.element.CodeList.{CodeList}
use Rattle.edi_tables.specs.declared.element.PartDef.{PartDef}
use Rattle.edi_tables.specs.declared.element.Repr.{Repr}
use Rattle.edi_tables.specs.declared.segment.ItemDef.{ItemDef}
use Rattle.edi_tables.specs.declared.segment.ItemDef.TheVariants.{Alone, Composite}
use Rattle.edi_tables.specs.declared.segment.SegmentDef.{SegmentDef}
use Rattle.edi_tables.specs.declared.segment.TableRow.{TableRow}
use Rattle.edi_octets.specs.Lines.{lines_from, cells_of}
use Rattle.dir_compile.specs.declared.parts.Parts.{Parts}
use Rattle.guide_overlay.specs.Rows.{narrowed_rows}
use Rattle.guide_overlay.specs.declared.stop.GuideKind.{GuideKind}
use Rattle.guide_overlay.specs.declared.stop.GuideKind.TheVariants.{BadLine, UnknownName, Twice, BadIndex, NotNarrower}
use Rattle.guide_overlay.specs.Guide.{GuideFault, narrow_of}

abbrev to_35 : Repr
to_35 = record { class = An; exact = false; max = 35 }

abbrev part : List ℕ → Bool → PartDef
part code must = record { code = record { octets = code }; must = must; repr = to_35 }

abbrev row : List ℕ → Bool → ℕ → ℕ → TableRow
row tag must max depth = record { tag = Some (record { octets = tag }); must = must; max = max; depth = depth }

abbrev group : Bool → ℕ → ℕ → TableRow
group must max depth = record { tag = None; must = must; max = max; depth = depth }

abbrev list : List (List ℕ) → CodeList
list values = record { element = record { octets = codes "1001" }; values = values }

abbrev segment : List ℕ → List ItemDef → SegmentDef
segment tag items = record { tag = record { octets = tag }; items = items }

-- a name of 35 octets: one item, and one of a composite
abbrev order_with : List CodeList → List ItemDef → List TableRow → Parts
order_with lists items rows = record {
  version = codes "D";
  release = codes "96A";
  agency = codes "UN";
  elements = record { code = record { octets = codes "1001" }; repr = to_35 }
      ∷ record { code = record { octets = codes "1004" }; repr = to_35 } ∷ [];
  lists = lists;
  composites = record { code = record { octets = codes "C002" }; parts = part (codes "1001") false ∷ [] } ∷ [];
  segments = segment (codes "BGM") items ∷ segment (codes "DTM") (Alone (part (codes "1004") true) 1 ∷ []) ∷ [];
  messages = record { name = codes "TSTORD"; rows = rows } ∷ [];
}

-- BGM once, at most two dates, and up to five groups of a BGM and up to three dates
abbrev order : Parts
order = order_with
    (list (codes "220" ∷ codes "380" ∷ []) ∷ [])
    (Composite (record { octets = codes "C002" }) true 1 ∷ Alone (part (codes "1004") false) 3 ∷ [])
    (row (codes "UNH") true 1 0 ∷ row (codes "BGM") true 1 0 ∷ row (codes "DTM") false 2 0
    ∷ group false 5 0 ∷ row (codes "BGM") true 1 1 ∷ row (codes "DTM") false 3 1 ∷ row (codes "UNT") true 1 0 ∷ [])

abbrev line : List ℕ → List ℕ → List ℕ
line octets file = octets ++ 10 ∷ file

-- the group is mandatory and occurs once, the second item of BGM is mandatory, and one code is kept
all_kinds : narrow_of order
    (line (codes "table TSTORD") (line (codes "node 3 M 1") (line (codes "segment BGM")
    (line (codes "item 2 M 1") (line (codes "codes 1001") (codes "keep 220"))))))
    ≡ Ok (order_with
    (list (codes "220" ∷ []) ∷ [])
    (Composite (record { octets = codes "C002" }) true 1 ∷ Alone (part (codes "1004") true) 1 ∷ [])
    (row (codes "UNH") true 1 0 ∷ row (codes "BGM") true 1 0 ∷ row (codes "DTM") false 2 0
    ∷ group true 1 0 ∷ row (codes "BGM") true 1 1 ∷ row (codes "DTM") false 3 1 ∷ row (codes "UNT") true 1 0 ∷ []))
unfolding narrow_of narrowed_rows lines_from cells_of parent_of end_of
all_kinds = refl

-- a group goes with what it holds, and a line for a node inside it has no effect
group_gone : narrow_of order (line (codes "table TSTORD") (line (codes "node 3 drop") (codes "node 5 M 1")))
    ≡ Ok (order_with order.lists
    (Composite (record { octets = codes "C002" }) true 1 ∷ Alone (part (codes "1004") false) 3 ∷ [])
    (row (codes "UNH") true 1 0 ∷ row (codes "BGM") true 1 0 ∷ row (codes "DTM") false 2 0 ∷ row (codes "UNT") true 1 0 ∷ []))
unfolding narrow_of narrowed_rows lines_from cells_of parent_of end_of
group_gone = refl

-- an empty guide changes nothing
empty_guide : narrow_of order [] ≡ Ok order
unfolding narrow_of narrowed_rows lines_from cells_of parent_of end_of
empty_guide = refl

-- a head without a value leaves an empty list, and kept values of an element without a list are a new one, in order
no_value : narrow_of order (codes "codes 1001") ≡ Ok (record order { lists = list [] ∷ [] })
unfolding narrow_of narrowed_rows lines_from cells_of parent_of end_of
no_value = refl

new_list : narrow_of (record order { lists = [] }) (line (codes "codes 1001") (line (codes "keep B") (codes "keep A")))
    ≡ Ok (record order { lists = list (codes "A" ∷ codes "B" ∷ []) ∷ [] })
unfolding narrow_of narrowed_rows lines_from cells_of parent_of end_of
new_list = refl

abbrev fault : ℕ → GuideKind → Result Parts GuideFault
fault n kind = Err (record { line = n; kind = kind })

-- a mandatory node isn't dropped, a status isn't weaker, and a count isn't greater nor 0
mandatory_dropped : narrow_of order (line (codes "table TSTORD") (codes "node 1 drop")) ≡ fault 2 NotNarrower
unfolding narrow_of lines_from cells_of
mandatory_dropped = refl

weaker : narrow_of order (line (codes "table TSTORD") (codes "node 1 C 1")) ≡ fault 2 NotNarrower
unfolding narrow_of lines_from cells_of
weaker = refl

greater : narrow_of order (line (codes "table TSTORD") (codes "node 2 C 3")) ≡ fault 2 NotNarrower
unfolding narrow_of lines_from cells_of
greater = refl

none_left : narrow_of order (line (codes "segment BGM") (codes "item 2 C 0")) ≡ fault 2 NotNarrower
unfolding narrow_of lines_from cells_of
none_left = refl

-- a value that the base's list doesn't have
another_value : narrow_of order (line (codes "codes 1001") (codes "keep 221")) ≡ fault 2 NotNarrower
unfolding narrow_of lines_from cells_of
another_value = refl

-- a node is named twice by its number, and a line without a cell keeps its number
twice_by_value : narrow_of order (line (codes "table TSTORD") (line (codes "node 03 M 1") (line [] (codes "node 3 drop")))) ≡ fault 4 Twice
unfolding narrow_of lines_from cells_of
twice_by_value = refl

-- standing twice comes before all that the base says
twice_first : narrow_of order (line (codes "table TSTORD") (line (codes "node 2 C 1") (codes "node 2 C 9"))) ≡ fault 3 Twice
unfolding narrow_of lines_from cells_of
twice_first = refl

head_twice : narrow_of order (line (codes "segment BGM") (line (codes "segment DTM") (codes "segment BGM"))) ≡ fault 3 Twice
unfolding narrow_of lines_from cells_of
head_twice = refl

-- the first node is 0, and the last here 6; items count from 1
past_the_last : narrow_of order (line (codes "table TSTORD") (codes "node 7 M 1")) ≡ fault 2 BadIndex
unfolding narrow_of lines_from cells_of
past_the_last = refl

item_nought : narrow_of order (line (codes "segment BGM") (codes "item 0 M 1")) ≡ fault 2 BadIndex
unfolding narrow_of lines_from cells_of
item_nought = refl

-- names that the directory doesn't have, of which CONTRL and the service segments are some
contrl : narrow_of order (codes "table CONTRL") ≡ fault 1 UnknownName
unfolding narrow_of lines_from cells_of
contrl = refl

service_segment : narrow_of order (codes "segment UNB") ≡ fault 1 UnknownName
unfolding narrow_of lines_from cells_of
service_segment = refl

-- a detail without a head, or under one of another kind; a composite of a service segment; a line that is none
without_head : narrow_of order (codes "node 2 M 1") ≡ fault 1 BadLine
unfolding narrow_of lines_from cells_of
without_head = refl

other_head : narrow_of order (line (codes "segment BGM") (codes "part 1 M")) ≡ fault 2 BadLine
unfolding narrow_of lines_from cells_of
other_head = refl

service_composite : narrow_of order (codes "composite S001") ≡ fault 1 BadLine
unfolding narrow_of lines_from cells_of
service_composite = refl

no_line : narrow_of order (line (codes "table TSTORD") (codes "node 2 M")) ≡ fault 2 BadLine
unfolding narrow_of lines_from cells_of
no_line = refl
