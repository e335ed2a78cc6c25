-- The definitions that the rows of static tables give, for bodies.
use Rattle.std.specs.Prelude.{map}
use Rattle.edi_tables.specs.declared.element.CodeList.{CodeList}
use Rattle.edi_tables.specs.declared.element.CompositeDef.{CompositeDef}
use Rattle.edi_tables.specs.declared.segment.SegmentDef.{SegmentDef}
use Rattle.drill_maker.specs.declared.tables.ListRow.{ListRow}
use Rattle.drill_maker.specs.declared.tables.CompositeRow.{CompositeRow}
use Rattle.drill_maker.specs.declared.tables.SegmentRow.{SegmentRow}

-- the code list that a row gives: its data element and its codes
abbrev pub list_given : ListRow → CodeList
list_given row = record { element = row.element; values = map (λ value. value.now) row.values.now }

-- the composite that a row gives: its code and its parts
abbrev pub composite_given : CompositeRow → CompositeDef
composite_given row = record { code = row.code; parts = row.parts.now }

-- the segment that a row gives: its tag and its items
abbrev pub segment_given : SegmentRow → SegmentDef
segment_given row = record { tag = row.tag; items = row.items.now }
