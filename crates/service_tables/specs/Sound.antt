-- What holds of each entry of the tables.
use Rattle.std.specs.Prelude.{ℕ, Bool, true, ◌&&◌, ◌==◌, nat_le, length, Some, None, is_some}
use Rattle.edi_tables.specs.declared.element.PartDef.{PartDef}
use Rattle.edi_tables.specs.declared.segment.ItemDef.{ItemDef}
use Rattle.edi_tables.specs.declared.segment.ItemDef.TheVariants.{Alone, Composite}
use Rattle.edi_tables.specs.declared.segment.TableRow.{TableRow}
use Rattle.service_tables.specs.ServiceTables.{service_items_of, service_parts_of}

-- a data element has a code of four octets and a length from 1 to 9999
abbrev pub is_sound_part : PartDef → Bool
is_sound_part part = length part.code.octets == 4 && nat_le 1 part.repr.max && nat_le part.repr.max 9999

-- an item is such a data element, or names a composite that this version of the syntax has
abbrev pub is_sound_item : ℕ → ItemDef → Bool
is_sound_item version (Alone part reps) = is_sound_part part
is_sound_item version (Composite code must reps) = is_some (service_parts_of version code.octets)

-- a row is that of a group, or of a service segment
abbrev pub is_sound_row : TableRow → Bool
is_sound_row row = elim row.tag [ None ↦ true | Some tag ↦ is_some (service_items_of tag.octets) ]
