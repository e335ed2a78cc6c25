-- The forms of the names and values of a directory.
use Rattle.std.specs.Prelude.{ℕ, Bool, true, not, ◌==◌, ◌&&◌, nat_le, length, drop, slice_index, Some, None}
use Rattle.std.specs.List.{list_all}
use Rattle.std.specs.Str.{all_ascii_digits}
use Rattle.edi_tables.specs.Octets.{Octets}
use Rattle.edi_tables.specs.declared.element.Repr.{Repr}
use Rattle.edi_tables.specs.declared.element.ElementDef.{ElementDef}
use Rattle.edi_tables.specs.declared.element.CodeList.{CodeList}
use Rattle.edi_tables.specs.declared.element.PartDef.{PartDef}
use Rattle.edi_tables.specs.declared.element.CompositeDef.{CompositeDef}
use Rattle.edi_tables.specs.declared.segment.ItemDef.{ItemDef}
use Rattle.edi_tables.specs.declared.segment.ItemDef.TheVariants.{Alone, Composite}
use Rattle.edi_tables.specs.declared.segment.SegmentDef.{SegmentDef}
use Rattle.edi_tables.specs.declared.segment.TableRow.{TableRow}
use Rattle.edi_tables.specs.declared.segment.MessageDef.{MessageDef}
use Rattle.edi_tables.specs.Tag.{is_capital, is_tag_octet_of, is_tag_of}

-- a label (version, release, agency): 1 to so many octets of `A` to `Z` and `0` to `9`
abbrev pub is_label : ℕ → Octets → Bool
is_label most label = nat_le 1 (length label) && nat_le (length label) most && list_all is_tag_octet_of label

-- the code of a data element: four digits
abbrev pub is_element_code : Octets → Bool
is_element_code code = length code == 4 && all_ascii_digits code

-- the code of a composite: `C` and three digits
abbrev pub is_composite_code : Octets → Bool
is_composite_code code = length code == 4 && slice_index code 0 == 67 && all_ascii_digits (drop 1 code)

-- the name of a message: six octets of `A` to `Z` and `0` to `9`, the first a letter
abbrev pub is_message_name : Octets → Bool
is_message_name name = length name == 6 && is_capital (slice_index name 0) && list_all is_tag_octet_of name

-- a code value: 1 to 35 octets, none of them a space or LF
abbrev pub is_code_value : Octets → Bool
is_code_value value =
    nat_le 1 (length value) && nat_le (length value) 35 && list_all (λ x. not (x == 32) && not (x == 10)) value

-- the greatest length of a representation: 1 to 9999
abbrev pub is_repr_formed : Repr → Bool
is_repr_formed repr = nat_le 1 repr.max && nat_le repr.max 9999

-- a composite has 1 to 99 parts, and a segment 1 to 99 items
abbrev pub is_count_formed : ℕ → Bool
is_count_formed n = nat_le 1 n && nat_le n 99

-- a data element: its code and its representation have their forms
abbrev pub is_element_formed : ElementDef → Bool
is_element_formed element = is_element_code element.code.octets && is_repr_formed element.repr

-- a code list: the code of its data element, and each of its values
abbrev pub is_list_formed : CodeList → Bool
is_list_formed list = is_element_code list.element.octets && list_all is_code_value list.values

-- a component of a composite, or an item that is a data element: its code and its representation
abbrev pub is_part_formed : PartDef → Bool
is_part_formed part = is_element_code part.code.octets && is_repr_formed part.repr

-- a composite: its code, and its 1 to 99 components
abbrev pub is_composite_formed : CompositeDef → Bool
is_composite_formed composite =
    is_composite_code composite.code.octets && is_count_formed (length composite.parts)
    && list_all is_part_formed composite.parts

-- the greatest number of repetitions of an item
abbrev pub reps_of : ItemDef → ℕ
reps_of (Alone part reps) = reps
reps_of (Composite code must reps) = reps

-- a greatest number of repetitions: 1 to 99
abbrev pub is_reps_formed : ℕ → Bool
is_reps_formed reps = nat_le 1 reps && nat_le reps 99

-- an item is a data element, or names a composite, with a greatest number of repetitions
abbrev pub is_item_formed : ItemDef → Bool
is_item_formed (Alone part reps) = is_part_formed part && is_reps_formed reps
is_item_formed (Composite code must reps) = is_composite_code code.octets && is_reps_formed reps

-- a segment: its tag, and its 1 to 99 items
abbrev pub is_segment_formed : SegmentDef → Bool
is_segment_formed segment =
    is_tag_of segment.tag.octets && is_count_formed (length segment.items) && list_all is_item_formed segment.items

-- the tag of a row is a tag; a group has none
abbrev pub is_row_formed : TableRow → Bool
is_row_formed row = elim row.tag [ None ↦ true | Some tag ↦ is_tag_of tag.octets ]

-- a message: its name, and the tags of its rows
abbrev pub is_message_formed : MessageDef → Bool
is_message_formed message = is_message_name message.name && list_all is_row_formed message.rows
