-- A function that puts parts in order, for bodies: what it gives is the one list of parts that `IsOrdered` describes.
use Rattle.std.specs.Prelude.{List, [], ◌∷◌, map, if◌then◌else◌}
use Rattle.edi_tables.specs.Octets.{Octets}
use Rattle.edi_tables.specs.declared.element.CodeList.{CodeList}
use Rattle.dir_compile.specs.declared.parts.Parts.{Parts}
use Rattle.edi_tables.specs.Ascending.{is_before}
use Rattle.dir_compile.specs.Compile.{element_name, list_name, composite_name, segment_name, message_name, value_name}

-- an item put after those whose names come before its own
abbrev pub put_in_order : {A : Type 0} → (A → Octets) → A → List A → List A
put_in_order name x [] = x ∷ []
put_in_order name x (y ∷ ys) = if is_before (name y) (name x) then y ∷ put_in_order name x ys else x ∷ y ∷ ys

-- the items in ascending octet order of their names
abbrev pub ascending_by : {A : Type 0} → (A → Octets) → List A → List A
ascending_by name [] = []
ascending_by name (x ∷ xs) = put_in_order name x (ascending_by name xs)

-- a code list with its codes in ascending octet order
abbrev pub ordered_list : CodeList → CodeList
ordered_list list = record list { values = ascending_by value_name list.values }

-- the parts in order
unfoldable pub ordered_parts : Parts → Parts
ordered_parts parts = record parts {
  elements = ascending_by element_name parts.elements;
  lists = map ordered_list (ascending_by list_name parts.lists);
  composites = ascending_by composite_name parts.composites;
  segments = ascending_by segment_name parts.segments;
  messages = ascending_by message_name parts.messages;
}
