-- Each message of a directory has its segment table.
use Rattle.std.proofs.Common.{◌≡◌, ℕ, ◌+◌, ◌<◌, List, map, length, Some, get_or, refl, sym, ap, ◌∙◌, add-one}
use Rattle.std.specs.Prelude.{slice_get}
use Rattle.std.specs.Option.{option_map}
use Rattle.std.proofs.lemmas.Option.{same_Some, slice_get-map, slice_get_read}
use Rattle.edi_tables.specs.Rows.{nodes_of}
use Rattle.edi_tables.specs.declared.segment.MessageDef.{MessageDef}
use Rattle.edi_tables.specs.declared.table.Node.{Node}
use Rattle.dir_compile.specs.declared.parts.Parts.{Parts}
use Rattle.dir_compile.specs.Directory.{tables_of}

-- the table after CONTRL's and those of the messages before
pub table_is : (dir : Parts) (i : ℕ) (message : MessageDef) (table : List Node) → i < length dir.messages → message ≡ get_or dir.messages i message
    → slice_get (tables_of dir) (i + 1) ≡ Some table → table ≡ nodes_of message.rows
table_is dir i message table within at is =
    let made : MessageDef → List Node = λ m. nodes_of m.rows in
    let here : slice_get (tables_of dir) (i + 1) ≡ slice_get (map made dir.messages) i = ap (slice_get (tables_of dir)) (add-one i) in
    same_Some table (made message)
    (sym is ∙ here ∙ slice_get-map made dir.messages i ∙ ap (option_map made) (slice_get_read dir.messages (length dir.messages) i message refl within at))
