-- Each table of a directory is a segment table.
use Rattle.std.proofs.Common.{◌≡◌, ℕ, zero, suc, ◌<◌, Bool, List, [], ◌∷◌, length, map, get_or, arith}
use Rattle.std.specs.Prelude.{All, Some}
use Rattle.std.proofs.lemmas.List.{length-map}
use Rattle.std.proofs.lemmas.List.Elements.{All-head, All-tail}
use Rattle.std.proofs.lemmas.List.Quantifiers.{position-Some}
use Rattle.edi_tables.specs.declared.segment.MessageDef.{MessageDef}
use Rattle.edi_tables.specs.Rows.{IsTable, nodes_of, table_faults}
use Rattle.edi_tables.proofs.Restored.{table_of_rows}
use Rattle.service_tables.specs.ServiceTables.{contrl_table_rows}
use Rattle.service_tables.proofs.Tables.{table_faults-contrl}
use Rattle.dir_compile.specs.declared.parts.Parts.{Parts}
use Rattle.dir_compile.specs.Directory.{IsDirectory, TableName, contrl_name, is_table_named, message_table, table_names, tables_of}
use Rattle.dir_compile.proofs.Groups.{fault-free}
use Rattle.dir_compile.proofs.Making.{tables-free}
use Rattle.seg_lexer.specs.Fields.{Component}
use Rattle.segment_records.specs.Messages.{nodes_at, table_for}
use Rattle.segment_records.specs.Segments.{value_in}

-- no rule is broken by the rows of a message
abbrev IsFree : MessageDef → Type 0
IsFree message = table_faults message.rows ≡ []

message_tables : (messages : List MessageDef) → All IsFree messages → (k : ℕ)
    → k < length (map (λ message. nodes_of message.rows) messages)
    → IsTable (get_or (map (λ message. nodes_of message.rows) messages) k [])
message_tables [] free k within = absurd (omega arith)
message_tables (message ∷ more) free zero within = table_of_rows message.rows (All-head IsFree message more free)
message_tables (message ∷ more) free (suc k) within =
    message_tables more (All-tail IsFree message more free) k (omega arith)

pub table_is : (dir : Parts) → IsDirectory dir → (table : ℕ) → table < length (tables_of dir)
    → IsTable (nodes_at dir table)
table_is dir directory zero within = table_of_rows contrl_table_rows table_faults-contrl
table_is dir directory (suc k) within =
    message_tables dir.messages (tables-free dir (fault-free dir directory.faultless).messages) k (omega arith)

-- a table that a UNH names is one of them
pub named_within : (dir : Parts) (components : List Component) (table : ℕ) → table_for dir components ≡ Some table
    → table < length (tables_of dir)
named_within dir components table is =
    let test : TableName → Bool =
    is_table_named (value_in components 2 1) (value_in components 2 2) (value_in components 2 3)
    (value_in components 2 4) in
    let within : table < length (table_names dir) = (position-Some test (table_names dir) table contrl_name is).0 in
    omega (
      arith,
      length-map dir.messages (message_table dir),
      length-map dir.messages
          (λ (message : MessageDef). nodes_of message.rows),
    )
