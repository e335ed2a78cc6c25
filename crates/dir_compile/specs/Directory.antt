-- What a directory is, and what it has under a name.
use Rattle.std.specs.Prelude.{◌≡◌, ◌<◌, ℕ, Bool, ◌&&◌, List, [], ◌∷◌, length, map, position, Option, Result, codes}
use Rattle.std.specs.Str.{bytes_eq}
use Rattle.edi_tables.specs.Octets.{Octets}
use Rattle.edi_tables.specs.declared.segment.MessageDef.{MessageDef}
use Rattle.edi_tables.specs.declared.table.Node.{Node}
use Rattle.edi_tables.specs.First.{unless_faulty}
use Rattle.edi_tables.specs.Rows.{nodes_of}
use Rattle.service_tables.specs.ServiceTables.{contrl_table_rows}
use Rattle.dir_compile.specs.declared.parts.Parts.{Parts}
use Rattle.dir_compile.specs.Stop.{PartsFault}
use Rattle.dir_compile.specs.Forms.{HasForms}
use Rattle.dir_compile.specs.Compile.{message_name, compile_faults}
use Rattle.dir_compile.specs.Ordered.{IsInOrder}
use Rattle.dir_compile.specs.InOrder.{ordered_parts}

-- a directory, seen as its parts
abbrev pub Directory : Type 0
Directory = Parts

-- parts are a directory: fewer than 4,000,000,000 messages, all of good form, without fault, in ascending order of
-- names
pub record IsDirectory (parts : Parts) : Type 0 where
  pub few : length parts.messages < 4000000000
  pub forms : HasForms parts
  pub faultless : compile_faults parts ≡ []
  pub ordered : IsInOrder parts

-- parts give a directory where they have no fault, which is then the parts in order; else their first fault
unfoldable pub directory_of : Parts → Result Parts PartsFault
directory_of parts = unless_faulty (compile_faults parts) (ordered_parts parts)

-- the segment tables of a directory: CONTRL's, and one a message
abbrev pub tables_of : Parts → List (List Node)
tables_of parts = nodes_of contrl_table_rows ∷ map (λ message. nodes_of message.rows) parts.messages

-- the name of a table: message, version, release, agency
pub record TableName : Type 0 where
  pub name : Octets
  pub version : Octets
  pub release : Octets
  pub agency : Octets

-- the name of CONTRL's table
abbrev pub contrl_name : TableName
contrl_name = record { name = codes "CONTRL"; version = codes "D"; release = codes "3"; agency = codes "UN" }

-- the name of the table of a message of these parts
abbrev pub message_table : Parts → MessageDef → TableName
message_table parts message =
    record { name = message_name message; version = parts.version; release = parts.release; agency = parts.agency }

-- the names of a directory's tables, in the order of the tables: CONTRL's, and one a message
abbrev pub table_names : Parts → List TableName
table_names parts = contrl_name ∷ map (message_table parts) parts.messages

-- a table has these four names
abbrev pub is_table_named : Octets → Octets → Octets → Octets → TableName → Bool
is_table_named name version release agency table =
    bytes_eq table.name name && bytes_eq table.version version
    && bytes_eq table.release release && bytes_eq table.agency agency

-- the number of the table with these four names, if there is one
abbrev pub table_named : Parts → Octets → Octets → Octets → Octets → Option ℕ
table_named parts name version release agency =
    position (is_table_named name version release agency) (table_names parts)
