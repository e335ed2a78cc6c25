-- The printed forms of a directory's segment tables.
use Rattle.std.specs.Prelude.{ℕ, ◌+◌, nat_lt, List, [], ◌∷◌, ◌++◌, length, map, Option, Some, None, codes, decimal, if◌then◌else◌}
use Rattle.std.specs.List.{flat_map, join_with_byte}
use Rattle.dir_compile.specs.Directory.{Directory}
use Rattle.edi_tables.specs.Octets.{Octets}
use Rattle.edi_tables.specs.declared.tag.Tag.{Tag}
use Rattle.edi_tables.specs.declared.segment.TableRow.{TableRow}
use Rattle.edi_tables.specs.declared.segment.MessageDef.{MessageDef}
use Rattle.edi_tables.specs.Rows.{nodes_of}
use Rattle.edi_tables.specs.Collisions.{Collision, collisions_of}
use Rattle.edi_octets.specs.Decimal.{count_line}
use Rattle.edi_octets.specs.Profile.{status_text}

-- what a node is called: its tag, or `group`
abbrev pub node_shown : Option Tag → Octets
node_shown None = codes "group"
node_shown (Some tag) = tag.octets

-- the line of node k: its number, its depth, what it is called, its status and its greatest count
unfoldable pub node_line : ℕ → TableRow → Octets
node_line k row =
    decimal k ++ codes " " ++ decimal row.depth ++ codes " " ++ node_shown row.tag
    ++ codes " " ++ status_text row.must ++ codes " " ++ decimal row.max ++ 10 ∷ []

-- the lines of nodes, numbered from k
abbrev pub node_lines_from : ℕ → List TableRow → Octets
node_lines_from k [] = []
node_lines_from k (row ∷ rows) = node_line k row ++ node_lines_from (k + 1) rows

-- tags, separated by single spaces
abbrev pub tags_shown : List Tag → Octets
tags_shown tags = join_with_byte 32 (map (λ tag. tag.octets) tags)

-- the numbers of entries, separated by single spaces
abbrev pub entries_shown : List ℕ → Octets
entries_shown entries = join_with_byte 32 (map decimal entries)

-- the space before each member of such a list except the first
abbrev pub gap : ℕ → Octets
gap i = if nat_lt 0 i then codes " " else []

-- the line of a collision: its tags, and the two lists of entries that they may be placed at
unfoldable pub collision_line : Collision → Octets
collision_line c =
    tags_shown c.tags ++ codes " | " ++ entries_shown c.first ++ codes " | " ++ entries_shown c.second ++ 10 ∷ []

-- a table: its name and how many nodes it has, its nodes, how many collisions it has, and these
unfoldable pub table_text : MessageDef → List Collision → Octets
table_text message collisions =
    codes "table " ++ count_line message.name (length message.rows) ++ node_lines_from 0 message.rows
    ++ count_line (codes "collisions") (length collisions) ++ flat_map collision_line collisions

-- the table of a message, with its collisions
abbrev pub listed_message : MessageDef → Octets
listed_message message = table_text message (collisions_of (nodes_of message.rows))

-- the labels of a directory
unfoldable pub labels_line : Directory → Octets
labels_line parts =
    codes "directory " ++ parts.version ++ codes " " ++ parts.release ++ codes " " ++ parts.agency ++ 10 ∷ []

-- the printed form of a directory's tables: its labels, and the table of each message; that of CONTRL isn't printed
unfoldable pub tables_text : Directory → Octets
tables_text parts = labels_line parts ++ flat_map listed_message parts.messages
