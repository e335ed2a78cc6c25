-- What the iterators over a directory file have left, and what their items are.
use Rattle.std.specs.Prelude.{List, ◌∷◌}
use Rattle.edi_tables.specs.Octets.{Octets}
use Rattle.edi_octets.specs.declared.cells.Cells.{Cells}
use Rattle.edi_octets.specs.declared.entries.Body.{Body}
use Rattle.edi_octets.specs.declared.entries.Entries.{Entries}
use Rattle.edi_octets.specs.declared.entries.Entry.{Entry}
use Rattle.edi_octets.specs.declared.lines.LineText.{LineText}
use Rattle.edi_octets.specs.declared.lines.Lines.{Lines}
use Rattle.edi_octets.specs.Lines.{Line, lines_from, cells_of}
use Rattle.edi_octets.specs.Profile.{body_within, entries_within}

-- the line that a text with its number is
abbrev pub line_shown : LineText → Line
line_shown line = record { number = line.number; octets = line.octets.now }

-- the lines that are left
abbrev pub lines_left : Lines → List Line
lines_left lines = lines_from lines.number lines.rest.now

-- the cells that are left
abbrev pub cells_left : Cells → List Octets
cells_left cells = cells_of cells.rest.now

-- the lines of an entry that are left
abbrev pub body_left : Body → List Line
body_left body = body_within (lines_left body.lines)

-- the lines that an entry is
abbrev pub entry_shown : Entry → List Line
entry_shown entry = line_shown entry.head ∷ body_left entry.body

-- the entries that are left
abbrev pub entries_left : Entries → List (List Line)
entries_left entries = entries_within (lines_left entries.lines)
