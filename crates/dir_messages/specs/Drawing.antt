-- What bodies and their invariants need of a drawing: what has been drawn after some table lines, and what the next
-- line does to it.
use Rattle.std.specs.Prelude.{◌≡◌, ◌+◌, ◌-◌, ℕ, List, [], ◌∷◌, ◌++◌, map, filter, min, Some, Result, Ok, Err, is_some, if◌then◌else◌}
use Rattle.edi_tables.specs.declared.segment.TableRow.{TableRow}
use Rattle.edi_octets.specs.declared.fault.DirFault.{DirFault}
use Rattle.edi_octets.specs.declared.fault.DirStop.{DirStop}
use Rattle.edi_octets.specs.declared.fault.DirStop.TheVariants.{Fault, Memory}
use Rattle.edi_octets.specs.Lines.{Line}
use Rattle.dir_messages.specs.declared.drawing.Drawing.{Drawing}
use Rattle.dir_messages.specs.declared.drawing.DrawnRow.{DrawnRow}
use Rattle.dir_messages.specs.Message.{ends_among, kinds_broken, ends_drawn, is_table_line, groups_among, last_position, line_faults, rows_of, row_of}

-- a row as it is held: in one octet, a depth of 255 or more is 255; any deeper than 16 is refused
abbrev pub held : TableRow → TableRow
held row = record row { depth = min row.depth 255 }

-- the drawing of these table lines, of which none closes a group that isn't open
pub record IsDrawn (lines : List Line) (drawing : Drawing) : Type 0 where
  pub rows : drawing.rows.items ≡ map held (rows_of lines)
  pub numbers : drawing.row_lines.items ≡ map (λ line. line.number) lines
  pub groups : drawing.groups ≡ groups_among lines
  pub open_groups : drawing.open_groups + ends_among lines ≡ groups_among lines
  pub position : drawing.last_position ≡ last_position lines

-- a list begins with this member
abbrev pub BeginsWith : {A : Type 0} → A → List A → Type 0
BeginsWith {A} x xs = (more : List A) × (xs ≡ x ∷ more)

-- a table line breaks no rule after these, and this is its row; on a segment line so many groups end
pub record DrawsRow (earlier : List Line) (line : Line) (drawn : DrawnRow) : Type 0 where
  pub sound : kinds_broken earlier line ≡ []
  pub row : drawn.row ≡ held (row_of earlier line)
  pub ends : drawn.ends ≡ ends_drawn line

-- a drawing with one more row after it: a group is opened, or groups are closed
pub record Puts (old : Drawing) (number position : ℕ) (drawn : DrawnRow) (new : Drawing) : Type 0 where
  pub rows : new.rows.items ≡ old.rows.items ++ (drawn.row ∷ [])
  pub numbers : new.row_lines.items ≡ old.row_lines.items ++ (number ∷ [])
  pub groups : new.groups ≡ (if is_some drawn.row.tag then old.groups else old.groups + 1)
  pub open_groups :
      new.open_groups ≡ (if is_some drawn.row.tag then old.open_groups - drawn.ends else old.open_groups + 1)
  pub last_position : new.last_position ≡ Some position

-- what a line after these does: it breaks no rule and is drawn, or its first fault is answered, or memory runs out
abbrev pub DrawsOrStops : List Line → Line → Result (Unit {0}) DirStop → Drawing → Type 0
DrawsOrStops earlier line (Ok done) drawing =
    (line_faults earlier line ≡ []) × IsDrawn (filter is_table_line (earlier ++ (line ∷ []))) drawing
DrawsOrStops earlier line (Err (Fault fault)) drawing = BeginsWith fault (line_faults earlier line)
DrawsOrStops earlier line (Err Memory) drawing = Unit {0}

-- nothing is wrong, or the first fault is answered, or memory runs out
abbrev pub FirstOf : Result (Unit {0}) DirStop → List DirFault → Type 0
FirstOf (Ok done) faults = faults ≡ []
FirstOf (Err (Fault fault)) faults = BeginsWith fault faults
FirstOf (Err Memory) faults = Unit {0}
