-- What an edit says that is handed out.
use Rattle.drill_maker.specs.declared.edit.DrillEdit.{DrillEdit}
use Rattle.drill_maker.specs.Edit.{Edit}

-- an edit with its place, how many octets it cuts, and the octets that it puts
abbrev pub edit_seen : DrillEdit → Edit
edit_seen edit = record { at = edit.at; cut = edit.cut; put = edit.put.now }
