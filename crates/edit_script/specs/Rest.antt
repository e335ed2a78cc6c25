-- What follows the name of a command. Only bodies need these words.
use Rattle.std.specs.Prelude.{◌≡◌, ℕ, List, [], ◌∷◌, ◌++◌, length, decimal}
use Rattle.std.specs.List.{All}
use Rattle.edi_tables.specs.Octets.{Octets}
use Rattle.contrl_segments.specs.Stamp.{stamp_text}
use Rattle.edit_script.specs.declared.command.Command.{Command}
use Rattle.edit_script.specs.declared.command.Command.TheVariants as command
use Rattle.edit_script.specs.declared.command.EditSpec.{EditSpec}
use Rattle.edit_script.specs.declared.grammar.Grammar.TheVariants.{Session}
use Rattle.edit_script.specs.declared.name.Name.{Name}
use Rattle.edit_script.specs.declared.name.Name.TheVariants.{Replace, Errors, Tree, Contrl, Text, End, Undo, Redo, Batch}
use Rattle.edit_script.specs.Command.{IsEditSpec, IsCommand, edit_text, edits_text}

-- the name of a command
abbrev pub name_of : Command → Name
name_of (command.Replace at cut put) = Replace
name_of command.Errors = Errors
name_of command.Tree = Tree
name_of (command.Contrl stamp reference) = Contrl
name_of command.Text = Text
name_of command.End = End
name_of command.Undo = Undo
name_of command.Redo = Redo
name_of (command.Batch edits) = Batch

-- what follows the name of an edit
abbrev pub edit_rest : EditSpec → Octets
edit_rest e =
    decimal e.at ++ 32 ∷ (decimal e.cut ++ 32 ∷ (decimal (length e.put) ++ 10 ∷ (e.put ++ 10 ∷ [])))

-- what follows a command's name
abbrev pub rest_text : Command → Octets
rest_text (command.Replace at cut put) = edit_rest (record { at = at; cut = cut; put = put })
rest_text command.Errors = []
rest_text command.Tree = []
rest_text (command.Contrl stamp reference) = stamp_text stamp ++ 32 ∷ (reference ++ 10 ∷ [])
rest_text command.Text = []
rest_text command.End = []
rest_text command.Undo = []
rest_text command.Redo = []
rest_text (command.Batch edits) = decimal (length edits) ++ 10 ∷ edits_text edits

-- what follows that name in a command of a session, as is each command of an edit
abbrev pub IsRestText : Name → Command → Octets → Type 0
IsRestText name c text = (name_of c ≡ name) × IsCommand Session c × (text ≡ rest_text c)

-- what follows the name in the text of that edit
abbrev pub IsEditRest : EditSpec → Octets → Type 0
IsEditRest e text = IsEditSpec e × (text ≡ edit_rest e)

-- the text of that edit
abbrev pub IsEditText : EditSpec → Octets → Type 0
IsEditText e text = IsEditSpec e × (text ≡ edit_text e)

-- the texts of so many edits
abbrev pub IsEditsText : ℕ → List EditSpec → Octets → Type 0
IsEditsText n edits text = (length edits ≡ n) × All IsEditSpec edits × (text ≡ edits_text edits)
