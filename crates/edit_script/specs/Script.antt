-- The text of a script.
use Rattle.std.specs.Prelude.{List, [], ◌∷◌, ◌++◌, ⊤}
use Rattle.edi_tables.specs.Octets.{Octets}
use Rattle.edit_script.specs.declared.command.Command.{Command}
use Rattle.edit_script.specs.declared.grammar.Grammar.{Grammar}
use Rattle.edit_script.specs.Command.{command_text, IsCommand}

-- the one text of a list of commands
abbrev pub script_text : List Command → Octets
script_text [] = []
script_text (c ∷ cs) = command_text c ++ script_text cs

-- each of them is a command of the grammar
abbrev pub AreCommands : Grammar → List Command → Type 0
AreCommands g [] = ⊤
AreCommands g (c ∷ cs) = IsCommand g c × AreCommands g cs
