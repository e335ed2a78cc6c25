-- The grammar of commands.
use Rattle.std.specs.Prelude.{◌≡◌, ◌<◌, ◌≤◌, ◌^◌, IsTrue, ⊤, List, [], ◌∷◌, ◌++◌, length, codes, decimal}
use Rattle.std.specs.List.{All}
use Rattle.edi_tables.specs.Octets.{Octets}
use Rattle.edit_script.specs.declared.command.Command.{Command}
use Rattle.edit_script.specs.declared.command.Command.TheVariants.{Replace, Errors, Tree, Contrl, Text, End, Undo, Redo, Batch}
use Rattle.edit_script.specs.declared.command.EditSpec.{EditSpec}
use Rattle.edit_script.specs.declared.grammar.Grammar.{Grammar}
use Rattle.edit_script.specs.declared.grammar.Grammar.TheVariants.{Edit, Session}
use Rattle.contrl_segments.specs.Stamp.{IsStamp, stamp_text, is_reference_of}
use Rattle.edit_script.specs.Beginnings.{IsPartOf, BeginsNoneOf, IsBadOf}
use Rattle.edi_octets.specs.declared.octets.TheConstants.{LONGEST_TEXT}

-- the text of an edit: its line of words, and then the octets that it puts, and LF
abbrev pub edit_text : EditSpec → Octets
edit_text e =
    codes "replace "
    ++ (decimal e.at ++ 32 ∷ (decimal e.cut ++ 32 ∷ (decimal (length e.put) ++ 10 ∷ (e.put ++ 10 ∷ []))))

-- the texts of edits, one after the other
abbrev pub edits_text : List EditSpec → Octets
edits_text [] = []
edits_text (e ∷ es) = edit_text e ++ edits_text es

-- the text of a command: a line of words separated by one space, ended by LF; for `replace` then its octets, and LF;
-- for `batch` then its edits, each with the text of a `replace`
abbrev pub command_text : Command → Octets
command_text (Replace at cut put) = edit_text (record { at = at; cut = cut; put = put })
command_text Errors = codes "errors" ++ 10 ∷ []
command_text Tree = codes "tree" ++ 10 ∷ []
command_text (Contrl stamp reference) = codes "contrl " ++ (stamp_text stamp ++ 32 ∷ (reference ++ 10 ∷ []))
command_text Text = codes "text" ++ 10 ∷ []
command_text End = codes "end" ++ 10 ∷ []
command_text Undo = codes "undo" ++ 10 ∷ []
command_text Redo = codes "redo" ++ 10 ∷ []
command_text (Batch edits) = codes "batch " ++ (decimal (length edits) ++ 10 ∷ edits_text edits)

-- an edit of the grammar: numbers of at most 19 digits, and at most 4,194,304 octets to put
abbrev pub IsEditSpec : EditSpec → Type 0
IsEditSpec e = (e.at < 10 ^ 19) × (e.cut < 10 ^ 19) × (length e.put ≤ LONGEST_TEXT)

-- a command of the grammar: an edit, a stamp and a reference of their form; `undo`, `redo` and `batch`, of 1 to 16
-- edits, in a session alone
abbrev pub IsCommand : Grammar → Command → Type 0
IsCommand g (Replace at cut put) = IsEditSpec (record { at = at; cut = cut; put = put })
IsCommand g Errors = ⊤
IsCommand g Tree = ⊤
IsCommand g (Contrl stamp reference) = IsStamp stamp × IsTrue (is_reference_of reference)
IsCommand g Text = ⊤
IsCommand g End = ⊤
IsCommand Edit Undo = ⊥
IsCommand Edit Redo = ⊥
IsCommand Edit (Batch edits) = ⊥
IsCommand Session Undo = ⊤
IsCommand Session Redo = ⊤
IsCommand Session (Batch edits) = (1 ≤ length edits) × (length edits ≤ 16) × All IsEditSpec edits

-- these octets are the text of that command
abbrev pub IsTextOf : Grammar → Command → Octets → Type 0
IsTextOf g c text = IsCommand g c × (text ≡ command_text c)

-- these octets are the text of a command
abbrev pub IsCommandText : Grammar → Octets → Type 0
IsCommandText g text = (c : Command) × IsTextOf g c text

-- a part of a command, which may be empty and isn't a whole one
abbrev pub IsPart : Grammar → Octets → Type 0
IsPart g part = IsPartOf (IsCommandText g) part

-- octets that no command begins with, and that begin with no command
abbrev pub BeginsNone : Grammar → Octets → Type 0
BeginsNone g octets = BeginsNoneOf (IsCommandText g) octets

-- a bad line, as far as it tells itself: the shortest octets that no command begins with
abbrev pub IsBadLine : Grammar → Octets → Type 0
IsBadLine g octets = IsBadOf (IsCommandText g) octets
