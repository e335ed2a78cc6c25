-- What a reader of a script answers.
use Rattle.std.specs.Prelude.{◌≡◌, ◌<◌, ◌+◌, ℕ, length, Option, Result, Ok, Err}
use Rattle.edi_tables.specs.Octets.{Octets}
use Rattle.edi_ports.specs.Read.{HasTaken}
use Rattle.edit_script.specs.declared.command.Command.{Command}
use Rattle.edit_script.specs.declared.grammar.Grammar.{Grammar}
use Rattle.edit_script.specs.declared.stop.ScriptStop.{ScriptStop}
use Rattle.edit_script.specs.declared.stop.ScriptStop.TheVariants.{BadLine, CutShort, TooLong, Fault, Memory}
use Rattle.edit_script.specs.Reading.{IsAtEnd}
use Rattle.edit_script.specs.Command.{IsTextOf, IsPart, IsBadLine}

-- a reader: how many octets it may still take, the number of the next command, from 1, and which commands it reads
pub record Reader : Type 0 where
  pub left : ℕ
  pub number : ℕ
  pub grammar : Grammar

-- what was taken: the command's text; a bad line, as far as it tells itself; a part of a command, at the source's end;
-- one after which no octet may be taken; one at a fault, after which some may; one for which memory was refused
abbrev pub IsAnswer : Reader → Octets → Type 0 → Result Command ScriptStop → Type 0
IsAnswer reader taken at_end (Ok c) = IsTextOf reader.grammar c taken
IsAnswer reader taken at_end (Err (BadLine number)) = (number ≡ reader.number) × IsBadLine reader.grammar taken
IsAnswer reader taken at_end (Err (CutShort number)) =
    (number ≡ reader.number) × IsPart reader.grammar taken × (length taken < reader.left) × at_end
IsAnswer reader taken at_end (Err TooLong) = IsPart reader.grammar taken × (length taken ≡ reader.left)
IsAnswer reader taken at_end (Err Fault) = IsPart reader.grammar taken × (length taken < reader.left)
IsAnswer reader taken at_end (Err Memory) = IsPart reader.grammar taken

-- a command has the next number; a stop leaves the number
abbrev pub number_after : ℕ → Result Command ScriptStop → ℕ
number_after number (Ok c) = number + 1
number_after number (Err stop) = number

-- octets were taken from the front of the rest, no more than may be, and they tell the answer
pub record IsNext (before now : Option Octets) (reader after : Reader)
    (result : Result Command ScriptStop) : Type 0 where
  pub taken : Octets
  pub from_front : HasTaken before taken now
  pub left : after.left + length taken ≡ reader.left
  pub number : after.number ≡ number_after reader.number result
  pub kept : after.grammar ≡ reader.grammar
  pub answer : IsAnswer reader taken (IsAtEnd before now) result
