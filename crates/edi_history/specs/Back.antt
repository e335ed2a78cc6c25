-- What an undo and a redo come to.
use Rattle.std.specs.Prelude.{◌≡◌, length, Option, Some, None}
use Rattle.edi_history.specs.Past.{Past}
use Rattle.edi_history.specs.Reading.{PastReading}
use Rattle.edi_history.specs.declared.back.Back.{Back}
use Rattle.edi_history.specs.declared.back.Back.TheVariants.{Done, Empty}

-- what a step back or on comes to, by the past after it, if there is one: that, with the length of its text; or else
-- the history as it was
abbrev pub IsBack : Option Past → PastReading → PastReading → Back → Type 0
IsBack past before now (Done n) =
    (past ≡ Some now.past) × (now.directory ≡ before.directory) × (n ≡ length now.past.text)
IsBack past before now Empty = (past ≡ None) × (now ≡ before)
