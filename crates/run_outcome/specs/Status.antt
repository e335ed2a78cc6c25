-- The numbers of statuses.
use Rattle.std.specs.Prelude.{ℕ}
use Rattle.run_outcome.specs.declared.status.Status.{Status}
use Rattle.run_outcome.specs.declared.status.Status.TheVariants.{Done, Found, Words, BadDirectory, ReadFault, WriteFault, BadScript, TooLarge, Memory, Absent}

-- the number of a status, which is the program's exit status
abbrev pub number_of : Status → ℕ
number_of Done = 0
number_of Found = 1
number_of Words = 2
number_of BadDirectory = 3
number_of ReadFault = 4
number_of WriteFault = 5
number_of BadScript = 6
number_of TooLarge = 7
number_of Memory = 8
number_of Absent = 9
