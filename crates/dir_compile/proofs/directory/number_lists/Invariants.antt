use Rattle.std.proofs.Common.{◌≡◌, length}
use Rattle.dir_compile.specs.Codes.{AreNumbersOf}
use Rattle.dir_compile.proofs.directory.number_lists.Given as goal

-- there are numbers for the lists before this one
abbrev pub invariant-loop-list : goal.invariant-loop-list
invariant-loop-list l = (length l.numbers.items ≡ l.list-index) × AreNumbersOf l.lists l.numbers.items
