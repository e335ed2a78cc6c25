use Rattle.std.proofs.Common.{All}
use Rattle.dir_compile.specs.Codes.{IsCodeNumber}
use Rattle.dir_compile.proofs.codes.numbers_of.Given as goal

-- each number is that of a code
abbrev pub invariant-loop-code : goal.invariant-loop-code
invariant-loop-code l = All (IsCodeNumber l.codes) l.numbers.items
