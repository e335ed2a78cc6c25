use Rattle.std.proofs.Common.{◌-◌, ◌≤◌, length}
use Rattle.memchr.specs.Find.{Nowhere}
use Rattle.seg_lexer.specs.Scan.{IsFreeIn}
use Rattle.seg_lexer.proofs.scan.find_free_in.Given as goal

-- nothing was found so far
abbrev pub invariant-loop-k : goal.invariant-loop-k
invariant-loop-k l = record {
  high : l.at ≤ length l.part;
  none : Nowhere (IsFreeIn l.release l.sought l.released l.part) 0 l.at;
}

abbrev pub decreases-loop-k : goal.decreases-loop-k
decreases-loop-k l = length l.part - l.at
