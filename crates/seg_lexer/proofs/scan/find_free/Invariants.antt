use Rattle.std.proofs.Common.{◌-◌, ◌≡◌, ◌≤◌}
use Rattle.memchr.specs.Find.{Nowhere}
use Rattle.seg_lexer.specs.Released.{is_released}
use Rattle.seg_lexer.specs.Scan.{IsFree}
use Rattle.seg_lexer.proofs.scan.find_free.Given as goal

-- nothing was found so far, and the flag says whether the next octet is released
abbrev pub invariant-loop-at : goal.invariant-loop-at
invariant-loop-at g l = record {
  low : l.from ≤ l.at;
  high : l.at ≤ l.end;
  none : Nowhere (IsFree l.fn.release l.sought (g.O.Octets.octets l.text) l.from) l.from l.at;
  carried : l.released ≡ is_released l.fn.release (g.O.Octets.octets l.text) l.from l.at;
}

abbrev pub decreases-loop-at : goal.decreases-loop-at
decreases-loop-at g l = l.end - l.at
