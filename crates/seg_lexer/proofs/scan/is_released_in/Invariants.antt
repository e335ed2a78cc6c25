use Rattle.std.proofs.Common.{◌≡◌, length, take}
use Rattle.seg_lexer.specs.Scan.{released_after}
use Rattle.seg_lexer.proofs.ScanLemmas.{turned}
use Rattle.seg_lexer.proofs.scan.is_released_in.Given as goal

-- each release character that was counted turns the flag
abbrev pub invariant-loop-last : goal.invariant-loop-last
invariant-loop-last l = turned l.odd (released_after l.release l.released l.before) ≡ released_after l.release l.released (take l.place l.part)

abbrev pub decreases-loop-last : goal.decreases-loop-last
decreases-loop-last l = length l.before
