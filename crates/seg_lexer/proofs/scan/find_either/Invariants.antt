use Rattle.memchr.specs.Find.{Nowhere, Passes, is_byte2}
use Rattle.seg_lexer.proofs.scan.find_either.Given as goal

-- neither was found so far
abbrev pub invariant-loop-place : goal.invariant-loop-place
invariant-loop-place l = Nowhere (Passes (is_byte2 l.one l.two) l.part) 0 l.place
