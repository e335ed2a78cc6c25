use Rattle.std.proofs.Common.{◌≡◌, ◌+◌, length}
use Rattle.std.specs.List.{between, prefix_len}
use Rattle.seg_lexer.specs.Breaks.{is_break}
use Rattle.seg_lexer.proofs.scan.skip_breaks.Given as goal

-- each octet so far is CR or LF
abbrev pub invariant-loop-octet : goal.invariant-loop-octet
invariant-loop-octet g l = record {
  left : l.start + length l.octet-iterator ≡ l.end;
  same : l.start + prefix_len is_break l.octet-iterator ≡ l.from + prefix_len is_break (between l.from l.end (g.O.Octets.octets l.text));
}
