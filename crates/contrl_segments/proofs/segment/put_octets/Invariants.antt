use Rattle.std.proofs.Common.{◌≡◌, ◌++◌, take}
use Rattle.edi_tables.specs.Growing.{HasGrown}
use Rattle.contrl_segments.specs.Written.{value_text}
use Rattle.contrl_segments.proofs.segment.put_octets.Given as goal

abbrev pub invariant-loop-octet : goal.invariant-loop-octet
invariant-loop-octet l = record {
  put : l.out ≡ l.fn.out ++ value_text (take l.octet-index l.octets);
  grown : HasGrown l.fn.out l.out;
}
