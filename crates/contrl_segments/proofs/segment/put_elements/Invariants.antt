use Rattle.std.proofs.Common.{◌≡◌, ◌++◌, map, take}
use Rattle.edi_tables.specs.Growing.{HasGrown}
use Rattle.contrl_segments.specs.Lent.{element_lent}
use Rattle.contrl_segments.specs.Written.{elements_text}
use Rattle.contrl_segments.proofs.segment.put_elements.Given as goal

abbrev pub invariant-loop-element : goal.invariant-loop-element
invariant-loop-element l = record {
  put : l.out ≡ l.fn.out ++ elements_text (map element_lent (take l.element-index l.elements));
  grown : HasGrown l.fn.out l.out;
}
