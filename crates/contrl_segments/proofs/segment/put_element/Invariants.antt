use Rattle.std.proofs.Common.{◌≡◌, ◌++◌, ◌∷◌, take}
use Rattle.std.specs.List.{flat_map}
use Rattle.edi_tables.specs.Growing.{HasGrown}
use Rattle.contrl_segments.specs.Written.{value_text}
use Rattle.contrl_segments.specs.Lent.{value_lent}
use Rattle.contrl_segments.proofs.segment.put_element.Given as goal

abbrev pub invariant-loop-value : goal.invariant-loop-value
invariant-loop-value l = record {
  put : l.out ≡ l.initial.out ++ flat_map (λ v. 58 ∷ value_text (value_lent v)) (take l.value-index l.later);
  grown : HasGrown l.fn.out l.out;
}
