use Rattle.std.proofs.Common.{ap}
use Rattle.std.specs.Prelude.{map}
use Rattle.seg_lexer.specs.Fields.{unplaced}
use Rattle.listing_printer.proofs.ValuesLemmas.{values-later, values-over}
use Rattle.listing_printer.proofs.value_lines.put_values.Goals as goal

pub loop-component-preserved : goal.loop-component-preserved
loop-component-preserved g c =
    values-later _ _ _ _ _ _ (ap (map unplaced) c.in-Some.ensures.steps) c.loop-component.invariant c.in_ok-put_component.ensures

pub returns : goal.returns
returns g c = values-over _ _ _ (ap (map unplaced) c.in-None.ensures.steps.0) c.loop-component.invariant
