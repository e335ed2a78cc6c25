use Rattle.std.proofs.Common.{◌≡◌, List, ap, map, ◌∙◌}
use Rattle.std.specs.List.{enumerate_from}
use Rattle.edi_tables.specs.declared.element.CompositeDef.{CompositeDef}
use Rattle.edi_tables.specs.declared.element.PartDef.{PartDef}
use Rattle.dir_compile.specs.Compile.{composite_name}
use Rattle.guide_overlay.specs.declared.line.Topic.TheVariants.{OfComposite}
use Rattle.guide_overlay.specs.Guide.{Detail, details_for, narrowed_composite, narrowed_part}
use Rattle.guide_overlay.specs.Kept.{sections_seen}
use Rattle.guide_overlay.proofs.members.narrow_composite.Goals as goal

pub returns : goal.returns
returns c =
    let base = c.args.composite.now in
    let sections = sections_seen c.args.reading.now in
    let made : c.in_ok-narrow_parts.field-0 ≡ (narrowed_composite sections base).parts =
    c.in_ok-narrow_parts.ensures
    ∙ ap (λ (details : List Detail). map (narrowed_part details) (enumerate_from 1 c.items.result.now)) (c.details_for-details.ensures OfComposite c.requires.named)
    ∙ ap (λ (xs : List PartDef). map (narrowed_part (details_for sections OfComposite (composite_name base))) (enumerate_from 1 xs)) c.items.ensures in
    let with : List PartDef → CompositeDef = λ xs. record base { parts = xs } in
    ap with made
