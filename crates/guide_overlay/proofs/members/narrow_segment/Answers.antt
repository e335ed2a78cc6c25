use Rattle.std.proofs.Common.{◌≡◌, List, ap, map, ◌∙◌}
use Rattle.std.specs.List.{enumerate_from}
use Rattle.edi_tables.specs.declared.segment.SegmentDef.{SegmentDef}
use Rattle.edi_tables.specs.declared.segment.ItemDef.{ItemDef}
use Rattle.dir_compile.specs.Compile.{segment_name}
use Rattle.guide_overlay.specs.declared.line.Topic.TheVariants.{OfSegment}
use Rattle.guide_overlay.specs.Guide.{Detail, details_for, narrowed_segment, narrowed_item}
use Rattle.guide_overlay.specs.Kept.{sections_seen}
use Rattle.guide_overlay.proofs.members.narrow_segment.Goals as goal

pub returns : goal.returns
returns c =
    let base = c.args.segment.now in
    let sections = sections_seen c.args.reading.now in
    let made : c.in_ok-narrow_items.field-0 ≡ (narrowed_segment sections base).items =
    c.in_ok-narrow_items.ensures
    ∙ ap (λ (details : List Detail). map (narrowed_item details) (enumerate_from 1 c.items.result.now)) (c.details_for-details.ensures OfSegment c.requires.named)
    ∙ ap (λ (xs : List ItemDef). map (narrowed_item (details_for sections OfSegment (segment_name base))) (enumerate_from 1 xs)) c.items.ensures in
    let with : List ItemDef → SegmentDef = λ xs. record base { items = xs } in
    ap with made
