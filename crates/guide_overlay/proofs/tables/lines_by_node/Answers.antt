use Rattle.std.proofs.Common.{◌≡◌, List, None, Option, get_or, length, ap, ◌∙◌, arith, rules}
use Rattle.std.specs.Option.{option_map}
use Rattle.dir_compile.proofs.Members.{written-back}
use Rattle.guide_overlay.specs.declared.line.DetailText.{DetailText}
use Rattle.guide_overlay.specs.Kept.{detail_seen}
use Rattle.guide_overlay.proofs.RowsLeft.{lines_next}
use Rattle.guide_overlay.proofs.tables.lines_by_node.Goals as goal

pub loop-detail-preserved : goal.loop-detail-preserved
loop-detail-preserved c =
    let old = c.loop-detail.lines.items in
    let new = c.put_line.new.lines in
    let given : c.deref_mut.result.now ≡ old = c.deref_mut.ensures.value in
    let kept : length new ≡ length old = omega (arith, c.put_line.auto.lines, ap length given) in
    let back = written-back old new c.loop-detail.lines.len (search rules) (omega (arith, kept, ap length given, c.deref_mut.ensures.len)) in
    record {
      long = ap length back ∙ kept ∙ c.loop-detail.invariant.long;
      lines = λ i within.
          ap (λ (ls : List (Option DetailText)). option_map detail_seen (get_or ls i None)) back
          ∙ lines_next c.args.details.now c.loop-detail.detail-index _ c.args.count c.deref_mut.result.now new (omega (arith, ap length given, c.loop-detail.invariant.long)) c.loop-detail-test.true
          (λ j inside. ap (λ (ls : List (Option DetailText)). option_map detail_seen (get_or ls j None)) given ∙ c.loop-detail.invariant.lines j inside)
          c.put_line.ensures i within;
    }
