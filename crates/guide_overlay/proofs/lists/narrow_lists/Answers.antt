use Rattle.std.proofs.Common.{sym, ap, ◌∙◌, ◌++◌, [], append-nil}
use Rattle.std.specs.List.{cons_option}
use Rattle.guide_overlay.specs.Guide.{list_left}
use Rattle.guide_overlay.specs.Kept.{sections_seen}
use Rattle.guide_overlay.proofs.Numbered.{some_more}
use Rattle.guide_overlay.proofs.lists.narrow_lists.Goals as goal
use Rattle.guide_overlay.proofs.lists.narrow_lists.Goals.{in-Some+in_ok-push, in_default}

pub loop-element-preserved : goal.loop-element-preserved
loop-element-preserved c =
    let old = c.loop-element.lists.items in
    some_more (list_left (sections_seen c.args.reading.now) c.args.parts.now) c.items-element-items.result.now c.loop-element.element-index _ c.in_ok-list.field-0 old c.match-branch-2.lists.items
    c.loop-element-test.true c.in_ok-list.ensures c.loop-element.invariant
    (elim c.match-branch-2.branch [
      | in-Some+in_ok-push w ↦
          ap (λ v. v.items) w.lists-is ∙ w.in_ok-push.ensures.items ∙ sym (ap (λ o. old ++ cons_option o []) w.in-Some.is)
      | in_default w ↦
          ap (λ v. v.items) w.lists-is ∙ sym (append-nil old) ∙ sym (ap (λ o. old ++ cons_option o []) w.in_default.is)
    ])
