use Rattle.std.proofs.Common.{◌<◌, ◌∙◌, length, set, ap, arith}
use Rattle.dir_compile.specs.InOrder.{ascending_by, ordered_list}
use Rattle.dir_compile.specs.Compile.{twice_in, value_name}
use Rattle.dir_compile.proofs.Members.{none-place, mapped-get, mapped-set}
use Rattle.dir_compile.proofs.order.order_each.Goals as goal

pub ascending-requires : goal.ascending-requires
ascending-requires c =
    let i = c.loop-list.list-index in
    let lt : i < length c.args.lists.now = omega arith in
    let here = mapped-get ordered_list c.args.lists.now c.loop-list.lists i c.list-item.result lt c.loop-list.invariant in
    ap (twice_in value_name) (c.replace-values.ensures.value ∙ ap (λ l. l.values) here)
    ∙ none-place (λ list. twice_in value_name list.values) c.args.lists.now i c.list-item.result lt c.requires

pub loop-list-preserved : goal.loop-list-preserved
loop-list-preserved c =
    let i = c.loop-list.list-index in
    let lt : i < length c.args.lists.now = omega arith in
    let here = mapped-get ordered_list c.args.lists.now c.loop-list.lists i c.list-item.result lt c.loop-list.invariant in
    let codes = c.ascending.ensures ∙ ap (ascending_by value_name) (c.replace-values.ensures.value ∙ ap (λ l. l.values) here) in
    (λ j. set c.loop-list.lists i (record { element = (here j).element; values = codes j }))
    ∙ mapped-set ordered_list c.args.lists.now c.loop-list.lists i c.list-item.result lt c.loop-list.invariant
