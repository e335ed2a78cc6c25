use Rattle.std.proofs.Common.{◌∙◌, map, ap, sym, length}
use Rattle.std.proofs.lemmas.List.{length-map}
use Rattle.std.specs.List.{flat_map}
use Rattle.dir_compile.specs.InOrder.{ordered_list}
use Rattle.dir_compile.specs.Compile.{list_name, twice_in, value_name}
use Rattle.dir_compile.proofs.AscendingLemmas.{same-ascending_by}
use Rattle.dir_compile.proofs.Members.{none-same, written-back}
use Rattle.dir_compile.proofs.order.ordered_lists.Goals as goal

pub order_each-requires : goal.order_each-requires
order_each-requires c =
    ap (flat_map (λ list. twice_in value_name list.values)) (c.deref_mut.ensures.value ∙ c.into_items-items.ensures ∙ c.ascending.ensures)
    ∙ none-same (λ list. twice_in value_name list.values) c.args.lists _ (same-ascending_by list_name c.args.lists) c.requires.coded

pub returns : goal.returns
returns c =
    let each = c.order_each.ensures ∙ ap (map ordered_list) (c.deref_mut.ensures.value ∙ c.into_items-items.ensures ∙ c.ascending.ensures) in
    let long = ap length c.order_each.ensures ∙ length-map c.deref_mut.result.now ordered_list ∙ c.deref_mut.ensures.len in
    c.of.ensures
    ∙ written-back c.into_items-items.result.items c.order_each.new.lists c.into_items-items.result.len (ap length (sym c.deref_mut.ensures.value) ∙ c.deref_mut.ensures.len) long
    ∙ each
