use Rattle.std.proofs.Common.{◌≡◌, List, ℕ, Some, sym, ap, ◌∙◌, subst}
use Rattle.std.specs.Option.{option_copied}
use Rattle.edi_tables.specs.Ascending.{IsAscendingBy}
use Rattle.edi_tables.specs.declared.element.CodeList.{CodeList}
use Rattle.dir_compile.specs.Compile.{list_name, named_in, value_name}
use Rattle.guide_overlay.proofs.BaseLemmas.{list_ascends}
use Rattle.guide_overlay.proofs.base.base_kind.Goals as goal

pub find_named-requires-in-Some-find_named : goal.find_named-requires-in-Some-find_named
find_named-requires-in-Some-find_named c =
    let name = c.args.name.now in
    let list = c.in-Some-find_named.list.now in
    let found : named_in list_name c.args.parts.now.lists name ≡ Some list =
    sym (ap (λ (lists : List CodeList). named_in list_name lists name) c.items.ensures) ∙ sym c.find_named.ensures ∙ ap option_copied c.in-Some-find_named.is in
    subst (λ (values : List (List ℕ)). IsAscendingBy value_name values) (sym c.items-in-Some-find_named.ensures) (list_ascends c.args.parts.now c.requires name list found)
