-- The values of a list of a directory in order are in order.
use Rattle.std.proofs.Common.{◌≡◌, ℕ, List, Some, subst}
use Rattle.edi_tables.specs.Ascending.{IsAscendingBy}
use Rattle.edi_tables.specs.declared.element.CodeList.{CodeList}
use Rattle.dir_compile.specs.declared.parts.Parts.{Parts}
use Rattle.dir_compile.specs.Compile.{list_name, named_in, value_name}
use Rattle.dir_compile.specs.Ordered.{IsInOrder}
use Rattle.dir_compile.proofs.Apart.{named-is}
use Rattle.dir_compile.proofs.AscendingLemmas.{Contains-from-Has}

pub list_ascends : (parts : Parts) → IsInOrder parts → (name : List ℕ) (list : CodeList) → named_in list_name parts.lists name ≡ Some list → IsAscendingBy value_name list.values
list_ascends parts order name list is =
    let at = Contains-from-Has parts.lists list (named-is list_name name parts.lists list is).0 in
    subst (λ (l : CodeList). IsAscendingBy value_name l.values) at.2 (order.codes at.0 list at.1)
