use Rattle.std.proofs.Common.{◌≡◌, ◌∙◌, sym}
use Rattle.dir_compile.specs.Compile.{element_name}
use Rattle.dir_store.proofs.SearchLemmas.{AreSmall, named-item, one_number}
use Rattle.dir_store.proofs.earlier.EarlierDefinitions.hinted_element.Goals as goal

pub returns-then-code_number : goal.returns-then-code_number
returns-then-code_number c =
    let code = c.args.code.octets in
    let found = c.in_ok-element.element.now.code.octets in
    let one : AreSmall found = record { long = c.code_number.ensures.four; second = c.code_number.ensures.second; third = c.code_number.ensures.third; fourth = c.code_number.ensures.fourth } in
    let other : AreSmall code = record { long = c.code_number-2.ensures.four; second = c.code_number-2.ensures.second; third = c.code_number-2.ensures.third; fourth = c.code_number-2.ensures.fourth } in
    let named : found ≡ code = one_number found code one other (sym c.code_number.ensures.value ∙ c.if-code_number.true ∙ c.code_number-2.ensures.value) in
    named-item element_name code c.args.self.now.elements.now c.of_code.result c.in_ok-element.element c.args.self.now.elements_ascend c.in_ok-element.ensures.lookup named
