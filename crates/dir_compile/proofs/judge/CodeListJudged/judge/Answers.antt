use Rattle.std.proofs.Common.{◌∙◌, sym}
use Rattle.dir_compile.specs.declared.stop.CompileKind.TheVariants.{UnknownElement}
use Rattle.dir_compile.specs.Stop.{fault_with}
use Rattle.dir_compile.specs.Compile.{element_name}
use Rattle.dir_compile.proofs.Faults.{first-when, when-held, not-at}
use Rattle.dir_compile.proofs.FoundByName.{contains-named}
use Rattle.dir_compile.proofs.judge.CodeListJudged.judge.Goals as goal

pub returns-then-not-contains : goal.returns-then-not-contains
returns-then-not-contains c =
    let name = c.args.self.now.element.octets in
    let known = contains-named element_name c.args._parts.now.elements name _ c.requires.elements in
    let absent = not-at _ _ (sym c.if-not-contains.true ∙ c.contains.ensures ∙ known) in
    first-when c.fault.result _ UnknownElement name absent c.fault.ensures

pub returns : goal.returns
returns c =
    let name = c.args.self.now.element.octets in
    let known = contains-named element_name c.args._parts.now.elements name _ c.requires.elements in
    let there = not-at _ _ (sym c.if-not-contains.false ∙ c.contains.ensures ∙ known) in
    when-held _ (fault_with UnknownElement name) there
