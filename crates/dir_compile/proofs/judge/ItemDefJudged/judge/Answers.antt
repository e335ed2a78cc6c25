use Rattle.std.proofs.Common.{◌≡◌, [], ◌∙◌, sym, subst}
use Rattle.dir_compile.specs.declared.stop.CompileKind.TheVariants.{UnknownComposite}
use Rattle.dir_compile.specs.Compile.{composite_name, item_faults}
use Rattle.dir_compile.specs.Stop.{fault_with}
use Rattle.dir_compile.specs.Judges.{IsFirstFault}
use Rattle.dir_compile.proofs.Faults.{first-when, when-held, not-at}
use Rattle.dir_compile.proofs.FoundByName.{contains-named}
use Rattle.dir_compile.proofs.judge.ItemDefJudged.judge.Goals as goal

pub returns-then-contains : goal.returns-then-contains
returns-then-contains c =
    let code = c.in-Composite.code in
    let known = contains-named composite_name c.args.parts.now.composites code.octets _ c.requires.composites in
    let there = not-at _ _ (sym c.if-contains.true ∙ c.contains.ensures ∙ known) in
    subst (λ item. item_faults c.args.parts.now item ≡ []) (sym c.in-Composite.is)
    (when-held _ (fault_with UnknownComposite code.octets) there)

pub returns-else-contains : goal.returns-else-contains
returns-else-contains c =
    let code = c.in-Composite.code in
    let known = contains-named composite_name c.args.parts.now.composites code.octets _ c.requires.composites in
    let absent = not-at _ _ (sym c.if-contains.false ∙ c.contains.ensures ∙ known) in
    subst (λ item. IsFirstFault c.fault.result (item_faults c.args.parts.now item)) (sym c.in-Composite.is)
    (first-when c.fault.result _ UnknownComposite code.octets absent c.fault.ensures)
