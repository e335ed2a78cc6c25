use Rattle.std.proofs.Common.{◌≡◌, [], ◌∙◌, ◌&&◌, not, is_some, sym, ap, subst}
use Rattle.dir_compile.specs.declared.stop.CompileKind.TheVariants.{UnknownSegment}
use Rattle.dir_compile.specs.Compile.{segment_name, tag_faults, is_service_tag}
use Rattle.dir_compile.specs.Stop.{fault_with}
use Rattle.dir_compile.specs.Judges.{IsFirstFault}
use Rattle.dir_compile.proofs.Faults.{first-when, when-held, not-at}
use Rattle.dir_compile.proofs.FoundByName.{contains-named}
use Rattle.dir_compile.proofs.judge.TableRowJudged.judge.Goals as goal

pub returns-then-contains : goal.returns-then-contains
returns-then-contains c =
    let tag = c.in-Some.tag in
    let known = contains-named segment_name c.args._parts.now.segments tag.octets _ c.requires.segments in
    let there = not-at _ _ (sym c.if-contains.true ∙ c.contains.ensures ∙ known) in
    subst (λ t. tag_faults c.args._parts.now t ≡ []) (sym c.in-Some.is)
    (when-held _ (fault_with UnknownSegment tag.octets) (ap (λ b. b && not (is_service_tag tag.octets)) there))

pub returns-in-None : goal.returns-in-None
returns-in-None c =
    let tag = c.in-Some.tag in
    let known = contains-named segment_name c.args._parts.now.segments tag.octets _ c.requires.segments in
    let absent = not-at _ _ (sym c.if-contains.false ∙ c.contains.ensures ∙ known) in
    let unserved = ap (λ o. not (is_some o)) (sym c.in-None.ensures.items) in
    subst (λ t. IsFirstFault c.fault.result (tag_faults c.args._parts.now t)) (sym c.in-Some.is)
    (first-when c.fault.result _ UnknownSegment tag.octets (λ i. absent i && unserved i) c.fault.ensures)
