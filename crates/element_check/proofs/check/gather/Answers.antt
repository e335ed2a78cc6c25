use Rattle.std.proofs.Common.{◌≡◌, ◌++◌, ◌+◌, ◌<◌, List, length, sym, ap, ◌∙◌, subst}
use Rattle.std.specs.Option.{option_map}
use Rattle.edi_tables.specs.declared.tag.Tag.{Tag}
use Rattle.seg_lexer.specs.Left.{components_left}
use Rattle.element_check.specs.Streams.{errors_past, repeated_errors}
use Rattle.element_check.specs.declared.error.LocalError.{LocalError}
use Rattle.element_check.proofs.BridgeLemmas.{past-known, past-unknown, past-untagged}
use Rattle.element_check.proofs.ErrorsLemmas.{on_err_then, on_ok_then}
use Rattle.element_check.proofs.RulesLemmas.{rules_of-few}
use Rattle.element_check.proofs.check.gather.Goals as goal
use Rattle.element_check.proofs.check.gather.Goals.{After-check_elements}

pub returns-in_default-clause-ok : goal.returns-in_default-clause-ok
returns-in_default-clause-ok g c =
    on_ok_then c.put_if.result c.put_if.ensures.ok (λ is. is ∙ ap (λ (es : List LocalError). c.args.errors.now ++ es)
    (past-untagged c.args.directory.now c.args.context.now (components_left c.args.elements) c.args.tag c.in_default.is))

pub returns-in_default-clause-full : goal.returns-in_default-clause-full
returns-in_default-clause-full g c =
    on_err_then c.put_if.result c.put_if.ensures.full (subst (λ (es : List LocalError). 4 < length c.args.errors.now + length es)
    (past-untagged c.args.directory.now c.args.context.now (components_left c.args.elements) c.args.tag c.in_default.is))

pub returns-in_default-of-clause-ok : goal.returns-in_default-of-clause-ok
returns-in_default-of-clause-ok g c =
    on_ok_then c.put_if-in_default-of.result c.put_if-in_default-of.ensures.ok (λ is. is ∙ ap (λ (es : List LocalError). c.args.errors.now ++ es)
    (past-unknown c.args.directory.now c.args.context.now (components_left c.args.elements) c.args.tag c.in-Some.tag c.in-Some.is (sym c.of.ensures.rules ∙ c.in_default-of.is)))

pub returns-in_default-of-clause-full : goal.returns-in_default-of-clause-full
returns-in_default-of-clause-full g c =
    on_err_then c.put_if-in_default-of.result c.put_if-in_default-of.ensures.full (subst (λ (es : List LocalError). 4 < length c.args.errors.now + length es)
    (past-unknown c.args.directory.now c.args.context.now (components_left c.args.elements) c.args.tag c.in-Some.tag c.in-Some.is (sym c.of.ensures.rules ∙ c.in_default-of.is)))

pub check_elements-requires-clause-short : goal.check_elements-requires-clause-short
check_elements-requires-clause-short g c =
    rules_of-few c.args.directory.now c.args.context.now c.in-Some.tag.octets c.in-Some-of.rules c.of.ensures.lawful (sym c.in-Some-of.is ∙ c.of.ensures.rules)

known : (g : _) (c : After-check_elements g) → repeated_errors c.in-Some-of.rules 0 c.in-Some-of.rules.items (components_left c.args.elements)
    ≡ errors_past c.args.directory.now c.args.context.now (components_left c.args.elements) (option_map (λ (t : Tag). t.octets) c.args.tag)
known g c = past-known c.args.directory.now c.args.context.now (components_left c.args.elements) c.args.tag c.in-Some.tag c.in-Some-of.rules c.in-Some.is (sym c.of.ensures.rules ∙ c.in-Some-of.is)

pub returns-clause-ok : goal.returns-clause-ok
returns-clause-ok g c = on_ok_then c.check_elements.result c.check_elements.ensures.ok (λ is. is ∙ ap (λ (es : List LocalError). c.args.errors.now ++ es) (known g c))

pub returns-clause-full : goal.returns-clause-full
returns-clause-full g c =
    on_err_then c.check_elements.result c.check_elements.ensures.full (subst (λ (es : List LocalError). 4 < length c.args.errors.now + length es) (known g c))
