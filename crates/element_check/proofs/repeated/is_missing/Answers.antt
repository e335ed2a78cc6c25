use Rattle.std.proofs.Common.{ℕ, List, not, sym, ap, ◌∙◌, subst}
use Rattle.std.specs.List.{list_any}
use Rattle.seg_lexer.specs.Fields.{Component}
use Rattle.element_check.specs.Local.{repetitions_of}
use Rattle.element_check.specs.Streams.{AreOrdered, components_ahead, front_run, has_needed, is_first_filled, values_left}
use Rattle.element_check.proofs.RepeatedLemmas.{missing-filled, missing-lacking, missing-none}
use Rattle.element_check.proofs.repeated.is_missing.Goals as goal

pub is_lacking-requires : goal.is_lacking-requires
is_lacking-requires g c = record { ordered = subst (AreOrdered c.args.element 1) (sym c.begins_filled.ensures.ahead) c.requires.ordered }

pub returns-then-not-is_mandatory-clause-missing : goal.returns-then-not-is_mandatory-clause-missing
returns-then-not-is_mandatory-clause-missing g c =
    missing-none c.args.item.now c.args.element (components_ahead c.args.rest.now) (sym c.is_mandatory.ensures ∙ c.if-not-is_mandatory.true)

pub returns-then-begins_filled-clause-missing : goal.returns-then-begins_filled-clause-missing
unfolding values_left
returns-then-begins_filled-clause-missing g c =
    missing-filled c.args.item.now c.args.element (components_ahead c.args.rest.now) c.requires.ordered
    (ap (λ (r : ℕ). is_first_filled (front_run c.args.element r (components_ahead c.args.rest.now))) (sym c.requires.first) ∙ sym c.begins_filled.ensures.filled ∙ c.if-begins_filled.true)

pub returns-clause-missing : goal.returns-clause-missing
returns-clause-missing g c =
    c.is_lacking.ensures
    ∙ ap (λ (cs : List Component). not (list_any (has_needed c.args.item.now) (repetitions_of cs c.args.element))) c.begins_filled.ensures.ahead
    ∙ missing-lacking c.args.item.now (repetitions_of (components_ahead c.args.rest.now) c.args.element) (sym c.is_mandatory.ensures ∙ c.if-not-is_mandatory.false)
