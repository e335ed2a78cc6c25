use Rattle.std.proofs.Common.{◌≡◌, List, [], false, subst, sym, ap, ◌∙◌}
use Rattle.std.specs.Prelude.{IfOk}
use Rattle.seg_lexer.specs.Fields.{Component}
use Rattle.segment_records.specs.Steps.{Step, inner_step, opening_step, step_of}
use Rattle.segment_records.specs.Taken.{read_as, taken}
use Rattle.segment_records.specs.declared.mode.Mode.{Mode}
use Rattle.segment_records.proofs.Taking.{inner_read, step_at_unh, step_outside, step_inside}
use Rattle.segment_records.proofs.step.take_step.Goals as goal
use Rattle.segment_records.proofs.step.take_step.Goals.{After-is_no_part}

pub returns-then-is_named-clause-step : goal.returns-then-is_named-clause-step
returns-then-is_named-clause-step g c = λ components named.
    let segment = read_as c.args.tag components in
    let unh = sym c.is_named.ensures ∙ c.if-is_named.true in
    let step = ap (opening_step c.args.directory.now) (named unh)
    ∙ sym (step_at_unh c.args.directory.now c.args.before.now segment unh) in
    subst (λ (s : Step). IfOk c.open_message.result (λ step. taken step ≡ s)) step c.open_message.ensures.step

pub returns-then-is_no_part-clause-step : goal.returns-then-is_no_part-clause-step
returns-then-is_no_part-clause-step g c = λ components named.
    let segment = read_as c.args.tag components in
    c.plain_step.ensures
    ∙ sym (step_outside c.args.directory.now c.args.before.now segment (sym c.is_named.ensures ∙ c.if-is_named.false) (sym c.is_no_part.ensures ∙ c.if-is_no_part.true))

-- the step of a segment that neither opens nor leaves a message doesn't look at its components
inner_of : (g : _) (c : After-is_no_part g) → c.is_named.result ≡ false → c.is_no_part.result ≡ false → (components : List Component)
    → inner_step c.args.directory.now c.args.before.now (read_as c.args.tag [])
    ≡ step_of c.args.directory.now c.args.before.now (read_as c.args.tag components)
inner_of g c named no_part components =
    let segment = read_as c.args.tag components in
    inner_read c.args.directory.now c.args.before.now c.args.tag components
    ∙ sym (step_inside c.args.directory.now c.args.before.now segment (sym c.is_named.ensures ∙ named) (sym c.is_no_part.ensures ∙ no_part))

pub returns-in-Within-clause-step : goal.returns-in-Within-clause-step
returns-in-Within-clause-step g c = λ components named.
    let is = inner_of g (goal.at.returns-in-Within-clause-step g c).After-is_no_part c.if-is_named.false c.if-is_no_part.false components in
    let inner = ap (λ (mode : Mode). inner_step c.args.directory.now mode (read_as c.args.tag [])) (sym c.in-Within.is) in
    subst (λ (s : Step). IfOk c.go_on.result (λ step. taken step ≡ s)) (inner ∙ is) c.go_on.ensures.step

pub returns-in_default : goal.returns-in_default
returns-in_default g c =
    record {
      step = λ components named.
          let is = inner_of g (goal.at.returns-in_default g c).After-is_no_part c.if-is_named.false c.if-is_no_part.false components in
          subst (λ (s : Step). IfOk c.take_inner_step.result (λ step. taken step ≡ s)) is c.take_inner_step.ensures.step;
      mode = c.take_inner_step.ensures.mode;
      known = c.take_inner_step.ensures.known;
      counted = c.take_inner_step.ensures.counted;
    }
