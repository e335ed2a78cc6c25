use Rattle.std.proofs.Common.{◌≡◌, ℕ, List, [], None, Some, sym, ap, subst, ◌∙◌}
use Rattle.segment_records.specs.Records.{IsModeOf, Kept}
use Rattle.segment_records.specs.Standings.{entry_at, is_over_at}
use Rattle.segment_records.specs.Steps.{Step, inner_step}
use Rattle.segment_records.specs.Taken.{read_as}
use Rattle.segment_records.specs.declared.mode.Mode.{Mode}
use Rattle.segment_records.proofs.record.go_on_plain.Goals as goal

pub returns-clause-record : goal.returns-clause-record
returns-clause-record c = λ directory are.
    let step = c.in_ok-step.step in
    let same : record { entry = entry_at step.standing; missing = []; over = is_over_at step.standing; after = step.after }
    ≡ inner_step directory c.args.before.now (read_as (Some c.args.tag) []) =
    ap (λ (xs : List ℕ). record { entry = entry_at step.standing; missing = xs; over = is_over_at step.standing; after = step.after }) (sym c.in_ok-step.ensures.whole)
    ∙ c.in_ok-step.ensures.step directory are
    ∙ ap (λ (mode : Mode). inner_step directory mode (read_as (Some c.args.tag) [])) (sym c.in-Within.is) in
    ap (λ (s : Step). let kept : Kept = record { octets = c.args.octets; breaks = c.args.breaks; tag = Some c.args.tag; local = []; given = None; step = s } in kept) same

pub returns-clause-mode : goal.returns-clause-mode
returns-clause-mode c = λ directory most are mode.
    c.in_ok-step.ensures.mode directory most are (subst (IsModeOf directory most) c.in-Within.is mode)
