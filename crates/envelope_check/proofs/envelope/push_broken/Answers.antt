use Rattle.std.proofs.Common.{◌-◌, ◌++◌, sym, ap, ◌∙◌, append-nil}
use Rattle.std.specs.List.{list_any}
use Rattle.std.specs.Option.{option_copied}
use Rattle.envelope_check.specs.Known.{mark_at, rules_by}
use Rattle.envelope_check.proofs.SegmentErrors.{none_broken}
use Rattle.envelope_check.proofs.envelope.push_broken.Goals as goal

pub returns-then-not-breaks_any-clause-told : goal.returns-then-not-breaks_any-clause-told
returns-then-not-breaks_any-clause-told g c =
    let mark = mark_at (g.M.SegmentMarks.marks c.args.marks.now) (c.args.number - 1) in
    let none = none_broken c.args.number mark (rules_by c.args.known (option_copied c.args.head) c.args.after.now)
    (ap (list_any (λ rule. rule.0)) (sym c.rules-rules.ensures) ∙ sym c.breaks_any.ensures ∙ c.if-not-breaks_any.true) in
    sym (ap (λ errors. c.args.errors.now.items ++ errors) none ∙ append-nil c.args.errors.now.items)
