use Rattle.std.proofs.Common.{◌-◌, ◌++◌, sym, ap, ◌∙◌, append-nil}
use Rattle.std.specs.Option.{option_copied}
use Rattle.envelope_check.specs.Known.{mark_at, rules_by}
use Rattle.envelope_check.proofs.SegmentErrors.{none_broken}
use Rattle.envelope_check.proofs.envelope.push_segment_errors.Goals as goal

pub returns-then-is_sound-clause-told : goal.returns-then-is_sound-clause-told
returns-then-is_sound-clause-told g c =
    let mark = mark_at (g.M.SegmentMarks.marks c.args.marks.now) (c.args.number - 1) in
    let none = none_broken c.args.number mark (rules_by c.args.known.now (option_copied c.args.head) c.args.after.now) (c.is_sound.ensures c.args.after.now c.if-is_sound.true) in
    sym (ap (λ errors. c.args.errors.now.items ++ errors) none ∙ append-nil c.args.errors.now.items)
