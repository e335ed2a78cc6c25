use Rattle.std.proofs.Common.{◌∙◌, drop, ap, arith}
use Rattle.kept_text.specs.Reading.{Reading}
use Rattle.segment_records.specs.Count.{segment_count_of}
use Rattle.segment_records.specs.WalkedSegments.{seen_in}
use Rattle.kept_text.proofs.Readings.{body_within, count_is, segments_are, stretches}
use Rattle.kept_text.proofs.kept.KeptText.segments_after.Goals as goal

pub overflow_cast-self-inside : goal.overflow_cast-self-inside
overflow_cast-self-inside c =
    let body = body_within c.self.inside c.self.invariant in
    let short = c.self.invariant.short in
    omega arith

pub after-requires-clause-within : goal.after-requires-clause-within
after-requires-clause-within c =
    let count = count_is c.self.inside c.self.invariant in
    let text = ap (λ (r : Reading). segment_count_of r.text) c.self.view_is in
    let few = c.requires in
    omega arith

pub after-requires-clause-stretches : goal.after-requires-clause-stretches
after-requires-clause-stretches c = stretches c.self.inside c.self.invariant

pub returns : goal.returns
returns c =
    c.after.ensures ∙ ap (drop c.args.count) (segments_are c.self.inside c.self.invariant ∙ ap (λ (r : Reading). seen_in r.directory r.text) c.self.view_is)
