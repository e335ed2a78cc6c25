use Rattle.std.proofs.Common.{ap, arith, subst, ◌∙◌}
use Rattle.clean_segments.specs.Kind.{IsPassed}
use Rattle.clean_segments.specs.Looked.{looked_left}
use Rattle.clean_segments.specs.Start.{plain_rest, reached}
use Rattle.clean_segments.proofs.KindLemmas.{admitted-inner}
use Rattle.clean_segments.proofs.LookedLemmas.{looked-last, looked-next}
use Rattle.clean_segments.proofs.looked.LookedFields.take_from.Goals as goal

pub returns-in-None-clause-left : goal.returns-in-None-clause-left
unfolding looked_left
returns-in-None-clause-left c =
    let f = c.args.self.now in
    let sp = f.kinds.now.separators in
    let level = f.kinds.now.level in
    let passed = subst (λ next. IsPassed sp level f.octets.now (reached f.octets.now next)) c.requires f.passed in
    ap (plain_rest sp f.octets.now) c.requires
    ∙ looked-last sp level f.octets.now c.args.start passed (f.here c.args.start c.requires).within c.in-None.ensures.none

pub returns-in-None-clause-admitted : goal.returns-in-None-clause-admitted
returns-in-None-clause-admitted c =
    let f = c.args.self.now in
    admitted-inner f.kinds.now.separators f.kinds.now.level f.octets.now c.args.start.at _ (f.here c.args.start c.requires).within (omega arith) c.in-None.ensures.none

pub returns-in_ok-next-in-Some-clause-left : goal.returns-in_ok-next-in-Some-clause-left
unfolding looked_left
returns-in_ok-next-in-Some-clause-left c =
    let f = c.args.self.now in
    let sp = f.kinds.now.separators in
    let level = f.kinds.now.level in
    let passed = subst (λ next. IsPassed sp level f.octets.now (reached f.octets.now next)) c.requires f.passed in
    let end = c.in-Some.end in
    ap (plain_rest sp f.octets.now) c.requires
    ∙ looked-next sp level f.octets.now c.args.start passed end.at c.in-Some.ensures.low c.in-Some.ensures.high c.in-Some.ensures.inner end.kind c.in-Some.ensures.kind c.in_ok-next-in-Some.next c.in_ok-next-in-Some.ensures

pub returns-in_ok-next-in-Some-clause-admitted : goal.returns-in_ok-next-in-Some-clause-admitted
returns-in_ok-next-in-Some-clause-admitted c =
    let f = c.args.self.now in
    let high = c.in-Some.ensures.high in
    admitted-inner f.kinds.now.separators f.kinds.now.level f.octets.now c.args.start.at c.in-Some.end.at c.in-Some.ensures.low (omega (arith, high)) c.in-Some.ensures.inner
