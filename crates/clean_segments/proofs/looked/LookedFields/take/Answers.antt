use Rattle.std.proofs.Common.{ap, ◌∙◌}
use Rattle.element_check.specs.Streams.{front_values}
use Rattle.clean_segments.specs.Looked.{looked_left}
use Rattle.clean_segments.specs.Start.{plain_rest}
use Rattle.clean_segments.proofs.LookLemmas.{front-other}
use Rattle.clean_segments.proofs.looked.LookedFields.take.Goals as goal

pub returns-in_default-clause-value : goal.returns-in_default-clause-value
unfolding looked_left
returns-in_default-clause-value c =
    let f = c.args.self.now in
    let none = ap (λ next. front_values c.args.element (plain_rest f.kinds.now.separators f.octets.now next)) c.in_default.is in
    (none, none)

pub returns-then-start-element-clause-value : goal.returns-then-start-element-clause-value
unfolding looked_left
returns-then-start-element-clause-value c =
    let f = c.args.self.now in
    let none =
    ap (λ next. front_values c.args.element (plain_rest f.kinds.now.separators f.octets.now next)) c.in-Some.is
    ∙ front-other f.kinds.now.separators f.octets.now c.in-Some.start c.args.element c.if-start-element.true in
    (none, none)
