use Rattle.std.proofs.Common.{ap, ◌∙◌}
use Rattle.std.proofs.lemmas.Bool.{both_ways, eq-eqb, not-true}
use Rattle.element_check.specs.Streams.{front_values}
use Rattle.clean_segments.specs.Looked.{looked_left}
use Rattle.clean_segments.specs.Start.{plain_rest}
use Rattle.clean_segments.proofs.LookLemmas.{front-other}
use Rattle.clean_segments.proofs.looked.LookedFields.is_past.Goals as goal

pub returns-in-Some : goal.returns-in-Some
unfolding looked_left
returns-in-Some c passed =
    let f = c.args.self.now in
    ap (λ next. front_values c.args.element (plain_rest f.kinds.now.separators f.octets.now next)) c.in-Some.is
    ∙ front-other f.kinds.now.separators f.octets.now c.in-Some.start c.args.element (λ same. both_ways _ (not-true _ passed) (eq-eqb _ _ same))
