use Rattle.std.proofs.Common.{List, Option, sym, subst}
use Rattle.clean_segments.specs.Clean.{AreClean}
use Rattle.clean_segments.specs.declared.clean.Clean.{Clean}
use Rattle.clean_segments.proofs.CleanLemmas.{clean_here, clean_put}
use Rattle.clean_segments.proofs.clean.CleanSegments.find.Goals as goal

pub returns-clause-clean : goal.returns-clause-clean
returns-clause-clean g c =
    let dir = c.args.directory.now in
    let context = c.args.context.now in
    let text = g.O.Octets.octets c.args.text.now in
    subst (λ (places : List (Option Clean)). AreClean dir context text places) (sym c.put.ensures)
    (clean_put dir context text _ _ _ c.requires.clean
    (clean_here dir context text c.args.start c.args.end c.in_ok-octets.octets.now c.in_ok-tag.tag c.requires.ordered c.requires.within c.in_ok-octets.ensures
    c.in_ok-tag.ensures.tag c.in_ok-tag.ensures.clean))
