use Rattle.std.proofs.Common.{ap, subst, sym, ◌∙◌}
use Rattle.std.specs.Prelude.{map}
use Rattle.std.specs.List.{between}
use Rattle.seg_lexer.specs.Fields.{placed, separators_of}
use Rattle.seg_lexer.proofs.FieldsLemmas.{fields_of-from}
use Rattle.seg_lexer.specs.Left.{fields_left}
use Rattle.seg_lexer.specs.Place.{AreApart, fields_from, place_by}
use Rattle.seg_lexer.specs.declared.service.Separators.{Separators}
use Rattle.seg_lexer.proofs.PartsLemmas.{IsPlace-first}
use Rattle.seg_lexer.proofs.components.Fields.new.Goals as goal

pub invariant_of-result : goal.invariant_of-result
invariant_of-result g c = record {
  apart = subst AreApart (sym c.separators.ensures) c.requires.apart;
  ordered = c.requires.ordered;
  within = c.requires.within;
  short = c.requires.short;
  here = IsPlace-first c.separators.result.release (between c.args.start c.args.end (g.O.Octets.octets c.args.text.now));
}

pub returns : goal.returns
unfolding fields_left
returns g c =
    ap (λ (sp : Separators). map (placed c.args.start) (fields_from sp (between c.args.start c.args.end (g.O.Octets.octets c.args.text.now)) (place_by 0 1 1 0))) c.separators.ensures
    ∙ ap (map (placed c.args.start))
    (fields_of-from (separators_of c.args.service.now) (between c.args.start c.args.end (g.O.Octets.octets c.args.text.now)))
