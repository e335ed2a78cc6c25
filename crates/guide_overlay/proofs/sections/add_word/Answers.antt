use Rattle.std.proofs.Common.{not, sym, ap, ◌∙◌}
use Rattle.std.specs.Str.{bytes_eq}
use Rattle.edi_octets.proofs.EarlierNameLemmas.{list_any-map}
use Rattle.guide_overlay.proofs.sections.add_word.Goals as goal

pub returns-clause-new : goal.returns-clause-new
returns-clause-new c =
    c.in_ok-insert.ensures.added ∙ ap not (sym (list_any-map (bytes_eq c.args.word.now) (λ word. word.now) c.args.words.now.keys))
