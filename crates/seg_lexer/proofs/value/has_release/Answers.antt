use Rattle.std.proofs.Common.{ℕ, Option, sym, ap, ◌∙◌}
use Rattle.std.specs.List.{list_any}
use Rattle.seg_lexer.specs.Released.{is_release}
use Rattle.seg_lexer.proofs.RepeatLemmas.{none-separates}
use Rattle.seg_lexer.proofs.value.has_release.Goals as goal

pub returns-in-None : goal.returns-in-None
returns-in-None c = sym (ap (λ (o : Option ℕ). list_any (is_release o) c.args.part.now) c.in-None.is ∙ none-separates c.args.part.now)
