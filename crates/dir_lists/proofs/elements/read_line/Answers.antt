use Rattle.std.proofs.Common.{sym, ap, ◌∙◌}
use Rattle.edi_octets.specs.Left.{line_shown}
use Rattle.dir_lists.specs.Elements.{repr_after_word}
use Rattle.dir_lists.proofs.ElementLemmas.{line-text, line-repr}
use Rattle.dir_lists.proofs.elements.read_line.Goals as goal

pub returns-then-not-begins_with : goal.returns-then-not-begins_with
returns-then-not-begins_with c = λ earlier is any.
    line-text earlier (line_shown c.args.line.now) c.args.found is any (sym c.begins_with.ensures ∙ c.if-not-begins_with.true)

pub returns-in-Some : goal.returns-in-Some
returns-in-Some c = λ earlier is any.
    line-repr earlier (line_shown c.args.line.now) c.args.found is any c.in-Some.repr (sym c.begins_with.ensures ∙ c.if-not-begins_with.false) (sym c.is_some.ensures ∙ c.if-is_some.false) (sym c.in-Some.is ∙ c.read_behind_word.ensures ∙ ap repr_after_word c.fields.ensures)
