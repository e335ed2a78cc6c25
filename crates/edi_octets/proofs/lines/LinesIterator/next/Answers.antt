use Rattle.std.proofs.Common.{◌≡◌, [], sym, ap, ◌∙◌, eqb-true}
use Rattle.std.proofs.lemmas.List.{nil_from_length}
use Rattle.edi_octets.specs.Lines.{lines_from}
use Rattle.edi_octets.proofs.LineLemmas.{lines_from-nil}
use Rattle.edi_octets.proofs.lines.LinesIterator.next.Goals as goal

pub returns-then-is_empty-clause-steps : goal.returns-then-is_empty-clause-steps
returns-then-is_empty-clause-steps c =
    let lines = c.args.self.now in
    let empty : lines.rest.now ≡ [] = nil_from_length lines.rest.now (eqb-true _ 0 (sym c.is_empty.ensures ∙ c.if-is_empty.true)) in
    let none = ap (lines_from lines.number) empty ∙ lines_from-nil lines.number in
    (none, none)
