use Rattle.std.proofs.Common.{sym, ap, ◌∙◌}
use Rattle.edi_octets.specs.Lines.{cells_of}
use Rattle.edi_octets.proofs.CellLemmas.{fields_of-behind}
use Rattle.edi_octets.proofs.lines.LineText.fields.Goals as goal

pub returns : goal.returns
returns c = c.of.ensures ∙ ap cells_of c.behind_marks.ensures ∙ sym (fields_of-behind c.args.self.now.octets.now)
