use Rattle.std.proofs.Common.{sym, arith}
use Rattle.edi_octets.proofs.CellLemmas.{indentation_of-behind}
use Rattle.edi_octets.proofs.lines.LineText.indentation.Goals as goal

pub overflow_add-result : goal.overflow_add-result
overflow_add-result c =
    omega (arith, c.spaces_in_front.ensures.within)

pub returns : goal.returns
returns c =
    rw (c.spaces_in_front.ensures.front, c.behind_marks-behind.ensures) (sym (indentation_of-behind c.args.self.now.octets.now))
