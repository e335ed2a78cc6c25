use Rattle.std.proofs.Common.{◌+◌}
use Rattle.std.proofs.lemmas.List.{take_rest}
use Rattle.edi_octets.proofs.LineLemmas.{lines_from-cut, lines_from-last}
use Rattle.edi_octets.proofs.lines.cut_line.Goals as goal

pub returns-in-Some-clause-line : goal.returns-in-Some-clause-line
returns-in-Some-clause-line c n =
    rw (c.before_return.ensures, take_rest c.args.text.now (c.in-Some.end + 1)) (lines_from-cut n c.args.text.now c.in-Some.end c.in-Some.ensures)

pub returns-in-None-clause-line : goal.returns-in-None-clause-line
returns-in-None-clause-line c n = lines_from-last n c.args.text.now c.requires c.in-None.ensures
