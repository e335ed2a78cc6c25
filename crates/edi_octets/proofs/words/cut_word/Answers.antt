use Rattle.std.proofs.Common.{◌+◌, arith}
use Rattle.std.proofs.lemmas.List.{take_rest}
use Rattle.edi_octets.proofs.WordLemmas.{pieces-cut, pieces-one}
use Rattle.edi_octets.proofs.words.cut_word.Goals as goal

pub returns-then-end-line : goal.returns-then-end-line
returns-then-end-line c =
    rw (take_rest c.args.line.now (c.first_space-end.result + 1)) (pieces-cut c.args.line.now c.first_space-end.result c.first_space-end.ensures.place (omega arith))

pub returns-else-end-line : goal.returns-else-end-line
returns-else-end-line c = pieces-one c.args.line.now c.first_space-end.result c.first_space-end.ensures.place (omega arith)
