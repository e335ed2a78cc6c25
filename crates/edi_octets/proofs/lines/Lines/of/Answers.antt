use Rattle.edi_octets.proofs.LineLemmas.{length-lines_from}
use Rattle.edi_octets.proofs.lines.Lines.of.Goals as goal

pub returns-clause-few : goal.returns-clause-few
returns-clause-few c = length-lines_from 1 c.args.file.now
