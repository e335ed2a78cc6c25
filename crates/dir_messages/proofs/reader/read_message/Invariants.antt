use Rattle.edi_octets.specs.Left.{lines_left}
use Rattle.dir_messages.proofs.ReaderLemmas.{IsSought}
use Rattle.dir_messages.proofs.reader.read_message.Given as goal

abbrev pub invariant-loop-line : goal.invariant-loop-line
invariant-loop-line l = IsSought l.file (lines_left l.lines) l.count
