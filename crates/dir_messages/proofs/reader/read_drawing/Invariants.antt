use Rattle.std.proofs.Common.{map}
use Rattle.edi_octets.specs.Left.{line_shown}
use Rattle.dir_messages.proofs.ReaderLemmas.{HasRead}
use Rattle.dir_messages.proofs.reader.read_drawing.Given as goal

abbrev pub invariant-loop-line : goal.invariant-loop-line
invariant-loop-line l = HasRead (map line_shown l.yielded) l.drawing
