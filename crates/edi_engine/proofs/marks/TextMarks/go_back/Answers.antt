use Rattle.seg_lexer.proofs.SegmentsLemmas.{boundary-zero}
use Rattle.edi_engine.proofs.marks.TextMarks.go_back.Goals as goal

pub invariant_of-self : goal.invariant_of-self
invariant_of-self c =
    let marks = c.args.self.now in
    record { short = marks.short; read_by = marks.read_by; bound = boundary-zero marks.service marks.octets.now }
