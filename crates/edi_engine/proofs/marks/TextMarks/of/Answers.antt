use Rattle.std.proofs.Common.{ap}
use Rattle.seg_lexer.specs.declared.context.Context.{Context}
use Rattle.seg_lexer.proofs.SegmentsLemmas.{boundary-zero}
use Rattle.edi_engine.proofs.marks.TextMarks.of.Goals as goal

pub invariant_of-result : goal.invariant_of-result
invariant_of-result c = record {
  short = c.requires.short;
  read_by = ap (λ (x : Context). x.service) c.requires.context;
  bound = boundary-zero c.args.context.now.service c.args.octets.now;
}
