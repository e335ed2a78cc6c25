use Rattle.std.proofs.Common.{arith, ◌∙◌}
use Rattle.std.proofs.lemmas.List.{length-set}
use Rattle.clean_segments.specs.Kind.{kind_of}
use Rattle.clean_segments.proofs.KindLemmas.{kinds-more}
use Rattle.clean_segments.proofs.kinds.OctetKinds.of.Goals as goal

pub loop-octet-preserved : goal.loop-octet-preserved
loop-octet-preserved c = record {
  right =
      kinds-more (kind_of c.separators-separators.result c.args.context.now.level) c.loop-octet.kinds c.loop-octet.octet c.kind_of.result (omega arith) c.loop-octet.invariant.right c.kind_of.ensures;
  long = length-set c.loop-octet.kinds c.loop-octet.octet c.kind_of.result ∙ c.loop-octet.invariant.long;
}
