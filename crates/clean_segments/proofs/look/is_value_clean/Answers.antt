use Rattle.std.proofs.Common.{ap}
use Rattle.element_check.specs.Rules.{SegmentRules}
use Rattle.clean_segments.proofs.LookLemmas.{part-passed}
use Rattle.clean_segments.proofs.look.is_value_clean.Goals as goal

pub returns : goal.returns
returns c element component named passed =
    part-passed c.args.rules.now element component c.args.part.now named _ _ c.args.octets.now c.is_empty.result c.passes_admitted.result
    (ap (λ (r : SegmentRules). r.context) c.rules.view_is) c.list_unless-list.ensures c.is_empty.ensures c.if-is_empty.false c.passes_admitted.ensures passed
