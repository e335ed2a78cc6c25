use Rattle.std.proofs.Common.{◌∙◌, ap, arith}
use Rattle.segment_records.specs.Count.{segment_count_of}
use Rattle.kept_text.specs.Reading.{Reading}
use Rattle.kept_text.proofs.Readings.{count_is, few_records}
use Rattle.kept_text.proofs.kept.KeptText.segment_count.Goals as goal

pub overflow_cast-result : goal.overflow_cast-result
overflow_cast-result c =
    let few = few_records c.self.inside c.self.invariant in
    let short = c.self.invariant.short in
    omega (arith, c.len.ensures)

pub returns : goal.returns
returns c = c.len.ensures ∙ count_is c.self.inside c.self.invariant ∙ ap (λ (r : Reading). segment_count_of r.text) c.self.view_is
