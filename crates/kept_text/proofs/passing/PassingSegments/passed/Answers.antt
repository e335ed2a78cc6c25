use Rattle.std.proofs.Common.{◌≡◌, ◌+◌, ◌≤◌, ap, ◌∙◌, length, subst, arith}
use Rattle.segment_records.specs.Count.{segment_count_of}
use Rattle.kept_text.proofs.Batches.{count_is}
use Rattle.kept_text.proofs.Begun.{few_kept}
use Rattle.kept_text.specs.Passing.{Passing}
use Rattle.kept_text.proofs.passing.PassingSegments.passed.Goals as goal

pub overflow_add-result : goal.overflow_add-result
overflow_add-result c =
    let few = few_kept c.self.inside.directory.now c.self.inside.text.now in
    let it = c.self.invariant in
    omega (arith, it.within, it.short)

pub overflow_cast-result : goal.overflow_cast-result
overflow_cast-result c =
    let few = few_kept c.self.inside.directory.now c.self.inside.text.now in
    let it = c.self.invariant in
    omega (arith, it.within, it.short)

pub returns-clause-within : goal.returns-clause-within
returns-clause-within c =
    let it = c.self.invariant in
    let count = count_is c.self.inside.directory.now c.self.inside.text.now in
    subst (λ (p : Passing). c.self.inside.begun + c.self.inside.place ≤ segment_count_of p.text) c.self.view_is (omega (arith, it.within))
