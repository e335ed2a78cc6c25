use Rattle.std.proofs.Common.{ap, sym, ◌∙◌, sum_by, take, arith}
use Rattle.std.specs.Prelude.{slice_range}
use Rattle.seq_tree.proofs.Entries.{weight_in_part}
use Rattle.seq_tree.proofs.run.Run.weight_before.Goals as goal

pub overflow_sub-both : goal.overflow_sub-both
overflow_sub-both g c =
    let run = c.self.inside in
    let front = c.in-Some-Some.ensures.is ∙ ap (λ xs. sum_by g.T.Measured.measure (take run.from xs)) (c.deref.ensures ∙ sym c.deref-2.ensures) in
    let is = ap (λ xs. slice_range xs run.from run.to) c.deref-2.ensures ∙ c.self.view_is in
    omega (arith, weight_in_part g.T.Measured.measure c.deref-2.result.now c.args.self.now run.from run.to c.args.place c.in-Some-Some.front c.in-Some-Some.both c.self.invariant.0 is c.requires.within front c.in-Some-Some.ensures'.is)

pub returns-in-Some-Some-clause-is : goal.returns-in-Some-Some-clause-is
returns-in-Some-Some-clause-is g c =
    let run = c.self.inside in
    let front = c.in-Some-Some.ensures.is ∙ ap (λ xs. sum_by g.T.Measured.measure (take run.from xs)) (c.deref.ensures ∙ sym c.deref-2.ensures) in
    let is = ap (λ xs. slice_range xs run.from run.to) c.deref-2.ensures ∙ c.self.view_is in
    omega (arith, weight_in_part g.T.Measured.measure c.deref-2.result.now c.args.self.now run.from run.to c.args.place c.in-Some-Some.front c.in-Some-Some.both c.self.invariant.0 is c.requires.within front c.in-Some-Some.ensures'.is)
