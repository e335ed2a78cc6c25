use Rattle.std.proofs.Common.{ap, sym, ◌∙◌, sum_by, take, arith}
use Rattle.std.specs.Prelude.{slice_range}
use Rattle.seq_tree.proofs.Entries.{marked_in_part, ranks_fit}
use Rattle.seq_tree.proofs.run.Run.marked_place.Goals as goal

pub overflow_add-skipped : goal.overflow_add-skipped
overflow_add-skipped g c =
    let run = c.self.inside in
    let list = c.as_slice.result.now in
    let is = ap (λ xs. slice_range xs run.from run.to) (c.as_slice.ensures.is ∙ c.deref.ensures) ∙ c.self.view_is in
    let fit = ranks_fit g.T.Measured.marks list c.args.self.now run.from run.to c.count_marks-skipped.result c.self.invariant.0 is c.count_marks-skipped.ensures.is in
    omega (arith, fit, c.requires.within, c.as_slice.ensures.most, c.as_slice.ensures.few, ap (sum_by g.T.Measured.marks) c.as_slice.ensures.is)

pub marked_place-requires : goal.marked_place-requires
marked_place-requires g c =
    let run = c.self.inside in
    let list = c.as_slice.result.now in
    let same = c.as_slice.ensures.is ∙ c.deref.ensures in
    let is = ap (λ xs. slice_range xs run.from run.to) same ∙ c.self.view_is in
    let fit = ranks_fit g.T.Measured.marks list c.args.self.now run.from run.to c.count_marks-skipped.result c.self.invariant.0 is c.count_marks-skipped.ensures.is in
    omega (arith, fit, c.requires.within, ap (sum_by g.T.Measured.marks) (same ∙ sym c.deref-2.ensures))

pub overflow_sub-result : goal.overflow_sub-result
overflow_sub-result g c =
    let run = c.self.inside in
    let list = c.deref-2.result.now in
    let is = ap (λ xs. slice_range xs run.from run.to) c.deref-2.ensures ∙ c.self.view_is in
    let before = c.count_marks-skipped.ensures.is ∙ ap (λ xs. sum_by g.T.Measured.marks (take run.from xs)) (c.as_slice.ensures.is ∙ c.deref.ensures ∙ sym c.deref-2.ensures) in
    (marked_in_part g.T.Measured.marks list c.args.self.now run.from run.to c.count_marks-skipped.result c.args.rank c.marked_place.result c.self.invariant.0 is before c.requires.within c.marked_place.ensures).0

pub returns : goal.returns
returns g c =
    let run = c.self.inside in
    let list = c.deref-2.result.now in
    let is = ap (λ xs. slice_range xs run.from run.to) c.deref-2.ensures ∙ c.self.view_is in
    let before = c.count_marks-skipped.ensures.is ∙ ap (λ xs. sum_by g.T.Measured.marks (take run.from xs)) (c.as_slice.ensures.is ∙ c.deref.ensures ∙ sym c.deref-2.ensures) in
    (marked_in_part g.T.Measured.marks list c.args.self.now run.from run.to c.count_marks-skipped.result c.args.rank c.marked_place.result c.self.invariant.0 is before c.requires.within c.marked_place.ensures).1
