use Rattle.std.proofs.Common.{◌≡◌, ◌+◌, ◌++◌, take, drop, sum_by, sym, ap, ◌∙◌, arith}
use Rattle.seq_tree.specs.Marks.{leaf_items}
use Rattle.seq_tree.proofs.Through.{sum_in_leaf}
use Rattle.seq_tree.proofs.marks.MarkedItems.find.Goals as goal

pub returns-clause-rank : goal.returns-clause-rank
returns-clause-rank g c =
    let way = c.self.inside in
    let whole : c.args.self.now.0 ≡ way.seq.now = sym c.go_to.ensures.same ∙ sym (ap (λ v. v.0) c.self.view_is) in
    let here : drop way.before.items way.seq.now ≡ c.in-Some.leaf.now ++ way.pending.0 = c.self.invariant.items ∙ ap (λ leaf. leaf_items leaf ++ way.pending.0) c.in-Some.is in
    ap (λ xs. sum_by g.T.Measured.marks (take (way.before.items + c.marked_place-place.result) xs)) whole
    ∙ omega (
      arith,
      sum_in_leaf g.T.Measured.marks way.seq.now c.in-Some.leaf.now way.pending.0 way.before.items c.marked_place-place.result here (omega (arith, c.marked_place-place.ensures.inside)),
      c.marked_place-place.ensures.rank,
      c.self.invariant.marks,
      c.go_to.ensures.behind,
      ap (λ v. v.1) c.self.view_is,
    )

pub returns-clause-before : goal.returns-clause-before
returns-clause-before g c =
    let way = c.self.inside in
    let whole : c.args.self.now.0 ≡ way.seq.now = sym c.go_to.ensures.same ∙ sym (ap (λ v. v.0) c.self.view_is) in
    let here : drop way.before.items way.seq.now ≡ c.in-Some.leaf.now ++ way.pending.0 = c.self.invariant.items ∙ ap (λ leaf. leaf_items leaf ++ way.pending.0) c.in-Some.is in
    ap (λ xs. sum_by g.T.Measured.measure (take (way.before.items + c.marked_place-place.result) xs)) whole
    ∙ omega (
      arith,
      sum_in_leaf g.T.Measured.measure way.seq.now c.in-Some.leaf.now way.pending.0 way.before.items c.marked_place-place.result here (omega (arith, c.marked_place-place.ensures.inside)),
      c.weight_before.ensures.is,
      c.self.invariant.weight,
    )
