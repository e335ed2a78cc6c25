use Rattle.std.proofs.Common.{◌≡◌, ap, sym, ◌∙◌, subst, arith, get_or}
use Rattle.std.specs.Prelude.{Some, slice_get}
use Rattle.std.proofs.lemmas.Option.{slice_get-get_or}
use Rattle.seq_tree.specs.Items.{IsMarkedPlace}
use Rattle.seq_tree.proofs.items.Items.marked_place.Goals as goal

pub returns : goal.returns
returns g c =
    let marked = c.self.inside.marked.items in
    let is : slice_get marked c.args.rank ≡ Some c.from.result =
    slice_get-get_or marked c.args.rank 0 (grind (arith, c.self.invariant.marks, c.requires, c.self.view_is))
    ∙ ap (λ xs. Some (get_or xs c.args.rank 0)) (sym c.deref.ensures.0) ∙ ap Some (sym c.from.ensures) in
    subst (λ xs. IsMarkedPlace g.T.Measured.marks xs c.args.rank c.from.result) c.self.view_is (c.self.invariant.marked c.args.rank c.from.result is)
