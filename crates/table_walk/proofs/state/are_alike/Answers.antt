use Rattle.std.proofs.Common.{refl, arith}
use Rattle.std.proofs.lemmas.List.{same_lists}
use Rattle.table_walk.proofs.state.are_alike.Goals as goal

pub returns : goal.returns
returns c = (
  λ _. same_lists c.args.few.now c.args.many.now c.if-few-many.false (λ k d within. c.loop-i.invariant k d (omega (arith, within, c.loop-i-test.false))),
  λ _. refl,
)
