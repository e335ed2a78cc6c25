use Rattle.std.proofs.Common.{ap, ◌++◌, arith}
use Rattle.seq_tree.proofs.Stacks.{pending_items-push, IsStack-push}
use Rattle.seq_tree.proofs.walk.Pending.push.Goals as goal

pub invariant_of-self : goal.invariant_of-self
invariant_of-self g c =
    let count = ap (λ v. v.1) c.self.view_is in
    rw c.push.ensures.items (IsStack-push 64 _ c.args.tree c.self.invariant (omega arith))

pub returns-clause-items : goal.returns-clause-items
returns-clause-items g c =
    let before = ap (λ v. v.0) c.self.view_is in
    rw (c.push.ensures.items, pending_items-push) (ap (λ xs. c.args.tree.now.0 ++ xs) before)
