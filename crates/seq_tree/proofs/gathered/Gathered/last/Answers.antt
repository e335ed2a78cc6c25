use Rattle.std.proofs.Common.{ap}
use Rattle.seq_tree.specs.Gathered.{items_of}
use Rattle.seq_tree.proofs.Ends.{last_of_all}
use Rattle.seq_tree.proofs.gathered.Gathered.last.Goals as goal

pub returns : goal.returns
returns g c =
    last_of_all (items_of c.self.inside.leaves.items) c.self.inside.last.items c.args.self.now c.deref.result.now _
    (λ none. ap items_of (c.self.invariant.1 none)) c.self.view_is c.deref.ensures.value c.last.ensures.value
