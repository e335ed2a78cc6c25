use Rattle.seq_tree.proofs.Stacks.{IsStack-front, popped_items, popped_room, popped_tree}
use Rattle.seq_tree.proofs.walk.Pending.pop.Goals as goal

pub invariant_of-self-2 : goal.invariant_of-self-2
invariant_of-self-2 g c = IsStack-front 64 _ _ (rw c.in_ok-pop.ensures.items at c.self.invariant)

pub returns-clause-items : goal.returns-clause-items
returns-clause-items g c = rw (← c.self.view_is) (popped_items _ _ _ c.in_ok-pop.ensures.items)

pub returns-clause-room : goal.returns-clause-room
returns-clause-room g c = popped_room 64 _ _ _ c.in_ok-pop.ensures.items c.self.invariant

pub returns-clause-end : goal.returns-clause-end
returns-clause-end g c = popped_tree 64 _ _ _ _ c.in_ok-pop.ensures.items c.self.invariant
