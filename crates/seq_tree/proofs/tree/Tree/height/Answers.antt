use Rattle.seq_tree.proofs.Heights.{height_fits}
use Rattle.seq_tree.proofs.tree.Tree.height.Goals as goal

pub returns-clause-small : goal.returns-clause-small
returns-clause-small g c = height_fits _ _ c.self.invariant.0.enough c.self.invariant.0.fits
