use Rattle.seq_tree.proofs.gathered.+build.Given as goal

abbrev pub decreases-build : goal.decreases-build
decreases-build g l = l.n
