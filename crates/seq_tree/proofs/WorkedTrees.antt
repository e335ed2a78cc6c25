use Rattle.std.proofs.Common.{lit≤}
use Rattle.seq_tree.specs.Shape.{FillsHeight}

-- the smallest balanced tree of height 3 has 5 leaves, 3 and 2
pub height_three : FillsHeight 3 5
height_three = lit≤ tt
