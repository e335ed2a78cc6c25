-- What is seen of a state.
use Rattle.std.specs.Prelude.{ℕ, List}
use Rattle.std.specs.Rc.{rc_slice_items}
use Rattle.table_walk.specs.declared.state.Held.{Held}
use Rattle.table_walk.specs.declared.state.Held.TheVariants.{Few, Many}

-- the pairs that a state holds
abbrev pub pairs_held : Held → List (ℕ × ℕ)
pairs_held (Few pairs) = pairs
pairs_held (Many pairs) = rc_slice_items pairs
