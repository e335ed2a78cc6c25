-- How the lines of a tree are counted. Only bodies and proofs need this.
use Rattle.std.specs.Prelude.{Bool, false, is_some}
use Rattle.error_ledger.specs.declared.tree.TreeLine.{TreeLine}
use Rattle.error_ledger.specs.declared.tree.TreePlace.{TreePlace}
use Rattle.error_ledger.specs.declared.tree.TreePlace.TheVariants.{Placed}

-- a segment that is placed so opens a group
abbrev pub opens_at : TreePlace → Bool
opens_at (Placed entry depth opens) = is_some opens
opens_at _ = false

-- a segment opens a group, so that a second line is printed for it
abbrev pub opens_group : TreeLine → Bool
opens_group t = opens_at t.place
