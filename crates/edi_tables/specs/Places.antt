-- Where a walk over the levels of a table is, and what it has left. Bodies and their invariants need it alone.
use Rattle.std.specs.Prelude.{◌≡◌, ◌<◌, ℕ, Bool, false, ◌&&◌, nat_lt, List, ◌∷◌, length, filter, Option, Some, None}
use Rattle.edi_tables.specs.declared.table.Node.{Node}
use Rattle.edi_tables.specs.Rows.{IsTable}
use Rattle.edi_tables.specs.Walk.{end_at, is_must_at, level_end, later_siblings, outward, groups_round, later_nodes}

-- a node of a table
pub record IsNode (nodes : List Node) (at : ℕ) : Type 0 where
  pub table : IsTable nodes
  pub within : at < length nodes

-- a node of a table, and the end of its level
pub record IsPlace (nodes : List Node) (at bound : ℕ) : Type 0 where
  pub node : IsNode nodes at
  pub level : bound ≡ level_end nodes at

-- the next sibling of a node: its siblings end at the same bound
pub record IsNextSibling (nodes : List Node) (at bound next : ℕ) : Type 0 where
  pub place : IsPlace nodes next bound
  pub below : next < bound
  pub end : next ≡ end_at nodes at
  pub siblings : later_siblings nodes at ≡ next ∷ later_siblings nodes next

-- a list with one more in front, if there is one
abbrev pub first_then : Option ℕ → List ℕ → List ℕ
first_then None more = more
first_then (Some first) more = first ∷ more

-- the candidates outwards of a node, and one before them, if there is one
abbrev pub candidates_left : List Node → Option ℕ → ℕ → List ℕ
candidates_left nodes first at = first_then first (outward nodes at (groups_round nodes at))

-- the mandatory nodes after a node and below a bound, each level that is left later with its later siblings
abbrev pub musts_left : List Node → ℕ → ℕ → List ℕ
musts_left nodes reached at = filter (λ j. is_must_at nodes j && nat_lt j reached) (later_nodes nodes at)

-- whether a node that was found lies before a bound
abbrev pub lies_before : Option ℕ → ℕ → Bool
lies_before None bound = false
lies_before (Some m) bound = nat_lt m bound
