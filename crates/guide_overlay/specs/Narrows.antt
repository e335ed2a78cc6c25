-- When a segment table narrows another.
use Rattle.std.specs.Prelude.{◌≡◌, ◌<◌, ◌≤◌, ◌⊎◌, ℕ, true, List, length, Some, None}
use Rattle.std.specs.Option.{option_map}
use Rattle.edi_tables.specs.declared.table.Node.{Node}
use Rattle.edi_tables.specs.Walk.{tag_at, parent_at, is_must_at, max_at}

-- a table narrows a base, where this tells which node of the base each of its nodes is: in the same order, with the
-- same tags and groups, no weaker statuses and no greater counts; a mandatory node of the base whose group is left is
-- left
pub record Narrows (base nodes : List Node) (to : ℕ → ℕ) : Type 0 where
  pub rises : (i j : ℕ) → i < j → to i < to j
  pub first : to 0 ≡ 0
  pub within : (i : ℕ) → i < length nodes → to i < length base
  pub tag : (i : ℕ) → i < length nodes → tag_at nodes i ≡ tag_at base (to i)
  pub must : (i : ℕ) → i < length nodes → is_must_at base (to i) ≡ true → is_must_at nodes i ≡ true
  pub max : (i : ℕ) → i < length nodes → max_at nodes i ≤ max_at base (to i)
  pub parent : (i : ℕ) → i < length nodes → parent_at base (to i) ≡ option_map to (parent_at nodes i)
  pub left : (j : ℕ) → j < length base → is_must_at base j ≡ true
      → (parent_at base j ≡ None) ⊎ ((g : ℕ) × (g < length nodes) × (parent_at base j ≡ Some (to g)))
      → (i : ℕ) × (i < length nodes) × (to i ≡ j)
