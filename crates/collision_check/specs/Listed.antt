-- What a listed collision says.
use Rattle.std.specs.Prelude.{◌≢◌, ℕ, List, [], ◌∷◌, ◌++◌, if◌then◌else◌}
use Rattle.std.specs.List.{filter_map}
use Rattle.edi_tables.specs.declared.table.Node.{Node}
use Rattle.edi_tables.specs.Walk.{tag_at, is_group_at}
use Rattle.edi_tables.specs.Placement.{IsPlacement}
use Rattle.edi_tables.specs.Collisions as definition
use Rattle.collision_check.specs.declared.list.Collision.{Collision}

-- a collision with its list of tags and its two lists of entries
abbrev pub collision_seen : Collision → definition.Collision
collision_seen c = record { tags = c.front; first = c.first; second = c.second }

-- the collision of two followers with one tag after this front
abbrev pub with_followers : List Node → List ℕ → ℕ → ℕ → definition.Collision
with_followers nodes front first second = record {
  tags = filter_map (tag_at nodes) (front ++ first ∷ []);
  first = front ++ first ∷ [];
  second = front ++ second ∷ [];
}

-- the collisions after a node; a group has none
abbrev pub collisions_at : List Node → ℕ → List definition.Collision
collisions_at nodes f = if is_group_at nodes f then [] else definition.collisions_after nodes f

-- a list of tags that a segment table can place in two ways
pub record IsAmbiguous (nodes : List Node) (c : definition.Collision) : Type 0 where
  pub first : IsPlacement nodes c.tags c.first
  pub second : IsPlacement nodes c.tags c.second
  pub differ : c.first ≢ c.second
