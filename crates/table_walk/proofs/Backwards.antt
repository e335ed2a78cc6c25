-- Counts that are looked up backwards, one placed entry after the other.
use Rattle.std.proofs.Common.{◌≡◌, ℕ, ◌+◌, ◌<◌, true, false, List, [], ◌∷◌, ◌++◌, Option, Some, None, refl, arith}
use Rattle.std.specs.Prelude.{count_by, unwrap_or}
use Rattle.std.proofs.lemmas.Bool.{ne_eqb, eqb-true}
use Rattle.edi_tables.specs.declared.table.Node.{Node}
use Rattle.edi_tables.specs.Rows.{IsTable}
use Rattle.edi_tables.specs.Walk.{parent_at}
use Rattle.edi_tables.specs.Placement.{is_at, placed_since, placed_after, group_count, last_placed}
use Rattle.edi_tables.proofs.Pushing.{since_after, last_push, last_none}
use Rattle.edi_tables.proofs.TableLaws.{table_laws}

-- the entry placed last, after one segment more
pub last_step : (placed : List (Option ℕ)) (member : Option ℕ) → last_placed (placed ++ member ∷ []) ≡ unwrap_or member (last_placed placed)
last_step placed None = last_none placed
last_step placed (Some c) = last_push placed c

since_is : (g : ℕ) (parent : Option ℕ) → ((h : ℕ) → parent ≡ Some h → h < g) → (placed : List (Option ℕ)) → count_by (is_at (g + 1)) (placed_since parent placed) ≡ count_by (is_at (g + 1)) (placed_after parent placed)
since_is g None before placed = refl
since_is g (Some h) before placed = since_after (is_at (g + 1)) (is_at (h + 1)) apart placed
  where
    apart : (x : Option ℕ) → is_at (h + 1) x ≡ true → is_at (g + 1) x ≡ false
    apart None at = refl
    apart (Some y) at = ne_eqb y (g + 1) (λ same. omega (arith, eqb-true y (h + 1) at, same, before h refl))

-- the trigger of a group is not that of the group round it
pub group_since : (nodes : List Node) → IsTable nodes → (placed : List (Option ℕ)) (g : ℕ) → count_by (is_at (g + 1)) (placed_since (parent_at nodes g) placed) ≡ group_count nodes placed g
unfolding group_count
group_since nodes table placed g = since_is g (parent_at nodes g) (λ h up. (table_laws nodes table).parent_before g h up) placed
