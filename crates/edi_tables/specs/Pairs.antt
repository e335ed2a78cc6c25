-- The pairs of a walk: each group round the entry placed last, and that entry, with their counts. They are all that a
-- next step looks at.
use Rattle.std.specs.Prelude.{◌-◌, ◌+◌, ℕ, Bool, not, ◌==◌, ◌&&◌, nat_le, List, [], ◌∷◌, ◌++◌, map, reverse, Option, if◌then◌else◌}
use Rattle.edi_tables.specs.declared.table.Node.{Node}
use Rattle.edi_tables.specs.Walk.{max_at, is_trigger_at, is_repeat, groups_round, missing_between}
use Rattle.edi_tables.specs.Placement.{entry_count, group_count, last_placed}
use Rattle.edi_tables.specs.Filled.{is_filled}

-- the groups round an entry, outermost first, and the entry, each with a count
abbrev pub pairs_with : List Node → ℕ → (ℕ → ℕ) → ℕ → List (ℕ × ℕ)
pairs_with nodes f groups entry = map (λ g. (g, groups g)) (reverse (groups_round nodes f)) ++ (f, entry) ∷ []

-- the pairs of the entry placed last, with the counts so far
unfoldable pub pairs_of : List Node → List (Option ℕ) → List (ℕ × ℕ)
pairs_of nodes placed =
    pairs_with nodes (last_placed placed) (group_count nodes placed) (entry_count nodes placed (last_placed placed))

-- the count of a node in pairs; 0 where they lack it
abbrev pub count_in : List (ℕ × ℕ) → ℕ → ℕ
count_in [] node = 0
count_in (pair ∷ pairs) node = if pair.0 == node then pair.1 else count_in pairs node

-- the entry of pairs: the node of the last
abbrev pub entry_in : List (ℕ × ℕ) → ℕ
entry_in [] = 0
entry_in (pair ∷ []) = pair.0
entry_in (pair ∷ next ∷ more) = entry_in (next ∷ more)

-- the count of a group after a step to c: one more where c is its trigger
abbrev pub group_next : List (ℕ × ℕ) → ℕ → ℕ → ℕ
group_next pairs c g = count_in pairs g + (if c == g + 1 then 1 else 0)

-- the count of c after a step to it: one more where it is placed again and no trigger, else 1
abbrev pub entry_next : List Node → List (ℕ × ℕ) → ℕ → ℕ
entry_next nodes pairs c = if c == entry_in pairs && not (is_trigger_at nodes c) then count_in pairs c + 1 else 1

-- the pairs after a step to c
abbrev pub pairs_next : List Node → List (ℕ × ℕ) → ℕ → List (ℕ × ℕ)
pairs_next nodes pairs c = pairs_with nodes c (group_next pairs c) (entry_next nodes pairs c)

-- whether a step to c is one too many, by the pairs
abbrev pub over_in : List Node → List (ℕ × ℕ) → ℕ → Bool
over_in nodes pairs c =
    if is_repeat nodes (entry_in pairs) c then nat_le (max_at nodes (c - 1)) (count_in pairs (c - 1))
    else (c == entry_in pairs && nat_le (max_at nodes c) (count_in pairs c))

-- the rank of c, by the pairs
abbrev pub rank_in : List Node → List (ℕ × ℕ) → ℕ → ℕ
rank_in nodes pairs c =
    (if over_in nodes pairs c then 1 else 0) + (if is_filled (missing_between nodes (entry_in pairs) c) then 2 else 0)
