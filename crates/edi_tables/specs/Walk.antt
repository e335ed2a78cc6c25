-- Where a segment may be after another: candidates in a segment table, and what going to one passes.
use Rattle.std.specs.Prelude.{◌-◌, ◌+◌, ℕ, Bool, true, false, ◌==◌, ◌&&◌, nat_eq, nat_lt, List, [], ◌∷◌, ◌++◌, length, map, filter, reverse, slice_get, Option, Some, None, if◌then◌else◌}
use Rattle.std.specs.List.{range_with_len, list_any}
use Rattle.std.specs.Option.{option_eq}
use Rattle.edi_tables.specs.declared.tag.Tag.{Tag}
use Rattle.edi_tables.specs.declared.table.Node.{Node}

-- what the node at i has, or a default where there is none
abbrev pub read_node : {A : Type 0} → A → (Node → A) → List Node → ℕ → A
read_node default read nodes i = elim (slice_get nodes i) [ None ↦ default | Some node ↦ read node ]

-- the tag of a node; a group has none
abbrev pub tag_at : List Node → ℕ → Option Tag
tag_at nodes i = read_node None (λ n. n.tag) nodes i

-- the group that a node is directly in, if it is in one
abbrev pub parent_at : List Node → ℕ → Option ℕ
parent_at nodes i = read_node None (λ n. n.parent) nodes i

-- whether a node is mandatory
abbrev pub is_must_at : List Node → ℕ → Bool
is_must_at nodes i = read_node false (λ n. n.must) nodes i

-- the greatest count of a node
abbrev pub max_at : List Node → ℕ → ℕ
max_at nodes i = read_node 0 (λ n. n.max) nodes i

-- where a node ends: one past its last descendant
abbrev pub end_at : List Node → ℕ → ℕ
end_at nodes i = read_node 0 (λ n. n.end) nodes i

-- a group is a node without a tag
abbrev pub is_group_at : List Node → ℕ → Bool
is_group_at nodes i = read_node false (λ n. elim n.tag [ None ↦ true | Some tag ↦ false ]) nodes i

-- the trigger of a group is its first child, the node directly after it; a group is told by its trigger
abbrev pub entry_for : List Node → ℕ → ℕ
entry_for nodes i = if is_group_at nodes i then i + 1 else i

-- whether two nodes are directly in one group, or both in none
abbrev pub are_siblings : List Node → ℕ → ℕ → Bool
are_siblings nodes i j = option_eq nat_eq (parent_at nodes i) (parent_at nodes j)

-- the later siblings of a node, ascending
unfoldable pub later_siblings : List Node → ℕ → List ℕ
later_siblings nodes i = filter (are_siblings nodes i) (range_with_len (i + 1) (length nodes - (i + 1)))

-- where the siblings of a node end: with the group that holds them, or with the table
abbrev pub level_end : List Node → ℕ → ℕ
level_end nodes i = elim (parent_at nodes i) [ None ↦ length nodes | Some g ↦ end_at nodes g ]

-- the groups round a node, innermost first: the groups before it that end after it
unfoldable pub groups_round : List Node → ℕ → List ℕ
groups_round nodes i =
    reverse (filter (λ g. is_group_at nodes g && nat_lt i (end_at nodes g)) (range_with_len 0 i))

-- an entry is a trigger where it is the first node of its group
abbrev pub is_trigger_of : Option ℕ → ℕ → Bool
is_trigger_of None i = false
is_trigger_of (Some g) i = g + 1 == i

-- whether the node at i is the trigger of its group
abbrev pub is_trigger_at : List Node → ℕ → Bool
is_trigger_at nodes i = is_trigger_of (parent_at nodes i) i

-- level by level outwards: the later siblings of a node, then the trigger of the group that holds it, and so on
abbrev pub outward : List Node → ℕ → List ℕ → List ℕ
outward nodes i [] = map (entry_for nodes) (later_siblings nodes i)
outward nodes i (g ∷ groups) = map (entry_for nodes) (later_siblings nodes i) ++ (g + 1) ∷ outward nodes g groups

-- an entry itself, unless it is a trigger
abbrev pub itself : List Node → ℕ → List ℕ
itself nodes f = if is_trigger_at nodes f then [] else f ∷ []

-- the candidates after a placed entry, in processing order: itself unless it is a trigger, then outwards
unfoldable pub candidates_of : List Node → ℕ → List ℕ
candidates_of nodes f = itself nodes f ++ outward nodes f (groups_round nodes f)

-- the nodes after an entry up to the table's end, each level that is left with its later siblings, ascending
unfoldable pub later_nodes : List Node → ℕ → List ℕ
later_nodes nodes f =
    filter (λ j. list_any (λ i. nat_lt i j && are_siblings nodes i j) (f ∷ groups_round nodes f))
    (range_with_len (f + 1) (length nodes - (f + 1)))

-- going to c from f repeats a group: c is the trigger of a group round f
abbrev pub is_repeat : List Node → ℕ → ℕ → Bool
is_repeat nodes f c = is_trigger_at nodes c && list_any (λ g. g + 1 == c) (groups_round nodes f)

-- the node that going from f to c reaches, and passes none from there on: a repeated group is passed to its end, f
-- itself passes none
abbrev pub reached_node : List Node → ℕ → ℕ → ℕ
reached_node nodes f c =
    if is_repeat nodes f c
    then end_at nodes (c - 1)
    else (if c == f then 0 else (if is_trigger_at nodes c then c - 1 else c))

-- the mandatory nodes that going from f to c passes, ascending
unfoldable pub missing_between : List Node → ℕ → ℕ → List ℕ
missing_between nodes f c = filter (λ j. is_must_at nodes j && nat_lt j (reached_node nodes f c)) (later_nodes nodes f)

-- the mandatory nodes that going from f past the table's end passes, ascending
unfoldable pub missing_past : List Node → ℕ → List ℕ
missing_past nodes f = filter (is_must_at nodes) (later_nodes nodes f)
