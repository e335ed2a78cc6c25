-- The candidates after an entry are in the table.
use Rattle.std.proofs.Common.{◌≡◌, ℕ, zero, suc, ◌+◌, ◌-◌, ◌<◌, ◌≤◌, true, List, [], ◌∷◌, map, length, arith}
use Rattle.std.specs.Prelude.{if◌then◌else◌}
use Rattle.std.specs.List.{All, range_with_len}
use Rattle.std.proofs.lemmas.Bool.{cond_both}
use Rattle.std.proofs.lemmas.List.Elements.{All-nil, All-cons, All-head, All-tail, All-append, All-filter, All-map, All-weaker}
use Rattle.edi_tables.specs.declared.table.Node.{Node}
use Rattle.edi_tables.specs.Rows.{IsTable}
use Rattle.edi_tables.specs.Walk.{is_group_at, is_trigger_at, entry_for, are_siblings, later_siblings, groups_round, outward, candidates_of}
use Rattle.edi_tables.proofs.GroupLaws.{groups_all}
use Rattle.edi_tables.proofs.TableLaws.{HasTableLaws, table_laws}

range_below : (bound n a : ℕ) → a + n ≤ bound → All (λ k. k < bound) (range_with_len a n)
range_below bound zero a within = All-nil (λ k. k < bound)
range_below bound (suc n) a within =
    All-cons (λ k. k < bound) a (range_with_len (a + 1) n) (omega arith) (range_below bound n (a + 1) (omega arith))

module _ (nodes : List Node) (table : IsTable nodes) where
  laws : HasTableLaws nodes
  laws = table_laws nodes table

  abbrev InTable : ℕ → Type 0
  InTable c = c < length nodes

  abbrev IsGroup : ℕ → Type 0
  IsGroup g = is_group_at nodes g ≡ true

  pub siblings_within : (i : ℕ) → i < length nodes → All InTable (later_siblings nodes i)
  unfolding later_siblings
  siblings_within i within =
      All-filter (are_siblings nodes i) InTable (range_with_len (i + 1) (length nodes - (i + 1))) (range_below (length nodes) (length nodes - (i + 1)) (i + 1) (omega arith))

  entry_within : (i : ℕ) → InTable i → InTable (entry_for nodes i)
  entry_within i within = cond_both (is_group_at nodes i) (i + 1) i InTable (λ group. laws.trigger_within i group) (λ _. within)

  level_within : (i : ℕ) → i < length nodes → All InTable (map (entry_for nodes) (later_siblings nodes i))
  level_within i within =
      All-map InTable (entry_for nodes) (later_siblings nodes i) (All-weaker InTable (λ j. InTable (entry_for nodes j)) entry_within (later_siblings nodes i) (siblings_within i within))

  outward_within : (groups : List ℕ) (i : ℕ) → i < length nodes → All IsGroup groups → All InTable (outward nodes i groups)
  outward_within [] i within are = level_within i within
  outward_within (g ∷ groups) i within are =
      let trigger = laws.trigger_within g (All-head IsGroup g groups are) in
      All-append InTable (map (entry_for nodes) (later_siblings nodes i)) ((g + 1) ∷ outward nodes g groups) (level_within i within)
      (All-cons InTable (g + 1) (outward nodes g groups) trigger (outward_within groups g (omega arith) (All-tail IsGroup g groups are)))

  pub candidates_within : (f : ℕ) → f < length nodes → All InTable (candidates_of nodes f)
  unfolding candidates_of
  candidates_within f within =
      All-append InTable (if is_trigger_at nodes f then [] else f ∷ []) (outward nodes f (groups_round nodes f))
      (cond_both (is_trigger_at nodes f) [] (f ∷ []) (All InTable) (λ _. All-nil InTable) (λ _. All-cons InTable f [] within (All-nil InTable)))
      (outward_within (groups_round nodes f) f within (groups_all nodes laws IsGroup laws.parent_is_group f))
