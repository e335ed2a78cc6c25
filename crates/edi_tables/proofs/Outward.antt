-- The candidates after an entry and the mandatory nodes after it, level by level outwards.
use Rattle.std.proofs.Common.{◌≡◌, ℕ, ◌+◌, ◌<◌, ◌≤◌, List, [], ◌∷◌, ◌++◌, Option, Some, None, map, length, refl, sym, ap, subst, ◌∙◌, arith}
use Rattle.std.specs.Option.{option_or}
use Rattle.std.proofs.lemmas.List.{append-nil}
use Rattle.edi_tables.specs.declared.table.Node.{Node}
use Rattle.edi_tables.specs.Rows.{IsTable}
use Rattle.edi_tables.specs.Walk.{parent_at, end_at, entry_for, later_siblings, level_end, groups_round, outward}
use Rattle.edi_tables.proofs.TableLaws.{HasTableLaws, table_laws}
use Rattle.edi_tables.proofs.Walking.{level_end_within, end_in_level, level_end_same, later_siblings_none, later_siblings_next, groups_round_none}

-- the candidates outside the level that holds a node
abbrev pub beyond_groups : List Node → List ℕ → List ℕ
beyond_groups nodes [] = []
beyond_groups nodes (g ∷ groups) = (g + 1) ∷ outward nodes g groups

pub outward_parts : (nodes : List Node) (i : ℕ) (groups : List ℕ) → outward nodes i groups ≡ map (entry_for nodes) (later_siblings nodes i) ++ beyond_groups nodes groups
outward_parts nodes i [] = sym (append-nil _)
outward_parts nodes i (g ∷ groups) = refl

or_none : {A : Type 0} (o : Option A) → option_or o None ≡ o
or_none None = refl
or_none (Some x) = refl

module _ (nodes : List Node) (table : IsTable nodes) where
  laws : HasTableLaws nodes
  laws = table_laws nodes table

  -- going from a node to its next sibling
  pub record IsNext (at next : ℕ) : Type 0 where
    pub later : at < next
    pub within : next < length nodes
    pub level : level_end nodes next ≡ level_end nodes at
    pub siblings : later_siblings nodes at ≡ next ∷ later_siblings nodes next

  pub next_sibling : (at bound end next : ℕ) → at < length nodes → bound ≡ level_end nodes at → end ≡ end_at nodes at → end < bound → next ≡ end_at nodes at → IsNext at next
  next_sibling at bound end next within level is below next_is =
      let more : end_at nodes at < level_end nodes at = omega arith in
      let here : IsNext at (end_at nodes at) = record {
        later = laws.end_after at within;
        within = omega (arith, level_end_within nodes table at);
        level = level_end_same nodes table (end_at nodes at) at (laws.sibling_at_end at within more);
        siblings = later_siblings_next nodes table at within more;
      } in
      subst (IsNext at) (sym next_is) here

  pub no_sibling : (at bound end : ℕ) → at < length nodes → bound ≡ level_end nodes at → end ≡ end_at nodes at → bound ≤ end → later_siblings nodes at ≡ []
  no_sibling at bound end within level is past =
      later_siblings_none nodes table at within (omega (arith, end_in_level nodes table at))

  pub groups_end : (at : ℕ) (old whole : List ℕ) → None ≡ parent_at nodes at → old ++ groups_round nodes at ≡ whole → old ≡ whole
  groups_end at old whole is begun = sym (append-nil old) ∙ ap (λ groups. old ++ groups) (sym (groups_round_none nodes table at (sym is))) ∙ begun
