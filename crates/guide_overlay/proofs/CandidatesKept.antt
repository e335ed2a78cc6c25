-- The candidates after an entry of a narrowed table are candidates in the base.
use Rattle.std.proofs.Common.{◌≡◌, ℕ, ◌+◌, ◌-◌, ◌<◌, Bool, true, false, List, [], ◌∷◌, ◌++◌, map, length, refl, sym, ap, subst, ◌∙◌, arith}
use Rattle.std.specs.Prelude.{Contains, if◌then◌else◌}
use Rattle.std.specs.List.{All, range_with_len}
use Rattle.std.specs.Option.{option_map}
use Rattle.std.proofs.lemmas.Bool.{cond_both}
use Rattle.std.proofs.lemmas.List.Elements.{All-append, All-cons, All-contains, All-head, All-map, All-nil, All-tail, All-weaker, Contains-append_left, Contains-append_right}
use Rattle.edi_tables.specs.declared.table.Node.{Node}
use Rattle.edi_tables.specs.Rows.{IsTable}
use Rattle.edi_tables.specs.Walk.{parent_at, is_group_at, entry_for, is_trigger_at, are_siblings, later_siblings, groups_round, outward, itself, candidates_of}
use Rattle.edi_tables.proofs.GroupLaws.{groups_all}
use Rattle.edi_tables.proofs.Places.{Passes, passing_each}
use Rattle.edi_tables.proofs.Stepping.{same_parent}
use Rattle.edi_tables.proofs.TableLaws.{HasTableLaws, table_laws}
use Rattle.edi_tables.proofs.Walking.{siblings_same}
use Rattle.guide_overlay.specs.Narrows.{Narrows}
use Rattle.guide_overlay.proofs.GroupsKept.{trigger_next, trigger_kept, groups_kept, entry_kept}
use Rattle.guide_overlay.proofs.ListMembers.{in_head, in_tail, in_range, in_map, in_filter}

module _ (base nodes : List Node) (to : ℕ → ℕ) (narrows : Narrows base nodes to) (outer : IsTable base) (inner : IsTable nodes) where
  laws : HasTableLaws nodes
  laws = table_laws nodes inner

  -- a later sibling stays one
  sibling_kept : (i j : ℕ) → i < j → j < length nodes → are_siblings nodes i j ≡ true → Contains (later_siblings base (to i)) (to j)
  unfolding later_siblings
  sibling_kept i j past within siblings =
      let same = same_parent (parent_at nodes i) (parent_at nodes j) siblings in
      let later : to i < to j = narrows.rises i j past in
      let inside : to j < length base = narrows.within j within in
      in_filter (are_siblings base (to i)) (range_with_len (to i + 1) (length base - (to i + 1))) (to j)
      (in_range (to i + 1) (length base - (to i + 1)) (to j) (omega arith) (omega arith))
      (siblings_same base (to i) (to j) (narrows.parent i (omega arith) ∙ ap (option_map to) same ∙ sym (narrows.parent j within)))

  abbrev IsLevelKept : ℕ → ℕ → Type 0
  IsLevelKept i c = Contains (map (entry_for base) (later_siblings base (to i))) (to c)

  level_kept : (i : ℕ) → i < length nodes → All (IsLevelKept i) (map (entry_for nodes) (later_siblings nodes i))
  unfolding later_siblings
  level_kept i within =
      All-map (IsLevelKept i) (entry_for nodes) (later_siblings nodes i)
      (All-weaker (Passes (are_siblings nodes i) (i + 1) (length nodes)) (λ j. IsLevelKept i (entry_for nodes j))
      (λ j here. subst (λ (e : ℕ). Contains (map (entry_for base) (later_siblings base (to i))) e) (entry_kept base nodes to narrows outer inner j here.1)
      (in_map (entry_for base) (later_siblings base (to i)) (to j) (sibling_kept i j (omega (arith, here.0)) here.1 here.2)))
      (later_siblings nodes i) (passing_each (are_siblings nodes i) (length nodes - (i + 1)) (i + 1) (length nodes) (omega arith)))

  abbrev IsGroup : ℕ → Type 0
  IsGroup g = (is_group_at nodes g ≡ true) × (g < length nodes)

  outward_kept : (groups : List ℕ) (i : ℕ) → i < length nodes → All IsGroup groups → All (λ c. Contains (outward base (to i) (map to groups)) (to c)) (outward nodes i groups)
  outward_kept [] i within groups_are = level_kept i within
  outward_kept (g ∷ groups) i within groups_are =
      let group = All-head IsGroup g groups groups_are in
      let level : List ℕ = map (entry_for base) (later_siblings base (to i)) in
      let further : List ℕ = outward base (to g) (map to groups) in
      let P : ℕ → Type 0 = λ c. Contains (level ++ (to g + 1) ∷ further) (to c) in
      All-append P (map (entry_for nodes) (later_siblings nodes i)) ((g + 1) ∷ outward nodes g groups)
      (All-weaker (IsLevelKept i) P (λ c here. Contains-append_left level ((to g + 1) ∷ further) (to c) here) (map (entry_for nodes) (later_siblings nodes i)) (level_kept i within))
      (All-cons P (g + 1) (outward nodes g groups)
      (Contains-append_right level ((to g + 1) ∷ further) (to (g + 1)) (in_head (to g + 1) (to (g + 1)) further (sym (trigger_next base nodes to narrows outer inner g group.0))))
      (All-weaker (λ c. Contains further (to c)) P (λ c here. Contains-append_right level ((to g + 1) ∷ further) (to c) (in_tail (to g + 1) (to c) further here)) (outward nodes g groups)
      (outward_kept groups g group.1 (All-tail IsGroup g groups groups_are))))

  groups_are : (f : ℕ) → All IsGroup (groups_round nodes f)
  groups_are f = groups_all nodes laws IsGroup (λ i g is. (laws.parent_is_group i g is, omega (arith, laws.parent_before i g is, laws.held_within i g is))) f

  module _ (f : ℕ) (within : f < length nodes) where
    own_kept : is_trigger_at nodes f ≡ false → Contains (itself base (to f)) (to f)
    own_kept plain =
        subst (λ (b : Bool). Contains (if b then [] else to f ∷ []) (to f)) (sym (trigger_kept base nodes to narrows outer inner f within ∙ plain))
        (in_head (to f) (to f) [] refl)

    candidates_kept : All (λ c. Contains (candidates_of base (to f)) (to c)) (candidates_of nodes f)
    unfolding candidates_of
    candidates_kept =
        let further : List ℕ = outward base (to f) (groups_round base (to f)) in
        let P : ℕ → Type 0 = λ c. Contains (itself base (to f) ++ further) (to c) in
        let same = groups_kept base nodes to narrows outer inner f within in
        All-append P (itself nodes f) (outward nodes f (groups_round nodes f))
        (cond_both (is_trigger_at nodes f) [] (f ∷ []) (All P) (λ _. All-nil P)
        (λ plain. All-cons P f [] (Contains-append_left (itself base (to f)) further (to f) (own_kept plain)) (All-nil P)))
        (All-weaker (λ c. Contains (outward base (to f) (map to (groups_round nodes f))) (to c)) P
        (λ c here. Contains-append_right (itself base (to f)) further (to c) (subst (λ (groups : List ℕ). Contains (outward base (to f) groups) (to c)) (sym same) here))
        (outward nodes f (groups_round nodes f)) (outward_kept (groups_round nodes f) f within (groups_are f)))

    -- a candidate stays one
    pub candidate_kept : (c : ℕ) → Contains (candidates_of nodes f) c → Contains (candidates_of base (to f)) (to c)
    candidate_kept c found = All-contains (λ d. Contains (candidates_of base (to f)) (to d)) (candidates_of nodes f) c candidates_kept found
