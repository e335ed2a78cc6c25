-- A candidate of rank 0 in a narrowed table has rank 0 in the base, so a derivation is one by the base.
use Rattle.std.proofs.Common.{◌≡◌, ℕ, ◌+◌, ◌-◌, ◌<◌, ◌≤◌, Bool, true, false, List, [], ◌∷◌, Option, Some, map, length, take, refl, sym, ap, subst, ◌∙◌, arith}
use Rattle.std.specs.Prelude.{Contains, slice_get, slice_index, nat_le, ◌==◌, ◌&&◌, if◌then◌else◌}
use Rattle.std.specs.Option.{option_map}
use Rattle.std.proofs.lemmas.Bool.{and_parts, false≢true, leb-false, lt-leb}
use Rattle.std.proofs.lemmas.List.{length-map, take-map}
use Rattle.std.proofs.lemmas.Option.{slice_get-map, slice_get_within}
use Rattle.edi_tables.specs.declared.tag.Tag.{Tag}
use Rattle.edi_tables.specs.declared.table.Node.{Node}
use Rattle.edi_tables.specs.Filled.{is_filled}
use Rattle.edi_tables.specs.Rows.{IsTable}
use Rattle.edi_tables.specs.Walk.{tag_at, max_at, is_trigger_at, is_repeat, candidates_of, missing_between, missing_past}
use Rattle.edi_tables.specs.Placement.{entry_count, group_count, last_placed, is_over, rank_of, IsPlacement, IsDerivation}
use Rattle.edi_tables.proofs.Counting.{zero_parts}
use Rattle.edi_tables.proofs.Placements.{last_of, entry_is}
use Rattle.edi_tables.proofs.TableLaws.{HasTableLaws, table_laws}
use Rattle.guide_overlay.specs.Narrows.{Narrows}
use Rattle.guide_overlay.proofs.CandidatesKept.{candidate_kept}
use Rattle.guide_overlay.proofs.CountsKept.{last_kept, index_moved, entry_count_kept, group_count_kept}
use Rattle.guide_overlay.proofs.GroupsKept.{same_kept, repeat_kept}
use Rattle.guide_overlay.proofs.PassedKept.{group_of, missing_kept, past_kept}

pub not_filled : (xs : List ℕ) → is_filled xs ≡ false → xs ≡ []
not_filled [] none = refl
not_filled (x ∷ xs) none = absurd (false≢true (sym none))

-- whether a step is one too many, by its two tests
abbrev over_by : (repeat own : Bool) → (group_most group_is most is : ℕ) → Bool
over_by repeat own group_most group_is most is = if repeat then nat_le group_most group_is else (own && nat_le most is)

map_some : (to : ℕ → ℕ) (xs : List ℕ) → map Some (map to xs) ≡ map (option_map to) (map Some xs)
map_some to [] = refl
map_some to (x ∷ xs) = ap (λ more. Some (to x) ∷ more) (map_some to xs)

module _ (base nodes : List Node) (to : ℕ → ℕ) (narrows : Narrows base nodes to) (outer : IsTable base) (inner : IsTable nodes) where
  laws : HasTableLaws nodes
  laws = table_laws nodes inner

  module _ (placed : List (Option ℕ)) (c : ℕ) (within : c < length nodes) (last_within : last_placed placed < length nodes) where
    abbrev moved : List (Option ℕ)
    moved = map (option_map to) placed

    over_step : (repeat own : Bool) → is_repeat nodes (last_placed placed) c ≡ repeat
        → over_by repeat own (max_at nodes (c - 1)) (group_count nodes placed (c - 1)) (max_at nodes c) (entry_count nodes placed c) ≡ false
        → over_by repeat own (max_at base (to c - 1)) (group_count base moved (to c - 1)) (max_at base (to c)) (entry_count base moved (to c)) ≡ false
    over_step true own repeat below =
        let group = group_of base nodes to narrows outer inner c (and_parts (is_trigger_at nodes c) _ repeat).0 in
        let g : ℕ = group.0 in
        let few : group_count nodes placed (c - 1) < max_at nodes (c - 1) = leb-false _ _ below in
        let most : max_at nodes g ≤ max_at base (to g) = narrows.max g (omega (arith, laws.trigger_within g group.3)) in
        let count : group_count base moved (to g) ≡ group_count nodes placed g = group_count_kept base nodes to narrows outer inner placed g group.3 in
        lt-leb (max_at base (to c - 1)) (group_count base moved (to c - 1))
        (omega (arith, few, most, count, ap (max_at base) group.2, ap (group_count base moved) group.2, ap (max_at nodes) group.1, ap (group_count nodes placed) group.1))
    over_step false true repeat below =
        let few : entry_count nodes placed c < max_at nodes c = leb-false _ _ below in
        lt-leb (max_at base (to c)) (entry_count base moved (to c))
        (omega (arith, few, narrows.max c within, entry_count_kept base nodes to narrows outer inner placed c within))
    over_step false false repeat below = refl

    -- a step that isn't one too many isn't by the base
    pub over_kept : is_over nodes placed c ≡ false → is_over base moved (to c) ≡ false
    unfolding is_over
    over_kept below =
        let last = last_kept base nodes to narrows placed in
        let group_most : ℕ = max_at base (to c - 1) in
        let group_is : ℕ = group_count base moved (to c - 1) in
        ap (λ b. over_by b (to c == last_placed moved) group_most group_is (max_at base (to c)) (entry_count base moved (to c)))
        (ap (λ f. is_repeat base f (to c)) last ∙ repeat_kept base nodes to narrows outer inner (last_placed placed) c last_within within)
        ∙ ap (λ b. over_by (is_repeat nodes (last_placed placed) c) b group_most group_is (max_at base (to c)) (entry_count base moved (to c)))
        (ap (λ (f : ℕ). to c == f) last ∙ same_kept base nodes to narrows c (last_placed placed))
        ∙ over_step (is_repeat nodes (last_placed placed) c) (c == last_placed placed) refl below

    -- a candidate of rank 0 has rank 0 in the base
    pub rank_kept : rank_of nodes placed c ≡ 0 → rank_of base moved (to c) ≡ 0
    unfolding rank_of
    rank_kept rank =
        let parts = zero_parts (is_over nodes placed c) (is_filled (missing_between nodes (last_placed placed) c)) rank in
        let none : missing_between base (last_placed moved) (to c) ≡ [] =
        ap (λ (f : ℕ). missing_between base f (to c)) (last_kept base nodes to narrows placed)
        ∙ missing_kept base nodes to narrows outer inner (last_placed placed) last_within c within (not_filled (missing_between nodes (last_placed placed) c) parts.1) in
        ap (λ (b : Bool). (if b then 1 else 0) + (if is_filled (missing_between base (last_placed moved) (to c)) then 2 else 0)) (over_kept parts.0)
        ∙ ap (λ (xs : List ℕ). 0 + (if is_filled xs then 2 else 0)) none

  module _ (tags : List Tag) (entries : List ℕ) where
    at_moved : (k : ℕ) → slice_index (map to entries) k ≡ to (slice_index entries k)
    at_moved k = index_moved to narrows.first entries k

    placed_moved : (n : ℕ) → map Some (take n (map to entries)) ≡ map (option_map to) (map Some (take n entries))
    placed_moved n = ap (map Some) (take-map to n entries) ∙ map_some to (take n entries)

    module _ (placement : IsPlacement nodes tags entries) where
      module _ (k : ℕ) (within : k + 1 < length entries) where
        here : slice_index entries k < length nodes
        here = (entry_is nodes inner tags entries placement k (omega arith)).1

        next : slice_index entries (k + 1) < length nodes
        next = (entry_is nodes inner tags entries placement (k + 1) within).1

        candidate_moved : Contains (candidates_of base (slice_index (map to entries) k)) (slice_index (map to entries) (k + 1))
        candidate_moved =
            subst (λ (f : ℕ). Contains (candidates_of base f) (slice_index (map to entries) (k + 1))) (sym (at_moved k))
            (subst (λ (c : ℕ). Contains (candidates_of base (to (slice_index entries k))) c) (sym (at_moved (k + 1)))
            (candidate_kept base nodes to narrows outer inner (slice_index entries k) here (slice_index entries (k + 1)) (placement.candidate k within)))

        tag_moved : tag_at base (slice_index (map to entries) (k + 1)) ≡ slice_get tags (k + 1)
        tag_moved = ap (tag_at base) (at_moved (k + 1)) ∙ sym (narrows.tag (slice_index entries (k + 1)) next) ∙ placement.tag k within

        rank_moved : rank_of base (map Some (take (k + 1) (map to entries))) (slice_index (map to entries) (k + 1)) ≡ 0
        rank_moved =
            let last : last_placed (map Some (take (k + 1) entries)) ≡ slice_index entries k = last_of entries k (omega arith) in
            ap (λ (c : ℕ). rank_of base (map Some (take (k + 1) (map to entries))) c) (at_moved (k + 1))
            ∙ ap (λ (placed : List (Option ℕ)). rank_of base placed (to (slice_index entries (k + 1)))) (placed_moved (k + 1))
            ∙ rank_kept (map Some (take (k + 1) entries)) (slice_index entries (k + 1)) next (omega (arith, last, here)) (placement.rank k within)

      -- a placement is one by the base
      pub placement_kept : IsPlacement base tags (map to entries)
      placement_kept = record {
        long = length-map entries to ∙ placement.long;
        first = slice_get-map to entries 0 ∙ ap (option_map to) placement.first ∙ ap Some narrows.first;
        opens = placement.opens;
        candidate = λ k within. candidate_moved k (omega (arith, within, length-map entries to));
        tag = λ k within. tag_moved k (omega (arith, within, length-map entries to));
        rank = λ k within. rank_moved k (omega (arith, within, length-map entries to));
      }

    -- and so is a derivation
    pub derivation_kept : IsDerivation nodes tags entries → IsDerivation base tags (map to entries)
    derivation_kept derivation =
        let some : 0 < length entries = slice_get_within entries 0 0 derivation.placement.first in
        let last = entry_is nodes inner tags entries derivation.placement (length entries - 1) (omega arith) in
        record {
          placement = placement_kept derivation.placement;
          complete = ap (λ (n : ℕ). missing_past base (slice_index (map to entries) (n - 1))) (length-map entries to)
              ∙ ap (missing_past base) (at_moved (length entries - 1))
              ∙ past_kept base nodes to narrows outer inner (slice_index entries (length entries - 1)) last.1 derivation.complete;
        }
