-- Each collision of a table is a list of tags with two placements.
use Rattle.std.proofs.Common.{◌≡◌, ℕ, zero, suc, ◌+◌, ◌<◌, ◌≤◌, Bool, true, false, List, [], ◌∷◌, ◌++◌, Option, map, length, take, get_or, refl, sym, ap, subst, ◌∙◌, arith}
use Rattle.std.specs.Prelude.{filter, slice_index, Contains}
use Rattle.std.specs.List.{All, cons_option, filter_map, flat_map, range_with_len}
use Rattle.std.proofs.lemmas.Bool.{cond_both}
use Rattle.std.proofs.lemmas.List.{get_or_push}
use Rattle.std.proofs.lemmas.List.Elements.{All-nil, All-cons, All-head, All-tail, All-same, All-append, All-filter, All-take, All-map, All-weaker, All-get_or, All-contains_itself, filter_passes, filter_map-append}
use Rattle.edi_tables.specs.declared.tag.Tag.{Tag}
use Rattle.edi_tables.specs.declared.table.Node.{Node}
use Rattle.edi_tables.specs.Rows.{IsTable}
use Rattle.edi_tables.specs.Walk.{tag_at, is_group_at, candidates_of}
use Rattle.edi_tables.specs.Placement.{IsPlacement}
use Rattle.edi_tables.specs.Collisions.{front_of, is_follower, followers_of, have_same_tag, pair_with, pair_at, shared_pairs, collisions_after, collisions_of}
use Rattle.collision_check.specs.Listed.{collisions_at, IsAmbiguous}
use Rattle.collision_check.proofs.Made.{of_pair, after_by_pairs}
use Rattle.edi_tables.proofs.Distinct.{apart_take, followers_apart}
use Rattle.collision_check.proofs.Placed.{same_tags, IsFollower, placement}

-- what holds of all that each place makes holds of all that they make
flat_all : {A : Type 0} (P : A → Type 0) (made : ℕ → List A) (n a b : ℕ) → a + n ≡ b → ((k : ℕ) → a ≤ k → k < b → All P (made k)) → All P (flat_map made (range_with_len a n))
flat_all P made zero a b end each = All-nil P
flat_all P made (suc n) a b end each =
    All-append P (made a) (flat_map made (range_with_len (a + 1) n)) (each a (omega arith) (omega arith))
    (flat_all P made n (a + 1) b (omega arith) (λ k low high. each k (omega arith) high))

-- what holds of each thing made of the members of a list
pub All-unmap : {A B : Type 0} (P : B → Type 0) (of : A → B) (xs : List A) → All P (map of xs) → All (λ x. P (of x)) xs
All-unmap P of [] all = All-nil (λ x. P (of x))
All-unmap P of (x ∷ xs) all =
    All-cons (λ y. P (of y)) x xs (All-head P (of x) (map of xs) all) (All-unmap P of xs (All-tail P (of x) (map of xs) all))

module _ (nodes : List Node) (table : IsTable nodes) where
  module _ (f : ℕ) (within : f < length nodes) (entry : is_group_at nodes f ≡ false) where
    -- a follower of f
    abbrev Follows : ℕ → Type 0
    Follows c = IsFollower nodes table f within entry c

    -- two different followers with one tag
    abbrev IsPair : ℕ × ℕ → Type 0
    IsPair pair = Follows pair.0 × Follows pair.1 × (have_same_tag nodes pair.1 pair.0 ≡ true) × (pair.0 ≡ pair.1 → ⊥)

    -- one that a follower makes a pair with
    abbrev IsOther : ℕ → ℕ → Type 0
    IsOther second first = Follows first × (have_same_tag nodes second first ≡ true) × (first ≡ second → ⊥)

    -- the followers are such
    followers_follow : All Follows (followers_of nodes f)
    unfolding followers_of
    followers_follow =
        let candidates : List ℕ = candidates_of nodes f in
        λ k d below. (
          All-filter (is_follower nodes f) (Contains candidates) candidates (All-contains_itself candidates) k d below,
          filter_passes (is_follower nodes f) candidates k d below,
        )

    -- the pair of a follower and the only other one with its tag
    pair_is : (before : List ℕ) (second : ℕ) → Follows second → All (IsOther second) before → All IsPair (pair_with before second)
    pair_is [] second follows others = All-nil IsPair
    pair_is (first ∷ []) second follows others =
        let other = All-head (IsOther second) first [] others in
        All-cons IsPair (first, second) [] (other.0, follows, other.1, other.2) (All-nil IsPair)
    pair_is (first ∷ next ∷ more) second follows others = All-nil IsPair

    -- the pair that the follower at j closes
    pair_here : (j : ℕ) → j < length (followers_of nodes f) → All IsPair (pair_at nodes (followers_of nodes f) j)
    pair_here j below =
        let followers : List ℕ = followers_of nodes f in
        let second : ℕ = slice_index followers j in
        let same : ℕ → Bool = have_same_tag nodes second in
        let earlier : List ℕ = take j followers in
        pair_is (filter same earlier) second (All-get_or Follows followers j 0 below followers_follow)
        (λ k d within_it. (
          All-filter same Follows earlier (All-take Follows j followers followers_follow) k d within_it,
          filter_passes same earlier k d within_it,
          All-filter same (λ x. x ≡ second → ⊥) earlier (apart_take followers j below (followers_apart nodes table f)) k d within_it,
        ))

    -- all pairs are such
    pairs_are : All IsPair (shared_pairs nodes (followers_of nodes f))
    unfolding shared_pairs
    pairs_are =
        let count : ℕ = length (followers_of nodes f) in
        flat_all IsPair (pair_at nodes (followers_of nodes f)) count 0 count (omega arith) (λ j low high. pair_here j high)

    -- both lists of entries have the same tags
    same_of_pair : (first second : ℕ) → tag_at nodes first ≡ tag_at nodes second
        → filter_map (tag_at nodes) (front_of nodes f ++ second ∷ []) ≡ filter_map (tag_at nodes) (front_of nodes f ++ first ∷ [])
    same_of_pair first second same =
        filter_map-append (tag_at nodes) (front_of nodes f) (second ∷ [])
        ∙ ap (λ (found : Option Tag). filter_map (tag_at nodes) (front_of nodes f) ++ cons_option found []) (sym same)
        ∙ sym (filter_map-append (tag_at nodes) (front_of nodes f) (first ∷ []))

    -- they differ in their last entry
    pair_differs : (first second : ℕ) → (first ≡ second → ⊥) → front_of nodes f ++ first ∷ [] ≡ front_of nodes f ++ second ∷ [] → ⊥
    pair_differs first second differ same =
        let front : List ℕ = front_of nodes f in
        differ (sym (get_or_push front first 0 (length front) refl) ∙ ap (λ (xs : List ℕ). get_or xs (length front) 0) same ∙ get_or_push front second 0 (length front) refl)

    -- the collision of a pair
    pair_ambiguous : (pair : ℕ × ℕ) → IsPair pair → IsAmbiguous nodes (of_pair nodes f pair)
    pair_ambiguous pair is =
        let tags = same_tags (tag_at nodes pair.1) (tag_at nodes pair.0) is.2 in
        record {
          first = placement nodes table f within entry pair.0 is.0 (tags.0, tags.2);
          second = subst (λ (list : List Tag). IsPlacement nodes list (front_of nodes f ++ pair.1 ∷ [])) (same_of_pair pair.0 pair.1 (tags.2 ∙ sym tags.1))
              (placement nodes table f within entry pair.1 is.1 (tags.0, tags.1));
          differ = pair_differs pair.0 pair.1 is.3;
        }

    -- the collisions after f
    after_ambiguous : All (IsAmbiguous nodes) (collisions_after nodes f)
    after_ambiguous =
        let pairs : List (ℕ × ℕ) = shared_pairs nodes (followers_of nodes f) in
        All-same (IsAmbiguous nodes) (collisions_after nodes f) (map (of_pair nodes f) pairs) (after_by_pairs nodes f)
        (All-map (IsAmbiguous nodes) (of_pair nodes f) pairs (All-weaker IsPair (λ pair. IsAmbiguous nodes (of_pair nodes f pair)) pair_ambiguous pairs pairs_are))

  -- and those at any node
  at_ambiguous : (f : ℕ) → f < length nodes → All (IsAmbiguous nodes) (collisions_at nodes f)
  at_ambiguous f within =
      cond_both (is_group_at nodes f) [] (collisions_after nodes f) (All (IsAmbiguous nodes)) (λ _. All-nil (IsAmbiguous nodes)) (λ entry. after_ambiguous f within entry)

  -- a table can place the tags of each of its collisions in two ways
  pub collisions_ambiguous : All (IsAmbiguous nodes) (collisions_of nodes)
  unfolding collisions_of
  collisions_ambiguous =
      flat_all (IsAmbiguous nodes) (collisions_at nodes) (length nodes) 0 (length nodes) (omega arith) (λ f low high. at_ambiguous f high)
