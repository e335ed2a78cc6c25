-- The collisions after an entry, from the pairs of its followers.
use Rattle.std.proofs.Common.{◌≡◌, ℕ, ◌+◌, Bool, true, false, List, [], ◌∷◌, ◌++◌, map, length, refl, sym, ap, ◌∙◌, arith}
use Rattle.std.specs.Prelude.{if◌then◌else◌}
use Rattle.std.specs.List.{flat_map, range_with_len}
use Rattle.std.proofs.lemmas.List.{append-nil}
use Rattle.edi_tables.specs.declared.table.Node.{Node}
use Rattle.edi_tables.specs.Collisions.{Collision, followers_of, front_of, shared_pairs, collisions_after}
use Rattle.edi_tables.specs.Walk.{is_group_at}
use Rattle.collision_check.specs.Listed.{with_followers, collisions_at}
use Rattle.collision_check.proofs.Pairs.{flat_map_push}

-- the collision of a pair of followers
abbrev pub of_pair : List Node → ℕ → ℕ × ℕ → Collision
of_pair nodes f pair = with_followers nodes (front_of nodes f) pair.0 pair.1

-- they are those of the pairs
pub after_by_pairs : (nodes : List Node) (f : ℕ) → collisions_after nodes f ≡ map (of_pair nodes f) (shared_pairs nodes (followers_of nodes f))
after_by_pairs nodes f = refl

-- a group has none, and an entry has those of its followers' pairs
pub none_at_group : (nodes : List Node) (f : ℕ) (group : Bool) (old : List Collision) → group ≡ is_group_at nodes f → group ≡ true → old ≡ old ++ collisions_at nodes f
none_at_group nodes f group old is yes_group =
    sym (ap (λ b. old ++ (if b then [] else collisions_after nodes f)) (sym is ∙ yes_group) ∙ append-nil old)

pub made_by : (nodes : List Node) (f : ℕ) (front : List ℕ) (pairs : List (ℕ × ℕ)) (group : Bool) → front ≡ front_of nodes f → pairs ≡ shared_pairs nodes (followers_of nodes f)
    → group ≡ is_group_at nodes f → group ≡ false → map (λ pair. with_followers nodes front pair.0 pair.1) pairs ≡ collisions_at nodes f
made_by nodes f front pairs group front_is pairs_is is entry =
    ap (λ (w : List ℕ). map (λ (pair : ℕ × ℕ). with_followers nodes w pair.0 pair.1) pairs) front_is
    ∙ ap (map (of_pair nodes f)) pairs_is
    ∙ sym (ap (λ b. if b then [] else collisions_after nodes f) (sym is ∙ entry))

-- where no tag is shared, nothing is made
pub none_made : (nodes : List Node) (f : ℕ) (pairs : List (ℕ × ℕ)) (group : Bool) (old : List Collision) → pairs ≡ shared_pairs nodes (followers_of nodes f) → length pairs ≡ 0
    → group ≡ is_group_at nodes f → group ≡ false → old ≡ old ++ collisions_at nodes f
none_made nodes f pairs group old pairs_is none is entry =
    sym (append-nil old) ∙ ap (λ (made : List Collision). old ++ made)
    (ap (map (of_pair nodes f)) (sym (empty pairs none) ∙ pairs_is) ∙ sym (ap (λ b. if b then [] else collisions_after nodes f) (sym is ∙ entry)))
  where
    empty : (xs : List (ℕ × ℕ)) → length xs ≡ 0 → xs ≡ []
    empty [] long = refl
    empty (x ∷ xs) long = absurd (omega arith)

pub made_step : (table : List Node) (f : ℕ) (old : List Collision) → old ≡ flat_map (collisions_at table) (range_with_len 0 f)
    → old ++ collisions_at table f ≡ flat_map (collisions_at table) (range_with_len 0 (f + 1))
made_step table f old made =
    ap (λ front. front ++ collisions_at table f) made ∙ sym (flat_map_push (collisions_at table) f)
