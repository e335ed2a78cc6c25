-- Where no two nodes have one tag, there is no collision.
use Rattle.std.proofs.Common.{◌≡◌, ℕ, zero, suc, ◌+◌, ◌<◌, ◌≤◌, Bool, true, false, cond, List, [], ◌∷◌, Option, Some, None, map, length, take, get_or, refl, sym, ap, ◌∙◌, inl, inr, arith}
use Rattle.std.specs.Prelude.{All, filter, slice_index, slice_index_or, if◌then◌else◌}
use Rattle.std.specs.List.{flat_map, list_all, range_with_len, enumerate_from}
use Rattle.std.specs.Str.{bytes_eq}
use Rattle.std.proofs.lemmas.Bool.{cases_Bool, and_parts, eqb-true}
use Rattle.std.proofs.lemmas.List.Elements.{All-head, All-tail, All-filter, All-take, All-get_or}
use Rattle.std.proofs.lemmas.Slice.Eq.{bytes_eq-Decides}
use Rattle.edi_tables.specs.declared.tag.Tag.{Tag}
use Rattle.edi_tables.specs.declared.table.Node.{Node}
use Rattle.edi_tables.specs.Rows.{IsTable}
use Rattle.edi_tables.specs.Walk.{tag_at, is_group_at, candidates_of}
use Rattle.edi_tables.specs.Collisions.{are_same_tag, have_same_tag, is_follower, followers_of, pair_with, pair_at, shared_pairs, collision_of, collisions_after, collisions_of}
use Rattle.edi_tables.proofs.Distinct.{apart_take, followers_apart}
use Rattle.edi_tables.proofs.Within.{candidates_within}
use Rattle.collision_check.specs.Marks.{is_own, number_of, number_at, numbers_of}
use Rattle.collision_check.specs.Listed.{collisions_at}
use Rattle.collision_check.proofs.Marking.{has_number}
use Rattle.collision_check.proofs.Meeting.{number_read, length-numbers}

own_each : (a : ℕ) (xs : List (Option ℕ)) → list_all (λ p. is_own p.0 p.1) (enumerate_from a xs) ≡ true → (k : ℕ) → k < length xs → is_own (a + k) (get_or xs k None) ≡ true
own_each a [] all k within = absurd (omega arith)
own_each a (x ∷ xs) all zero within = (let here : a + 0 ≡ a = omega arith in ap (λ (n : ℕ). is_own n x) here) ∙ (and_parts (is_own a x) _ all).0
own_each a (x ∷ xs) all (suc k) within =
    (let here : a + suc k ≡ (a + 1) + k = omega arith in ap (λ (n : ℕ). is_own n (get_or xs k None)) here)
    ∙ own_each (a + 1) xs (and_parts (is_own a x) _ all).1 k (omega arith)

pub filter_fails : (p : ℕ → Bool) (xs : List ℕ) → All (λ x. p x ≡ false) xs → filter p xs ≡ []
filter_fails p [] fails = refl
filter_fails p (x ∷ xs) fails =
    ap (λ b. cond b (x ∷ filter p xs) (filter p xs)) (All-head (λ x. p x ≡ false) x xs fails) ∙ filter_fails p xs (All-tail (λ x. p x ≡ false) x xs fails)

pub none_made : {A : Type 0} (made : ℕ → List A) (n a : ℕ) → ((k : ℕ) → a ≤ k → k < a + n → made k ≡ []) → flat_map made (range_with_len a n) ≡ []
none_made made zero a none = refl
none_made made (suc n) a none = rw (none a (omega arith) (omega arith)) (none_made made n (a + 1) (λ k from below. none k (omega arith) (omega arith)))

module _ (nodes : List Node) (table : IsTable nodes) (numbers : List (Option ℕ)) (is : numbers ≡ numbers_of nodes) (all : list_all (λ p. is_own p.0 p.1) (enumerate_from 0 numbers) ≡ true) where
  own : (a : ℕ) → a < length nodes → is_own a (number_at nodes a) ≡ true
  own a within =
      let here : 0 + a ≡ a = omega arith in
      ap (is_own a) (sym (number_read nodes numbers a is within)) ∙ ap (λ (n : ℕ). is_own n (slice_index_or numbers a None)) (sym here)
      ∙ own_each 0 numbers all a (omega (arith, ap length is, length-numbers nodes))

  own_number : (a : ℕ) (tag : Tag) → a < length nodes → tag_at nodes a ≡ Some tag → number_of nodes (Some tag) ≡ Some a
  own_number a tag within at =
      let found = has_number nodes a tag within at in
      let own_is : is_own a (number_of nodes (Some tag)) ≡ true = ap (λ (t : Option Tag). is_own a (number_of nodes t)) (sym at) ∙ own a within in
      found ∙ ap Some (eqb-true _ a (ap (is_own a) (sym found) ∙ own_is))

  some_same : (x y : ℕ) → Some x ≡ Some y → x ≡ y
  some_same x y same = cc

  apart_by : (a b : ℕ) → a < length nodes → b < length nodes → (a ≡ b → ⊥) → (one other : Option Tag) → tag_at nodes a ≡ one → tag_at nodes b ≡ other → are_same_tag one other ≡ false
  apart_by a b in_a in_b differ None other at_a at_b = refl
  apart_by a b in_a in_b differ (Some t) None at_a at_b = refl
  apart_by a b in_a in_b differ (Some t) (Some u) at_a at_b = elim (cases_Bool (bytes_eq t.octets u.octets)) [
    | inl same ↦ absurd (differ (some_same a b (sym (own_number a t in_a at_a)
        ∙ ap (λ (octets : List ℕ). number_of nodes (Some (record { octets = octets }))) ((bytes_eq-Decides t.octets u.octets).0 same) ∙ own_number b u in_b at_b)))
    | inr not ↦ not
  ]

  apart : (a b : ℕ) → a < length nodes → b < length nodes → (a ≡ b → ⊥) → have_same_tag nodes a b ≡ false
  apart a b in_a in_b differ = apart_by a b in_a in_b differ (tag_at nodes a) (tag_at nodes b) refl refl

  module _ (f : ℕ) (within : f < length nodes) where
    inside : All (λ x. x < length nodes) (followers_of nodes f)
    unfolding followers_of
    inside = All-filter (is_follower nodes f) (λ x. x < length nodes) (candidates_of nodes f) (candidates_within nodes table f within)

    no_pair : (j : ℕ) → j < length (followers_of nodes f) → pair_at nodes (followers_of nodes f) j ≡ []
    no_pair j below =
        let followers : List ℕ = followers_of nodes f in
        let here : slice_index followers j < length nodes = All-get_or (λ x. x < length nodes) followers j 0 below inside in
        let earlier = All-take (λ x. x < length nodes) j followers inside in
        let others = apart_take followers j below (followers_apart nodes table f) in
        ap (λ (before : List ℕ). pair_with before (slice_index followers j))
        (filter_fails (have_same_tag nodes (slice_index followers j)) (take j followers)
        (λ k d in_it. apart (slice_index followers j) (get_or (take j followers) k d) here (earlier k d in_it) (λ same. others k d in_it (sym same))))

    no_pairs : shared_pairs nodes (followers_of nodes f) ≡ []
    unfolding shared_pairs
    no_pairs = none_made (pair_at nodes (followers_of nodes f)) (length (followers_of nodes f)) 0 (λ j from below. no_pair j (omega arith))

    none_at : (group : Bool) → is_group_at nodes f ≡ group → collisions_at nodes f ≡ []
    none_at true at = ap (λ b. if b then [] else collisions_after nodes f) at
    none_at false at = ap (λ b. if b then [] else collisions_after nodes f) at ∙ ap (map (λ pair. collision_of nodes f pair.0 pair.1)) no_pairs

  pub no_collisions : collisions_of nodes ≡ []
  unfolding collisions_of
  no_collisions = none_made (collisions_at nodes) (length nodes) 0 (λ f from below. none_at f (omega arith) (is_group_at nodes f) refl)
