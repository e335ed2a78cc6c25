-- Counts after one placed entry more, and what they say of a candidate of rank 0.
use Rattle.std.proofs.Common.{◌≡◌, ℕ, ◌+◌, ◌-◌, ◌≤◌, Bool, true, false, cond, List, [], ◌∷◌, ◌++◌, Option, Some, None, length, drop, refl, sym, ap, ◌∙◌, ◌⊎◌, ⊎_elim, arith}
use Rattle.std.specs.Prelude.{reverse, count_by, nat_le, not, ◌&&◌, ◌==◌, if◌then◌else◌}
use Rattle.std.specs.List.{after_last, suffix_len, prefix_len}
use Rattle.std.proofs.lemmas.Bool.{eq-eqb, ne_eqb, eqb-true, leb-false, le-leb}
use Rattle.std.proofs.lemmas.List.{reverse-append, drop-append-le, length-append}
use Rattle.std.proofs.lemmas.List.Sums.{sum_by-append}
use Rattle.edi_tables.specs.declared.table.Node.{Node}
use Rattle.edi_tables.specs.Walk.{parent_at, max_at, is_repeat, missing_between}
use Rattle.edi_tables.specs.Placement.{is_at, from_last, placed_since, placed_after, entry_count, group_count, last_placed, is_over, rank_of}
use Rattle.edi_tables.specs.Filled.{is_filled}
use Rattle.edi_tables.specs.Collisions.{is_follower}

-- a test as a number
abbrev pub one_if : Bool → ℕ
one_if b = cond b 1 0

one_more : (n : ℕ) → 0 + n ≡ n
one_more n = omega arith

pub count_push : (p : Option ℕ → Bool) (xs : List (Option ℕ)) (x : Option ℕ) → count_by p (xs ++ x ∷ []) ≡ count_by p xs + cond (p x) 1 0
count_push p xs x = sum_by-append (λ y. cond (p y) 1 0) xs (x ∷ []) ∙ ap (λ n. count_by p xs + n) (one_more (cond (p x) 1 0))

pub suffix_push : (r : Option ℕ → Bool) (xs : List (Option ℕ)) (x : Option ℕ) → r x ≡ true → suffix_len r (xs ++ x ∷ []) ≡ 1 + suffix_len r xs
suffix_push r xs x passes = ap (prefix_len r) (reverse-append xs (x ∷ [])) ∙ ap (λ b. cond b (1 + prefix_len r (reverse xs)) 0) passes

-- what is after the last that passes, one after it more
pub after_push : (q : Option ℕ → Bool) (xs : List (Option ℕ)) (x : Option ℕ) → q x ≡ false → after_last q (xs ++ x ∷ []) ≡ after_last q xs ++ x ∷ []
after_push q xs x fails =
    let suffix = suffix_push (λ y. not (q y)) xs x (ap not fails) in
    let long : length (xs ++ x ∷ []) ≡ length xs + 1 = length-append xs (x ∷ []) in
    let from : length (xs ++ x ∷ []) - suffix_len (λ y. not (q y)) (xs ++ x ∷ []) ≡ length xs - suffix_len (λ y. not (q y)) xs = omega (arith, suffix, long) in
    ap (λ (n : ℕ). drop n (xs ++ x ∷ [])) from ∙ drop-append-le (length xs - suffix_len (λ y. not (q y)) xs) xs (x ∷ []) (omega arith)

-- what is from the last that passes on ends with the last
pub from_push : (q : Option ℕ → Bool) (xs : List (Option ℕ)) (x : Option ℕ) → (n : ℕ) × (from_last q (xs ++ x ∷ []) ≡ drop n xs ++ x ∷ [])
from_push q xs x =
    let n : ℕ = length (xs ++ x ∷ []) - suffix_len (λ y. not (q y)) (xs ++ x ∷ []) - 1 in
    let long : length (xs ++ x ∷ []) ≡ length xs + 1 = length-append xs (x ∷ []) in
    (n, drop-append-le n xs (x ∷ []) (omega (arith, long)))

pub at_itself : (c : ℕ) → is_at c (Some c) ≡ true
at_itself c = eq-eqb c c refl

module _ (nodes : List Node) where
  grows_in : (placed : List (Option ℕ)) (c g : ℕ) (found : Option ℕ) → ((h : ℕ) → found ≡ Some h → h + 1 ≡ c → ⊥)
      → (1 ≤ count_by (is_at (g + 1)) (placed_after found placed)) ⊎ (c ≡ g + 1) → 1 ≤ count_by (is_at (g + 1)) (placed_after found placed ++ Some c ∷ [])
  grows_in placed c g found apart counted =
      let more = count_push (is_at (g + 1)) (placed_after found placed) (Some c) in
      ⊎_elim (λ some. omega (arith, more, some))
      (λ same. omega (arith, more, ap one_if (eq-eqb c (g + 1) same))) counted

  placed_after_push : (placed : List (Option ℕ)) (c : ℕ) (found : Option ℕ) → ((h : ℕ) → found ≡ Some h → h + 1 ≡ c → ⊥) → placed_after found (placed ++ Some c ∷ []) ≡ placed_after found placed ++ Some c ∷ []
  placed_after_push placed c None apart = refl
  placed_after_push placed c (Some h) apart = after_push (is_at (h + 1)) placed (Some c) (ne_eqb c (h + 1) (λ same. apart h refl (sym same)))

  -- the count of a group after a placed entry more: it stays, and its trigger adds one
  pub group_counted : (placed : List (Option ℕ)) (c g : ℕ) → ((h : ℕ) → parent_at nodes g ≡ Some h → h + 1 ≡ c → ⊥)
      → (1 ≤ group_count nodes placed g) ⊎ (c ≡ g + 1) → 1 ≤ group_count nodes (placed ++ Some c ∷ []) g
  unfolding group_count
  group_counted placed c g apart counted =
      let grown = grows_in placed c g (parent_at nodes g) apart counted in
      omega (arith, grown, ap (count_by (is_at (g + 1))) (placed_after_push placed c (parent_at nodes g) apart))

  since_push : (front : List (Option ℕ)) (f : ℕ) (found : Option ℕ) → 1 ≤ count_by (is_at f) (placed_since found (front ++ Some f ∷ []))
  since_push front f None = omega (arith, count_push (is_at f) front (Some f), ap one_if (at_itself f))
  since_push front f (Some h) =
      let kept = from_push (is_at (h + 1)) front (Some f) in
      omega (arith, ap (count_by (is_at f)) kept.1, count_push (is_at f) (drop kept.0 front) (Some f), ap one_if (at_itself f))

  -- the entry that was placed last counts
  pub entry_counted : (front : List (Option ℕ)) (f : ℕ) → 1 ≤ entry_count nodes (front ++ Some f ∷ []) f
  unfolding entry_count
  entry_counted front f = since_push front f (parent_at nodes f)

pub zero_parts : (a b : Bool) → (if a then 1 else 0) + (if b then 2 else 0) ≡ 0 → (a ≡ false) × (b ≡ false)
zero_parts false false none = (refl, refl)
zero_parts true b none = absurd (omega arith)
zero_parts false true none = absurd (omega arith)

two_or_more : (most count : ℕ) → 1 ≤ count → nat_le most count ≡ false → nat_le 2 most ≡ true
two_or_more most count some below = le-leb 2 most (omega (arith, leb-false most count below))

stands_again : (repeat itself : Bool) (group_most group_is most is own : ℕ) → (if repeat then nat_le group_most group_is else (itself && nat_le most is)) ≡ false
    → (repeat ≡ true → 1 ≤ group_is) → (itself ≡ true → (1 ≤ is) × (own ≡ most)) → (if repeat then nat_le 2 group_most else (if itself then nat_le 2 own else true)) ≡ true
stands_again true itself group_most group_is most is own below group entry = two_or_more group_most group_is (group refl) below
stands_again false true group_most group_is most is own below group entry =
    ap (nat_le 2) (entry refl).1 ∙ two_or_more most is (entry refl).0 below
stands_again false false group_most group_is most is own below group entry = refl

module _ (nodes : List Node) (placed : List (Option ℕ)) (c : ℕ) where
  both_parts : (a b : Bool) → a ≡ false → b ≡ true → (not a && b) ≡ true
  both_parts false true one two = refl
  both_parts true b one two = absurd (let no : ⊥ = cc in no)
  both_parts false false one two = absurd (let no : ⊥ = cc in no)

  -- a candidate of rank 0 is a follower where the groups that it may repeat and the last entry were counted
  pub follower_of_rank : rank_of nodes placed c ≡ 0 → (is_repeat nodes (last_placed placed) c ≡ true → 1 ≤ group_count nodes placed (c - 1))
      → 1 ≤ entry_count nodes placed (last_placed placed) → is_follower nodes (last_placed placed) c ≡ true
  unfolding rank_of is_over
  follower_of_rank rank group entry =
      let parts = zero_parts _ (is_filled (missing_between nodes (last_placed placed) c)) rank in
      both_parts (is_filled (missing_between nodes (last_placed placed) c)) _ parts.1
      (stands_again (is_repeat nodes (last_placed placed) c) (c == last_placed placed) (max_at nodes (c - 1)) (group_count nodes placed (c - 1)) (max_at nodes c) (entry_count nodes placed c) (max_at nodes (last_placed placed))
      parts.0 group (λ same. let is : last_placed placed ≡ c = sym (eqb-true c (last_placed placed) same) in (omega (arith, entry, ap (entry_count nodes placed) is), ap (max_at nodes) is)))
