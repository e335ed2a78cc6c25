-- Pairs as a slice: the last, the count of a node, and how great counts are.
use Rattle.std.proofs.Common.{◌≡◌, ℕ, zero, suc, ◌+◌, ◌-◌, ◌≤◌, List, [], ◌∷◌, Some, map, length, refl, sym, ap, ◌∙◌, arith}
use Rattle.std.specs.Prelude.{slice_get, reverse, not, ◌==◌, ◌&&◌}
use Rattle.std.proofs.lemmas.Bool.{cond_both}
use Rattle.std.proofs.lemmas.List.Elements.{All-nil, All-cons, All-head, All-tail, All-append, All-weaker}
use Rattle.edi_tables.specs.declared.table.Node.{Node}
use Rattle.edi_tables.specs.Walk.{is_trigger_at, groups_round}
use Rattle.edi_tables.specs.Pairs.{pairs_next, count_in, entry_in, group_next, entry_next}
use Rattle.table_walk.specs.Steps.{AreCountsUpTo}

-- the entry is the node of the last pair
entry_at : (k : ℕ) (pairs : List (ℕ × ℕ)) (p : ℕ × ℕ) → length pairs ≡ suc k → slice_get pairs k ≡ Some p → entry_in pairs ≡ p.0
entry_at k [] p long is = absurd (omega arith)
entry_at zero (x ∷ []) p long is = let same : x ≡ p = cc in ap (λ (q : ℕ × ℕ). q.0) same
entry_at (suc k) (x ∷ []) p long is = absurd (omega arith)
entry_at zero (x ∷ y ∷ more) p long is = absurd (omega arith)
entry_at (suc k) (x ∷ y ∷ more) p long is = entry_at k (y ∷ more) p (omega arith) is

pub entry_at_last : (pairs : List (ℕ × ℕ)) (p : ℕ × ℕ) → slice_get pairs (length pairs - 1) ≡ Some p → entry_in pairs ≡ p.0
entry_at_last [] p is = absurd (let no : ⊥ = cc in no)
entry_at_last (x ∷ more) p is =
    let last : length (x ∷ more) - 1 ≡ length more = omega arith in
    entry_at (length more) (x ∷ more) p refl (sym (ap (slice_get (x ∷ more)) last) ∙ is)

-- no count in pairs is greater than all of them
pub count_up_to : (most : ℕ) (pairs : List (ℕ × ℕ)) (node : ℕ) → AreCountsUpTo most pairs → count_in pairs node ≤ most
count_up_to most [] node all = omega arith
count_up_to most (pair ∷ pairs) node all =
    cond_both (pair.0 == node) pair.1 (count_in pairs node) (λ n. n ≤ most)
    (λ _. All-head (λ (p : ℕ × ℕ). p.1 ≤ most) pair pairs all) (λ _. count_up_to most pairs node (All-tail (λ (p : ℕ × ℕ). p.1 ≤ most) pair pairs all))

group_up_to : (most : ℕ) (pairs : List (ℕ × ℕ)) (c g : ℕ) → AreCountsUpTo most pairs → group_next pairs c g ≤ most + 1
group_up_to most pairs c g all =
    let count = count_up_to most pairs g all in
    cond_both (c == g + 1) 1 0 (λ n. count_in pairs g + n ≤ most + 1) (λ _. omega (arith, count)) (λ _. omega (arith, count))

entry_up_to : (most : ℕ) (nodes : List Node) (pairs : List (ℕ × ℕ)) (c : ℕ) → AreCountsUpTo most pairs → entry_next nodes pairs c ≤ most + 1
entry_up_to most nodes pairs c all =
    let count = count_up_to most pairs c all in
    cond_both (c == entry_in pairs && not (is_trigger_at nodes c)) (count_in pairs c + 1) 1 (λ n. n ≤ most + 1) (λ _. omega (arith, count)) (λ _. omega arith)

all_counted : (most : ℕ) (of : ℕ → ℕ) → ((g : ℕ) → of g ≤ most) → (gs : List ℕ) → AreCountsUpTo most (map (λ g. let pair : ℕ × ℕ = (g, of g) in pair) gs)
all_counted most of small [] = All-nil (λ (p : ℕ × ℕ). p.1 ≤ most)
all_counted most of small (g ∷ gs) =
    let pair : ℕ × ℕ = (g, of g) in
    All-cons (λ (p : ℕ × ℕ). p.1 ≤ most) pair (map (λ h. let q : ℕ × ℕ = (h, of h) in q) gs) (small g) (all_counted most of small gs)

-- a step adds one at most to each count
pub next_up_to : (most : ℕ) (nodes : List Node) (pairs : List (ℕ × ℕ)) (c : ℕ) → AreCountsUpTo most pairs → AreCountsUpTo (most + 1) (pairs_next nodes pairs c)
next_up_to most nodes pairs c all =
    let last : ℕ × ℕ = (c, entry_next nodes pairs c) in
    All-append (λ (p : ℕ × ℕ). p.1 ≤ most + 1) (map (λ g. let pair : ℕ × ℕ = (g, group_next pairs c g) in pair) (reverse (groups_round nodes c))) (last ∷ [])
    (all_counted (most + 1) (group_next pairs c) (λ g. group_up_to most pairs c g all) (reverse (groups_round nodes c)))
    (All-cons (λ (p : ℕ × ℕ). p.1 ≤ most + 1) last [] (entry_up_to most nodes pairs c all) (All-nil (λ (p : ℕ × ℕ). p.1 ≤ most + 1)))

-- counts that are up to a number are up to a greater one
pub counts_weaker : (most more : ℕ) (pairs : List (ℕ × ℕ)) → most ≤ more → AreCountsUpTo most pairs → AreCountsUpTo more pairs
counts_weaker most more pairs greater all = All-weaker (λ (p : ℕ × ℕ). p.1 ≤ most) (λ (p : ℕ × ℕ). p.1 ≤ more) (λ p below. omega (arith, below, greater)) pairs all
