use Rattle.std.proofs.Common.{◌≡◌, ℕ, ◌+◌, ◌-◌, ◌*◌, ◌≤◌, List, ◌++◌, length, take, drop, sum_by, refl, sym, ap, ◌∙◌, take-add, drop-drop, arith}
use Rattle.std.proofs.lemmas.List.{length-append, length-drop, length-take, take-append-le}
use Rattle.std.proofs.lemmas.List.Sums.{sum_by-append, sum_by-take-drop}
use Rattle.seq_tree.specs.Marks.{IsAfter, IsNextLeaf, IsWayThrough}
use Rattle.seq_tree.specs.declared.marks.Front.{Front}
use Rattle.seq_tree.proofs.Passing.{next_after}

-- the sums up to a place are those up to an earlier one and those between
pub sum_to : {T : Type 0} (f : T → ℕ) (xs : List T) (a n i : ℕ) → n ≡ a + i → sum_by f (take n xs) ≡ sum_by f (take a xs) + sum_by f (take i (drop a xs))
sum_to f xs a n i e = rw e (ap (sum_by f) (take-add a i xs) ∙ sum_by-append f (take a xs) (take i (drop a xs)))

-- up to an item of the leaf
pub sum_in_leaf : {T : Type 0} (f : T → ℕ) (xs leaf rest : List T) (a i : ℕ) → drop a xs ≡ leaf ++ rest → i ≤ length leaf → sum_by f (take (a + i) xs) ≡ sum_by f (take a xs) + sum_by f (take i leaf)
sum_in_leaf f xs leaf rest a i here within =
    sum_to f xs a (a + i) i refl
    ∙ ap (λ front. sum_by f (take a xs) + sum_by f front) (ap (take i) here ∙ take-append-le i leaf rest within)

-- how many items are marked in all
pub through_all : {T : Type 0} (w m : T → ℕ) (xs : List T) (before : Front) (leaf : List T) (after : Front) (rest : List T) → IsWayThrough w m xs before leaf after rest → sum_by m xs ≡ after.marks + sum_by m rest
through_all w m xs before leaf after rest way =
    let parts : sum_by m xs ≡ sum_by m (take before.items xs) + sum_by m (drop before.items xs) =
    sym (sum_by-take-drop m xs before.items) in
    let later : sum_by m (drop before.items xs) ≡ sum_by m leaf + sum_by m rest = ap (sum_by m) way.items ∙ sum_by-append m leaf rest in
    omega (arith, parts, later, way.marks, way.after.marks)

-- at the next leaf the way is through the same items
pub through_next : {T : Type 0} (w m : T → ℕ) (rank : ℕ) (xs : List T) (before : Front) (leaf : List T) (mid : Front) (rest : List T) (new : Front) (next : List T) (after : Front) (others : List T) → IsWayThrough w m xs before leaf mid rest → IsNextLeaf w m rank mid rest new next others → IsAfter w m new after next → after.weight ≤ 4294967295 * after.items → IsWayThrough w m xs new next after others
through_next w m rank xs before leaf mid rest new next after others way found behind light =
    let whole = next_after w m rank before mid leaf rest new next others way.after found in
    let i : ℕ = new.items - before.items in
    let far : new.items ≡ before.items + i = omega (arith, whole.on) in
    let to_come : take i (drop before.items xs) ≡ take i (leaf ++ rest) = ap (take i) way.items in
    let weight : sum_by w (take new.items xs) ≡ sum_by w (take before.items xs) + sum_by w (take i (leaf ++ rest)) =
    sum_to w xs before.items new.items i far ∙ ap (λ front. sum_by w (take before.items xs) + sum_by w front) to_come in
    let marks : sum_by m (take new.items xs) ≡ sum_by m (take before.items xs) + sum_by m (take i (leaf ++ rest)) =
    sum_to m xs before.items new.items i far ∙ ap (λ front. sum_by m (take before.items xs) + sum_by m front) to_come in
    let items : drop new.items xs ≡ next ++ others =
    ap (λ j. drop j xs) (far ∙ (omega arith)) ∙ sym (drop-drop i before.items xs) ∙ ap (drop i) way.items ∙ whole.items in
    let count : length (take i (leaf ++ rest)) ≡ i = omega (arith, whole.after.items, whole.on) in
    let short : length (take i (leaf ++ rest)) ≤ length (leaf ++ rest) = omega (arith, length-take i (leaf ++ rest)) in
    let both : length (leaf ++ rest) ≡ length leaf + length rest = length-append leaf rest in
    let left : length (drop i (leaf ++ rest)) ≡ length (leaf ++ rest) - i = length-drop i (leaf ++ rest) in
    let left_too : length (drop i (leaf ++ rest)) ≡ length next + length others = ap length whole.items ∙ length-append next others in
    record {
      items = items;
      inside = omega (arith, count, short, both, left, left_too, far, way.inside);
      weight = omega (arith, weight, whole.after.weight, way.weight);
      marks = omega (arith, marks, whole.after.marks, way.marks);
      after = behind;
      few = way.few;
      light = whole.light;
      light_past = light;
    }
