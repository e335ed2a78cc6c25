use Rattle.std.proofs.Common.{◌≡◌, ℕ, ◌+◌, ◌-◌, ◌*◌, ◌^◌, ◌<◌, ◌≤◌, List, ◌++◌, length, take, sum_by, sym, ap, ◌∙◌, subst, append_assoc, arith}
use Rattle.std.proofs.lemmas.List.{length-append}
use Rattle.std.proofs.lemmas.List.Sums.{sum_by-append}
use Rattle.seq_tree.specs.Marks.{IsAfter, IsNextLeaf}
use Rattle.seq_tree.specs.declared.marks.Front.{Front}
use Rattle.seq_tree.proofs.Ranges.{drop_right, take_right}

-- a leaf that is found past the first items is found from them on
pub next_after : {T : Type 0} (w m : T → ℕ) (rank : ℕ) (old mid : Front) (xs ys : List T) (new : Front) (leaf rest : List T) → IsAfter w m old mid xs → IsNextLeaf w m rank mid ys new leaf rest → IsNextLeaf w m rank old (xs ++ ys) new leaf rest
next_after w m rank old mid xs ys new leaf rest passed found =
    let j : ℕ = new.items - mid.items in
    let far : new.items - old.items ≡ length xs + j = omega (arith, passed.items, found.on) in
    let front : take (new.items - old.items) (xs ++ ys) ≡ xs ++ take j ys = take_right xs ys (new.items - old.items) j far in
    let count : length (take (new.items - old.items) (xs ++ ys)) ≡ length xs + length (take j ys) = ap length front ∙ length-append xs (take j ys) in
    let weight : sum_by w (take (new.items - old.items) (xs ++ ys)) ≡ sum_by w xs + sum_by w (take j ys) = ap (sum_by w) front ∙ sum_by-append w xs (take j ys) in
    let marks : sum_by m (take (new.items - old.items) (xs ++ ys)) ≡ sum_by m xs + sum_by m (take j ys) = ap (sum_by m) front ∙ sum_by-append m xs (take j ys) in
    record {
      on = omega (arith, passed.items, found.on);
      after = record {
        items = omega (arith, count, passed.items, found.after.items);
        weight = omega (arith, weight, passed.weight, found.after.weight);
        marks = omega (arith, marks, passed.marks, found.after.marks);
      };
      items = drop_right xs ys (new.items - old.items) j far ∙ found.items;
      low = found.low;
      there = found.there;
      light = found.light;
    }

-- the same where the first items are the left ones of a tree
pub next_after_left : {T : Type 0} (w m : T → ℕ) (rank : ℕ) (old mid : Front) (all xs zs ys : List T) (new : Front) (leaf rest : List T) → all ≡ xs ++ zs → IsAfter w m old mid xs → IsNextLeaf w m rank mid (zs ++ ys) new leaf rest → IsNextLeaf w m rank old (all ++ ys) new leaf rest
next_after_left w m rank old mid all xs zs ys new leaf rest same passed found =
    subst (λ whole. IsNextLeaf w m rank old whole new leaf rest) (sym (ap (λ front. front ++ ys) same ∙ append_assoc xs zs ys))
    (next_after w m rank old mid xs (zs ++ ys) new leaf rest passed found)

-- from `old` on, items were passed that are before the marked item before which `rank` are marked: a leaf found among the others is found
pub record IsPassing {T : Type 0} (w m : T → ℕ) (rank : ℕ) (old : Front) (all : List T) (now : Front) (ys : List T) : Type 0 where
  pub low : now.marks ≤ rank
  pub within : rank < now.marks + sum_by m ys
  pub few : now.items + length ys < 2 ^ 32
  pub fits : now.marks + sum_by m ys < 2 ^ 32
  pub light : now.weight ≤ 4294967295 * now.items
  pub shorter : length ys ≤ length all
  pub found : (new : Front) (leaf rest : List T) → IsNextLeaf w m rank now ys new leaf rest → IsNextLeaf w m rank old all new leaf rest

-- one more tree is passed
pub passed_more : {T : Type 0} (w m : T → ℕ) (rank : ℕ) (old : Front) (all : List T) (now next : Front) (ys xs zs : List T) → IsPassing w m rank old all now ys → ys ≡ xs ++ zs → IsAfter w m now next xs → sum_by m xs ≤ rank - now.marks → next.weight ≤ 4294967295 * next.items → IsPassing w m rank old all next zs
passed_more w m rank old all now next ys xs zs passing same after past light =
    let count : length ys ≡ length xs + length zs = ap length same ∙ length-append xs zs in
    let marks : sum_by m ys ≡ sum_by m xs + sum_by m zs = ap (sum_by m) same ∙ sum_by-append m xs zs in
    record {
      low = omega (arith, passing.low, after.marks, past);
      within = omega (arith, passing.within, marks, after.marks);
      few = omega (arith, passing.few, count, after.items);
      fits = omega (arith, passing.fits, marks, after.marks);
      light = light;
      shorter = omega (arith, passing.shorter, count);
      found = λ new leaf rest is.
          passing.found new leaf rest
          (subst (λ whole. IsNextLeaf w m rank now whole new leaf rest) (sym same) (next_after w m rank now next xs zs new leaf rest after is));
    }
