-- For bodies and their invariants: what lies before a leaf on the way to the marked items of a list.
use Rattle.std.specs.Prelude.{◌≡◌, ℕ, ◌+◌, ◌-◌, ◌*◌, ◌^◌, ◌<◌, ◌≤◌, Option, Some, None, List, [], ◌++◌, length, take, drop, sum_by}
use Rattle.std.specs.Borrow.{Bor}
use Rattle.seq_tree.specs.declared.marks.Front.{Front}

-- what lies before a place, and then these items
pub record IsAfter {T : Type 0} (weight_of marks_of : T → ℕ) (old new : Front) (xs : List T) : Type 0 where
  pub items : new.items ≡ old.items + length xs
  pub weight : new.weight ≡ old.weight + sum_by weight_of xs
  pub marks : new.marks ≡ old.marks + sum_by marks_of xs

-- among items before which `old` lies there is a leaf with the marked item before which `rank` are marked: `new` lies
-- before it, and `rest` comes after it
pub record IsNextLeaf {T : Type 0} (weight_of marks_of : T → ℕ) (rank : ℕ) (old : Front) (xs : List T)
    (new : Front) (leaf rest : List T) : Type 0 where
  pub on : old.items ≤ new.items
  pub after : IsAfter weight_of marks_of old new (take (new.items - old.items) xs)
  pub items : drop (new.items - old.items) xs ≡ leaf ++ rest
  pub low : new.marks ≤ rank
  pub there : rank < new.marks + sum_by marks_of leaf
  pub light : new.weight ≤ 4294967295 * new.items

-- the items of the leaf that a way has come to
abbrev pub leaf_items : {T : Type 0} → Option (Bor (List T)) → List T
leaf_items None = []
leaf_items (Some leaf) = leaf.now

-- a way through the items of a sequence is at a leaf, and then come the others: `before` lies before the leaf, and
-- `past` before the others
pub record IsWayThrough {T : Type 0} (weight_of marks_of : T → ℕ) (xs : List T) (before : Front) (leaf : List T)
    (past : Front) (others : List T) : Type 0 where
  pub items : drop before.items xs ≡ leaf ++ others
  pub inside : before.items + length leaf + length others ≡ length xs
  pub weight : before.weight ≡ sum_by weight_of (take before.items xs)
  pub marks : before.marks ≡ sum_by marks_of (take before.items xs)
  pub after : IsAfter weight_of marks_of before past leaf
  pub few : length xs < 2 ^ 32
  pub light : before.weight ≤ 4294967295 * before.items
  pub light_past : past.weight ≤ 4294967295 * past.items
