use Rattle.std.proofs.Common.{◌≡◌, ℕ, ◌%◌, ◌<◌, ◌≤◌, List, [], ◌∷◌, take, sum, insert, refl, lit<, lit≤}
use Rattle.seq_tree.specs.Items.{IsMarkedPlace}

-- the items 5, 6, 7, each of which weighs itself
abbrev row : List ℕ
row = 5 ∷ 6 ∷ 7 ∷ []

-- the first two weigh 11
pub before_two : sum (take 2 row) ≡ 11
before_two = refl

-- the place of weight 5 is 1: the first item weighs no more than that, the first two do
pub find_five : (sum (take 1 row) ≤ 5) × (5 < sum (take 2 row))
find_five = (lit≤ tt, lit< tt)

-- an item put at the end
pub insert_last : insert row 3 8 ≡ 5 ∷ 6 ∷ 7 ∷ 8 ∷ []
insert_last = refl

-- an odd item is marked
abbrev odd : ℕ → ℕ
odd n = n % 2

-- one odd item is before 7, which is the second
pub second_odd : IsMarkedPlace odd row 1 2
second_odd = record { inside = lit< tt; rank = refl; marked = refl }
