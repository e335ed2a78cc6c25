use Rattle.std.proofs.Common.{◌≡◌, ℕ, ◌+◌, ◌-◌, ◌<◌, ◌≤◌, List, length, take, drop, slice_range, slice_index, get_or, refl, sym, ◌∙◌, ap, arith, length-take, length-drop}
use Rattle.std.proofs.lemmas.List.{take_all, take-take, drop-drop, drop-take, get_or-take, get_or-drop}

-- how long a range is
pub range_len : (xs : List ℕ) (a b : ℕ) → b ≤ length xs → length (slice_range xs a b) ≡ b - a
range_len xs a b within = rw (length-take, length-drop) (omega arith)

-- the range of all
pub range_all : (xs : List ℕ) (n : ℕ) → n ≡ length xs → slice_range xs 0 n ≡ xs
range_all xs n all = take_all (n - 0) xs (omega arith)

-- a range of a range
pub range_part : (xs : List ℕ) (a b i j : ℕ) → i ≤ j → a + j ≤ b → slice_range (slice_range xs a b) i j ≡ slice_range xs (a + i) (a + j)
range_part xs a b i j in_order within =
    let rest : b - a ≡ i + (b - a - i) = omega arith in
    let count : a + j - (a + i) ≡ j - i = omega arith in
    rw (rest, drop-take i (b - a - i) (drop a xs), take-take (j - i) (b - a - i) (drop i (drop a xs)) (omega arith), drop-drop i a xs, count) refl

-- the first of a range that isn't empty
pub range_first : (xs : List ℕ) (a b : ℕ) → a < b → slice_index (slice_range xs a b) 0 ≡ slice_index xs a
range_first xs a b some = get_or-take (b - a) (drop a xs) 0 0 (omega arith) ∙ get_or-drop a xs 0 0 ∙ ap (λ k. get_or xs k 0) (omega arith)

-- a place within a range is within the list, counted from the range's beginning
pub part_end : (xs ys : List ℕ) (a b j : ℕ) → slice_range xs a b ≡ ys → b ≤ length xs → a ≤ b → j ≤ length ys → a + j ≤ b
part_end xs ys a b j e within in_order short =
    let count : length ys ≡ b - a = sym (ap length e) ∙ range_len xs a b within in
    omega arith

-- the first of the octets from a place on are a range of the range that begins before it
pub part_of_rest : (xs rest : List ℕ) (a b i n : ℕ) → rest ≡ slice_range xs (a + i) (a + i + length rest) → n ≤ length rest → i + n ≤ b - a → a ≤ b → take n rest ≡ slice_range (slice_range xs a b) i (i + length (take n rest))
part_of_rest xs rest a b i n e short within in_order =
    let taken : length (take n rest) ≡ n = length-take n rest ∙ omega arith in
    let all : a + i + length rest - (a + i) ≡ length rest = omega arith in
    let count : a + (i + n) - (a + i) ≡ n = omega arith in
    let left : take n rest ≡ take n (drop (a + i) xs) = ap (λ zs. take n zs) (rw all at e) ∙ take-take n (length rest) (drop (a + i) xs) short in
    let right : slice_range (slice_range xs a b) i (i + n) ≡ take n (drop (a + i) xs) = rw count at (range_part xs a b i (i + n) (omega arith) (omega arith)) in
    rw taken (left ∙ sym right)
