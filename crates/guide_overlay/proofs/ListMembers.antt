-- Members of lists of numbers: of a range, of what passes a test, and of what is made.
use Rattle.std.proofs.Common.{◌≡◌, ℕ, zero, suc, ◌+◌, ◌-◌, ◌<◌, ◌≤◌, Bool, true, List, [], ◌∷◌, map, length, refl, ap, ◌∙◌, ⊎_elim, arith}
use Rattle.std.specs.Prelude.{Contains, filter}
use Rattle.std.specs.List.{list_any, range_with_len}
use Rattle.std.proofs.lemmas.Bool.{false≢true, or_cases, or_left, or_right}
use Rattle.std.proofs.lemmas.List.{get_or-map, length-map}
use Rattle.std.proofs.lemmas.List.Elements.{All-contains, All-contains_itself, All-filter, filter_passes}
use Rattle.std.proofs.lemmas.List.FromFn.{length-range_with_len, get_or-range_with_len}
use Rattle.edi_tables.proofs.Places.{kept}

pub in_head : (x y : ℕ) (xs : List ℕ) → x ≡ y → Contains (x ∷ xs) y
in_head x y xs same = (0, omega arith, same)

pub in_tail : (x y : ℕ) (xs : List ℕ) → Contains xs y → Contains (x ∷ xs) y
in_tail x y xs found = (suc found.0, omega (arith, found.1), found.2)

-- a member of a range
pub in_range : (a n k : ℕ) → a ≤ k → k < a + n → Contains (range_with_len a n) k
in_range a n k low high =
    let within : k - a < n = omega arith in
    let sum : a + (k - a) ≡ k = omega arith in
    (k - a, omega (arith, length-range_with_len a n), get_or-range_with_len a n (k - a) k within ∙ sum)

pub of_range : (a n k : ℕ) → Contains (range_with_len a n) k → (a ≤ k) × (k < a + n)
of_range a n k found =
    let within : found.0 < n = omega (arith, found.1, length-range_with_len a n) in
    let at = get_or-range_with_len a n found.0 k within in
    (omega (arith, at, found.2), omega (arith, at, found.2))

-- what is made of a member is a member of what is made
pub in_map : (made : ℕ → ℕ) (xs : List ℕ) (x : ℕ) → Contains xs x → Contains (map made xs) (made x)
in_map made xs x found = (found.0, omega (arith, found.1, length-map xs made), get_or-map made xs found.0 x (made x) found.1 ∙ ap made found.2)

-- the members of what passes a test are the members that pass
pub in_filter : (p : ℕ → Bool) (xs : List ℕ) (x : ℕ) → Contains xs x → p x ≡ true → Contains (filter p xs) x
in_filter p xs x found passes = kept p xs x found.0 found.1 found.2 passes

pub of_filter : (p : ℕ → Bool) (xs : List ℕ) (x : ℕ) → Contains (filter p xs) x → Contains xs x × (p x ≡ true)
of_filter p xs x found = (
  All-contains (Contains xs) (filter p xs) x (All-filter p (Contains xs) xs (All-contains_itself xs)) found,
  All-contains (λ y. p y ≡ true) (filter p xs) x (filter_passes p xs) found,
)

-- a list without a member has none
pub none_in : (xs : List ℕ) → ((x : ℕ) → Contains xs x → ⊥) → xs ≡ []
none_in [] none = refl
none_in (x ∷ xs) none = absurd (none x (in_head x x xs refl))

pub not_in : (xs : List ℕ) (x : ℕ) → xs ≡ [] → Contains xs x → ⊥
not_in xs x none found = let few : length xs ≡ 0 = ap length none in omega (arith, found.1)

-- a member that passes, where some do
pub any_found : (p : ℕ → Bool) (xs : List ℕ) → list_any p xs ≡ true → (x : ℕ) × Contains xs x × (p x ≡ true)
any_found p [] some = absurd (false≢true some)
any_found p (x ∷ xs) some = ⊎_elim
    (λ here. (x, in_head x x xs refl, here))
    (λ later. let found = any_found p xs later in (found.0, in_tail x found.0 xs found.1, found.2))
    (or_cases (p x) (list_any p xs) some)

pub any_member : (p : ℕ → Bool) (xs : List ℕ) (x : ℕ) → Contains xs x → p x ≡ true → list_any p xs ≡ true
any_member p [] x found passes = absurd (omega (arith, found.1))
any_member p (y ∷ xs) x (zero, within, is) passes = or_left (p y) (list_any p xs) (ap p is ∙ passes)
any_member p (y ∷ xs) x (suc k, within, is) passes = or_right (p y) (list_any p xs) (any_member p xs x (k, omega (arith, within), is) passes)
