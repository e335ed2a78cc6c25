-- Places after one octet, and after octets that are put.
use Rattle.std.proofs.Common.{◌≡◌, ◌-◌, ◌<◌, ◌≤◌, ℕ, List, [], ◌∷◌, length, take, refl, arith}
use Rattle.std.specs.Prelude.{slice_index, max}
use Rattle.std.proofs.lemmas.Grind.{common_steps}
use Rattle.edicheck.specs.declared.place.Place.{Place}
use Rattle.edicheck.specs.declared.place.Place.TheVariants.{Put}
use Rattle.edicheck.specs.Place.{next_place, place_after, place_after_put}

-- one octet
pub after_one : (place : Place) (xs : List ℕ) → 0 < length xs → place_after place (take 1 xs) ≡ next_place place (slice_index xs 0)
after_one place [] some = absurd (omega arith)
after_one place (x ∷ xs) some = refl

-- octets that are put, one after the other and all at once
pub after_puts : (due : ℕ) (xs : List ℕ) → 0 < length xs → length xs ≤ max due 1 → place_after (Put due) xs ≡ place_after_put (Put due) (length xs)
after_puts due [] some few = absurd (omega arith)
after_puts due (x ∷ []) some few = refl
after_puts due (x ∷ y ∷ ys) some few =
    let more : 1 < due = omega arith in
    let rest = after_puts (due - 1) (y ∷ ys) (omega arith) (omega arith) in
    grind (arith, common_steps, rest)
