-- Decimal numbers as values: none is empty.
use Rattle.std.proofs.Common.{◌≡◌, ℕ, zero, suc, ◌%◌, ◌/◌, Bool, true, false, cond, List, [], ◌∷◌, length, arith}
use Rattle.std.specs.Prelude.{decimal, ◌==◌}
use Rattle.std.specs.Fmt.{digits, digits_onto, digit_glyph}
use Rattle.std.proofs.lemmas.Bool.{ne_eqb}
use Rattle.contrl_segments.specs.Written.{is_empty_value}

cons-some : (x : ℕ) (xs : List ℕ) → is_empty_value (x ∷ xs) ≡ false
cons-some x xs = ne_eqb (suc (length xs)) 0 (λ same. omega arith)

either_some : (b : Bool) (x : ℕ) (xs zs : List ℕ) → is_empty_value zs ≡ false → is_empty_value (cond b (x ∷ xs) zs) ≡ false
either_some true x xs zs some = cons-some x xs
either_some false x xs zs some = some

digits_onto-some : (k n x : ℕ) (acc : List ℕ) → is_empty_value (digits_onto k 10 false n (x ∷ acc)) ≡ false
digits_onto-some zero n x acc = cons-some x acc
digits_onto-some (suc k) n x acc =
    let d = digit_glyph false (n % 10) in
    either_some (n / 10 == 0) d (x ∷ acc) (digits_onto k 10 false (n / 10) (d ∷ x ∷ acc)) (digits_onto-some k (n / 10) d (x ∷ acc))

pub decimal-some : (n : ℕ) → is_empty_value (decimal n) ≡ false
unfolding digits
decimal-some n =
    let d = digit_glyph false (n % 10) in
    either_some (n / 10 == 0) d [] (digits_onto 63 10 false (n / 10) (d ∷ [])) (digits_onto-some 63 (n / 10) d [])
