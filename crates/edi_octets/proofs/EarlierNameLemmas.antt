-- Words, by what is known of them.
use Rattle.std.proofs.Common.{◌≡◌, ℕ, Bool, ◌||◌, List, [], ◌∷◌, map, Decides, refl, sym, ap}
use Rattle.std.specs.List.{list_any}
use Rattle.std.specs.Str.{bytes_eq}
use Rattle.std.proofs.lemmas.Bool.Decides.{same_from_decides}
use Rattle.std.proofs.lemmas.Slice.Eq.{bytes_eq-Decides}

module _ {X Y : Type 0} (p : Y → Bool) (h : X → Y) where
  -- a test of what h gives
  pub list_any-map : (xs : List X) → list_any p (map h xs) ≡ list_any (λ x. p (h x)) xs
  list_any-map [] = refl
  list_any-map (x ∷ xs) = ap (λ later. p (h x) || later) (list_any-map xs)

-- two words are the same, whichever is named first
pub bytes_eq-flip : (xs ys : List ℕ) → bytes_eq xs ys ≡ bytes_eq ys xs
bytes_eq-flip xs ys =
    let there : Decides (bytes_eq xs ys) (xs ≡ ys) = bytes_eq-Decides xs ys in
    let back : Decides (bytes_eq ys xs) (ys ≡ xs) = bytes_eq-Decides ys xs in
    same_from_decides (bytes_eq xs ys) (bytes_eq ys xs) there (λ found. sym (back.0 found), λ same. back.1 (sym same))
