-- A text read forwards: one octet after another, with one flag, that the next octet is released.
use Rattle.std.proofs.Common.{◌≡◌, ℕ, zero, suc, ◌+◌, ◌-◌, ◌<◌, ◌≤◌, Bool, true, false, not, ◌&&◌, cond, List, [], ◌∷◌, ◌++◌, length, get_or, take, drop, Option, refl, sym, ap, ◌∙◌, arith}
use Rattle.std.specs.Prelude.{map}
use Rattle.std.specs.List.{filter, list_any, range_with_len}
use Rattle.std.proofs.lemmas.Bool.{and_from, and_left, and_right, cond_both, or_parts}
use Rattle.std.proofs.lemmas.List.{drop_more, take_more, take_all}
use Rattle.seg_lexer.specs.Released.{is_release, is_released, is_releasing, value_of}
use Rattle.seg_lexer.specs.Stretch.{places_that}
use Rattle.seg_lexer.specs.Scan.{released_after, releases}
use Rattle.seg_lexer.proofs.PlacesLemmas.{map-cond}
use Rattle.seg_lexer.proofs.ReleasedLemmas.{is_released-more, is_released-start}

pub released_after-append : (release : Option ℕ) (b : Bool) (xs ys : List ℕ) → released_after release b (xs ++ ys) ≡ released_after release (released_after release b xs) ys
released_after-append release b [] ys = refl
released_after-append release b (x ∷ xs) ys = released_after-append release (releases release b x) xs ys

-- one octet more
pub released_after-more : (release : Option ℕ) (b : Bool) (xs : List ℕ) (i : ℕ) → i < length xs → released_after release b (take (i + 1) xs) ≡ releases release (released_after release b (take i xs)) (get_or xs i 0)
released_after-more release b xs i below =
    ap (released_after release b) (take_more xs i 0 below) ∙ released_after-append release b (take i xs) (get_or xs i 0 ∷ [])

-- the flag after n octets of a text says whether the next one is released
pub after-is : (release : Option ℕ) (text : List ℕ) (a i n : ℕ) → a ≤ i → i + n ≤ length text → released_after release (is_released release text a i) (take n (drop i text)) ≡ is_released release text a (i + n)
after-is release text a i zero low within = let none : i + zero ≡ i = omega arith in sym (ap (is_released release text a) none)
after-is release text a i (suc n) low within =
    let next : i + 1 + n ≡ i + suc n = omega arith in
    ap (λ zs. released_after release (is_released release text a i) (take (suc n) zs)) (drop_more text i 0 (omega arith))
    ∙ (ap (λ b. released_after release b (take n (drop (i + 1) text))) (sym (is_released-more release text a i low (omega arith)))
    ∙ (after-is release text a (i + 1) n (omega arith) (omega arith) ∙ ap (is_released release text a) next))

-- octets without the unreleased release characters, where the first is released (b) or isn't
abbrev pub plain : Option ℕ → Bool → List ℕ → List ℕ
plain release b [] = []
plain release b (x ∷ xs) = cond (not (is_release release x && not b)) (x ∷ plain release (releases release b x) xs) (plain release (releases release b x) xs)

plain-is : (release : Option ℕ) (xs : List ℕ) (i n : ℕ) → i + n ≤ length xs
    → map (λ k. get_or xs k 0) (filter (λ k. not (is_releasing release xs k)) (range_with_len i n)) ≡ plain release (is_released release xs 0 i) (take n (drop i xs))
plain-is release xs i zero within = refl
plain-is release xs i (suc n) within =
    let later : List ℕ = filter (λ k. not (is_releasing release xs k)) (range_with_len (i + 1) n) in
    map-cond (λ k. get_or xs k 0) (not (is_releasing release xs i)) i later
    ∙ (ap (λ zs. cond (not (is_releasing release xs i)) (get_or xs i 0 ∷ zs) zs)
    (plain-is release xs (i + 1) n (omega arith) ∙ ap (λ b. plain release b (take n (drop (i + 1) xs))) (is_released-more release xs 0 i (omega arith) (omega arith)))
    ∙ sym (ap (λ zs. plain release (is_released release xs 0 i) (take (suc n) zs)) (drop_more xs i 0 (omega arith))))

-- the value of a component
pub value-is : (release : Option ℕ) (xs : List ℕ) → value_of release xs ≡ plain release false xs
unfolding value_of places_that
value-is release xs =
    let all : length xs - 0 ≡ length xs = omega arith in
    ap (λ (n : ℕ). map (λ k. get_or xs k 0) (filter (λ k. not (is_releasing release xs k)) (range_with_len 0 n))) all
    ∙ (plain-is release xs 0 (length xs) (omega arith)
    ∙ (ap (λ b. plain release b (take (length xs) xs)) (is_released-start release xs 0) ∙ ap (plain release false) (take_all (length xs) xs (omega arith))))

pub value_of-none : (release : Option ℕ) → value_of release [] ≡ []
value_of-none release = value-is release []

-- an octet that is no release character is kept
pub value_of-plain : (release : Option ℕ) (x : ℕ) (xs : List ℕ) → is_release release x ≡ false → value_of release (x ∷ xs) ≡ x ∷ value_of release xs
value_of-plain release x xs other =
    value-is release (x ∷ xs)
    ∙ (ap (λ (b : Bool). cond (not b) (x ∷ plain release b xs) (plain release b xs)) (and_left _ (not false) other)
    ∙ ap (λ (ys : List ℕ). x ∷ ys) (sym (value-is release xs)))

-- the octet after a release character is kept, and the release character isn't
pub value_of-release : (release : Option ℕ) (x y : ℕ) (xs : List ℕ) → is_release release x ≡ true → value_of release (x ∷ y ∷ xs) ≡ y ∷ value_of release xs
value_of-release release x y xs released =
    value-is release (x ∷ y ∷ xs)
    ∙ (ap (λ (b : Bool). cond (not b) (x ∷ plain release b (y ∷ xs)) (plain release b (y ∷ xs))) (and_from _ (not false) released refl)
    ∙ (ap (λ (b : Bool). cond (not b) (y ∷ plain release b xs) (plain release b xs)) (and_right (is_release release y) (not true) refl)
    ∙ ap (λ (ys : List ℕ). y ∷ ys) (sym (value-is release xs))))

-- a last release character isn't kept
pub value_of-last : (release : Option ℕ) (x : ℕ) → is_release release x ≡ true → value_of release (x ∷ []) ≡ []
value_of-last release x released =
    value-is release (x ∷ []) ∙ ap (λ (b : Bool). cond (not b) (x ∷ []) []) (and_from _ (not false) released refl)

length-plain : (release : Option ℕ) (b : Bool) (xs : List ℕ) → length (plain release b xs) ≤ length xs
length-plain release b [] = omega arith
length-plain release b (x ∷ xs) =
    let few = length-plain release (releases release b x) xs in
    cond_both (not (is_release release x && not b)) (x ∷ plain release (releases release b x) xs) (plain release (releases release b x) xs) (λ (ys : List ℕ). length ys ≤ suc (length xs)) (λ _. omega arith) (λ _. omega arith)

-- a value has no more octets than its component
pub length-value_of : (release : Option ℕ) (xs : List ℕ) → length (value_of release xs) ≤ length xs
length-value_of release xs =
    let few = length-plain release false xs in
    let same : length (value_of release xs) ≡ length (plain release false xs) = ap length (value-is release xs) in
    omega arith

-- a component of two octets or more has a value
pub value_of-two : (release : Option ℕ) (x y : ℕ) (xs : List ℕ) → 0 < length (value_of release (x ∷ y ∷ xs))
value_of-two release x y xs = by (is_release release x) refl
  where
    by : (b : Bool) → is_release release x ≡ b → 0 < length (value_of release (x ∷ y ∷ xs))
    by true released = let kept = ap length (value_of-release release x y xs released) in omega arith
    by false other = let kept = ap length (value_of-plain release x (y ∷ xs) other) in omega arith

-- a component without a release character is its own value
pub value_of-all : (release : Option ℕ) (xs : List ℕ) → list_any (is_release release) xs ≡ false → value_of release xs ≡ xs
value_of-all release [] none = value_of-none release
value_of-all release (x ∷ xs) none =
    let parts = or_parts (is_release release x) (list_any (is_release release) xs) none in
    value_of-plain release x xs parts.0 ∙ ap (λ (ys : List ℕ). x ∷ ys) (value_of-all release xs parts.1)
