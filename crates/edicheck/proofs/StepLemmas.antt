-- Places after several octets: after parts of a command's line.
use Rattle.std.proofs.Common.{◌≡◌, ◌+◌, ◌*◌, ◌/◌, ◌%◌, ◌^◌, ◌<◌, ◌≤◌, ◌++◌, ℕ, zero, suc, true, false, List, [], ◌∷◌, length, Some, None, ⊎_elim, refl, ap, ◌∙◌, arith, decimal, length-append}
use Rattle.std.specs.Char.{is_ascii_digit}
use Rattle.std.proofs.lemmas.Bool.{cases_lt}
use Rattle.std.proofs.lemmas.Fmt.{decimal_digit, decimal_step}
use Rattle.std.proofs.lemmas.Grind.{common_steps}
use Rattle.edicheck.specs.declared.place.Place.{Place}
use Rattle.edicheck.specs.declared.place.Place.TheVariants.{Name, At, Cut, Size, Put, Line}
use Rattle.edicheck.specs.Place.{next_place, place_after, longer}
use Rattle.edicheck.proofs.PlaceLemmas.{after_puts}

-- first these, then those
pub after-append : (place : Place) (xs ys : List ℕ) → place_after place (xs ++ ys) ≡ place_after (place_after place xs) ys
after-append place [] ys = refl
after-append place (x ∷ xs) ys = after-append (next_place place x) xs ys

-- ---- numbers: each digit leads on from what the digits before it told

after_number : (start : Place) (told : ℕ → Place) → ((d : ℕ) → d < 10 → next_place start (48 + d) ≡ told d) → ((m d : ℕ) → d < 10 → m * 10 + d < 2 ^ 64 → next_place (told m) (48 + d) ≡ told (m * 10 + d)) → (most n : ℕ) → n ≤ most → n < 2 ^ 64 → place_after start (decimal n) ≡ told n
after_number start told first next zero n few fits =
    let small : n < 10 = omega arith in
    ap (place_after start) (decimal_digit n small) ∙ first n small
after_number start told first next (suc most) n few fits =
    ⊎_elim
    (λ (small : n < 10). ap (place_after start) (decimal_digit n small) ∙ first n small)
    (λ (large : 10 ≤ n).
    let front : place_after start (decimal (n / 10)) ≡ told (n / 10) = after_number start told first next most (n / 10) (omega arith) (omega arith) in
    let last = next (n / 10) (n % 10) (omega arith) (omega arith) in
    let same : n / 10 * 10 + n % 10 ≡ n = omega arith in
    ap (place_after start) (decimal_step n large fits)
    ∙ after-append start (decimal (n / 10)) ((48 + n % 10) ∷ [])
    ∙ ap (λ (p : Place). next_place p (48 + n % 10)) front
    ∙ last ∙ ap told same)
    (cases_lt n 10)

-- a digit is one
digit_is : (d : ℕ) → d < 10 → is_ascii_digit (48 + d) ≡ true
digit_is d few = grind (arith, common_steps)

pub after_at : (n : ℕ) → n < 2 ^ 64 → place_after (At false) (decimal n) ≡ At true
after_at n fits = after_number (At false) (λ _. At true) (λ d few. rw (digit_is d few) refl) (λ m d few _. rw (digit_is d few) refl) n n (omega arith) fits

pub after_cut : (n : ℕ) → n < 2 ^ 64 → place_after (Cut false) (decimal n) ≡ Cut true
after_cut n fits = after_number (Cut false) (λ _. Cut true) (λ d few. rw (digit_is d few) refl) (λ m d few _. rw (digit_is d few) refl) n n (omega arith) fits

longer_first : (d : ℕ) → d < 10 → longer None (48 + d) ≡ d
longer_first d few = omega arith

longer_next : (m d : ℕ) → d < 10 → m * 10 + d < 2 ^ 64 → longer (Some m) (48 + d) ≡ m * 10 + d
longer_next m d few fits = omega arith

pub after_size : (n : ℕ) → n < 2 ^ 64 → place_after (Size None) (decimal n) ≡ Size (Some n)
after_size n fits =
    after_number (Size None) (λ m. Size (Some m))
    (λ d few. rw (digit_is d few) (ap (λ (m : ℕ). Size (Some m)) (longer_first d few)))
    (λ m d few within. rw (digit_is d few) (ap (λ (k : ℕ). Size (Some k)) (longer_next m d few within))) n n (omega arith) fits

pub after_count : (n : ℕ) → n < 2 ^ 64 → place_after (Line 0) (decimal n) ≡ Line 0
after_count n fits = after_number (Line 0) (λ _. Line 0) (λ d few. not_ended d few) (λ m d few _. not_ended d few) n n (omega arith) fits
  where
    not_ended : (d : ℕ) → d < 10 → next_place (Line 0) (48 + d) ≡ Line 0
    not_ended d few = grind (arith, common_steps)

-- ---- what a `replace` puts, and the LF after it

pub after_data : (put : List ℕ) → place_after (Put (length put + 1)) (put ++ 10 ∷ []) ≡ Name 0
after_data put =
    let xs : List ℕ = put ++ 10 ∷ [] in
    let long : length xs ≡ length put + 1 = length-append put (10 ∷ []) in
    let all = after_puts (length put + 1) xs (omega arith) (omega arith) in
    grind (arith, common_steps, all, long)
