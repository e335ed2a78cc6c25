-- The numbers that the places of edits come from, and what a pair of edits puts and cuts.
use Rattle.std.proofs.Common.{◌≡◌, ◌+◌, ◌-◌, ◌/◌, ◌%◌, ◌≤◌, ◌⊎◌, ◌==◌, ℕ, true, false, if◌then◌else◌, [], length, codes, refl, sym, ap, ◌∙◌, ⊎_elim, arith, add-one}
use Rattle.drill_maker.specs.Edit.{cut_of, number_after, number_at, octets_of_pair, edit_place_of, put_of}

pub number_first : (x : ℕ) → x ≡ number_at x 0
unfolding number_at
number_first x = refl

pub number_next : (x p y : ℕ) → y ≡ number_at x p → number_after y ≡ number_at x (p + 1)
unfolding number_at
number_next x p y is = rw (add-one) (ap number_after is)

parity : (j : ℕ) → (j % 2 ≡ 0) ⊎ (j % 2 ≡ 1)
parity j = grind arith

inside : (y long cut : ℕ) → cut ≤ long → y % (long - cut + 1) + cut ≤ long
inside y long cut room = omega arith

even_first : (j : ℕ) → j % 2 ≡ 0 → (put_of j ≡ octets_of_pair (j / 2)) × (cut_of j ≡ 0)
even_first j even = rw even (refl, refl)

odd_second : (j : ℕ) → j % 2 ≡ 1 → (put_of j ≡ []) × (cut_of j ≡ length (octets_of_pair (j / 2)))
odd_second j odd = rw odd (refl, refl)

put_cut_even : (j : ℕ) → j % 2 ≡ 0 → length (put_of j) ≡ cut_of (j + 1)
put_cut_even j even =
    let pair : (j + 1) / 2 ≡ j / 2 = omega arith in
    let odd : (j + 1) % 2 ≡ 1 = omega arith in
    ap length (even_first j even).0 ∙ sym (ap (λ p. length (octets_of_pair p)) pair) ∙ sym (odd_second (j + 1) odd).1

put_cut_odd : (j : ℕ) → j % 2 ≡ 1 → length (put_of j) ≡ cut_of (j + 1)
put_cut_odd j odd =
    let even : (j + 1) % 2 ≡ 0 = omega arith in
    ap length (odd_second j odd).0 ∙ sym (even_first (j + 1) even).1

-- an edit cuts as many octets as the edit before it put
pub put_cut : (j : ℕ) → length (put_of j) ≡ cut_of (j + 1)
put_cut j = ⊎_elim (put_cut_even j) (put_cut_odd j) (parity j)

pair_few : (p : ℕ) → length (octets_of_pair p) ≤ 9
pair_few p = elim (p % 2 == 0) as (λ b. length (if b then codes "?" else codes "QTY+21:5'") ≤ 9) [ true ↦ omega arith | false ↦ omega arith ]

-- it cuts few
pub cut_few : (j : ℕ) → cut_of j ≤ 9
cut_few j = elim (j % 2 == 0) as (λ b. (if b then 0 else length (octets_of_pair (j / 2))) ≤ 9) [ true ↦ omega arith | false ↦ pair_few (j / 2) ]

-- it is inside a text that has what it cuts
pub place_within : (j x long : ℕ) → cut_of j ≤ long → edit_place_of j x long + cut_of j ≤ long
place_within j x long room = inside (number_at x (j / 2 + 1)) long (cut_of j) room
