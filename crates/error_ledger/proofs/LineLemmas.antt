-- What is put in front of a line.
use Rattle.std.proofs.Common.{◌≡◌, ℕ, ◌+◌, ◌-◌, ◌^◌, ◌<◌, ◌≤◌, List, ◌++◌, length, take, drop, replicate, decimal, sym, ap, ◌∙◌, arith, take-take, append_assoc}
use Rattle.std.proofs.Math.Seq.{take-append_seam, drop-append_seam}
use Rattle.std.proofs.lemmas.Fmt.{length-decimal-le}
use Rattle.std.proofs.lemmas.List.{take-append-drop, take-replicate, drop-replicate, drop-append-le, length-replicate, replicate-append-replicate}

-- where only spaces are in front of a place, only spaces are in front of an earlier one
pub spaces_before : (octets : List ℕ) (at place : ℕ) → place ≤ at → take at octets ≡ replicate at 32 → take place octets ≡ replicate place 32
spaces_before octets at place within spaces =
    sym (take-take place at octets within) ∙ ap (λ (xs : List ℕ). take place xs) spaces ∙ take-replicate place at 32 within

-- so that an earlier place puts spaces in front
pub spaces_in_front : (octets : List ℕ) (at spaces : ℕ) → spaces ≤ at → take at octets ≡ replicate at 32 → drop (at - spaces) octets ≡ replicate spaces 32 ++ drop at octets
spaces_in_front octets at spaces within before =
    let whole : octets ≡ replicate at 32 ++ drop at octets = sym (take-append-drop at octets) ∙ ap (λ (xs : List ℕ). xs ++ drop at octets) before in
    let fits : at - spaces ≤ length (replicate {A = ℕ} at 32) = omega (arith, length-replicate {A = ℕ} at 32) in
    let left : at - (at - spaces) ≡ spaces = omega arith in
    ap (λ (xs : List ℕ). drop (at - spaces) xs) whole
    ∙ drop-append-le (at - spaces) (replicate at 32) (drop at octets) fits
    ∙ ap (λ (xs : List ℕ). xs ++ drop at octets) (drop-replicate (at - spaces) at 32 ∙ ap (λ (k : ℕ). replicate k 32) left)

-- how many digits a number has
pub most_digits : (n : ℕ) → n < 2 ^ 32 → length (decimal n) ≤ 10
most_digits n fits = length-decimal-le 10 n (omega arith) (omega arith) (omega arith)

-- where spaces are in front of a line that begins with spaces, they are in front of its rest
pub spaces_more : (room line : List ℕ) (start spaces : ℕ) → take start room ≡ replicate start 32 → drop start room ≡ replicate spaces 32 ++ line
    → room ≡ replicate (start + spaces) 32 ++ line
spaces_more room line start spaces before rest =
    sym (take-append-drop start room) ∙ ap (λ (xs : List ℕ). xs ++ drop start room) before ∙ ap (λ (xs : List ℕ). replicate start 32 ++ xs) rest
    ∙ sym (append_assoc (replicate start 32) (replicate spaces 32) line) ∙ ap (λ (xs : List ℕ). xs ++ line) (replicate-append-replicate start spaces 32)

-- what is in front of a line, and the line
pub room_before : (room line : List ℕ) (at : ℕ) → room ≡ replicate at 32 ++ line → take at room ≡ replicate at 32
room_before room line at whole =
    ap (λ (xs : List ℕ). take at xs) whole ∙ ap (λ (n : ℕ). take n (replicate at 32 ++ line)) (sym (length-replicate at 32)) ∙ take-append_seam (replicate at 32) line

pub room_line : (room line : List ℕ) (at : ℕ) → room ≡ replicate at 32 ++ line → drop at room ≡ line
room_line room line at whole =
    ap (λ (xs : List ℕ). drop at xs) whole ∙ ap (λ (n : ℕ). drop n (replicate at 32 ++ line)) (sym (length-replicate at 32)) ∙ drop-append_seam (replicate at 32) line
