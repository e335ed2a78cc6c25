-- The digits of a number, and of another one of the same thousand.
use Rattle.std.proofs.Common.{◌≡◌, ℕ, ◌+◌, ◌-◌, ◌*◌, ◌/◌, ◌%◌, ◌^◌, ◌<◌, ◌≤◌, List, [], ◌∷◌, ◌++◌, length, take, drop, replicate, refl, sym, ap, ◌∙◌, arith, append_assoc, append-nil, length-append}
use borrow.Rule.Slice.PartMut.{put_mid}
use Rattle.std.specs.Fmt.{decimal}
use Rattle.std.proofs.Math.ListN.{drop_of_length-le}
use Rattle.std.proofs.Math.Seq.{drop-append-add, drop-append_seam, take-append_seam}
use Rattle.std.proofs.lemmas.Fmt.{decimal_step, length-decimal-le}
use Rattle.std.proofs.lemmas.List.{drop-drop, length-replicate, length-take-le, take-append-drop, take-replicate}
use Rattle.edi_octets.specs.Decimal.{IsWritten}

-- the last three digits of a number
abbrev pub last_three : ℕ → List ℕ
last_three n = (48 + n / 100 % 10) ∷ (48 + n / 10 % 10) ∷ (48 + n % 10) ∷ []

-- a number of at least four digits is its thousands and its last three digits
decimal-thousands : (n : ℕ) → 1000 ≤ n → n < 2 ^ 32 → decimal n ≡ decimal (n / 1000) ++ last_three n
decimal-thousands n some small =
    let hundreds : n / 10 / 10 ≡ n / 100 = omega arith in
    let thousands : n / 100 / 10 ≡ n / 1000 = omega arith in
    rw (decimal_step n (omega arith) (omega arith), decimal_step (n / 10) (omega arith) (omega arith), hundreds, decimal_step (n / 100) (omega arith) (omega arith), thousands) (simp append_assoc)

pub few_digits : (n : ℕ) → n < 2 ^ 32 → length (decimal n) ≤ 10
few_digits n small = length-decimal-le 10 n (omega arith) (omega arith) (omega arith)

-- a number was put at the end of ten spaces
pub written-anew : (n spaces : ℕ) (digits : List ℕ) → spaces + length (decimal n) ≡ 10 → take spaces digits ≡ take spaces (replicate 10 32) → drop spaces digits ≡ decimal n ++ drop 10 (replicate 10 32) → digits ≡ replicate spaces 32 ++ decimal n
written-anew n spaces digits room before written =
    let front : take spaces digits ≡ replicate spaces 32 = before ∙ take-replicate spaces 10 32 (omega arith) in
    sym (take-append-drop spaces digits) ∙ rw (front, written) (ap (λ (xs : List ℕ). replicate spaces 32 ++ xs) (append-nil (decimal n)))

-- the last three digits are those of what is above the thousands
pub three-above : (n thousands : ℕ) → thousands ≡ n / 1000 * 1000 → (48 + (n - thousands) / 100) ∷ (48 + (n - thousands) / 10 % 10) ∷ (48 + (n - thousands) % 10) ∷ [] ≡ last_three n
three-above n thousands is =
    let hundreds : (n - thousands) / 100 ≡ n / 100 % 10 = omega arith in
    let tens : (n - thousands) / 10 % 10 ≡ n / 10 % 10 = omega arith in
    let ones : (n - thousands) % 10 ≡ n % 10 = omega arith in
    rw (hundreds, tens, ones) refl

-- the same thousand has the same digits but for the last three
same-thousand : (m n : ℕ) → 1000 ≤ m → m < 2 ^ 32 → n < 2 ^ 32 → n / 1000 ≡ m / 1000 → (spaces : ℕ) (digits : List ℕ) → spaces + length (decimal m) ≡ 10 → digits ≡ replicate spaces 32 ++ decimal m
    → (spaces + length (decimal n) ≡ 10) × (take 7 digits ++ last_three n ≡ replicate spaces 32 ++ decimal n)
same-thousand m n some small fits same spaces digits room is =
    let was = decimal-thousands m some small in
    let now : decimal n ≡ decimal (m / 1000) ++ last_three n = decimal-thousands n (omega arith) fits ∙ ap (λ (k : ℕ). decimal k ++ last_three n) same in
    let before : List ℕ = replicate spaces 32 ++ decimal (m / 1000) in
    let long : length (decimal m) ≡ length (decimal (m / 1000)) + 3 = ap length was ∙ length-append (decimal (m / 1000)) (last_three m) in
    let as_long : length (decimal n) ≡ length (decimal (m / 1000)) + 3 = ap length now ∙ length-append (decimal (m / 1000)) (last_three n) in
    let seven : length before ≡ 7 = omega (arith, length-append (replicate spaces 32) (decimal (m / 1000)), length-replicate {A = ℕ} spaces 32) in
    let whole : digits ≡ before ++ last_three m = is ∙ ap (λ (xs : List ℕ). replicate spaces 32 ++ xs) was ∙ sym (append_assoc (replicate spaces 32) (decimal (m / 1000)) (last_three m)) in
    let front : take 7 digits ≡ before = ap (take 7) whole ∙ ap (λ (k : ℕ). take k (before ++ last_three m)) (sym seven) ∙ take-append_seam before (last_three m) in
    (omega arith, ap (λ (xs : List ℕ). xs ++ last_three n) front ∙ append_assoc (replicate spaces 32) (decimal (m / 1000)) (last_three n) ∙ ap (λ (xs : List ℕ). replicate spaces 32 ++ xs) (sym now))

-- another number of the same thousand was written
pub written-on : (m n thousands spaces : ℕ) (digits three : List ℕ) → IsWritten m thousands digits spaces → 0 < thousands → thousands ≤ n → n - thousands < 1000 → n < 2 ^ 32 → three ≡ last_three n
    → IsWritten n thousands (put_mid 7 3 digits three) spaces
written-on m n thousands spaces digits three was some low high fits is =
    let multiple = was.multiple in
    let small = was.small in
    let room = was.room in
    let on = same-thousand m n (omega arith) small fits (omega arith) spaces digits room was.octets in
    let long : length digits ≡ 10 = ap length was.octets ∙ length-append (replicate spaces 32) (decimal m) ∙ omega (arith, length-replicate {A = ℕ} spaces 32) in
    let ten : length digits ≤ 10 = omega arith in
    let none : drop 3 (drop 7 digits) ≡ [] = drop-drop 3 7 digits ∙ drop_of_length-le digits {i = 10} ten in
    record {
      small = fits;
      multiple = omega arith;
      room = on.0;
      octets = ap (λ (xs : List ℕ). take 7 digits ++ xs) (rw (none, append-nil) is) ∙ on.1;
    }

-- the digits of a number were put before a place
pub put-digits : (room digits : List ℕ) (from k spaces n : ℕ) → from + k ≤ length room → digits ≡ replicate spaces 32 ++ decimal n → drop (from + spaces) (put_mid from k room digits) ≡ decimal n ++ drop (from + k) room
put-digits room digits from k spaces n within is =
    let rest : List ℕ = drop k (drop from room) in
    let front : length (take from room) ≡ from = length-take-le from room (omega arith) in
    let spaced : length (replicate {A = ℕ} spaces 32) ≡ spaces = length-replicate spaces 32 in
    ap (λ (xs : List ℕ). drop (from + spaces) (take from room ++ (xs ++ rest))) is
    ∙ ap (λ (m : ℕ). drop (m + spaces) (take from room ++ ((replicate spaces 32 ++ decimal n) ++ rest))) (sym front)
    ∙ drop-append-add (take from room) ((replicate spaces 32 ++ decimal n) ++ rest) spaces
    ∙ ap (drop spaces) (append_assoc (replicate spaces 32) (decimal n) rest)
    ∙ ap (λ (m : ℕ). drop m (replicate spaces 32 ++ (decimal n ++ rest))) (sym spaced)
    ∙ drop-append_seam (replicate spaces 32) (decimal n ++ rest)
    ∙ ap (λ (xs : List ℕ). decimal n ++ xs) (drop-drop k from room)
