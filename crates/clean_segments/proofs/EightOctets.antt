-- Lists of octets that are compared eight at a time.
use Rattle.std.proofs.Common.{◌≡◌, ℕ, ◌+◌, ◌-◌, ◌<◌, ◌≤◌, ◌++◌, List, [], ◌∷◌, zero, suc, length, take, drop, slice_range, get_or, nat_eq, IsTrue, subst, sym, ap, ◌∙◌, arith}
use Rattle.std.proofs.lemmas.List.{drop-drop, drop_all, get_or-drop, take-take}
use Rattle.std.proofs.lemmas.List.Folds.{drop_split}
use Rattle.std.proofs.lemmas.Nat.{le_bytes_8}
use Rattle.std.specs.Int.{w64, from_le_bytes, to_le_bytes}

-- the same number is read of the same eight octets alone
pub same_octets : (xs ys : List ℕ) (x y : ℕ) → length xs ≡ 8 → length ys ≡ 8
    → ((i : ℕ) → get_or xs i 0 < 256) → ((i : ℕ) → get_or ys i 0 < 256)
    → x ≡ from_le_bytes w64 xs → y ≡ from_le_bytes w64 ys → IsTrue (nat_eq x y) → xs ≡ ys
same_octets xs ys x y xs_long ys_long xs_small ys_small x_is y_is same =
    let same : x ≡ y = grind (arith, same) in
    sym (le_bytes_8 xs x xs_long xs_small x_is) ∙ (ap (to_le_bytes w64) same ∙ le_bytes_8 ys y ys_long ys_small y_is)

-- eight octets at a place
pub chunk_at : (xs octets : List ℕ) (at : ℕ) → at + 8 ≤ length xs → octets ≡ take 8 (take (length xs - at) (drop at xs))
    → octets ≡ slice_range xs at (at + 8)
chunk_at xs octets at within is =
    let eight : 8 ≡ at + 8 - at = omega arith in
    is ∙ (take-take 8 (length xs - at) (drop at xs) (omega (arith, within)) ∙ ap (λ n. take n (drop at xs)) eight)

small_taken : (n : ℕ) (xs : List ℕ) → ((i : ℕ) → get_or xs i 0 < 256) → (i : ℕ) → get_or (take n xs) i 0 < 256
small_taken zero xs small i = omega arith
small_taken (suc n) [] small i = omega arith
small_taken (suc n) (x ∷ xs) small zero = small zero
small_taken (suc n) (x ∷ xs) small (suc i) = small_taken n xs (λ j. small (suc j)) i

-- they are small
pub chunk_small : (xs octets : List ℕ) (at : ℕ) → octets ≡ take 8 (take (length xs - at) (drop at xs))
    → ((i : ℕ) → get_or xs i 0 < 256) → (i : ℕ) → get_or octets i 0 < 256
chunk_small xs octets at is small i =
    let rest : (j : ℕ) → get_or (drop at xs) j 0 < 256 =
    λ j. subst (λ octet. octet < 256) (sym (get_or-drop at xs j 0)) (small (at + j)) in
    subst (λ chunk. get_or chunk i 0 < 256) (sym is)
    (small_taken 8 _ (small_taken (length xs - at) (drop at xs) rest) i)

-- what is the same from a place on is the same from an earlier one on, where what is between is the same
pub same_before : {A : Type 0} (xs ys : List A) (at end : ℕ) → at ≤ end → slice_range xs at end ≡ slice_range ys at end
    → drop end xs ≡ drop end ys → drop at xs ≡ drop at ys
same_before xs ys at end before same rest =
    drop_split xs at end before
    ∙ (ap (λ front. front ++ drop end xs) same ∙ (ap (λ back. slice_range ys at end ++ back) rest ∙ sym (drop_split ys at end before)))

-- and from each later one on
pub same_after : {A : Type 0} (xs ys : List A) (last at : ℕ) → last ≤ at → drop last xs ≡ drop last ys → drop at xs ≡ drop at ys
same_after xs ys last at after same =
    let at_is : at ≡ last + (at - last) = omega (arith, after) in
    ap (λ n. drop n xs) at_is
    ∙ (sym (drop-drop (at - last) last xs) ∙ (ap (drop (at - last)) same ∙ (drop-drop (at - last) last ys ∙ ap (λ n. drop n ys) (sym at_is))))

-- then they are the same, where nothing is left and the last eight are
pub same_at_end : (xs ys : List ℕ) (last at : ℕ) → last ≤ at → length xs ≤ last + 8 → length ys ≤ last + 8
    → slice_range xs last (last + 8) ≡ slice_range ys last (last + 8) → drop at xs ≡ drop at ys
same_at_end xs ys last at after short others_short same =
    same_after xs ys last at after
    (same_before xs ys last (last + 8) (omega arith) same
    (drop_all (last + 8) xs short ∙ sym (drop_all (last + 8) ys others_short)))
