-- Names that occur twice.
use Rattle.std.proofs.Common.{◌≡◌, ℕ, ◌+◌, ◌<◌, Bool, true, false, ◌||◌, List, [], ◌∷◌, ◌++◌, length, get_or, slice_get, take, drop, map, Some, sym, ap, ◌∙◌, refl}
use Rattle.std.specs.List.{flat_map, list_any}
use Rattle.std.specs.Str.{bytes_eq}
use Rattle.std.proofs.lemmas.List.{take_more, append-nil, append_assoc, map_push}
use Rattle.std.proofs.lemmas.List.Concat.{flat_map-append}
use Rattle.std.proofs.lemmas.Cmp.{nat_list_eq_equiv}
use Rattle.edi_octets.specs.Profile.{with_earlier_from}
use Rattle.edi_tables.specs.Rows.{when}
use Rattle.dir_compile.specs.declared.stop.CompileKind.TheVariants.{Twice}
use Rattle.dir_compile.specs.Compile.{twice_in, value_name}
use Rattle.dir_compile.specs.Stop.{PartsFault, fault_with}
use Rattle.dir_compile.proofs.Faults.{nil-left, nil-right, nil-both, when-nil, split_at}

-- the earlier members of two lists, one after the other
pub with_earlier_from-append : {A : Type 0} (earlier xs ys : List A) → with_earlier_from earlier (xs ++ ys) ≡ with_earlier_from earlier xs ++ with_earlier_from (earlier ++ xs) ys
with_earlier_from-append earlier [] ys = ap (λ l. with_earlier_from l ys) (sym (append-nil earlier))
with_earlier_from-append earlier (x ∷ xs) ys =
    ap (λ l. (earlier, x) ∷ l) (with_earlier_from-append (earlier ++ x ∷ []) xs ys
    ∙ ap (λ l. with_earlier_from (earlier ++ x ∷ []) xs ++ with_earlier_from l ys) (append_assoc earlier (x ∷ []) xs))

-- the fault of a member with those before it
abbrev pub twice_fault : {A : Type 0} → (A → List ℕ) → List A × A → List PartsFault
twice_fault name p = when (list_any (λ x. bytes_eq (name x) (name p.1)) p.0) (fault_with Twice (name p.1))

-- those of a list that goes on with x
pub twice_in-middle : {A : Type 0} (name : A → List ℕ) (front : List A) (x : A) (back : List A) → twice_in name (front ++ x ∷ back) ≡ twice_in name front ++ (twice_fault name (front, x) ++ flat_map (twice_fault name) (with_earlier_from (front ++ x ∷ []) back))
twice_in-middle name front x back =
    ap (flat_map (twice_fault name)) (with_earlier_from-append [] front (x ∷ back))
    ∙ flat_map-append (twice_fault name) (with_earlier_from [] front) (with_earlier_from front (x ∷ back))

-- up to the next place
pub twice_in-more : {A : Type 0} (name : A → List ℕ) (xs : List A) (i : ℕ) (d : A) → i < length xs → twice_in name (take i xs) ≡ [] → list_any (λ x. bytes_eq (name x) (name (get_or xs i d))) (take i xs) ≡ false → twice_in name (take (i + 1) xs) ≡ []
twice_in-more name xs i d lt before apart =
    let x = get_or xs i d in
    let front = take i xs in
    ap (twice_in name) (take_more xs i d lt) ∙ twice_in-middle name front x []
    ∙ nil-both (twice_in name front) (twice_fault name (front, x) ++ []) before
    (append-nil (twice_fault name (front, x)) ∙ ap (λ b. when b (fault_with Twice (name x))) apart)

-- the first that is among those before it
pub first-twice_in : {A : Type 0} (name : A → List ℕ) (xs : List A) (i : ℕ) (d : A) → i < length xs → twice_in name (take i xs) ≡ [] → list_any (λ x. bytes_eq (name x) (name (get_or xs i d))) (take i xs) ≡ true → slice_get (twice_in name xs) 0 ≡ Some (fault_with Twice (name (get_or xs i d)))
first-twice_in name xs i d lt before there =
    let x = get_or xs i d in
    let front = take i xs in
    let rest = flat_map (twice_fault name) (with_earlier_from (front ++ x ∷ []) (drop (i + 1) xs)) in
    let parts : twice_in name xs ≡ twice_in name front ++ (twice_fault name (front, x) ++ rest) =
    ap (twice_in name) (split_at xs i d lt) ∙ twice_in-middle name front x (drop (i + 1) xs) in
    ap (λ l. slice_get l 0) parts ∙ ap (λ l. slice_get (l ++ (twice_fault name (front, x) ++ rest)) 0) before
    ∙ ap (λ b. slice_get (when b (fault_with Twice (name x)) ++ rest) 0) there

-- where no name comes twice, that of a place isn't among those before it
pub fresh-at : {A : Type 0} (name : A → List ℕ) (xs : List A) (i : ℕ) (d : A) → i < length xs → twice_in name xs ≡ [] → list_any (λ x. bytes_eq (name x) (name (get_or xs i d))) (take i xs) ≡ false
fresh-at name xs i d lt none =
    let parts = ap (twice_in name) (split_at xs i d lt) ∙ twice_in-middle name (take i xs) (get_or xs i d) (drop (i + 1) xs) in
    when-nil _ _ (nil-left _ _ (nil-right (twice_in name (take i xs)) _ (sym parts ∙ none)))

-- the test that a set makes
pub list_any-flip : (xs : List (List ℕ)) (y : List ℕ) → list_any (bytes_eq y) xs ≡ list_any (λ x. bytes_eq x y) xs
list_any-flip [] y = refl
list_any-flip (x ∷ xs) y = λ i. (nat_list_eq_equiv.symm y x i) || (list_any-flip xs y i)

-- names occur twice where their definitions do
list_any-map : {A : Type 0} (name : A → List ℕ) (test : List ℕ → Bool) (xs : List A) → list_any test (map name xs) ≡ list_any (λ x. test (name x)) xs
list_any-map name test [] = refl
list_any-map name test (x ∷ xs) = ap (λ b. test (name x) || b) (list_any-map name test xs)

twice_in-map-from : {A : Type 0} (name : A → List ℕ) (earlier xs : List A) → flat_map (twice_fault value_name) (with_earlier_from (map name earlier) (map name xs)) ≡ flat_map (twice_fault name) (with_earlier_from earlier xs)
twice_in-map-from name earlier [] = refl
twice_in-map-from name earlier (x ∷ xs) =
    (λ i. when (list_any-map name (λ n. bytes_eq n (name x)) earlier i) (fault_with Twice (name x)) ++ flat_map (twice_fault value_name) (with_earlier_from (sym (map_push name earlier x) i) (map name xs)))
    ∙ ap (λ l. when (list_any (λ y. bytes_eq (name y) (name x)) earlier) (fault_with Twice (name x)) ++ l) (twice_in-map-from name (earlier ++ x ∷ []) xs)

pub twice_in-map : {A : Type 0} (name : A → List ℕ) (xs : List A) → twice_in value_name (map name xs) ≡ twice_in name xs
twice_in-map name xs = twice_in-map-from name [] xs
