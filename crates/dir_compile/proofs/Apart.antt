-- Names that occur once.
use Rattle.std.proofs.Common.{◌≡◌, ℕ, ◌⊎◌, inl, inr, Bool, true, false, ◌||◌, List, [], ◌∷◌, ◌++◌, sym, ap, ◌∙◌, refl, cond, Option, Some, None, true≢false}
use Rattle.std.specs.List.{flat_map, list_any}
use Rattle.std.specs.Str.{bytes_eq}
use Rattle.std.proofs.lemmas.Cmp.{nat_list_eq_equiv}
use Rattle.std.proofs.lemmas.Option.{same_Some}
use Rattle.edi_octets.specs.Profile.{with_earlier_from}
use Rattle.edi_tables.specs.Rows.{when}
use Rattle.dir_compile.specs.declared.stop.CompileKind.TheVariants.{Twice}
use Rattle.dir_compile.specs.Stop.{fault_with}
use Rattle.dir_compile.specs.Compile.{twice_in, named_in}
use Rattle.dir_compile.proofs.Faults.{nil-left, nil-right, nil-both, when-nil}
use Rattle.dir_compile.proofs.Twice.{twice_fault}
use Rattle.dir_compile.proofs.AscendingLemmas.{Has, HasSame, IsApart}

-- a member of two lists, one after the other
pub Has-left : {A : Type 0} (xs ys : List A) (z : A) → Has xs z → Has (xs ++ ys) z
Has-left [] ys z h = absurd h
Has-left (x ∷ xs) ys z (inl e) = inl e
Has-left (x ∷ xs) ys z (inr h) = inr (Has-left xs ys z h)

pub Has-right : {A : Type 0} (xs ys : List A) (z : A) → Has ys z → Has (xs ++ ys) z
Has-right [] ys z h = h
Has-right (x ∷ xs) ys z h = inr (Has-right xs ys z h)

pub Has-either : {A : Type 0} (xs ys : List A) (z : A) → Has (xs ++ ys) z → Has xs z ⊎ Has ys z
Has-either [] ys z h = inr h
Has-either (x ∷ xs) ys z (inl e) = inl (inl e)
Has-either (x ∷ xs) ys z (inr h) = elim (Has-either xs ys z h) [ inl k ↦ inl (inr k) | inr k ↦ inr k ]

-- a test that no member passes
or-false-left : (a b : Bool) → (a || b) ≡ false → a ≡ false
or-false-left true b e = absurd (true≢false e)
or-false-left false b e = refl

or-false-right : (a b : Bool) → (a || b) ≡ false → b ≡ false
or-false-right true b e = absurd (true≢false e)
or-false-right false b e = e

none-passes : {A : Type 0} (test : A → Bool) (xs : List A) → list_any test xs ≡ false → (z : A) → Has xs z → test z ≡ false
none-passes test [] e z h = absurd h
none-passes test (x ∷ xs) e z (inl f) = ap test f ∙ or-false-left (test x) (list_any test xs) e
none-passes test (x ∷ xs) e z (inr h) = none-passes test xs (or-false-right (test x) (list_any test xs) e) z h

passes-none : {A : Type 0} (test : A → Bool) (xs : List A) → ((z : A) → Has xs z → test z ≡ false) → list_any test xs ≡ false
passes-none test [] h = refl
passes-none test (x ∷ xs) h = ap (λ b. b || list_any test xs) (h x (inl refl)) ∙ passes-none test xs (λ z k. h z (inr k))

-- where none of xs occurs among those before it, its names differ from these
differ-earlier : {A : Type 0} (name : A → List ℕ) (earlier xs : List A) → flat_map (twice_fault name) (with_earlier_from earlier xs) ≡ [] → (e y : A) → Has earlier e → Has xs y → bytes_eq (name e) (name y) ≡ false
differ-earlier name earlier [] none e y h k = absurd k
differ-earlier name earlier (x ∷ xs) none e y h (inl f) =
    ap (λ w. bytes_eq (name e) (name w)) f ∙ none-passes (λ z. bytes_eq (name z) (name x)) earlier (when-nil _ _ (nil-left _ _ none)) e h
differ-earlier name earlier (x ∷ xs) none e y h (inr k) =
    differ-earlier name (earlier ++ x ∷ []) xs (nil-right _ _ none) e y (Has-left earlier (x ∷ []) e h) k

apart-behind : {A : Type 0} (name : A → List ℕ) (earlier xs : List A) → flat_map (twice_fault name) (with_earlier_from earlier xs) ≡ [] → IsApart name xs
apart-behind name earlier [] none = tt
apart-behind name earlier (x ∷ xs) none =
    let rest = nil-right (twice_fault name (earlier, x)) (flat_map (twice_fault name) (with_earlier_from (earlier ++ x ∷ []) xs)) none in (
      λ y h. differ-earlier name (earlier ++ x ∷ []) xs rest x y (Has-right earlier (x ∷ []) x (inl refl)) h,
      apart-behind name (earlier ++ x ∷ []) xs rest,
    )

-- no fault of occurring twice, and names that differ, are the same
pub apart-from-none : {A : Type 0} (name : A → List ℕ) (xs : List A) → twice_in name xs ≡ [] → IsApart name xs
apart-from-none name xs none = apart-behind name [] xs none

none-behind : {A : Type 0} (name : A → List ℕ) (earlier xs : List A) → ((e y : A) → Has earlier e → Has xs y → bytes_eq (name e) (name y) ≡ false) → IsApart name xs → flat_map (twice_fault name) (with_earlier_from earlier xs) ≡ []
none-behind name earlier [] differ p = refl
none-behind {A} name earlier (x ∷ xs) differ p =
    nil-both (twice_fault name (earlier, x)) _
    (ap (λ b. when b (fault_with Twice (name x))) (passes-none (λ z. bytes_eq (name z) (name x)) earlier (λ z h. differ z x h (inl refl))))
    (none-behind name (earlier ++ x ∷ []) xs (λ e y h k. elim (Has-either earlier (x ∷ []) e h) [ inl m ↦ differ e y m (inr k) | inr m ↦ later e y m k ]) p.1)
  where
    later : (e y : A) → Has (x ∷ []) e → Has xs y → bytes_eq (name e) (name y) ≡ false
    later e y (inl f) k = ap (λ w. bytes_eq (name w) (name y)) f ∙ p.0 y k
    later e y (inr m) k = absurd m

pub none-from-apart : {A : Type 0} (name : A → List ℕ) (xs : List A) → IsApart name xs → twice_in name xs ≡ []
none-from-apart name xs p = none-behind name [] xs (λ e y h k. absurd h) p

-- what is found under a name
named-at : {A : Type 0} (b : Bool) (name : A → List ℕ) (wanted : List ℕ) (y : A) (ys : List A) (x : A) → bytes_eq (name y) wanted ≡ b → cond b (Some y) (named_in name ys wanted) ≡ Some x → (named_in name ys wanted ≡ Some x → Has ys x × (bytes_eq (name x) wanted ≡ true)) → Has (y ∷ ys) x × (bytes_eq (name x) wanted ≡ true)
named-at true name wanted y ys x t e rec =
    let same : y ≡ x = same_Some y x e in
    (inl (sym same), ap (λ w. bytes_eq (name w) wanted) (sym same) ∙ t)
named-at false name wanted y ys x t e rec = let r = rec e in (inr r.0, r.1)

pub named-is : {A : Type 0} (name : A → List ℕ) (wanted : List ℕ) (xs : List A) (x : A) → named_in name xs wanted ≡ Some x → Has xs x × (bytes_eq (name x) wanted ≡ true)
named-is name wanted [] x e = cc
named-is name wanted (y ∷ ys) x e = named-at (bytes_eq (name y) wanted) name wanted y ys x refl e (named-is name wanted ys x)

pub named-found : {A : Type 0} (name : A → List ℕ) (wanted : List ℕ) (xs : List A) (x : A) → IsApart name xs → Has xs x → bytes_eq (name x) wanted ≡ true → named_in name xs wanted ≡ Some x
named-found name wanted [] x p h t = absurd h
named-found name wanted (y ∷ ys) x p (inl e) t =
    ap (λ b. cond b (Some y) (named_in name ys wanted)) (ap (λ w. bytes_eq (name w) wanted) (sym e) ∙ t) ∙ ap Some (sym e)
named-found name wanted (y ∷ ys) x p (inr h) t =
    let other : bytes_eq (name y) wanted ≡ false =
    sym (nat_list_eq_equiv.symm wanted (name y)) ∙ sym (nat_list_eq_equiv.congr (name x) wanted (name y) t) ∙ nat_list_eq_equiv.symm (name x) (name y) ∙ p.0 x h in
    ap (λ b. cond b (Some y) (named_in name ys wanted)) other ∙ named-found name wanted ys x p.1 h t

-- lists with the same members give the same under a name, where names differ
pub named-same : {A : Type 0} (name : A → List ℕ) (wanted : List ℕ) (xs ys : List A) → IsApart name xs → IsApart name ys → HasSame xs ys → named_in name ys wanted ≡ named_in name xs wanted
named-same {A} name wanted xs ys p q same = by (named_in name xs wanted) (named_in name ys wanted) refl refl
  where
    by : (r s : Option A) → named_in name xs wanted ≡ r → named_in name ys wanted ≡ s → s ≡ r
    by (Some x) s e f =
        let at = named-is name wanted xs x e in
        sym f ∙ named-found name wanted ys x q (same.there x at.0) at.1
    by None (Some y) e f =
        let at = named-is name wanted ys y f in
        sym (named-found name wanted xs y p (same.back y at.0) at.1) ∙ e
    by None None e f = refl
