-- Lists of faults: that there is none, and which is the first.
use Rattle.std.proofs.Common.{◌≡◌, ℕ, ◌+◌, ◌<◌, Bool, true, false, not, List, [], ◌∷◌, ◌++◌, length, get_or, slice_get, take, drop, Some, None, Result, Err, sym, ap, ◌∙◌, refl, subst}
use Rattle.std.specs.List.{flat_map}
use Rattle.std.proofs.lemmas.List.{take-append-drop, drop_more}
use Rattle.std.proofs.lemmas.List.Concat.{flat_map-append}
use Rattle.edi_tables.specs.Rows.{when}
use Rattle.dir_compile.specs.declared.stop.CompileKind.{CompileKind}
use Rattle.dir_compile.specs.declared.stop.CompileStop.{CompileStop}
use Rattle.dir_compile.specs.declared.stop.CompileStop.TheVariants.{Fault, Memory}
use Rattle.edi_tables.specs.Filled.{is_filled}
use Rattle.dir_compile.specs.Judges.{IsFirstFault, Judges}
use Rattle.dir_compile.specs.Stop.{PartsFault, fault_with, IsStopAt}

-- nothing in two lists together is nothing in each
pub nil-left : {A : Type 0} (xs ys : List A) → xs ++ ys ≡ [] → xs ≡ []
nil-left [] ys e = refl
nil-left (x ∷ xs) ys e = cc

pub nil-right : {A : Type 0} (xs ys : List A) → xs ++ ys ≡ [] → ys ≡ []
nil-right [] ys e = e
nil-right (x ∷ xs) ys e = cc

pub nil-both : {A : Type 0} (xs ys : List A) → xs ≡ [] → ys ≡ [] → xs ++ ys ≡ []
nil-both xs ys a b = subst (λ l. l ++ ys ≡ []) (sym a) b

-- no fault is reported where the rule isn't broken
pub when-nil : {A : Type 0} (broken : Bool) (x : A) → when broken x ≡ [] → broken ≡ false
when-nil true x e = cc
when-nil false x e = refl

-- the first of two lists together
first-append : {A : Type 0} (xs ys : List A) (x : A) → slice_get xs 0 ≡ Some x → slice_get (xs ++ ys) 0 ≡ Some x
first-append [] ys x e = cc
first-append (z ∷ xs) ys x e = e

pub first-left : (stop : CompileStop) (xs ys : List PartsFault) → IsFirstFault stop xs → IsFirstFault stop (xs ++ ys)
first-left (Fault kind name) xs ys h = first-append xs ys (fault_with kind name) h
first-left Memory xs ys h = tt

pub first-right : (stop : CompileStop) (xs ys : List PartsFault) → xs ≡ [] → IsFirstFault stop ys → IsFirstFault stop (xs ++ ys)
first-right stop xs ys e h = subst (λ l. IsFirstFault stop (l ++ ys)) (sym e) h

-- a stop at a kind and a name is the first of faults that begin with them
pub first-stop : (stop : CompileStop) (kind : CompileKind) (name : List ℕ) (xs : List PartsFault) → IsStopAt kind name stop → slice_get xs 0 ≡ Some (fault_with kind name) → IsFirstFault stop xs
first-stop (Fault k n) kind name xs h e = e ∙ (λ i. Some (fault_with (sym h.0 i) (sym h.1 i)))
first-stop Memory kind name xs h e = tt

-- a list is what comes before a place, what is there, and the rest
pub split_at : {A : Type 0} (xs : List A) (i : ℕ) (d : A) → i < length xs → xs ≡ take i xs ++ get_or xs i d ∷ drop (i + 1) xs
split_at xs i d lt = sym (take-append-drop i xs) ∙ ap (λ l. take i xs ++ l) (drop_more xs i d lt)

-- no fault up to a place, and the first one there, is the first one
pub first_there : {X : Type 0} (f : X → List PartsFault) (stop : CompileStop) (xs : List X) (i : ℕ) (d : X) → i < length xs → flat_map f (take i xs) ≡ [] → IsFirstFault stop (f (get_or xs i d)) → IsFirstFault stop (flat_map f xs)
first_there f stop xs i d lt before here =
    let parts : flat_map f xs ≡ flat_map f (take i xs) ++ (f (get_or xs i d) ++ flat_map f (drop (i + 1) xs)) =
    ap (flat_map f) (split_at xs i d lt) ∙ flat_map-append f (take i xs) (get_or xs i d ∷ drop (i + 1) xs) in
    subst (IsFirstFault stop) (sym parts) (first-right stop _ _ before (first-left stop _ _ here))

-- what is judged of equal lists of faults
pub judges-same : {T : Type 0} (r : Result T CompileStop) (xs ys : List PartsFault) → xs ≡ ys → Judges r xs → Judges r ys
judges-same r xs ys e h = subst (Judges r) e h

-- the exit of a loop of judges: the stop that is handed on reports the first fault of the whole list
pub judges_there : {X T : Type 0} (f : X → List PartsFault) (r : Result T CompileStop) (stop told : CompileStop) (xs : List X) (i : ℕ) (x : X) → i < length xs → x ≡ get_or xs i x → flat_map f (take i xs) ≡ [] → IsFirstFault told (f x) → r ≡ Err stop → stop ≡ told → Judges r (flat_map f xs)
judges_there f r stop told xs i x lt here before first is same =
    let told_there : IsFirstFault told (f (get_or xs i x)) = subst (λ y. IsFirstFault told (f y)) here first in
    subst (λ s. Judges s (flat_map f xs)) (sym (is ∙ ap Err same)) (first_there f told xs i x lt before told_there)

-- a judge of one rule: nothing where it holds, its fault where it doesn't
pub when-held : {A : Type 0} (broken : Bool) (x : A) → broken ≡ false → when broken x ≡ []
when-held broken x e = ap (λ b. when b x) e

pub first-when : (stop : CompileStop) (broken : Bool) (kind : CompileKind) (name : List ℕ) → broken ≡ true → IsStopAt kind name stop → IsFirstFault stop (when broken (fault_with kind name))
first-when stop broken kind name e at =
    first-stop stop kind name (when broken (fault_with kind name)) at (ap (λ b. slice_get (when b (fault_with kind name)) 0) e)

-- `not` of a test that is known
pub not-at : (b c : Bool) → c ≡ b → not b ≡ not c
not-at b c e = ap not (sym e)

-- the same at a place
pub judges_there_at : {X T : Type 0} (f : X → List PartsFault) (r : Result T CompileStop) (stop told : CompileStop) (xs : List X) (i : ℕ) (d : X) → i < length xs → flat_map f (take i xs) ≡ [] → IsFirstFault told (f (get_or xs i d)) → r ≡ Err stop → stop ≡ told → Judges r (flat_map f xs)
judges_there_at f r stop told xs i d lt before first is same =
    subst (λ s. Judges s (flat_map f xs)) (sym (is ∙ ap Err same)) (first_there f told xs i d lt before first)

-- a stop that is handed on
pub judges-stop : {T : Type 0} (r : Result T CompileStop) (stop told : CompileStop) (xs : List PartsFault) → r ≡ Err stop → stop ≡ told → IsFirstFault told xs → Judges r xs
judges-stop r stop told xs is same first = subst (λ s. Judges s xs) (sym (is ∙ ap Err same)) first

-- the last judge of several
pub judges-last : {T : Type 0} (r : Result T CompileStop) (xs ys : List PartsFault) → xs ≡ [] → Judges r ys → Judges r (xs ++ ys)
judges-last r xs ys none h = judges-same r ys (xs ++ ys) (ap (λ l. l ++ ys) (sym none)) h

-- whether there is a first fault
pub no-first : {A : Type 0} (xs : List A) → None ≡ slice_get xs 0 → is_filled xs ≡ false
no-first [] e = refl
no-first (x ∷ xs) e = cc

pub a-first : {A : Type 0} (xs : List A) (x : A) → Some x ≡ slice_get xs 0 → is_filled xs ≡ true
a-first [] x e = cc
a-first (y ∷ ys) x e = refl
