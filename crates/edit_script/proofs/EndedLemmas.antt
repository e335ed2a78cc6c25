-- Texts that are a word and the octet that ends it.
use Rattle.std.proofs.Common.{◌≡◌, ◌≢◌, ◌++◌, ℕ, Bool, true, false, List, [], ◌∷◌, ◌⊎◌, inl, inr, ⊎_elim, refl, sym, ap, ◌∙◌, subst, arith, length-append, append_assoc}
use Rattle.std.proofs.lemmas.Bool.{and_parts}
use Rattle.std.specs.List.{list_all}
use Rattle.edit_script.specs.Beginnings.{IsPartOf, BeginsNoneOf}
use Rattle.edit_script.specs.Reading.{IsSomeText}
use Rattle.edit_script.proofs.OnceLemmas.{IsOnce}

-- the octet isn't among these
abbrev pub HasNo : ℕ → List ℕ → Type 0
HasNo end [] = Unit {0}
HasNo end (x ∷ xs) = (x ≢ end) × HasNo end xs

-- a value's word and the octet that ends it
abbrev pub IsEnded : {V : Type 0} → (V → Type 0) → (V → List ℕ) → ℕ → V → List ℕ → Type 0
IsEnded IsGood word end v text = IsGood v × (text ≡ word v ++ end ∷ [])

-- octets without the one that ends a word: the word is they, or it goes on with the octet after them
pub word_begun : (x end : ℕ) (front word more behind : List ℕ) → HasNo end front → front ++ x ∷ more ≡ word ++ end ∷ behind → ((word ≡ front) × (x ≡ end)) ⊎ ((rest : List ℕ) × (word ≡ front ++ x ∷ rest))
word_begun x end [] [] more behind bare same = inl (refl, cc)
word_begun x end [] (y ∷ word) more behind bare same =
    let head : y ≡ x = cc in
    inr (word, ap (λ (z : ℕ). z ∷ word) head)
word_begun x end (a ∷ front) [] more behind bare same =
    let head : a ≡ end = cc in
    absurd (bare.0 head)
word_begun x end (a ∷ front) (b ∷ word) more behind bare same =
    let head : b ≡ a = cc in
    let tail : front ++ x ∷ more ≡ word ++ end ∷ behind = cc in
    ⊎_elim
    (λ (is : (word ≡ front) × (x ≡ end)). inl (cc (head, is.0), is.1))
    (λ (on : (rest : List ℕ) × (word ≡ front ++ x ∷ rest)). inr (on.0, cc (head, on.1)))
    (word_begun x end front word more behind bare.1 tail)

no_more : (end : ℕ) (front rest : List ℕ) → HasNo end (front ++ end ∷ rest) → ⊥
no_more end [] rest bare = bare.0 refl
no_more end (x ∷ front) rest bare = no_more end front rest bare.1

pub ended_part : {V : Type 0} (IsGood : V → Type 0) (word : V → List ℕ) (end : ℕ) (v : V) (front rest : List ℕ) → IsGood v → word v ≡ front ++ rest → IsPartOf (IsSomeText (IsEnded IsGood word end)) front
ended_part IsGood word end v front rest good is =
    (rest ++ end ∷ [], omega (arith, length-append rest (end ∷ [])), (v, (good, sym (append_assoc front rest (end ∷ [])) ∙ ap (λ (xs : List ℕ). xs ++ end ∷ []) (sym is))))

-- no word goes on so, and none ends there
pub ended_none : {V : Type 0} (IsGood : V → Type 0) (word : V → List ℕ) (end : ℕ) (front : List ℕ) (x : ℕ) → HasNo end front → ((v : V) (rest : List ℕ) → IsGood v → word v ≡ front ++ x ∷ rest → ⊥) → ((v : V) → IsGood v → x ≡ end → word v ≡ front → ⊥) → BeginsNoneOf (IsSomeText (IsEnded IsGood word end)) (front ++ x ∷ [])
ended_none IsGood word end front x bare goes_on ends text more behind is same =
    let v = is.0 in
    let along : front ++ x ∷ more ≡ word v ++ end ∷ behind = sym (append_assoc front (x ∷ []) more) ∙ same ∙ ap (λ (xs : List ℕ). xs ++ behind) is.1.1 ∙ append_assoc (word v) (end ∷ []) behind in
    ⊎_elim
    (λ (done : (word v ≡ front) × (x ≡ end)). ends v is.1.0 done.1 done.0)
    (λ (on : (rest : List ℕ) × (word v ≡ front ++ x ∷ rest)). goes_on v on.0 is.1.0 on.1)
    (word_begun x end front (word v) more behind bare along)

-- words without the octet that ends them are told apart by what they begin
pub ended_once : {V : Type 0} (IsGood : V → Type 0) (word : V → List ℕ) (end : ℕ) → ((v : V) → IsGood v → HasNo end (word v)) → ((v w : V) → IsGood v → IsGood w → word v ≡ word w → v ≡ w) → IsOnce (IsEnded IsGood word end)
ended_once IsGood word end bare one v w s t more rest first second same =
    let along : word v ++ end ∷ more ≡ word w ++ end ∷ rest = sym (append_assoc (word v) (end ∷ []) more) ∙ ap (λ (xs : List ℕ). xs ++ more) (sym first.1) ∙ same ∙ ap (λ (xs : List ℕ). xs ++ rest) second.1 ∙ append_assoc (word w) (end ∷ []) rest in
    let words : word w ≡ word v = ⊎_elim
    (λ (done : (word w ≡ word v) × (end ≡ end)). done.0)
    (λ (on : (left : List ℕ) × (word w ≡ word v ++ end ∷ left)). absurd (no_more end (word v) on.0 (subst (HasNo end) on.1 (bare w second.0))))
    (word_begun end end (word v) (word w) more rest (bare v first.0) along) in
    (one v w first.0 second.0 (sym words), first.1 ∙ ap (λ (xs : List ℕ). xs ++ end ∷ []) (sym words) ∙ sym second.1)

-- what each of these octets passes, the octet that ends them doesn't
pub bare_all : (test : ℕ → Bool) (end : ℕ) (xs : List ℕ) → test end ≡ false → list_all test xs ≡ true → HasNo end xs
bare_all test end [] apart all = tt
bare_all test end (x ∷ xs) apart all =
    let parts = and_parts (test x) (list_all test xs) all in
    ((λ (is : x ≡ end). cc (ap test is, parts.0, apart)), bare_all test end xs apart parts.1)

-- what all pass, one of them does; and all of two lists do
pub all_at : (test : ℕ → Bool) (front : List ℕ) (x : ℕ) (rest : List ℕ) → list_all test (front ++ x ∷ rest) ≡ true → test x ≡ true
all_at test [] x rest all = (and_parts (test x) (list_all test rest) all).0
all_at test (y ∷ front) x rest all = all_at test front x rest (and_parts (test y) (list_all test (front ++ x ∷ rest)) all).1

pub all_more : (test : ℕ → Bool) (front more : List ℕ) → list_all test front ≡ true → list_all test more ≡ true → list_all test (front ++ more) ≡ true
all_more test [] more all next = next
all_more test (x ∷ front) more all next =
    let parts = and_parts (test x) (list_all test front) all in
    rw parts.0 (all_more test front more parts.1 next)
