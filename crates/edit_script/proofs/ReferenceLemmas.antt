-- References, and the LF that ends them.
use Rattle.std.proofs.Common.{◌≡◌, ◌≢◌, ◌++◌, ◌≤◌, ℕ, true, false, ◌&&◌, nat_lt, nat_le, IsTrue, List, [], ◌∷◌, length, refl, sym, ap, ◌∙◌, arith, length-append, le-leb, lt-ltb}
use borrow.Author.Tests.{leb-true, ltb-true}
use Rattle.std.proofs.lemmas.Bool.{and_parts}
use Rattle.std.proofs.lemmas.List.{append-nil}
use Rattle.std.specs.List.{list_all}
use Rattle.edi_tables.specs.Tag.{is_tag_octet_of}
use Rattle.contrl_segments.specs.Stamp.{is_reference_of}
use Rattle.edit_script.specs.Beginnings.{IsPartOf, BeginsNoneOf}
use Rattle.edit_script.specs.Reading.{IsSomeText}
use Rattle.edit_script.specs.Texts.{IsReferenceText}
use Rattle.edit_script.proofs.OnceLemmas.{IsOnce}
use Rattle.edit_script.proofs.EndedLemmas.{ended_part, ended_none, ended_once, bare_all, all_at, all_more}

-- what a reference is, and octets that may become one
pub reference_has : (word : List ℕ) → is_reference_of word ≡ true → (1 ≤ length word) × (length word ≤ 14) × (list_all is_tag_octet_of word ≡ true)
reference_has word is =
    let whole = and_parts (nat_le 1 (length word) && nat_le (length word) 14) (list_all is_tag_octet_of word) is in
    let sizes = and_parts (nat_le 1 (length word)) (nat_le (length word) 14) whole.0 in
    (leb-true 1 (length word) sizes.0, leb-true (length word) 14 sizes.1, whole.1)

reference_made : (word : List ℕ) → 1 ≤ length word → length word ≤ 14 → list_all is_tag_octet_of word ≡ true → is_reference_of word ≡ true
reference_made word some few lawful = rw (le-leb 1 (length word) some, le-leb (length word) 14 few) lawful

pub reference_part : (front : List ℕ) → length front ≤ 14 → list_all is_tag_octet_of front ≡ true → IsPartOf (IsSomeText IsReferenceText) front
reference_part [] few lawful =
    ended_part (λ word. IsTrue (is_reference_of word)) (λ word. word) 10 (65 ∷ []) [] (65 ∷ []) refl refl
reference_part (x ∷ front) few lawful =
    ended_part (λ word. IsTrue (is_reference_of word)) (λ word. word) 10 (x ∷ front) (x ∷ front) [] (reference_made (x ∷ front) (omega arith) few lawful) (sym (append-nil (x ∷ front)))

-- an octet that may follow
pub reference_follow : (front : List ℕ) (x : ℕ) → list_all is_tag_octet_of front ≡ true → (nat_lt (length front) 14 && is_reference_of (x ∷ [])) ≡ true → (length (front ++ x ∷ []) ≤ 14) × (list_all is_tag_octet_of (front ++ x ∷ []) ≡ true)
reference_follow front x lawful may =
    let parts = and_parts (nat_lt (length front) 14) (is_reference_of (x ∷ [])) may in
    let below = ltb-true (length front) 14 parts.0 in
    (omega (arith, below, length-append front (x ∷ [])), all_more is_tag_octet_of front (x ∷ []) lawful (reference_has (x ∷ []) parts.1).2)

-- an octet that neither follows nor ends
pub reference_bad : (front : List ℕ) (x : ℕ) → list_all is_tag_octet_of front ≡ true → x ≢ 10 → (nat_lt (length front) 14 && is_reference_of (x ∷ [])) ≡ false → BeginsNoneOf (IsSomeText IsReferenceText) (front ++ x ∷ [])
reference_bad front x lawful other may_not =
    ended_none (λ word. IsTrue (is_reference_of word)) (λ word. word) 10 front x (bare_all is_tag_octet_of 10 front refl lawful)
    (λ v rest good is.
    let has = reference_has v good in
    let octet : is_tag_octet_of x ≡ true = all_at is_tag_octet_of front x rest (ap (list_all is_tag_octet_of) (sym is) ∙ has.2) in
    let below : nat_lt (length front) 14 ≡ true = lt-ltb (length front) 14 (omega (arith, has.1, ap length is, length-append front (x ∷ rest))) in
    let one : is_reference_of (x ∷ []) ≡ true = reference_made (x ∷ []) (omega arith) (omega arith) (rw octet refl) in
    let may : (nat_lt (length front) 14 && is_reference_of (x ∷ [])) ≡ true = rw (below, one) refl in
    cc)
    (λ v good at_end is. other at_end)

-- LF after no reference
pub reference_unended : (front : List ℕ) → list_all is_tag_octet_of front ≡ true → is_reference_of front ≡ false → BeginsNoneOf (IsSomeText IsReferenceText) (front ++ 10 ∷ [])
reference_unended front lawful none =
    ended_none (λ word. IsTrue (is_reference_of word)) (λ word. word) 10 front 10 (bare_all is_tag_octet_of 10 front refl lawful)
    (λ v rest good is.
    let octet : is_tag_octet_of 10 ≡ true = all_at is_tag_octet_of front 10 rest (ap (list_all is_tag_octet_of) (sym is) ∙ (reference_has v good).2) in cc)
    (λ v good at_end is. let one : is_reference_of front ≡ true = ap is_reference_of (sym is) ∙ good in cc)

pub reference_once : IsOnce IsReferenceText
reference_once =
    ended_once (λ word. IsTrue (is_reference_of word)) (λ word. word) 10
    (λ v good. bare_all is_tag_octet_of 10 v refl (reference_has v good).2)
    (λ v w good fair same. same)
