-- The names of commands, each with the octet after it.
use Rattle.std.proofs.Common.{◌≡◌, ◌++◌, ◌<◌, ◌≤◌, ◌==◌, ℕ, zero, suc, Bool, true, false, nat_eq, List, [], ◌∷◌, length, drop, Option, Some, None, if◌then◌else◌, find, ◌⊎◌, inl, inr, ⊎_elim, refl, sym, ap, ◌∙◌, arith, length-append, append_assoc}
use Rattle.std.proofs.lemmas.Bool.{cases_Bool}
use Rattle.std.proofs.lemmas.Bool.Decides.{Decides-eqb}
use Rattle.std.proofs.lemmas.List.{append-nil}
use Rattle.std.proofs.lemmas.List.Folds.{list_any_at}
use Rattle.std.proofs.lemmas.Slice.Eq.{starts_is, bytes_eq-Decides}
use Rattle.std.specs.List.{Contains, list_any, starts_with}
use Rattle.std.specs.Str.{bytes_eq}
use Rattle.edit_script.specs.declared.grammar.Grammar.TheVariants.{Edit}
use Rattle.edit_script.specs.declared.name.Name.{Name}
use Rattle.edit_script.specs.declared.name.Name.TheVariants.{Replace, Errors, Tree, Contrl, Text, End, Undo, Redo, Batch}
use Rattle.edit_script.specs.Beginnings.{IsPartOf, BeginsNoneOf}
use Rattle.edit_script.specs.Reading.{IsSomeText}
use Rattle.edit_script.specs.Texts.{names_of, name_text, IsNameText}
use Rattle.edit_script.proofs.OnceLemmas.{IsOnce, none_after_part}

-- ---- names are told apart by three octets

named : List ℕ → Option Name
named (a ∷ b ∷ d ∷ more) =
    if a == 114 then (if d == 112 then Some Replace else Some Redo)
    else (if a == 117 then Some Undo
    else (if a == 99 then Some Contrl
    else (if a == 98 then Some Batch
    else (if b == 110 then Some End else (if a == 101 then Some Errors else (if b == 114 then Some Tree else Some Text))))))
named octets = None

named_by : (name : Name) (more : List ℕ) → named (name_text name ++ more) ≡ Some name
unfolding named
named_by Replace more = refl
named_by Errors more = refl
named_by Tree more = refl
named_by Contrl more = refl
named_by Text more = refl
named_by End more = refl
named_by Undo more = refl
named_by Redo more = refl
named_by Batch more = refl

pub name_once : (names : List Name) → IsOnce (IsNameText names)
name_once names v w s t more rest first second same =
    let along : name_text v ++ more ≡ name_text w ++ rest = ap (λ (xs : List ℕ). xs ++ more) (sym first.1) ∙ same ∙ ap (λ (xs : List ℕ). xs ++ rest) second.1 in
    let both : Some v ≡ Some w = sym (named_by v more) ∙ ap named along ∙ named_by w rest in
    let one : v ≡ w = cc in
    (one, first.1 ∙ ap name_text one ∙ sym second.1)

-- ---- what the tests tell

fails_all : (test : Name → Bool) (names : List Name) → list_any test names ≡ false → (name : Name) → Contains names name → test name ≡ true → ⊥
fails_all test names none name among passes =
    let some : list_any test names ≡ true = list_any_at test names among.0 name among.1 (ap test among.2 ∙ passes) in cc

among_more : (first name : Name) (names : List Name) → Contains names name → Contains (first ∷ names) name
among_more first name names among = (suc among.0, omega (arith, among.1), among.2)

passes_one : (test : Name → Bool) (names : List Name) → list_any test names ≡ true → (name : Name) × Contains names name × (test name ≡ true)
passes_one test [] some = absurd (cc)
passes_one test (name ∷ names) some =
    ⊎_elim
    (λ (is : test name ≡ true). (name, (0, omega arith, refl), is))
    (λ (isnt : test name ≡ false).
    let one = passes_one test names (rw isnt at some) in (one.0, among_more name one.0 names one.1, one.2))
    (cases_Bool (test name))

finds_none : (test : Name → Bool) (names : List Name) → find test names ≡ None → list_any test names ≡ false
finds_none test [] none = refl
finds_none test (name ∷ names) none =
    ⊎_elim
    (λ (is : test name ≡ true). let some : Some name ≡ None = sym (rw is refl) ∙ none in cc)
    (λ (isnt : test name ≡ false). rw isnt (finds_none test names (rw isnt at none)))
    (cases_Bool (test name))

finds_one : (test : Name → Bool) (names : List Name) (name : Name) → find test names ≡ Some name → Contains names name × (test name ≡ true)
finds_one test [] name some = absurd (cc)
finds_one test (first ∷ names) name some =
    ⊎_elim
    (λ (is : test first ≡ true).
    let same : Some first ≡ Some name = sym (rw is refl) ∙ some in
    let one : first ≡ name = cc in ((0, omega arith, one), ap test (sym one) ∙ is))
    (λ (isnt : test first ≡ false).
    let one = finds_one test names name (rw isnt at some) in (among_more first name names one.0, one.1))
    (cases_Bool (test first))

-- the names that a session alone has
pub is_own : Name → Bool
is_own Replace = false
is_own Errors = false
is_own Tree = false
is_own Contrl = false
is_own Text = false
is_own End = false
is_own Undo = true
is_own Redo = true
is_own Batch = true

pub own_undo : is_own Undo ≡ true
unfolding is_own
own_undo = refl

pub own_redo : is_own Redo ≡ true
unfolding is_own
own_redo = refl

pub own_batch : is_own Batch ≡ true
unfolding is_own
own_batch = refl

pub not_of_edit : (name : Name) → is_own name ≡ true → Contains (names_of Edit) name → ⊥
unfolding is_own
not_of_edit name own among = fails_all is_own (names_of Edit) refl name among own

-- of one name there is no other
pub only_name : (name other : Name) → Contains (name ∷ []) other → name ≡ other
only_name name other (zero, below, is) = is
only_name name other (suc k, below, is) = absurd (omega arith)

-- ---- a line as far as it was taken

pub name_found : (names : List Name) (line : List ℕ) (name : Name) → find (λ name. bytes_eq (name_text name) line) names ≡ Some name → IsNameText names name line
name_found names line name found =
    let one = finds_one (λ name. bytes_eq (name_text name) line) names name found in
    (one.0, sym ((bytes_eq-Decides (name_text name) line).0 one.1))

name_filled : (name : Name) → 0 < length (name_text name)
name_filled Replace = omega arith
name_filled Errors = omega arith
name_filled Tree = omega arith
name_filled Contrl = omega arith
name_filled Text = omega arith
name_filled End = omega arith
name_filled Undo = omega arith
name_filled Redo = omega arith
name_filled Batch = omega arith

pub name_part_empty : (names : List Name) → 0 < length names → IsPartOf (IsSomeText (IsNameText names)) []
name_part_empty [] some = absurd (omega arith)
name_part_empty (name ∷ names) some = (name_text name, name_filled name, (name, ((0, omega arith, refl), refl)))

filled_or : (xs : List ℕ) → (xs ≡ []) ⊎ (0 < length xs)
filled_or [] = inl refl
filled_or (x ∷ xs) = inr (omega arith)

pub name_part : (names : List Name) (line : List ℕ) → list_any (λ name. starts_with nat_eq (name_text name) line) names ≡ true → find (λ name. bytes_eq (name_text name) line) names ≡ None → IsPartOf (IsSomeText (IsNameText names)) line
name_part names line begun unfound =
    let one = passes_one (λ name. starts_with nat_eq (name_text name) line) names begun in
    let goes_on : name_text one.0 ≡ line ++ drop (length line) (name_text one.0) = (starts_is Decides-eqb (name_text one.0) line (starts_with nat_eq (name_text one.0) line) refl).0 one.2 in
    let more : 0 < length (drop (length line) (name_text one.0)) = ⊎_elim
    (λ (none : drop (length line) (name_text one.0) ≡ []).
    let whole : name_text one.0 ≡ line = goes_on ∙ ap (λ (xs : List ℕ). line ++ xs) none ∙ append-nil line in
    absurd (fails_all (λ name. bytes_eq (name_text name) line) names (finds_none (λ name. bytes_eq (name_text name) line) names unfound) one.0 one.1 ((bytes_eq-Decides (name_text one.0) line).1 whole)))
    (λ (some : 0 < length (drop (length line) (name_text one.0))). some)
    (filled_or (drop (length line) (name_text one.0))) in
    (drop (length line) (name_text one.0), more, (one.0, (one.1, sym goes_on)))

pub name_bad : (names : List Name) (front : List ℕ) (x : ℕ) → IsPartOf (IsSomeText (IsNameText names)) front → list_any (λ name. starts_with nat_eq (name_text name) (front ++ x ∷ [])) names ≡ false → BeginsNoneOf (IsSomeText (IsNameText names)) (front ++ x ∷ [])
name_bad names front x part unbegun =
    none_after_part (IsNameText names) front x (name_once names) part
    (λ name rest is.
    fails_all (λ name. starts_with nat_eq (name_text name) (front ++ x ∷ [])) names unbegun name is.0
    ((starts_is Decides-eqb (name_text name) (front ++ x ∷ []) (starts_with nat_eq (name_text name) (front ++ x ∷ [])) refl).1 rest (sym is.1 ∙ sym (append_assoc front (x ∷ []) rest))))

name_short : (name : Name) → length (name_text name) ≤ 8
name_short Replace = omega arith
name_short Errors = omega arith
name_short Tree = omega arith
name_short Contrl = omega arith
name_short Text = omega arith
name_short End = omega arith
name_short Undo = omega arith
name_short Redo = omega arith
name_short Batch = omega arith

pub name_part_short : (names : List Name) (front : List ℕ) → IsPartOf (IsSomeText (IsNameText names)) front → length front < 8
name_part_short names front part =
    omega (arith, part.1, name_short part.2.0, ap length part.2.1.1, length-append front part.0)
