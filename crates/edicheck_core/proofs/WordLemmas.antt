-- No word is wrong exactly where the words are of a form.
use Rattle.std.proofs.Common.{◌≡◌, ◌↔◌, ℕ, ◌+◌, Bool, true, false, ◌&&◌, cond, not, List, [], ◌∷◌, Option, Some, None, option_map, option_and_then, is_some, is_none, IsSome, IsNone, codes, bytes_eq, refl, sym, ◌∙◌, subst, inl, inr}
use Rattle.std.proofs.lemmas.Bool.{cases_Bool}
use Rattle.std.proofs.lemmas.Slice.Eq.{bytes_eq-Decides}
use Rattle.edi_tables.specs.Octets.{Octets}
use Rattle.edi_octets.specs.Name.{is_name_of}
use Rattle.contrl_segments.specs.declared.stamp.Stamp.{Stamp}
use Rattle.contrl_segments.specs.Stamp.{is_reference_of, stamp_in}
use Rattle.edicheck_core.specs.declared.wrong_word.Expected.{Expected}
use Rattle.edicheck_core.specs.declared.wrong_word.WrongWord.{WrongWord}
use Rattle.edicheck_core.specs.Form.{Asked, Drill, form_of, number_in}
use Rattle.edicheck_core.specs.WrongWord.{expected_after, is_expected, wrong_from, wrong_word_of}

-- none of a word and those after it is wrong exactly where they are of a form
abbrev Agree : Octets → List Octets → Type 0
Agree word words = is_none (wrong_word_of (word ∷ words)) ≡ is_some (form_of (word ∷ words))

-- a word is this one, or another
either : (literal word : Octets) (words : List Octets) → Agree literal words
    → (bytes_eq word literal ≡ false → Agree word words) → Agree word words
either literal word words same other =
    elim (cases_Bool (bytes_eq word literal)) [
      | inl is ↦ subst (λ (w : Octets). Agree w words) (sym ((bytes_eq-Decides word literal).0 is)) same
      | inr not_is ↦ other not_is
    ]

-- ---- where there are more words than expected, or fewer

-- there are as many as expected
abbrev are_as_many : List Octets → List Expected → Bool
are_as_many [] [] = true
are_as_many (word ∷ words) (first ∷ others) = are_as_many words others
are_as_many words expected = false

-- there are as many as a command expects, if it is one
abbrev fit : List Octets → Option (List Expected) → Bool
fit words None = false
fit words (Some expected) = are_as_many words expected

fit_if : (words : List Octets) (b : Bool) (x y : Option (List Expected)) → fit words (cond b x y) ≡ cond b (fit words x) (fit words y)
fit_if words true x y = refl
fit_if words false x y = refl

-- the same either way
either_way : (b : Bool) → cond b false false ≡ false
either_way true = refl
either_way false = refl

formless : (b : Bool) → is_some (cond {A = Option Asked} b None None) ≡ false
formless true = refl
formless false = refl

then_wrong : (b : Bool) (x : Option WrongWord) (y : WrongWord) → is_none x ≡ false → is_none (cond b x (Some y)) ≡ false
then_wrong true x y wrong = wrong
then_wrong false x y wrong = refl

-- some word of these is wrong, as there are more than expected, or fewer
one_wrong : (place : ℕ) (expected : List Expected) (words : List Octets) → are_as_many words expected ≡ false
    → is_none (wrong_from place expected words) ≡ false
one_wrong place [] [] other = cc
one_wrong place [] (word ∷ words) other = refl
one_wrong place (first ∷ others) [] other = refl
one_wrong place (first ∷ others) (word ∷ words) other =
    then_wrong (is_expected first word) _ _ (one_wrong (place + 1) others words other)

misfit_by : (expected : Option (List Expected)) (words : List Octets) (unknown : WrongWord) → fit words expected ≡ false
    → is_none (elim expected [ None ↦ Some unknown | Some list ↦ wrong_from 2 list words ]) ≡ false
misfit_by None words unknown other = refl
misfit_by (Some expected) words unknown other = one_wrong 2 expected words other

-- so too after the word of a command, or after another word
misfit : (word : Octets) (words : List Octets) → fit words (expected_after word) ≡ false
    → is_some (form_of (word ∷ words)) ≡ false → Agree word words
misfit word words other none = misfit_by (expected_after word) words _ other ∙ sym none

-- ---- where there are as many

-- an expected name, two and three, three numbers, and two names with a stamp and a reference
one_name : (a : Bool) (x : WrongWord) (form : Asked) → is_none (cond a None (Some x)) ≡ is_some (cond a (Some form) None)
one_name true x form = refl
one_name false x form = refl

two_names : (a b : Bool) (x y : WrongWord) (form : Asked)
    → is_none (cond a (cond b None (Some y)) (Some x)) ≡ is_some (cond (a && b) (Some form) None)
two_names true b x y form = one_name b y form
two_names false b x y form = refl

three_names : (a b c : Bool) (x y z : WrongWord) (form : Asked)
    → is_none (cond a (cond b (cond c None (Some z)) (Some y)) (Some x)) ≡ is_some (cond (a && b && c) (Some form) None)
three_names true b c x y z form = two_names b c y z form
three_names false b c x y z form = refl

three_numbers : (a b c : Option ℕ) (x y z : WrongWord)
    → is_none (cond (is_some a) (cond (is_some b) (cond (is_some c) None (Some z)) (Some y)) (Some x))
    ≡ is_some (option_and_then (λ n. option_and_then (λ k. option_map (Drill n k) c) b) a)
three_numbers None b c x y z = refl
three_numbers (Some n) None c x y z = refl
three_numbers (Some n) (Some k) None x y z = refl
three_numbers (Some n) (Some k) (Some number) x y z = refl

two_names_stamped : (a b c : Bool) (stamp : Option Stamp) (x y z u : WrongWord) (form : Stamp → Asked)
    → is_none (cond a (cond b (cond (is_some stamp) (cond c None (Some u)) (Some z)) (Some y)) (Some x))
    ≡ is_some (cond (a && b && c) (option_map form stamp) None)
two_names_stamped false b c stamp x y z u form = refl
two_names_stamped true false c stamp x y z u form = refl
two_names_stamped true true false None x y z u form = refl
two_names_stamped true true false (Some stamp) x y z u form = refl
two_names_stamped true true true None x y z u form = refl
two_names_stamped true true true (Some stamp) x y z u form = refl

-- ---- by how many words there are

-- the word of a command alone, with one word after it, and with two, three and four
with_none : (word : Octets) → Agree word []
with_none word =
    either (codes "--help") word _ refl (λ help.
    either (codes "--version") word _ refl (λ version.
    either (codes "segments") word _ refl (λ segments.
    either (codes "values") word _ refl (λ values.
    misfit word _ (simp (help, version, segments, values, fit_if, either_way)) (simp (help, version, segments, values))))))

with_one : (word manifest : Octets) → Agree word (manifest ∷ [])
with_one word manifest =
    let name = one_name (is_name_of manifest) in
    either (codes "tables") word _ (name _ _) (λ tables.
    either (codes "compile") word _ (name _ _) (λ compile.
    misfit word _ (simp (tables, compile, fit_if, either_way)) (simp (tables, compile))))

with_two : (word manifest text : Octets) → Agree word (manifest ∷ text ∷ [])
with_two word manifest text =
    let names = two_names (is_name_of manifest) (is_name_of text) in
    either (codes "check") word _ (names _ _ _) (λ check.
    either (codes "edit") word _ (names _ _ _) (λ edit.
    either (codes "session") word _ (names _ _ _) (λ session.
    misfit word _ (simp (check, edit, session, fit_if, either_way))
    (simp (check, edit, session) (formless (is_name_of manifest && is_name_of text))))))

with_three : (word first second third : Octets) → Agree word (first ∷ second ∷ third ∷ [])
with_three word first second third =
    let names = three_names (is_name_of first) (is_name_of second) (is_name_of third) in
    let numbers = three_numbers (number_in 1 1000 first) (number_in 0 1000 second) (number_in 0 999999999 third) in
    either (codes "match") word _ (names _ _ _ _) (λ match.
    either (codes "guide") word _ (names _ _ _ _) (λ guide.
    either (codes "drill") word _ (numbers _ _ _) (λ drill.
    misfit word _ (simp (match, guide, drill, fit_if, either_way))
    (simp (match, guide, drill) (formless (is_name_of first && is_name_of second && is_name_of third))))))

with_four : (word manifest text stamp reference : Octets) → Agree word (manifest ∷ text ∷ stamp ∷ reference ∷ [])
with_four word manifest text stamp reference =
    let names = two_names_stamped (is_name_of manifest) (is_name_of text) (is_reference_of reference) (stamp_in stamp) in
    either (codes "contrl") word _ (names _ _ _ _ _) (λ contrl. misfit word _ (simp (contrl, fit_if, either_way)) (simp contrl))

-- all words together
none_is_some : (words : List Octets) → is_none (wrong_word_of words) ≡ is_some (form_of words)
none_is_some [] = refl
none_is_some (word ∷ []) = with_none word
none_is_some (word ∷ a ∷ []) = with_one word a
none_is_some (word ∷ a ∷ b ∷ []) = with_two word a b
none_is_some (word ∷ a ∷ b ∷ c ∷ []) = with_three word a b c
none_is_some (word ∷ a ∷ b ∷ c ∷ d ∷ []) = with_four word a b c d
none_is_some (word ∷ a ∷ b ∷ c ∷ d ∷ e ∷ words) = misfit word (a ∷ b ∷ c ∷ d ∷ e ∷ words) (simp (fit_if, either_way)) refl

exactly : (a b : Bool) → not a ≡ b → (a ≡ false) ↔ (b ≡ true)
exactly true b same = (λ is. cc, λ is. cc)
exactly false b same = (λ is. sym same, λ is. refl)

pub none_where_form : (words : List Octets) → IsNone (wrong_word_of words) ↔ IsSome (form_of words)
none_where_form words = exactly (is_some (wrong_word_of words)) (is_some (form_of words)) (none_is_some words)
