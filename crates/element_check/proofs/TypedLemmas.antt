-- What a scan finds is what it finds of the class of a value, and whether the level refuses an octet.
use Rattle.std.proofs.Common.{◌≡◌, ℕ, ◌+◌, Bool, true, false, not, ◌||◌, Some, None, List, [], ◌∷◌, length, refl, sym, ap, ◌∙◌, arith, zero-add}
use Rattle.std.proofs.lemmas.Bool.{and_parts}
use Rattle.std.specs.List.{list_all, list_any}
use Rattle.edi_tables.specs.Tag.{is_digit}
use Rattle.edi_tables.specs.declared.element.Class.{Class}
use Rattle.edi_tables.specs.declared.element.Class.TheVariants.{A, N, An}
use Rattle.seg_lexer.specs.declared.context.Level.{Level}
use Rattle.seg_lexer.specs.declared.service.Service.{Service}
use Rattle.element_check.specs.Repertoire.{is_admitted}
use Rattle.element_check.specs.Tally.{length_if_typed, nothing_found, numbered_after, sort_of, tally_after, tally_by, typed_after, typed_by}
use Rattle.element_check.specs.declared.tally.NumberForm.{NumberForm}
use Rattle.element_check.specs.declared.tally.NumberForm.TheVariants.{Start, Whole}
use Rattle.element_check.specs.declared.tally.Sort.TheVariants.{Digit}
use Rattle.element_check.specs.declared.tally.Tally.{Tally}

-- what was found, with another answer on the repertoire
abbrev pub refused_as : Bool → Tally → Tally
refused_as b t = record { refused = b; foreign = t.foreign; counted = t.counted; form = t.form }

-- the tests of a class don't look at that answer
apart : (s : Service) (class : Class) (b : Bool) (t : Tally) (xs : List ℕ) → typed_by s class (refused_as b t) xs ≡ refused_as b (typed_by s class t xs)
apart s class b t [] = refl
apart s A b t (x ∷ xs) = apart s A b (typed_after s A t x) xs
apart s N b t (x ∷ xs) = apart s N b (typed_after s N t x) xs
apart s An b t (x ∷ xs) = apart s An b (typed_after s An t x) xs

abbrev is_refused : Level → ℕ → Bool
is_refused level x = not (is_admitted level x)

or_false : (b : Bool) → b ≡ (b || false)
or_false true = refl
or_false false = refl

or_assoc : (a b c : Bool) → ((a || b) || c) ≡ (a || (b || c))
or_assoc true b c = refl
or_assoc false b c = refl

-- a scan finds both
pub typed_apart : (level : Level) (s : Service) (class : Class) (t : Tally) (xs : List ℕ)
    → tally_by level s class t xs ≡ refused_as (t.refused || list_any (is_refused level) xs) (typed_by s class t xs)
typed_apart level s class t [] = ap (λ (b : Bool). refused_as b t) (or_false t.refused)
typed_apart level s class t (x ∷ xs) =
    typed_apart level s class (tally_after level s class t x) xs
    ∙ ap (refused_as ((t.refused || is_refused level x) || list_any (is_refused level) xs)) (apart s class (t.refused || is_refused level x) (typed_after s class t x) xs)
    ∙ ap (λ (b : Bool). refused_as b (typed_by s class (typed_after s class t x) xs)) (or_assoc t.refused (is_refused level x) (list_any (is_refused level) xs))

-- of a value of class an only the length is found
typed_an : (s : Service) (refused foreign : Bool) (n : ℕ) (form : NumberForm) (xs : List ℕ)
    → typed_by s An (record { refused = refused; foreign = foreign; counted = n; form = form }) xs
    ≡ record { refused = refused; foreign = foreign; counted = n + length xs; form = form }
typed_an s refused foreign n form [] = ap (λ (m : ℕ). record { refused = refused; foreign = foreign; counted = m; form = form }) (omega arith)
typed_an s refused foreign n form (x ∷ xs) =
    typed_an s refused foreign (n + 1) form xs
    ∙ ap (λ (m : ℕ). record { refused = refused; foreign = foreign; counted = m; form = form }) (omega arith)

-- of one of class a the length, and whether it has a digit
typed_a : (s : Service) (refused foreign : Bool) (n : ℕ) (form : NumberForm) (xs : List ℕ)
    → typed_by s A (record { refused = refused; foreign = foreign; counted = n; form = form }) xs
    ≡ record { refused = refused; foreign = foreign || list_any is_digit xs; counted = n + length xs; form = form }
typed_a s refused foreign n form [] =
    ap (λ (m : ℕ). record { refused = refused; foreign = foreign; counted = m; form = form }) (omega arith)
    ∙ ap (λ (b : Bool). record { refused = refused; foreign = b; counted = n + 0; form = form }) (or_false foreign)
typed_a s refused foreign n form (x ∷ xs) =
    typed_a s refused (foreign || is_digit x) (n + 1) form xs
    ∙ ap (λ (m : ℕ). record { refused = refused; foreign = (foreign || is_digit x) || list_any is_digit xs; counted = m; form = form }) (omega arith)
    ∙ ap (λ (b : Bool). record { refused = refused; foreign = b; counted = n + length (x ∷ xs); form = form }) (or_assoc foreign (is_digit x) (list_any is_digit xs))

-- the same from the first octet on
pub all_an : (s : Service) (xs : List ℕ) → record { refused = false; foreign = false; counted = length xs; form = Start } ≡ typed_by s An nothing_found xs
all_an s xs =
    ap (λ (m : ℕ). record { refused = false; foreign = false; counted = m; form = Start }) (sym (zero-add (length xs)))
    ∙ sym (typed_an s false false 0 Start xs)

all_a : (s : Service) (xs : List ℕ) → record { refused = false; foreign = list_any is_digit xs; counted = length xs; form = Start } ≡ typed_by s A nothing_found xs
all_a s xs =
    ap (λ (m : ℕ). record { refused = false; foreign = list_any is_digit xs; counted = m; form = Start }) (sym (zero-add (length xs)))
    ∙ sym (typed_a s false false 0 Start xs)

pub digitless : (s : Service) (xs : List ℕ) → list_any is_digit xs ≡ false → Some (length xs) ≡ length_if_typed A (typed_by s A nothing_found xs)
digitless s xs none =
    ap (λ (b : Bool). length_if_typed A (record { refused = false; foreign = b; counted = length xs; form = Start })) (sym none)
    ∙ ap (length_if_typed A) (all_a s xs)

pub digit_there : (s : Service) (xs : List ℕ) → list_any is_digit xs ≡ true → None ≡ length_if_typed A (typed_by s A nothing_found xs)
digit_there s xs some =
    ap (λ (b : Bool). length_if_typed A (record { refused = false; foreign = b; counted = length xs; form = Start })) (sym some)
    ∙ ap (length_if_typed A) (all_a s xs)

-- a digit's sort
digit_sort : (s : Service) (x : ℕ) → is_digit x ≡ true → sort_of s x ≡ Digit
unfolding sort_of
digit_sort s x is = rw is

-- digits alone are a whole number of so many octets
abbrev whole : ℕ → Tally
whole n = record { refused = false; foreign = false; counted = n; form = Whole }

more_digits : (s : Service) (n : ℕ) (xs : List ℕ) → list_all is_digit xs ≡ true → typed_by s N (whole n) xs ≡ whole (n + length xs)
more_digits s n [] all = ap whole (omega arith)
more_digits s n (x ∷ xs) all =
    let both = and_parts (is_digit x) (list_all is_digit xs) all in
    ap (λ t. typed_by s N (numbered_after (whole n) t) xs) (digit_sort s x both.0)
    ∙ more_digits s (n + 1) xs both.1
    ∙ ap whole (omega arith)

pub typed_digits : (s : Service) (xs : List ℕ) → (length xs ≡ 0 → ⊥) → list_all is_digit xs ≡ true
    → typed_by s N nothing_found xs ≡ whole (length xs)
typed_digits s [] some all = absurd (some refl)
typed_digits s (x ∷ xs) some all =
    let both = and_parts (is_digit x) (list_all is_digit xs) all in
    ap (λ t. typed_by s N (numbered_after nothing_found t) xs) (digit_sort s x both.0)
    ∙ more_digits s 1 xs both.1
    ∙ ap whole (omega arith)
