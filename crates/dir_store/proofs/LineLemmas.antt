-- Lines: what is spelled is read, and what is read is spelled.
use Rattle.std.proofs.Common.{◌≡◌, suc, add-one, ◌+◌, ◌<◌, ℕ, Bool, true, false, not, ◌&&◌, eqb, List, [], ◌∷◌, ◌++◌, length, get_or, take, drop, Option, Some, None, Result, Ok, Err, refl, sym, ap, ◌∙◌, arith, All}
use Rattle.std.specs.Prelude.{position}
use Rattle.std.specs.List.{list_all, position_or_len, join_with_byte}
use Rattle.std.proofs.Math.Seq.{get_or-append_seam, split_at}
use Rattle.std.proofs.Math.ListN.{get_or-append}
use Rattle.std.proofs.lemmas.Bool.{and_parts, lt-ltb, eqb-true}
use Rattle.std.proofs.lemmas.List.{append_assoc, length-append, take_at, drop_at}
use Rattle.std.proofs.lemmas.List.Folds.{list_all-append}
use Rattle.std.proofs.lemmas.List.Quantifiers.{position-Some}
use Rattle.std.proofs.lemmas.List.Splits.{slice_split_none, slice_split_at, join_with_byte-slice_split}
use Rattle.std.proofs.lemmas.List.Sums.{AllPass-from_list_all, position_or_len_is}
use Rattle.edi_octets.specs.Lines.{is_space, pieces_in}
use Rattle.dir_store.specs.Lines.{◌>>=◌, line_to, line_at, found_at, lined}
use Rattle.edi_octets.specs.Words.{two_of, three_of, four_of, two_in, three_in, four_in}

-- the value of a step that is no fault
pub bind_ok : {A B : Type 0} (read : Result A ℕ) (next : A → Result B ℕ) (y : B) → (read >>= next) ≡ Ok y → (x : A) × (read ≡ Ok x) × (next x ≡ Ok y)
bind_ok (Ok x) next y is = (x, refl, is)
bind_ok (Err fault) next y is = absurd cc

-- equal results have equal values, and equal options equal members
pub ok-is : {A : Type 0} (x y : A) → (let r : Result A ℕ = Ok x in r ≡ Ok y) → x ≡ y
ok-is x y is = cc

pub some-is : {A : Type 0} (x y : A) → (let o : Option A = Some x in o ≡ Some y) → x ≡ y
some-is x y is = cc

-- tests that are passed together
pub and-both : (a b : Bool) → a ≡ true → b ≡ true → (a && b) ≡ true
and-both a b one two = rw (one, two) refl

pub and-three : (a b c : Bool) → a ≡ true → b ≡ true → c ≡ true → (a && b && c) ≡ true
and-three a b c one two three = rw (one, two, three) refl

pub and-four : (a b c d : Bool) → a ≡ true → b ≡ true → c ≡ true → d ≡ true → (a && b && c && d) ≡ true
and-four a b c d one two three four = rw (one, two, three, four) refl

-- an octet of a word: neither a space nor LF
abbrev pub is_plain : ℕ → Bool
is_plain x = not (eqb x 32) && not (eqb x 10)

-- words without a space or LF
abbrev pub IsPlain : List ℕ → Type 0
IsPlain word = list_all is_plain word ≡ true

abbrev pub ArePlain : List (List ℕ) → Type 0
ArePlain [] = Unit {0}
ArePlain (word ∷ words) = IsPlain word × ArePlain words

-- an octet of a line: not LF
abbrev pub is_within : ℕ → Bool
is_within x = not (eqb x 10)

abbrev pub IsLine : List ℕ → Type 0
IsLine line = list_all is_within line ≡ true

not-true : (b : Bool) → not b ≡ true → b ≡ false
not-true true is = cc
not-true false is = refl

-- ---- where a line ends

no-feed : (line : List ℕ) (k : ℕ) → IsLine line → k < length line → eqb (get_or line k 0) 10 ≡ false
no-feed line k plain lt = not-true _ (AllPass-from_list_all is_within line plain k 0 lt)

end-at : (line rest : List ℕ) → IsLine line → position (λ x. eqb x 10) (line ++ 10 ∷ rest) ≡ Some (length line)
end-at line rest plain =
    let place : position_or_len (λ x. eqb x 10) (line ++ 10 ∷ rest) ≡ length line =
    position_or_len_is (λ x. eqb x 10) (line ++ 10 ∷ rest) (length line) 0 (omega (arith, length-append line (10 ∷ rest)))
    (λ k lt. ap (λ x. eqb x 10) (get_or-append line (10 ∷ rest) 0 k lt) ∙ no-feed line k plain lt)
    (λ _. ap (λ x. eqb x 10) (get_or-append_seam line 10 rest 0)) in
    rw (place, lt-ltb (length line) (length (line ++ 10 ∷ rest)) (omega (arith, length-append line (10 ∷ rest)))) refl

after-end : (line rest : List ℕ) → drop (length line + 1) (line ++ 10 ∷ rest) ≡ rest
after-end line rest =
    ap (drop (length line + 1)) (sym (append_assoc line (10 ∷ []) rest)) ∙ drop_at (line ++ 10 ∷ []) rest (length line + 1) (length-append line (10 ∷ []))

-- a line that LF ends is read, whatever follows
pub line-again : (line rest : List ℕ) → IsLine line → line_at (line ++ 10 ∷ rest) ≡ Ok (line, rest)
line-again line rest plain =
    rw (end-at line rest plain) (rw (take_at line (10 ∷ rest) (length line) refl, after-end line rest) refl)

is-feed : (x : ℕ) → eqb x 10 ≡ true → x ≡ 10
is-feed x is = search (arith, eqb-true)

line-to-takes : (octets line rest : List ℕ) (end : Option ℕ) → position (λ x. eqb x 10) octets ≡ end → line_to octets end ≡ Ok (line, rest) → octets ≡ line ++ 10 ∷ rest
line-to-takes octets line rest None place is = absurd cc
line-to-takes octets line rest (Some end) place is =
    let found = position-Some (λ x. eqb x 10) octets end 0 place in
    let same = ok-is (take end octets, drop (end + 1) octets) (line, rest) is in
    let read : take end octets ≡ line = ap (λ (p : List ℕ × List ℕ). p.0) same in
    let after : drop (end + 1) octets ≡ rest = ap (λ (p : List ℕ × List ℕ). p.1) same in
    let feed : get_or octets end 0 ≡ 10 = is-feed _ found.1 in
    rw (← read, ← after, add-one) (split_at octets end 0 found.0 ∙ ap (λ x. take end octets ++ x ∷ drop (suc end) octets) feed)

-- what is read as a line is spelled so
pub line-takes : (octets line rest : List ℕ) → line_at octets ≡ Ok (line, rest) → octets ≡ line ++ 10 ∷ rest
line-takes octets line rest is = line-to-takes octets line rest (position (λ x. eqb x 10) octets) refl is

-- ---- what a line gives by a rule

pub found-takes : {A : Type 0} (octets : List ℕ) (found : Option A) (x : A) (after rest : List ℕ) → found_at octets found after ≡ Ok (x, rest) → (found ≡ Some x) × (after ≡ rest)
found-takes octets None x after rest is = absurd cc
found-takes {A} octets (Some y) x after rest is =
    let same = ok-is (y, after) (x, rest) is in
    (ap (λ (p : A × List ℕ). Some p.0) same, ap (λ (p : A × List ℕ). p.1) same)

pub lined-takes : {A : Type 0} (rule : List ℕ → Option A) (octets : List ℕ) (x : A) (rest : List ℕ) → lined rule octets ≡ Ok (x, rest) → (line : List ℕ) × (rule line ≡ Some x) × (octets ≡ line ++ 10 ∷ rest)
lined-takes rule octets x rest is =
    let read = bind_ok (line_at octets) (λ line. found_at octets (rule line.0) line.1) (x, rest) is in
    let found = found-takes octets (rule read.0.0) x read.0.1 rest read.2 in
    (read.0.0, found.0, line-takes octets read.0.0 rest (read.1 ∙ ap (λ after. Ok (read.0.0, after)) found.1))

pub lined-again : {A : Type 0} (rule : List ℕ → Option A) (line : List ℕ) (x : A) (rest : List ℕ) → IsLine line → rule line ≡ Some x → lined rule (line ++ 10 ∷ rest) ≡ Ok (x, rest)
lined-again rule line x rest plain is = rw (line-again line rest plain) (rw is refl)

-- ---- words

no-space : (x : ℕ) → is_plain x ≡ true → is_space x ≡ false
no-space x is = not-true _ (and_parts (not (eqb x 32)) (not (eqb x 10)) is).0

plain-word : (word : List ℕ) → IsPlain word → All (λ x. is_space x ≡ false) word
plain-word word plain k d lt = no-space _ (AllPass-from_list_all is_plain word plain k d lt)

-- words without a space are found again
pub pieces-again : (word : List ℕ) (words : List (List ℕ)) → IsPlain word → ArePlain words → pieces_in (join_with_byte 32 (word ∷ words)) ≡ word ∷ words
pieces-again word [] plain all = slice_split_none is_space word (plain-word word plain)
pieces-again word (next ∷ words) plain all =
    slice_split_at is_space word 32 (join_with_byte 32 (next ∷ words)) (plain-word word plain) refl ∙ ap (λ more. word ∷ more) (pieces-again next words all.0 all.1)

-- the line is its words
pub joined : (line : List ℕ) (words : List (List ℕ)) → pieces_in line ≡ words → line ≡ join_with_byte 32 words
joined line words is = sym (join_with_byte-slice_split 32 line) ∙ ap (join_with_byte 32) is

-- and a line has no LF if its words have none
within-plain : (x : ℕ) → is_plain x ≡ true → is_within x ≡ true
within-plain x is = (and_parts (not (eqb x 32)) (not (eqb x 10)) is).1

pub line-plain : (word : List ℕ) → IsPlain word → IsLine word
line-plain [] plain = refl
line-plain (x ∷ word) plain =
    let parts = and_parts (is_plain x) (list_all is_plain word) plain in
    and-both (is_within x) (list_all is_within word) (within-plain x parts.0) (line-plain word parts.1)

pub joined-line : (word : List ℕ) (words : List (List ℕ)) → IsPlain word → ArePlain words → IsLine (join_with_byte 32 (word ∷ words))
joined-line word [] plain all = line-plain word plain
joined-line word (next ∷ words) plain all =
    rw (list_all-append, line-plain word plain) (joined-line next words all.0 all.1)

-- ---- lines of two words, three and four

two-are : (words : List (List ℕ)) (a b : List ℕ) → two_of words ≡ Some (a, b) → words ≡ a ∷ b ∷ []
two-are [] a b is = absurd cc
two-are (x ∷ []) a b is = absurd cc
two-are (x ∷ y ∷ []) a b is = ap (λ (p : List ℕ × List ℕ). p.0 ∷ p.1 ∷ []) (some-is (x, y) (a, b) is)
two-are (x ∷ y ∷ z ∷ more) a b is = absurd cc

pub two-takes : (line a b : List ℕ) → two_in line ≡ Some (a, b) → line ≡ join_with_byte 32 (a ∷ b ∷ [])
two-takes line a b is = joined line (a ∷ b ∷ []) (two-are (pieces_in line) a b is)

pub two-again : (a b : List ℕ) → IsPlain a → IsPlain b → two_in (join_with_byte 32 (a ∷ b ∷ [])) ≡ Some (a, b)
two-again a b one two = ap two_of (pieces-again a (b ∷ []) one (two, tt))

three-are : (words : List (List ℕ)) (a b c : List ℕ) → three_of words ≡ Some (a, b, c) → words ≡ a ∷ b ∷ c ∷ []
three-are [] a b c is = absurd cc
three-are (x ∷ []) a b c is = absurd cc
three-are (x ∷ y ∷ []) a b c is = absurd cc
three-are (x ∷ y ∷ z ∷ []) a b c is =
    ap (λ (p : List ℕ × List ℕ × List ℕ). p.0 ∷ p.1 ∷ p.2 ∷ []) (some-is (x, y, z) (a, b, c) is)
three-are (x ∷ y ∷ z ∷ w ∷ more) a b c is = absurd cc

pub three-takes : (line a b c : List ℕ) → three_in line ≡ Some (a, b, c) → line ≡ join_with_byte 32 (a ∷ b ∷ c ∷ [])
three-takes line a b c is = joined line (a ∷ b ∷ c ∷ []) (three-are (pieces_in line) a b c is)

pub three-again : (a b c : List ℕ) → IsPlain a → IsPlain b → IsPlain c → three_in (join_with_byte 32 (a ∷ b ∷ c ∷ [])) ≡ Some (a, b, c)
three-again a b c one two three = ap three_of (pieces-again a (b ∷ c ∷ []) one (two, (three, tt)))

four-are : (words : List (List ℕ)) (a b c d : List ℕ) → four_of words ≡ Some (a, b, c, d) → words ≡ a ∷ b ∷ c ∷ d ∷ []
four-are [] a b c d is = absurd cc
four-are (x ∷ []) a b c d is = absurd cc
four-are (x ∷ y ∷ []) a b c d is = absurd cc
four-are (x ∷ y ∷ z ∷ []) a b c d is = absurd cc
four-are (x ∷ y ∷ z ∷ w ∷ []) a b c d is =
    ap (λ (p : List ℕ × List ℕ × List ℕ × List ℕ). p.0 ∷ p.1 ∷ p.2 ∷ p.3 ∷ []) (some-is (x, y, z, w) (a, b, c, d) is)
four-are (x ∷ y ∷ z ∷ w ∷ v ∷ more) a b c d is = absurd cc

pub four-takes : (line a b c d : List ℕ) → four_in line ≡ Some (a, b, c, d) → line ≡ join_with_byte 32 (a ∷ b ∷ c ∷ d ∷ [])
four-takes line a b c d is = joined line (a ∷ b ∷ c ∷ d ∷ []) (four-are (pieces_in line) a b c d is)

pub four-again : (a b c d : List ℕ) → IsPlain a → IsPlain b → IsPlain c → IsPlain d → four_in (join_with_byte 32 (a ∷ b ∷ c ∷ d ∷ [])) ≡ Some (a, b, c, d)
four-again a b c d one two three four = ap four_of (pieces-again a (b ∷ c ∷ d ∷ []) one (two, (three, (four, tt))))
