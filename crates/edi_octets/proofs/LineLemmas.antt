-- Lines, step by step.
use Rattle.std.proofs.Common.{◌≡◌, ℕ, ◌+◌, ◌<◌, ◌≤◌, Bool, true, false, ◌==◌, suc, List, [], ◌∷◌, length, take, drop, refl, ap, ◌∙◌, ⊎_elim, arith}
use Rattle.std.specs.List.{slice_split, position_or_len, onto_first}
use Rattle.std.proofs.lemmas.Bool.{cases_Bool, false_from_ne_true}
use Rattle.std.proofs.lemmas.List.Elements.{All-from_get_or}
use Rattle.std.proofs.lemmas.List.Sums.{position_or_len_is}
use Rattle.std.proofs.lemmas.List.Splits.{slice_split_first, slice_split_none}
use Rattle.memchr.specs.Find.{is_byte, Passes, NoneBefore}
use Rattle.edi_octets.specs.Lines.{without_return, line_octets, numbered_from, lines_from}
use Rattle.edi_octets.proofs.CellLemmas.{is_filled-true}
use Rattle.edi_octets.proofs.SplitLemmas.{first_part}

-- what a search for an octet found is the first place that has it
pub place-from_search : (octet : ℕ) (text : List ℕ) (k : ℕ) → NoneBefore (Passes (is_byte octet) text) 0 (length text) k × Passes (is_byte octet) text k → position_or_len (λ x. x == octet) text ≡ k
place-from_search octet text k found =
    position_or_len_is (λ x. x == octet) text k 0 (omega (arith, found.0.high)) (λ i lt. false_from_ne_true _ (found.0.before i (omega arith) lt)) (λ _. found.1)

abbrev pub is_line_feed : ℕ → Bool
is_line_feed x = x == 10

-- a part that LF ends is a line, whatever follows
line_octets-cons : (part text : List ℕ) → line_octets (part ∷ slice_split is_line_feed text) ≡ without_return part ∷ line_octets (slice_split is_line_feed text)
line_octets-cons part text = let behind = first_part is_line_feed text in rw behind.2 refl

pub lines_from-nil : (n : ℕ) → lines_from n [] ≡ []
unfolding lines_from
lines_from-nil n = refl

-- a text with LF begins with the line that it ends
pub lines_from-cut : (n : ℕ) (text : List ℕ) (k : ℕ) → NoneBefore (Passes (is_byte 10) text) 0 (length text) k × Passes (is_byte 10) text k → lines_from n text ≡ record { number = n; octets = without_return (take k text) } ∷ lines_from (n + 1) (drop (k + 1) text)
unfolding lines_from
lines_from-cut n text k found =
    let place : position_or_len is_line_feed text ≡ k = place-from_search 10 text k found in
    let parts : slice_split is_line_feed text ≡ take k text ∷ slice_split is_line_feed (drop (k + 1) text) =
    rw (← place) (slice_split_first is_line_feed text 0 (omega (arith, found.0.high))) in
    ap (λ all. numbered_from n (line_octets all)) parts ∙ ap (numbered_from n) (line_octets-cons (take k text) (drop (k + 1) text))

-- a text without LF is the last line, where it isn't empty
pub lines_from-last : (n : ℕ) (text : List ℕ) → 0 < length text → ((k : ℕ) → 0 ≤ k → k < length text → Passes (is_byte 10) text k → ⊥) → lines_from n text ≡ record { number = n; octets = text } ∷ lines_from (n + 1) []
unfolding lines_from
lines_from-last n text some none =
    let parts : slice_split is_line_feed text ≡ text ∷ [] =
    slice_split_none is_line_feed text (All-from_get_or (λ x. is_line_feed x ≡ false) text 0 (λ i lt. false_from_ne_true _ (none i (omega arith) lt))) in
    rw (parts, is_filled-true text some) refl

length-numbered_from : (n : ℕ) (all : List (List ℕ)) → length (numbered_from n all) ≡ length all
length-numbered_from n [] = refl
length-numbered_from n (octets ∷ all) = ap (λ x. suc x) (length-numbered_from (n + 1) all)

length-onto_first : (x : ℕ) (parts : List (List ℕ)) → length (line_octets (onto_first x parts)) ≤ length (line_octets parts) + 1
length-onto_first x [] = omega arith
length-onto_first x (part ∷ []) = omega arith
length-onto_first x (part ∷ next ∷ parts) = omega arith

length-line_octets : (text : List ℕ) → length (line_octets (slice_split is_line_feed text)) ≤ length text
length-line_octets [] = omega arith
length-line_octets (x ∷ text) =
    let parts = slice_split is_line_feed text in
    ⊎_elim
    (λ (ends : is_line_feed x ≡ true). rw ends (omega (arith, ap length (line_octets-cons [] text), length-line_octets text)))
    (λ (stays : is_line_feed x ≡ false). rw stays (omega (arith, length-onto_first x parts, length-line_octets text)))
    (cases_Bool (is_line_feed x))

-- a text has no more lines than octets
pub length-lines_from : (n : ℕ) (text : List ℕ) → length (lines_from n text) ≤ length text
unfolding lines_from
length-lines_from n text = omega (arith, length-numbered_from n (line_octets (slice_split is_line_feed text)), length-line_octets text)
