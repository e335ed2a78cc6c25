-- Lines have no LF, and fields no space either.
use Rattle.std.proofs.Common.{◌≡◌, ◌-◌, ◌+◌, ℕ, Bool, true, false, not, ◌==◌, ◌&&◌, if◌then◌else◌, List, [], ◌∷◌, length, take, drop, map, filter, slice_index, refl, ⊎_elim}
use Rattle.std.specs.List.{All, AllPass, slice_split}
use Rattle.std.proofs.lemmas.Bool.{cases_Bool}
use Rattle.std.proofs.lemmas.List.Elements.{All-cons, All-head, All-tail, All-take, All-drop, All-map, All-filter, All-weaker, filter_passes}
use Rattle.edi_octets.specs.Lines.{Line, without_return, line_octets, numbered_from, lines_from, lines_of, cells_of}
use Rattle.edi_tables.specs.Filled.{is_filled}
use Rattle.edi_octets.specs.Profile.{fields_of, first_field, is_written, is_separator, entries_of}
use Rattle.edi_octets.proofs.CellLemmas.{behind_marks, fields_of-behind}
use Rattle.edi_octets.proofs.EachLemmas.{All-none, All-each, All-slice_split}

-- an octet of a line
abbrev pub is_line_octet : ℕ → Bool
is_line_octet x = not (x == 10)

-- an octet of a field
abbrev pub is_field_octet : ℕ → Bool
is_field_octet x = not (x == 32) && not (x == 10)

abbrev pub IsPlain : Line → Type 0
IsPlain line = AllPass is_line_octet line.octets

-- a condition doesn't matter where both sides have it
All-if : (P : ℕ → Type 0) (test : Bool) (xs ys : List ℕ) → All P xs → All P ys → All P (if test then xs else ys)
All-if P true xs ys first second = first
All-if P false xs ys first second = second

All-without_return : (P : ℕ → Type 0) (octets : List ℕ) → All P octets → All P (without_return octets)
All-without_return P octets all =
    All-if P (is_filled octets) (if slice_index octets (length octets - 1) == 13 then take (length octets - 1) octets else octets) octets
    (All-if P (slice_index octets (length octets - 1) == 13) (take (length octets - 1) octets) octets (All-take P (length octets - 1) octets all) all)
    all

All-line_octets : (P : ℕ → Type 0) (parts : List (List ℕ)) → All (All P) parts → All (All P) (line_octets parts)
All-line_octets P [] all = All-none (All P)
All-line_octets P (last ∷ []) all =
    ⊎_elim
    (λ (some : is_filled last ≡ true). rw some all)
    (λ (none : is_filled last ≡ false). rw none (All-none (All P)))
    (cases_Bool (is_filled last))
All-line_octets P (part ∷ next ∷ parts) all =
    All-cons (All P) (without_return part) (line_octets (next ∷ parts)) (All-without_return P part (All-head (All P) part (next ∷ parts) all)) (All-line_octets P (next ∷ parts) (All-tail (All P) part (next ∷ parts) all))

All-numbered_from : (P : ℕ → Type 0) (n : ℕ) (all : List (List ℕ)) → All (All P) all → All (λ (line : Line). All P line.octets) (numbered_from n all)
All-numbered_from P n [] all = All-none (λ (line : Line). All P line.octets)
All-numbered_from P n (octets ∷ more) all =
    All-cons (λ (line : Line). All P line.octets) (record { number = n; octets = octets }) (numbered_from (n + 1) more) (All-head (All P) octets more all) (All-numbered_from P (n + 1) more (All-tail (All P) octets more all))

plain_at : (x : ℕ) → (x == 10) ≡ false → Unit {0} → is_line_octet x ≡ true
plain_at x other given = rw other refl

-- the lines of a file have no LF
lines_of-plain : (file : List ℕ) → All IsPlain (lines_of file)
unfolding lines_from
lines_of-plain file =
    All-numbered_from (λ x. is_line_octet x ≡ true) 1 (line_octets (slice_split (λ x. x == 10) file))
    (All-line_octets (λ x. is_line_octet x ≡ true) (slice_split (λ x. x == 10) file)
    (All-slice_split (λ x. x == 10) (λ _. Unit {0}) (λ x. is_line_octet x ≡ true) plain_at file (All-each (λ _. Unit {0}) (λ _. tt) file)))

-- nor have the lines of its entries
entries_of-plain : (lines : List Line) → All IsPlain lines → All (All IsPlain) (entries_of lines)
unfolding entries_of
entries_of-plain lines all =
    let parts = slice_split is_separator lines in
    let kept = drop 1 parts in
    let cut : All (All IsPlain) parts = All-slice_split is_separator IsPlain IsPlain (λ line other plain. plain) lines all in
    All-filter is_filled (All IsPlain) (map (filter is_written) kept)
    (All-map (All IsPlain) (filter is_written) kept
    (All-weaker (All IsPlain) (λ part. All IsPlain (filter is_written part)) (λ part plain. All-filter is_written IsPlain part plain) kept
    (All-drop (All IsPlain) 1 parts cut)))

-- an entry has a line, and its lines have no LF
pub record IsEntry (entry : List Line) : Type 0 where
  pub filled : is_filled entry ≡ true
  pub plain : All IsPlain entry

entries_of-filled : (lines : List Line) → AllPass is_filled (entries_of lines)
unfolding entries_of
entries_of-filled lines = filter_passes is_filled (map (filter is_written) (drop 1 (slice_split is_separator lines)))

pub entries_of-entries : (file : List ℕ) → All IsEntry (entries_of (lines_of file))
entries_of-entries file k d lt =
    record { filled = entries_of-filled (lines_of file) k d lt; plain = entries_of-plain (lines_of file) (lines_of-plain file) k d lt }

field_at : (x : ℕ) → (x == 32) ≡ false → is_line_octet x ≡ true → is_field_octet x ≡ true
field_at x other given = rw other given

-- the cells of a line have no space
cells_of-plain : (octets : List ℕ) → AllPass is_line_octet octets → All (AllPass is_field_octet) (cells_of octets)
unfolding cells_of
cells_of-plain octets all =
    All-filter is_filled (AllPass is_field_octet) (slice_split (λ x. x == 32) octets)
    (All-slice_split (λ x. x == 32) (λ x. is_line_octet x ≡ true) (λ x. is_field_octet x ≡ true) field_at octets all)

All-behind : (P : ℕ → Type 0) (octets : List ℕ) → All P octets → All P (behind_marks octets)
All-behind P octets all = All-if P _ (drop _ octets) octets (All-drop P _ octets all) all

-- nor have its fields
pub fields_of-plain : (octets : List ℕ) → AllPass is_line_octet octets → All (AllPass is_field_octet) (fields_of octets)
fields_of-plain octets all =
    rw fields_of-behind (cells_of-plain (behind_marks octets) (All-behind (λ x. is_line_octet x ≡ true) octets all))

pub first_field-plain : (fields : List (List ℕ)) → All (AllPass is_field_octet) fields → AllPass is_field_octet (first_field fields)
first_field-plain [] all = All-none (λ x. is_field_octet x ≡ true)
first_field-plain (field ∷ fields) all = All-head (AllPass is_field_octet) field fields all
