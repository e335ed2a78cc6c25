-- Entries, line by line.
use Rattle.std.proofs.Common.{◌≡◌, ◌≤◌, true, false, List, [], ◌∷◌, length, map, filter, drop, refl, ⊎_elim, arith, one-add, add-one, length-drop}
use Rattle.std.specs.List.{slice_split, before_first, after_first}
use Rattle.std.proofs.lemmas.Bool.{cases_Bool}
use Rattle.std.proofs.lemmas.List.{length-map}
use Rattle.std.proofs.lemmas.List.Splits.{length-slice_split}
use Rattle.std.proofs.lemmas.List.Sums.{length-filter, count_by-le-length}
use Rattle.edi_octets.specs.Lines.{Line}
use Rattle.edi_tables.specs.Filled.{is_filled}
use Rattle.edi_octets.specs.Profile.{is_written, is_separator, entries_of, entries_within, body_within}
use Rattle.edi_octets.proofs.SplitLemmas.{first_part, slice_split-cases}

-- the entries that parts are
abbrev entries_from : List (List Line) → List (List Line)
entries_from parts = filter is_filled (map (filter is_written) parts)

-- ---- the lines of an entry

pub body_within-nil : body_within [] ≡ []
unfolding body_within
body_within-nil = refl

pub body_within-end : (line : Line) (lines : List Line) → is_separator line ≡ true → body_within (line ∷ lines) ≡ []
unfolding body_within
body_within-end line lines ends = rw ends refl

pub body_within-line : (line : Line) (lines : List Line) → is_separator line ≡ false → is_written line ≡ true → body_within (line ∷ lines) ≡ line ∷ body_within lines
unfolding body_within
body_within-line line lines within written = rw (within, one-add, written) refl

pub body_within-blank : (line : Line) (lines : List Line) → is_separator line ≡ false → is_written line ≡ false → body_within (line ∷ lines) ≡ body_within lines
unfolding body_within
body_within-blank line lines within blank = rw (within, one-add, blank) refl

-- ---- the lines after a separator

pub after_separator-end : (line : Line) (lines : List Line) → is_separator line ≡ true → after_first is_separator (line ∷ lines) ≡ lines
after_separator-end line lines ends = rw ends refl

pub after_separator-line : (line : Line) (lines : List Line) → is_separator line ≡ false → after_first is_separator (line ∷ lines) ≡ after_first is_separator lines
after_separator-line line lines within = rw (within, one-add, add-one, add-one) refl

-- ---- the entries

pub entries_within-nil : entries_within [] ≡ []
unfolding entries_within
entries_within-nil = refl

pub entries_within-separator : (line : Line) (lines : List Line) → is_separator line ≡ true → entries_within (line ∷ lines) ≡ entries_within lines
unfolding entries_within
entries_within-separator line lines ends = rw ends refl

pub entries_within-blank : (line : Line) (lines : List Line) → is_written line ≡ false → entries_within (line ∷ lines) ≡ entries_within lines
unfolding entries_within
entries_within-blank line lines blank =
    let behind = first_part is_separator lines in
    ⊎_elim
    (λ (ends : is_separator line ≡ true). rw ends refl)
    (λ (within : is_separator line ≡ false). rw (within, behind.2, blank) refl)
    (cases_Bool (is_separator line))

pub entries_within-head : (head : Line) (lines : List Line) → is_separator head ≡ false → is_written head ≡ true → entries_within (head ∷ lines) ≡ (head ∷ body_within lines) ∷ entries_within (after_first is_separator lines)
unfolding entries_within body_within
entries_within-head head lines within written =
    ⊎_elim
    (λ (more : slice_split is_separator lines ≡ before_first is_separator lines ∷ slice_split is_separator (after_first is_separator lines)). rw (within, more, written) refl)
    (λ (last : (slice_split is_separator lines ≡ before_first is_separator lines ∷ []) × (after_first is_separator lines ≡ [])). rw (within, last.0, last.1, written) refl)
    (slice_split-cases is_separator lines)

-- what is before the first separator is no entry
pub entries_of-within : (lines : List Line) → entries_of lines ≡ entries_within (after_first is_separator lines)
unfolding entries_of entries_within
entries_of-within lines =
    ⊎_elim
    (λ (more : slice_split is_separator lines ≡ before_first is_separator lines ∷ slice_split is_separator (after_first is_separator lines)). rw more refl)
    (λ (last : (slice_split is_separator lines ≡ before_first is_separator lines ∷ []) × (after_first is_separator lines ≡ [])). rw (last.0, last.1) refl)
    (slice_split-cases is_separator lines)

-- there are no more entries than lines
pub length-entries_of : (lines : List Line) → length (entries_of lines) ≤ length lines
unfolding entries_of
length-entries_of lines =
    let parts = slice_split is_separator lines in
    let kept = drop 1 parts in
    omega (
      arith,
      length-filter is_filled (map (filter is_written) kept),
      count_by-le-length is_filled (map (filter is_written) kept),
      length-map kept (filter is_written),
      length-drop 1 parts,
      length-slice_split is_separator lines,
      count_by-le-length is_separator lines,
    )
