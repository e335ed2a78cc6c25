-- The words of the directory text profile, which every directory file shares.
use Rattle.std.specs.Prelude.{ℕ, Bool, true, false, not, ◌==◌, ◌&&◌, ◌||◌, nat_le, nat_lt, List, [], ◌∷◌, ◌++◌, length, drop, filter, map, slice_index, replicate, Option, Some, None, codes, if◌then◌else◌}
use Rattle.std.specs.List.{slice_split, list_all, prefix_len, before_first}
use Rattle.std.specs.Str.{all_ascii_digits, bytes_eq}
use Rattle.std.specs.Str.Parse.{digits_value}
use Rattle.edi_tables.specs.Octets.{Octets}
use Rattle.edi_tables.specs.declared.element.Class.{Class}
use Rattle.edi_tables.specs.declared.element.Class.TheVariants.{A, N, An}
use Rattle.edi_tables.specs.declared.element.Repr.{Repr}
use Rattle.edi_octets.specs.Lines.{Line, is_space, cells_of}
use Rattle.edi_tables.specs.Filled.{is_filled}

-- a mark of the published files: `+`, `*`, `#`, `|` or `X`
abbrev pub is_mark : ℕ → Bool
is_mark x = x == 43 || x == 42 || x == 35 || x == 124 || x == 88

-- how many marks a line begins with
abbrev pub marks_of : Octets → ℕ
marks_of line = prefix_len is_mark line

-- a line begins with at most three marks, and a space or the line's end follows the last of them
abbrev pub is_marked : Octets → Bool
is_marked line = nat_le (marks_of line) 3 && (marks_of line == length line || slice_index line (marks_of line) == 32)

-- the line with such marks read as spaces
abbrev pub unmarked : Octets → Octets
unmarked line = if is_marked line then replicate (marks_of line) 32 ++ drop (marks_of line) line else line

-- the fields of a line: its cells, once marks in front are read as spaces
unfoldable pub fields_of : Octets → List Octets
fields_of line = cells_of (unmarked line)

-- the indentation of a line: the spaces in front, marks in front read as spaces
unfoldable pub indentation_of : Octets → ℕ
indentation_of line = prefix_len is_space (unmarked line)

-- a line is blank where it has no field
abbrev pub is_written : Line → Bool
is_written line = is_filled (fields_of line.octets)

-- ten or more `-` and nothing else
abbrev pub is_rule : Octets → Bool
is_rule field = nat_le 10 (length field) && list_all (λ x. x == 45) field

-- one field of ten or more `-`
abbrev pub is_separator_of : List Octets → Bool
is_separator_of (field ∷ []) = is_rule field
is_separator_of fields = false

-- a separator is a line of one field of ten or more `-`
abbrev pub is_separator : Line → Bool
is_separator line = is_separator_of (fields_of line.octets)

-- the entries of a file: what follows its first separator, cut at separators, without blank lines; a part without
-- a line is nothing
unfoldable pub entries_of : List Line → List (List Line)
entries_of lines = filter is_filled (map (filter is_written) (drop 1 (slice_split is_separator lines)))

-- the entries of lines after a separator
unfoldable pub entries_within : List Line → List (List Line)
entries_within lines = filter is_filled (map (filter is_written) (slice_split is_separator lines))

-- the lines of the entry that these lines are in: those before the first separator, without blank lines
unfoldable pub body_within : List Line → List Line
body_within lines = filter is_written (before_first is_separator lines)

-- a mark alone is a field that is skipped directly after a position
abbrev pub is_lone_mark : Octets → Bool
is_lone_mark (x ∷ []) = is_mark x
is_lone_mark field = false

-- the fields after a position
abbrev pub after_position : List Octets → List Octets
after_position [] = []
after_position (field ∷ fields) = if is_lone_mark field then fields else field ∷ fields

-- a position is greater than the one before, if there is one
abbrev pub is_greater : Option ℕ → ℕ → Bool
is_greater None position = true
is_greater (Some before) position = nat_lt before position

-- as many digits as that, and nothing else
abbrev pub has_digits : ℕ → Octets → Bool
has_digits n field = length field == n && all_ascii_digits field

-- a length is a number from 1 to 9999 without leading zero
abbrev pub length_in : Octets → Option ℕ
length_in field =
    if nat_le 1 (length field) && nat_le (length field) 4 && all_ascii_digits field && not (slice_index field 0 == 48)
    then Some (digits_value 10 field)
    else None

-- the representation of a class with a length, if there is a length
abbrev pub sized_repr : Class → Bool → Option ℕ → Option Repr
sized_repr class exact None = None
sized_repr class exact (Some max) = Some (record { class = class; exact = exact; max = max })

-- the representation of a class with the length that follows it, exact if no `..` is between
abbrev pub repr_after : Class → Octets → Option Repr
repr_after class rest =
    if slice_index rest 0 == 46 && slice_index rest 1 == 46
    then sized_repr class false (length_in (drop 2 rest))
    else sized_repr class true (length_in rest)

-- a representation is `a`, `n` or `an`, perhaps `..`, and a length
unfoldable pub repr_in : Octets → Option Repr
repr_in field =
    if slice_index field 0 == 97
    then (if slice_index field 1 == 110 then repr_after An (drop 2 field) else repr_after A (drop 1 field))
    else (if slice_index field 0 == 110 then repr_after N (drop 1 field) else None)

-- a status is `M`, mandatory, or `C`, conditional
abbrev pub status_in : Octets → Option Bool
status_in (x ∷ []) = if x == 77 then Some true else (if x == 67 then Some false else None)
status_in field = None

-- the spelling of a status
abbrev pub status_text : Bool → Octets
status_text true = codes "M"
status_text false = codes "C"

-- the first field of a line, or none
abbrev pub first_field : List Octets → Octets
first_field [] = []
first_field (field ∷ fields) = field

-- a line begins with a position of so many digits
abbrev pub has_position : ℕ → Line → Bool
has_position n line = has_digits n (first_field (fields_of line.octets))

-- the position that it begins with
abbrev pub position_of : Line → ℕ
position_of line = digits_value 10 (first_field (fields_of line.octets))

-- the line's first field is this word
abbrev pub begins_with_word : Octets → List Octets → Bool
begins_with_word word fields = bytes_eq (first_field fields) word

-- each member with these and those before it, in order
abbrev pub with_earlier_from : {A : Type 0} → List A → List A → List (List A × A)
with_earlier_from earlier [] = []
with_earlier_from earlier (x ∷ xs) = (earlier, x) ∷ with_earlier_from (earlier ++ x ∷ []) xs

-- each member with those before it, in order
abbrev pub with_earlier : {A : Type 0} → List A → List (List A × A)
with_earlier xs = with_earlier_from [] xs
