-- The kinds of errors.
use Rattle.std.specs.Prelude.{ℕ, Bool, ◌&&◌, nat_le, codes}
use Rattle.edi_tables.specs.Octets.{Octets}
use Rattle.error_ledger.specs.declared.kind.Kind.{Kind}
use Rattle.error_ledger.specs.declared.kind.Kind.TheVariants.{BadUna, NoUnb, NoUnz, Syntax, SecondUnb, AfterEnd, Outside, EmptyInterchange, Tail, Mixed, Reference, Count, NoUne, EmptyGroup, GroupType, NoTable, MissingSegment, MissingGroup, TooManySegments, TooManyGroups, Unplaced, BadTag, UnknownSegment, TooManyElements, TooManyComponents, Missing, Repertoire, WrongType, Decimal, TooLong, TooShort, Code, TooManyRepetitions}

-- a row of the table of kinds: the number of the kind, the word that is printed for it, and its code
pub record KindRow : Type 0 where
  pub number : ℕ
  pub word : Octets
  pub code : ℕ

-- a row with this number, this word and this code
abbrev pub row : ℕ → Octets → ℕ → KindRow
row number word code = record { number = number; word = word; code = code }

-- the table of kinds
abbrev pub row_of : Kind → KindRow
row_of BadUna = row 1 (codes "bad-una") 22
row_of NoUnb = row 2 (codes "no-unb") 13
row_of NoUnz = row 3 (codes "no-unz") 13
row_of Syntax = row 4 (codes "syntax") 2
row_of SecondUnb = row 5 (codes "second-unb") 15
row_of AfterEnd = row 6 (codes "after-end") 33
row_of Outside = row 7 (codes "outside") 33
row_of EmptyInterchange = row 8 (codes "empty-interchange") 32
row_of Tail = row 9 (codes "tail") 13
row_of Mixed = row 10 (codes "mixed") 30
row_of Reference = row 11 (codes "reference") 28
row_of Count = row 12 (codes "count") 29
row_of NoUne = row 13 (codes "no-une") 13
row_of EmptyGroup = row 14 (codes "empty-group") 32
row_of GroupType = row 15 (codes "group-type") 31
row_of NoTable = row 16 (codes "no-table") 12
row_of MissingSegment = row 17 (codes "missing-segment") 13
row_of MissingGroup = row 18 (codes "missing-group") 13
row_of TooManySegments = row 19 (codes "too-many-segments") 35
row_of TooManyGroups = row 20 (codes "too-many-groups") 36
row_of Unplaced = row 21 (codes "unplaced") 15
row_of BadTag = row 22 (codes "bad-tag") 12
row_of UnknownSegment = row 23 (codes "unknown-segment") 12
row_of TooManyElements = row 24 (codes "too-many-elements") 16
row_of TooManyComponents = row 25 (codes "too-many-components") 16
row_of Missing = row 26 (codes "missing") 13
row_of Repertoire = row 27 (codes "repertoire") 21
row_of WrongType = row 28 (codes "type") 37
row_of Decimal = row 29 (codes "decimal") 19
row_of TooLong = row 30 (codes "too-long") 39
row_of TooShort = row 31 (codes "too-short") 40
row_of Code = row 32 (codes "code") 12
row_of TooManyRepetitions = row 33 (codes "too-many-repetitions") 35

-- the number of a kind, which orders the errors of one place
unfoldable pub number_of : Kind → ℕ
number_of kind = (row_of kind).number

-- the word that is printed for a kind
unfoldable pub word_of : Kind → Octets
word_of kind = (row_of kind).word

-- the code of a kind: a value of data element 0085
unfoldable pub code_of : Kind → ℕ
code_of kind = (row_of kind).code

-- kinds that tell of a segment as a whole: 17 to 23
abbrev pub is_of_segment : Kind → Bool
is_of_segment kind = nat_le 17 (number_of kind) && nat_le (number_of kind) 23

-- kinds that tell of an element or a component: 24 to 33
abbrev pub is_of_element : Kind → Bool
is_of_element kind = nat_le 24 (number_of kind) && nat_le (number_of kind) 33
