-- The tests of a value: its repertoire, its type, its form as a number, its length, and its code list.
use Rattle.std.specs.Prelude.{ℕ, Bool, true, false, not, ◌&&◌, ◌||◌, ◌==◌, nat_lt, List, [], ◌∷◌, length, map, filter, Option, Some, None, if◌then◌else◌}
use Rattle.std.specs.List.{list_any, list_all, before_first, after_first}
use Rattle.std.specs.Str.{bytes_eq}
use Rattle.edi_tables.specs.Octets.{Octets}
use Rattle.edi_tables.specs.declared.element.Class.{Class}
use Rattle.edi_tables.specs.declared.element.Class.TheVariants.{A, N, An}
use Rattle.edi_tables.specs.declared.element.Repr.{Repr}
use Rattle.edi_tables.specs.declared.element.CodeList.{CodeList}
use Rattle.edi_tables.specs.Tag.{is_digit}
use Rattle.error_ledger.specs.declared.kind.Kind.{Kind}
use Rattle.error_ledger.specs.declared.kind.Kind.TheVariants.{Repertoire, WrongType, Decimal, TooLong, TooShort, Code}
use Rattle.seg_lexer.specs.Fields.{is_separator}
use Rattle.seg_lexer.specs.Released.{is_release}
use Rattle.seg_lexer.specs.declared.context.Context.{Context}
use Rattle.seg_lexer.specs.declared.service.Service.{Service}
use Rattle.element_check.specs.Repertoire.{is_admitted}

-- an octet that separates, releases or ends the parts of a text
abbrev pub is_service_character : Service → ℕ → Bool
is_service_character s x =
    x == s.component || x == s.element || is_separator s.repetition x || x == s.terminator || is_release s.release x

-- a decimal mark: `.`, `,` or the mark of the service characters, but none of the other service characters,
-- no digit and no `-`
abbrev pub is_mark : Service → ℕ → Bool
is_mark s x = (x == 46 || x == 44 || x == s.mark) && not (is_service_character s x) && not (is_digit x) && not (x == 45)

-- an octet of a number that its length doesn't count: `-` or a mark
abbrev pub is_sign : Service → ℕ → Bool
is_sign s x = x == 45 || is_mark s x

-- an octet that the length of a value of this class counts: each, but in a number neither `-` nor a mark
abbrev pub is_counted : Service → Class → ℕ → Bool
is_counted s A x = true
is_counted s An x = true
is_counted s N x = not (is_sign s x)

-- the length of a value that is compared with its representation: the number of its octets,
-- those of a number without `-` and marks
abbrev pub counted_length : Service → Class → Octets → ℕ
counted_length s class value = length (filter (is_counted s class) value)

-- an octet that a class doesn't admit: a digit in class a; in class n what is neither a digit nor `-` nor a mark
abbrev pub is_foreign : Service → Class → ℕ → Bool
is_foreign s A x = is_digit x
is_foreign s N x = not (is_digit x) && not (is_sign s x)
is_foreign s An x = false

-- a value has an octet that its class doesn't admit
abbrev pub has_foreign : Service → Class → Octets → Bool
has_foreign s class value = list_any (is_foreign s class) value

-- one or more digits
abbrev pub is_digits : Octets → Bool
is_digits [] = false
is_digits (x ∷ xs) = list_all is_digit (x ∷ xs)

-- what is left of a value without a `-` at its front
abbrev pub without_minus : Octets → Octets
without_minus [] = []
without_minus (x ∷ xs) = if x == 45 then xs else x ∷ xs

-- one or more digits, and optionally a mark and one or more digits
abbrev pub is_unsigned : Service → Octets → Bool
is_unsigned s value =
    is_digits (before_first (is_mark s) value)
    && (not (list_any (is_mark s) value) || is_digits (after_first (is_mark s) value))

-- a number: an optional `-`, one or more digits, and optionally a mark and one or more digits
unfoldable pub is_decimal : Service → Octets → Bool
is_decimal s value = is_unsigned s (without_minus value)

-- class n, whose values are numbers
abbrev pub is_numeric : Class → Bool
is_numeric A = false
is_numeric N = true
is_numeric An = false

-- a value isn't in the code list that it must be in, if there is one
abbrev pub is_unlisted : Option CodeList → Octets → Bool
is_unlisted None value = false
is_unlisted (Some list) value = not (list_any (λ code. bytes_eq code value) list.values)

-- a value fails the test of a kind, by its representation and the code list that it must be in
abbrev pub fails : Context → Repr → Option CodeList → Octets → Kind → Bool
fails context repr list value Repertoire = list_any (λ x. not (is_admitted context.level x)) value
fails context repr list value WrongType = has_foreign context.service repr.class value
fails context repr list value Decimal =
    is_numeric repr.class && not (has_foreign context.service repr.class value)
    && not (is_decimal context.service value)
fails context repr list value TooLong = nat_lt repr.max (counted_length context.service repr.class value)
fails context repr list value TooShort = repr.exact && nat_lt (counted_length context.service repr.class value) repr.max
fails context repr list value Code = is_unlisted list value
fails context repr list value kind = false

-- the kinds of errors of a value, by their numbers
abbrev pub value_kinds : List Kind
value_kinds = Repertoire ∷ WrongType ∷ Decimal ∷ TooLong ∷ TooShort ∷ Code ∷ []

-- which tests a value fails
abbrev pub test_results : Context → Repr → Option CodeList → Octets → List (Kind × Bool)
test_results context repr list value = map (λ kind. (kind, fails context repr list value kind)) value_kinds
