-- For bodies and their invariants: what one scan of a value finds.
use Rattle.std.specs.Prelude.{ℕ, ◌+◌, Bool, true, false, not, ◌&&◌, ◌||◌, ◌==◌, [], ◌∷◌, Option, Some, None, if◌then◌else◌}
use Rattle.edi_tables.specs.Octets.{Octets}
use Rattle.edi_tables.specs.declared.element.Class.{Class}
use Rattle.edi_tables.specs.declared.element.Class.TheVariants.{A, N, An}
use Rattle.edi_tables.specs.Tag.{is_digit}
use Rattle.seg_lexer.specs.declared.context.Context.{Context}
use Rattle.seg_lexer.specs.declared.context.Level.{Level}
use Rattle.seg_lexer.specs.declared.service.Service.{Service}
use Rattle.element_check.specs.Repertoire.{is_admitted}
use Rattle.element_check.specs.Value.{is_mark, is_numeric}
use Rattle.element_check.specs.declared.tally.NumberForm.{NumberForm}
use Rattle.element_check.specs.declared.tally.NumberForm.TheVariants.{Start, Minus, Whole, Mark, Fraction, Broken}
use Rattle.element_check.specs.declared.tally.Sort.{Sort}
use Rattle.element_check.specs.declared.tally.Sort.TheVariants.{Digit, Hyphen, Point, Other}
use Rattle.element_check.specs.declared.tally.Tally.{Tally}

-- what an octet is in a number
unfoldable pub sort_of : Service → ℕ → Sort
sort_of s x = if is_digit x then Digit else if x == 45 then Hyphen else if is_mark s x then Point else Other

-- a class doesn't admit an octet of this sort
abbrev pub is_foreign_sort : Class → Sort → Bool
is_foreign_sort A Digit = true
is_foreign_sort N Other = true
is_foreign_sort class sort = false

-- the length of a value of this class leaves an octet of this sort out
abbrev pub is_uncounted_sort : Class → Sort → Bool
is_uncounted_sort N Hyphen = true
is_uncounted_sort N Point = true
is_uncounted_sort class sort = false

-- how far octets are a number, after one more
abbrev pub form_after : NumberForm → Sort → NumberForm
form_after Start Digit = Whole
form_after Start Hyphen = Minus
form_after Minus Digit = Whole
form_after Whole Digit = Whole
form_after Whole Point = Mark
form_after Mark Digit = Fraction
form_after Fraction Digit = Fraction
form_after form sort = Broken

-- octets that end so are a number
abbrev pub is_number : NumberForm → Bool
is_number Whole = true
is_number Fraction = true
is_number form = false

-- what was found, after one more octet of that sort of a number
abbrev pub numbered_after : Tally → Sort → Tally
numbered_after t sort = record {
  refused = t.refused;
  foreign = t.foreign || is_foreign_sort N sort;
  counted = if is_uncounted_sort N sort then t.counted else t.counted + 1;
  form = form_after t.form sort;
}

-- what was found, after one more octet of a value of that class, its repertoire left out; only numbers have a form
abbrev pub typed_after : Service → Class → Tally → ℕ → Tally
typed_after s A t x =
    record { refused = t.refused; foreign = t.foreign || is_digit x; counted = t.counted + 1; form = t.form }
typed_after s N t x = numbered_after t (sort_of s x)
typed_after s An t x =
    record { refused = t.refused; foreign = t.foreign; counted = t.counted + 1; form = t.form }

-- what was found, after these octets of a value of that class, its repertoire left out
abbrev pub typed_by : Service → Class → Tally → Octets → Tally
typed_by s class t [] = t
typed_by s class t (x ∷ xs) = typed_by s class (typed_after s class t x) xs

-- the length that was counted, where each octet is of the class and a number has the form of one
abbrev pub length_if_typed : Class → Tally → Option ℕ
length_if_typed class t =
    if t.foreign || (is_numeric class && not (is_number t.form)) then None else Some t.counted

-- what was found, after one more octet, by a level and service characters
abbrev pub tally_after : Level → Service → Class → Tally → ℕ → Tally
tally_after level s class t x = record {
  refused = t.refused || not (is_admitted level x);
  foreign = (typed_after s class t x).foreign;
  counted = (typed_after s class t x).counted;
  form = (typed_after s class t x).form;
}

-- what was found, after these octets, by a level and service characters
abbrev pub tally_by : Level → Service → Class → Tally → Octets → Tally
tally_by level s class t [] = t
tally_by level s class t (x ∷ xs) = tally_by level s class (tally_after level s class t x) xs

-- what was found, after these octets, by the level and the service characters of a context
abbrev pub tally_over : Context → Class → Tally → Octets → Tally
tally_over context class t xs = tally_by context.level context.service class t xs

-- what was found before the first octet
abbrev pub nothing_found : Tally
nothing_found = record { refused = false; foreign = false; counted = 0; form = Start }
