-- What bodies and their invariants need of one line: what its readers answer.
use Rattle.std.specs.Prelude.{◌≡◌, ◌^◌, ◌≤◌, ℕ, Bool, true, false, ◌&&◌, nat_le, List, [], ◌∷◌, ◌++◌, length, filter, Option, Some, None, if◌then◌else◌}
use Rattle.std.specs.List.{list_any, join_with_byte}
use Rattle.std.specs.Str.Parse.{digits_value}
use Rattle.edi_tables.specs.Octets.{Octets}
use Rattle.edi_octets.specs.Lines.{pieces_in, after_spaces, cells_of}
use Rattle.edi_tables.specs.Filled.{is_filled}
use Rattle.edi_octets.specs.Profile.{unmarked, status_in}
use Rattle.dir_messages.specs.declared.table_line.Counts.{Counts}
use Rattle.dir_messages.specs.declared.form.LineForm.{LineForm}
use Rattle.dir_messages.specs.declared.form.LineForm.TheVariants.{Segment, Group}
use Rattle.dir_messages.specs.Message.{is_status, number_drawn, tag_drawn, max_in, tail_in, ends_in, has_counts}

-- a text cut at its last space
pub record CutsAtLastSpace (text before behind : Octets) : Type 0 where
  pub whole : text ≡ before ++ (32 ∷ behind)
  pub pieces : pieces_in text ≡ pieces_in before ++ (behind ∷ [])

-- a text cut at its last piece that is a status
pub record CutsAtStatus (text before : Octets) (must : Bool) (behind : Octets) : Type 0 where
  pub front : List Octets
  pub status : Octets
  pub more : List Octets
  pub pieces : pieces_in text ≡ front ++ (status ∷ more)
  pub is : status_in status ≡ Some must
  pub last : list_any is_status more ≡ false
  pub cells : cells_of before ≡ filter is_filled front
  pub rest : after_spaces behind ≡ after_spaces (join_with_byte 32 more)

-- what comes after the position of a table line: the line has the same pieces there
pub record StandsBehind (octets behind : Octets) : Type 0 where
  pub front : List Octets
  pub position : Octets
  pub more : List Octets
  pub pieces : pieces_in (unmarked octets) ≡ front ++ (position ∷ more)
  pub blank : filter is_filled front ≡ []
  pub none : list_any is_status front ≡ false
  pub filled : is_filled position ≡ true
  pub apart : is_status position ≡ false
  pub text : pieces_in behind ≡ [] ∷ more

-- the greatest count that one to six digits give
abbrev pub count_in : Octets → Option ℕ
count_in digits = if nat_le 1 (length digits) && nat_le (length digits) 6 then Some (digits_value 10 digits) else None

-- one to six digits and a tail: the greatest count, and how many `+` the tail has
abbrev pub counts_in : Octets → Option Counts
counts_in rest =
    if has_counts rest then Some (record { max = max_in rest; ends = ends_in (tail_in rest) }) else None

-- a group's number, as it is read: a number of 20 or more digits is none
abbrev pub IsNumber : Option ℕ → ℕ → Type 0
IsNumber None number = 10 ^ 19 ≤ number
IsNumber (Some n) number = number ≡ n

-- the form of what is between position and status
abbrev pub IsForm : List Octets → LineForm → Type 0
IsForm middle (Segment tag) = (number_drawn middle ≡ None) × (tag_drawn middle ≡ Some tag)
IsForm middle (Group number) = (n : ℕ) × (number_drawn middle ≡ Some n) × IsNumber number n

-- what is between position and status has neither form
abbrev pub HasNoForm : List Octets → Type 0
HasNoForm middle = (number_drawn middle ≡ None) × (tag_drawn middle ≡ None)
