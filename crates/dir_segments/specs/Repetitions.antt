-- The number of repetitions on an item line. It is taken out of the line before any other rule is judged.
use Rattle.std.specs.Prelude.{◌≡◌, ◌-◌, ℕ, Bool, not, ◌==◌, ◌&&◌, nat_le, List, ◌++◌, length, take, drop, reverse, slice_index, if◌then◌else◌}
use Rattle.std.specs.Str.{all_ascii_digits}
use Rattle.std.specs.Str.Parse.{digits_value}
use Rattle.edi_tables.specs.Octets.{Octets}
use Rattle.edi_tables.specs.Forms.{is_element_code, is_composite_code}
use Rattle.edi_octets.specs.Profile.{first_field}
use Rattle.dir_segments.specs.declared.fields.ElementItem.{ElementItem}
use Rattle.dir_segments.specs.declared.fields.CompositeItem.{CompositeItem}
use Rattle.dir_segments.specs.Parts.{field_from_end, composite_status, IsElement}

-- a number of repetitions: a field of one or two digits, 1 to 99, without leading zero
abbrev pub is_repetition_number : Octets → Bool
is_repetition_number field =
    nat_le 1 (length field) && nat_le (length field) 2 && all_ascii_digits field && not (slice_index field 0 == 48)

-- a composite has one if there are at least four fields after its position and the last is a number of repetitions
abbrev pub is_numbered_composite : List Octets → Bool
is_numbered_composite fields =
    is_composite_code (first_field fields) && nat_le 4 (length fields)
    && is_repetition_number (field_from_end 1 fields)

-- a data element has one if there are at least five fields after its position and the one before the last is a number
-- of repetitions
abbrev pub is_numbered_element : List Octets → Bool
is_numbered_element fields =
    is_element_code (first_field fields) && nat_le 5 (length fields)
    && is_repetition_number (field_from_end 2 fields)

-- the fields without the one that many places before the end, from 1
abbrev pub without_from_end : ℕ → List Octets → List Octets
without_from_end n fields = reverse (take (n - 1) (reverse fields) ++ drop n (reverse fields))

-- an item's fields after its position, with the number taken out: a composite's is the last of them, a data element's
-- the one before the last
unfoldable pub item_fields : List Octets → List Octets
item_fields fields =
    if is_numbered_composite fields then without_from_end 1 fields
    else (if is_numbered_element fields then without_from_end 2 fields else fields)

-- an item's greatest number of repetitions: that number, or 1 if it has none
unfoldable pub reps_in : List Octets → ℕ
reps_in fields =
    if is_numbered_composite fields then digits_value 10 (field_from_end 1 fields)
    else (if is_numbered_element fields then digits_value 10 (field_from_end 2 fields) else 1)

-- what was read of a data element's line: its fields with the number taken out, and its greatest number of repetitions
pub record IsElementItem (item : ElementItem) (fields : List Octets) : Type 0 where
  pub element : IsElement item.element (item_fields fields)
  pub reps : item.reps ≡ reps_in fields

-- what was read of a composite's line: its code and its status with the number taken out, and its greatest number of
-- repetitions
pub record IsCompositeItem (item : CompositeItem) (fields : List Octets) : Type 0 where
  pub code : item.code.octets ≡ first_field (item_fields fields)
  pub must : item.must ≡ composite_status (item_fields fields)
  pub reps : item.reps ≡ reps_in fields
