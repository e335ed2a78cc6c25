-- A head: a segment that opens or closes an interchange, a functional group or a message.
use Rattle.std.specs.Prelude.{ℕ, Bool, []}
use Rattle.edi_tables.specs.Octets.{Octets}
use Rattle.envelope_check.specs.declared.head.HeadKind.{HeadKind}
use Rattle.envelope_check.specs.declared.head.HeadKind.TheVariants.{Ung, Unh, Unt, Une, Unz}
use Rattle.envelope_check.specs.declared.head.HeadValues.{HeadValues}

-- the number of its segment, from 1, its first octet, its kind, and the values that are compared: `reference` is 0020
-- of UNB and UNZ, 0048 of UNG and UNE, and 0062 of UNH and UNT; `count` is 0074 of UNT, 0060 of UNE and 0036 of UNZ,
-- else empty; `name` is 0065 of UNH and 0038 of UNG, else empty; `tabled` tells of a UNH whether the directory has a
-- segment table for its message, and is false for every other kind
pub record Head : Type 0 where
  pub segment : ℕ
  pub start : ℕ
  pub kind : HeadKind
  pub reference : Octets
  pub count : Octets
  pub name : Octets
  pub tabled : Bool

-- the count that a head of this kind gives by its other value: UNT, UNE and UNZ give one
abbrev pub count_by : HeadKind → Octets → Octets
count_by Unt other = other
count_by Une other = other
count_by Unz other = other
count_by _ other = []

-- the name that it gives: UNH and UNG give one
abbrev pub name_by : HeadKind → Octets → Octets
name_by Unh other = other
name_by Ung other = other
name_by _ other = []

-- a head with these values
abbrev pub head_with : ℕ → ℕ → HeadKind → Bool → HeadValues → Head
head_with segment start kind tabled values = record {
  segment = segment;
  start = start;
  kind = kind;
  reference = values.reference;
  count = count_by kind values.other;
  name = name_by kind values.other;
  tabled = tabled;
}
