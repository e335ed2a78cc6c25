-- The rule of each kind of a store's lines: what a line gives, after what comes before it.
use Rattle.std.specs.Prelude.{ℕ, Bool, true, not, ◌==◌, ◌&&◌, nat_le, nat_lt, List, length, slice_index, Option, Some, None, option_and_then, is_some, codes, if◌then◌else◌}
use Rattle.std.specs.Option.{option_map}
use Rattle.std.specs.Str.{bytes_eq}
use Rattle.edi_tables.specs.Octets.{Octets}
use Rattle.edi_tables.specs.Ascending.{is_before}
use Rattle.edi_tables.specs.Forms.{is_element_code, is_composite_code, is_message_name, is_code_value, is_count_formed, is_reps_formed}
use Rattle.edi_tables.specs.Tag.{is_tag_of}
use Rattle.edi_tables.specs.declared.tag.Tag.{Tag}
use Rattle.edi_tables.specs.declared.element.ElementDef.{ElementDef}
use Rattle.edi_tables.specs.declared.element.CodeList.{CodeList}
use Rattle.edi_tables.specs.declared.element.PartDef.{PartDef}
use Rattle.edi_tables.specs.declared.element.CompositeDef.{CompositeDef}
use Rattle.edi_tables.specs.declared.segment.ItemDef.{ItemDef}
use Rattle.edi_tables.specs.declared.segment.ItemDef.TheVariants.{Alone, Composite}
use Rattle.edi_tables.specs.declared.segment.SegmentDef.{SegmentDef}
use Rattle.edi_tables.specs.declared.segment.TableRow.{TableRow}
use Rattle.edi_tables.specs.declared.segment.MessageDef.{MessageDef}
use Rattle.edi_octets.specs.Decimal.{decimal_in}
use Rattle.edi_octets.specs.Profile.{repr_in, status_in}
use Rattle.dir_compile.specs.Compile.{named_in, is_service_tag, element_name, list_name, composite_name, segment_name, message_name, value_name}
use Rattle.edi_octets.specs.declared.labels.Labels.{Labels}
use Rattle.edi_octets.specs.Labels.{labels_of}
use Rattle.edi_octets.specs.Words.{two_in, three_in, four_in}
use Rattle.dir_store.specs.declared.version.StoreVersion.{StoreVersion}
use Rattle.dir_store.specs.declared.version.StoreVersion.TheVariants.{First, Second}

-- what was found, if it passes a test
abbrev pub kept : {A : Type 0} → (A → Bool) → Option A → Option A
kept test found = option_and_then (λ x. if test x then Some x else None) found

-- a number is at least the low one and at most the high one
abbrev pub is_between : ℕ → ℕ → ℕ → Bool
is_between low high n = nat_le low n && nat_le n high

-- a name that comes after that of the member before, in octet order
abbrev pub comes_after : {A : Type 0} → (A → Octets) → Option A → Octets → Bool
comes_after name None next = true
comes_after name (Some before) next = is_before (name before) next

-- a number: 1 to 19 digits without leading zero
abbrev pub number_in : Octets → Option ℕ
number_in word = if slice_index word 0 == 48 && nat_lt 1 (length word) then None else decimal_in word

-- two words as a head: a name and a number
abbrev pub head_with : Octets × Octets → Option (Octets × ℕ)
head_with w = option_map (λ n. (w.0, n)) (number_in w.1)

-- the head of a list: a name, and how many members follow
abbrev pub head_in : Octets → Option (Octets × ℕ)
head_in line = option_and_then head_with (two_in line)

-- the second line has the labels of the directory
abbrev pub labels_in : Octets → Option Labels
labels_in line = option_and_then labels_of (three_in line)

-- a section has the letter of its kind
abbrev pub section_in : Octets → Octets → Option (Octets × ℕ)
section_in letter line = kept (λ h. bytes_eq h.0 letter) (head_in line)

-- two words as a data element: a code that comes after the one before, and a representation
abbrev pub element_with : Option ElementDef → Octets × Octets → Option ElementDef
element_with before w =
    if is_element_code w.0 && comes_after element_name before w.0
    then option_map (λ repr. record { code = record { octets = w.0 }; repr = repr }) (repr_in w.1) else None

-- a data element: a code in order, and a representation
abbrev pub element_in : Option ElementDef → Octets → Option ElementDef
element_in before line = option_and_then (element_with before) (two_in line)

-- a code list: an element of the store, in order
abbrev pub list_in : List ElementDef → Option CodeList → Octets → Option (Octets × ℕ)
list_in elements before line =
    kept (λ h. is_element_code h.0 && is_some (named_in element_name elements h.0) && comes_after list_name before h.0)
    (head_in line)

-- a code of a list, in order
abbrev pub value_in : Option Octets → Octets → Option Octets
value_in before line = if is_code_value line && comes_after value_name before line then Some line else None

-- a composite: a code in order, and 1 to 99 parts
abbrev pub composite_in : Option CompositeDef → Octets → Option (Octets × ℕ)
composite_in before line =
    kept (λ h. is_composite_code h.0 && is_count_formed h.1 && comes_after composite_name before h.0) (head_in line)

-- a data element of the store, with its representation there
abbrev pub part_of : List ElementDef → Octets → Bool → Option PartDef
part_of elements code must =
    option_map (λ element. record { code = record { octets = code }; must = must; repr = element.repr })
    (named_in element_name elements code)

-- two words as a part: the code of a data element of the store, and a status
abbrev pub part_with : List ElementDef → Octets × Octets → Option PartDef
part_with elements w =
    option_and_then (λ must. if is_element_code w.0 then part_of elements w.0 must else None) (status_in w.1)

-- a part: a data element of the store, and a status
abbrev pub part_in : List ElementDef → Octets → Option PartDef
part_in elements line = option_and_then (part_with elements) (two_in line)

-- a segment: a tag in order, not that of a service segment, and 1 to 99 items
abbrev pub segment_in : Option SegmentDef → Octets → Option (Octets × ℕ)
segment_in before line =
    kept (λ h. is_tag_of h.0 && is_count_formed h.1 && not (is_service_tag h.0) && comes_after segment_name before h.0)
    (head_in line)

-- a composite of the store
abbrev pub composite_of : List CompositeDef → Octets → Bool → ℕ → Option ItemDef
composite_of composites code must reps =
    if is_composite_code code && is_some (named_in composite_name composites code)
    then Some (Composite (record { octets = code }) must reps) else None

-- a data element or a composite of the store, with a greatest number of repetitions
abbrev pub item_of : List ElementDef → List CompositeDef → Octets → Bool → ℕ → Option ItemDef
item_of elements composites code must reps =
    if is_element_code code then option_map (λ part. Alone part reps) (part_of elements code must)
    else composite_of composites code must reps

-- the greatest number of repetitions on a line, from 1 to 99, after the words of the item's code and status
abbrev pub reps_with : Octets × Octets × Octets → Option (Octets × Octets × ℕ)
reps_with w = option_map (λ reps. (w.0, w.1, reps)) (kept is_reps_formed (number_in w.2))

-- the words of an item's code and status, and its greatest number of repetitions, which is 1 where version 1 has none
abbrev pub item_words_in : StoreVersion → Octets → Option (Octets × Octets × ℕ)
item_words_in First line = option_map (λ w. (w.0, w.1, 1)) (two_in line)
item_words_in Second line = option_and_then reps_with (three_in line)

-- the item of a code's and a status's words, and a greatest number of repetitions
abbrev pub item_with : List ElementDef → List CompositeDef → Octets × Octets × ℕ → Option ItemDef
item_with elements composites w =
    option_and_then (λ must. item_of elements composites w.0 must w.2) (status_in w.1)

-- an item: a data element or a composite of the store, a status, and a greatest number of repetitions
abbrev pub item_in : StoreVersion → List ElementDef → List CompositeDef → Octets → Option ItemDef
item_in version elements composites line =
    option_and_then (item_with elements composites) (item_words_in version line)

-- a message: a name in order, not CONTRL, and 2 to 2,000 rows
abbrev pub message_in : Option MessageDef → Octets → Option (Octets × ℕ)
message_in before line =
    kept (λ h. is_message_name h.0 && is_between 2 2000 h.1 && not (bytes_eq h.0 (codes "CONTRL"))
    && comes_after message_name before h.0) (head_in line)

-- a segment of the store, or a service segment
abbrev pub tag_of : List SegmentDef → Octets → Option Tag
tag_of segments tag =
    if is_tag_of tag && not (not (is_some (named_in segment_name segments tag)) && not (is_service_tag tag))
    then Some (record { octets = tag }) else None

-- what a row is called: `-` for a group, or such a tag
abbrev pub called : List SegmentDef → Octets → Option (Option Tag)
called segments word =
    if bytes_eq word (codes "-") then Some None else option_map (λ tag. Some tag) (tag_of segments word)

-- the row of this depth, tag, status and greatest count
abbrev pub row_of : ℕ → Option Tag → Bool → ℕ → TableRow
row_of depth tag must max = record { tag = tag; must = must; max = max; depth = depth }

-- four words as a row: a depth from 0 to 16, what it is called, a status, and a count from 1 to 999,999
abbrev pub row_with : List SegmentDef → Octets × Octets × Octets × Octets → Option TableRow
row_with segments w =
    option_and_then (λ depth. option_and_then (λ tag. option_and_then (λ must.
    option_map (row_of depth tag must) (kept (is_between 1 999999) (number_in w.3)))
    (status_in w.2)) (called segments w.1)) (kept (is_between 0 16) (number_in w.0))

-- a row: its depth, what it is called, a status, and its greatest count
abbrev pub row_in : List SegmentDef → Octets → Option TableRow
row_in segments line = option_and_then (row_with segments) (four_in line)
