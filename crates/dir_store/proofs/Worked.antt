-- Worked cases, which the checker computes.
use Rattle.std.proofs.Common.{◌≡◌, ℕ, false, List, [], ◌∷◌, ◌++◌, Ok, Err, refl}
use Rattle.std.specs.Prelude.{codes}
use Rattle.std.specs.Fmt.{digits}
use Rattle.edi_tables.specs.declared.element.Class.TheVariants.{An}
use Rattle.edi_tables.specs.declared.element.ElementDef.{ElementDef}
use Rattle.edi_tables.specs.declared.segment.ItemDef.TheVariants.{Alone}
use Rattle.edi_tables.specs.Rows.{table_faults}
use Rattle.edi_octets.specs.Profile.{repr_in}
use Rattle.service_tables.specs.ServiceTables.{service_items_of}
use Rattle.dir_compile.specs.declared.parts.Parts.{Parts}
use Rattle.dir_store.specs.Spelling.{spelling_of, store_text, old_store_text}
use Rattle.dir_store.specs.Store.{section_at, element_at, segment_at, item_at, message_at, row_at, definitions_at, parts_at, store_of}

abbrev up_to : List ℕ → ℕ → ElementDef
up_to code max = record { code = record { octets = code }; repr = record { class = An; exact = false; max = max } }

-- a directory of two data elements
abbrev two_elements : Parts
two_elements = record {
  version = codes "D";
  release = codes "96A";
  agency = codes "UN";
  elements = up_to (codes "1001") 3 ∷ up_to (codes "1004") 35 ∷ [];
  lists = [];
  composites = [];
  segments = [];
  messages = [];
}

-- no lists, composites, segments and tables
abbrev no_more : List ℕ
no_more = codes "L 0" ++ 10 ∷ codes "C 0" ++ 10 ∷ codes "S 0" ++ 10 ∷ codes "T 0" ++ 10 ∷ []

abbrev its_lines : List ℕ
its_lines =
    codes "D 96A UN" ++ 10 ∷ codes "E 2" ++ 10 ∷ codes "1001 an..3" ++ 10 ∷ codes "1004 an..35" ++ 10 ∷ no_more

abbrev its_store : List ℕ
its_store = codes "EDIDIR2" ++ 10 ∷ its_lines

-- its store, and what that gives
its_spelling : store_text two_elements ≡ its_store
unfolding spelling_of digits
its_spelling = refl

read_again : store_of its_store ≡ Ok two_elements
unfolding store_of parts_at definitions_at section_at element_at repr_in
read_again = refl

-- its older store gives it too
its_old_spelling : old_store_text two_elements ≡ codes "EDIDIR1" ++ 10 ∷ its_lines
unfolding spelling_of digits
its_old_spelling = refl

old_read_again : store_of (codes "EDIDIR1" ++ 10 ∷ its_lines) ≡ Ok two_elements
unfolding store_of parts_at definitions_at section_at element_at repr_in
old_read_again = refl

abbrev descending : List ℕ
descending =
    codes "D 96A UN" ++ 10 ∷ codes "E 2" ++ 10 ∷ codes "1004 an..35" ++ 10 ∷ codes "1001 an..3" ++ 10 ∷ no_more

-- the two in the other order: the second is at fault, and it begins at octet 33, in both versions
out_of_order : store_of (codes "EDIDIR2" ++ 10 ∷ descending) ≡ Err 33
unfolding store_of parts_at definitions_at section_at element_at repr_in
out_of_order = refl

old_out_of_order : store_of (codes "EDIDIR1" ++ 10 ∷ descending) ≡ Err 33
unfolding store_of parts_at definitions_at section_at element_at repr_in
old_out_of_order = refl

-- rows that are no segment table, since the last is no UNT: at fault is the line of the message's name
no_table : store_of (codes "EDIDIR1" ++ 10 ∷ codes "D 96A UN" ++ 10 ∷ codes "E 0" ++ 10 ∷ codes "L 0" ++ 10 ∷ codes "C 0" ++ 10 ∷ codes "S 0" ++ 10 ∷ codes "T 1" ++ 10 ∷ codes "TSTMSG 2" ++ 10 ∷ codes "0 UNH M 1" ++ 10 ∷ codes "0 UNS M 1" ++ 10 ∷ []) ≡ Err 37
unfolding store_of parts_at definitions_at section_at message_at row_at table_faults service_items_of
no_table = refl

-- a directory of one segment, whose data element may be there so many times
abbrev one_segment : ℕ → Parts
one_segment reps = record two_elements {
  elements = up_to (codes "1001") 3 ∷ [];
  segments = record {
    tag = record { octets = codes "FTX" };
    items = Alone (record { code = record { octets = codes "1001" }; must = false; repr = record { class = An; exact = false; max = 3 } }) reps ∷ [];
  } ∷ [];
}

-- the lines of a store of it, after the first: with this line of its item
abbrev with_item : List ℕ → List ℕ
with_item item =
    codes "D 96A UN" ++ 10 ∷ codes "E 1" ++ 10 ∷ codes "1001 an..3" ++ 10 ∷ codes "L 0" ++ 10 ∷ codes "C 0" ++ 10 ∷ codes "S 1" ++ 10 ∷ codes "FTX 1" ++ 10 ∷ item ++ 10 ∷ codes "T 0" ++ 10 ∷ []

-- five times: its store has the number, and gives it again
its_number : store_text (one_segment 5) ≡ codes "EDIDIR2" ++ 10 ∷ with_item (codes "1001 C 5")
unfolding spelling_of digits
its_number = refl

number_read : store_of (codes "EDIDIR2" ++ 10 ∷ with_item (codes "1001 C 5")) ≡ Ok (one_segment 5)
unfolding store_of parts_at definitions_at section_at element_at segment_at item_at repr_in service_items_of
number_read = refl

-- an older store has no number, and it is 1
old_number : store_of (codes "EDIDIR1" ++ 10 ∷ with_item (codes "1001 C")) ≡ Ok (one_segment 1)
unfolding store_of parts_at definitions_at section_at element_at segment_at item_at repr_in service_items_of
old_number = refl

-- with a number its line is at fault, which begins at octet 50; and so is one without a number in a store of today
old_with_number : store_of (codes "EDIDIR1" ++ 10 ∷ with_item (codes "1001 C 5")) ≡ Err 50
unfolding store_of parts_at definitions_at section_at element_at segment_at item_at repr_in service_items_of
old_with_number = refl

new_without_number : store_of (codes "EDIDIR2" ++ 10 ∷ with_item (codes "1001 C")) ≡ Err 50
unfolding store_of parts_at definitions_at section_at element_at segment_at item_at repr_in service_items_of
new_without_number = refl

-- a number is at most 99
hundred : store_of (codes "EDIDIR2" ++ 10 ∷ with_item (codes "1001 C 100")) ≡ Err 50
unfolding store_of parts_at definitions_at section_at element_at segment_at item_at repr_in service_items_of
hundred = refl
