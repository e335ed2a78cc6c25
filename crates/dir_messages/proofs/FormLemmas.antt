-- What a message file gives is formed.
use Rattle.std.proofs.Common.{◌≡◌, ℕ, Bool, true, false, ◌&&◌, if◌then◌else◌, filter, map, Option, Some, None, is_some, Result, Ok, unwrap_or, List, [], ◌∷◌, refl, ap, ◌∙◌, ⊎_elim}
use Rattle.std.specs.Prelude.{codes}
use Rattle.std.specs.List.{list_all}
use Rattle.std.specs.Str.{bytes_eq}
use Rattle.std.proofs.lemmas.Bool.{cases_Bool, and_parts}
use Rattle.std.proofs.lemmas.List.Elements.{All-map}
use Rattle.std.proofs.lemmas.List.Sums.{list_all-from_AllPass}
use Rattle.edi_tables.specs.declared.tag.Tag.{Tag}
use Rattle.edi_tables.specs.declared.segment.TableRow.{TableRow}
use Rattle.edi_tables.specs.declared.segment.MessageDef.{MessageDef}
use Rattle.edi_tables.specs.Tag.{is_tag_of}
use Rattle.edi_tables.specs.Forms.{is_message_name, is_row_formed, is_message_formed}
use Rattle.edi_tables.specs.First.{unless_faulty}
use Rattle.edi_octets.specs.declared.fault.DirFault.{DirFault}
use Rattle.edi_octets.specs.Lines.{Line, lines_of}
use Rattle.edi_octets.specs.Profile.{fields_of, with_earlier}
use Rattle.edi_octets.proofs.AnswerLemmas.{none_from_ok}
use Rattle.edi_octets.proofs.EachLemmas.{passes_if_made, All-each}
use Rattle.dir_messages.specs.Message.{name_on, is_group_line, is_table_line, middle_of, tag_drawn, row_of, rows_of, table_part_faults, message_from, message_in}

tag_drawn-formed : (fields : List (List ℕ)) → passes_if_made (λ (tag : Tag). is_tag_of tag.octets) (tag_drawn fields) ≡ true
tag_drawn-formed [] = refl
tag_drawn-formed (tag ∷ []) = refl
tag_drawn-formed (tag ∷ name ∷ more) =
    ⊎_elim
    (λ (is : is_tag_of tag ≡ true). rw is is)
    (λ (none : is_tag_of tag ≡ false). rw none refl)
    (cases_Bool (is_tag_of tag))

tag-formed : (group : Bool) (tag : Option Tag) → passes_if_made (λ (tag : Tag). is_tag_of tag.octets) tag ≡ true → passes_if_made (λ (tag : Tag). is_tag_of tag.octets) (if group then None else tag) ≡ true
tag-formed true tag is = refl
tag-formed false tag is = is

row-formed : (row : TableRow) (tag : Option Tag) → row.tag ≡ tag → passes_if_made (λ (tag : Tag). is_tag_of tag.octets) tag ≡ true → is_row_formed row ≡ true
row-formed row None same is = rw same refl
row-formed row (Some tag) same is = rw same is

row_of-formed : (earlier : List Line) (line : Line) → is_row_formed (row_of earlier line) ≡ true
row_of-formed earlier line =
    row-formed (row_of earlier line) (if is_group_line line then None else tag_drawn (middle_of line)) refl (tag-formed (is_group_line line) (tag_drawn (middle_of line)) (tag_drawn-formed (middle_of line)))

rows_of-formed : (lines : List Line) → list_all is_row_formed (rows_of lines) ≡ true
rows_of-formed lines =
    let row = λ (p : List Line × Line). row_of p.0 p.1 in
    list_all-from_AllPass is_row_formed (map row (with_earlier lines))
    (All-map (λ r. is_row_formed r ≡ true) row (with_earlier lines)
    (All-each (λ (p : List Line × Line). is_row_formed (row_of p.0 p.1) ≡ true) (λ p. row_of-formed p.0 p.1) (with_earlier lines)))

named : (test : Bool) (name : List ℕ) → (test ≡ true → is_message_name name ≡ true) → passes_if_made is_message_name (if test then Some name else None) ≡ true
named true name is = is refl
named false name is = refl

name_on-formed : (fields : List (List ℕ)) → passes_if_made is_message_name (name_on fields) ≡ true
name_on-formed [] = refl
name_on-formed (a ∷ []) = refl
name_on-formed (a ∷ b ∷ []) = refl
name_on-formed (a ∷ b ∷ d ∷ []) = refl
name_on-formed (a ∷ b ∷ d ∷ name ∷ []) =
    let words = bytes_eq a (codes "Message") && bytes_eq b (codes "Type") && bytes_eq d (codes ":") in
    named (bytes_eq a (codes "Message") && bytes_eq b (codes "Type") && bytes_eq d (codes ":") && is_message_name name) name (λ all. (and_parts words (is_message_name name) all).1)
name_on-formed (a ∷ b ∷ d ∷ name ∷ e ∷ fields) = refl

-- the message after a type line, or what is found later
message-behind : (faults : List DirFault) (rows : List TableRow) (name : Option (List ℕ)) (otherwise : Result MessageDef DirFault) (m : MessageDef) → list_all is_row_formed rows ≡ true → passes_if_made is_message_name name ≡ true → (otherwise ≡ Ok m → is_message_formed m ≡ true) → (if is_some name then unless_faulty faults (record { name = unwrap_or name []; rows = rows }) else otherwise) ≡ Ok m → is_message_formed m ≡ true
message-behind faults rows None otherwise m formed is later given = later given
message-behind faults rows (Some name) otherwise m formed is later given =
    let made : MessageDef = record { name = name; rows = rows } in
    let none = none_from_ok faults made m given in
    ap is_message_formed none.1 ∙ rw (is, formed) refl

message_from-formed : (count : ℕ) (lines : List Line) (m : MessageDef) → message_from count lines ≡ Ok m → is_message_formed m ≡ true
message_from-formed count [] m is = cc
message_from-formed count (line ∷ lines) m is =
    message-behind (table_part_faults line lines) (rows_of (filter is_table_line lines)) (name_on (fields_of line.octets)) (message_from count lines) m (rows_of-formed (filter is_table_line lines)) (name_on-formed (fields_of line.octets)) (message_from-formed count lines m) is

-- the message of a file is formed
pub message_in-formed : (file : List ℕ) (m : MessageDef) → message_in file ≡ Ok m → is_message_formed m ≡ true
unfolding message_in
message_in-formed file m is = message_from-formed _ (lines_of file) m is
