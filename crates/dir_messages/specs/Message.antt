-- What a drawn message file is.
use Rattle.std.specs.Prelude.{◌-◌, ◌+◌, ℕ, Bool, false, not, ◌==◌, ◌&&◌, ◌||◌, nat_le, nat_lt, List, [], ◌∷◌, ◌++◌, length, map, filter, find, take, drop, reverse, sum_by, count_by, slice_get, slice_index, Option, Some, None, is_some, unwrap_or, option_and_then, Result, Err, codes, if◌then◌else◌}
use Rattle.std.specs.List.{list_all, flat_map, before_last, after_last, prefix_len, join_with_byte}
use Rattle.std.specs.Str.{all_ascii_digits, bytes_eq, str_eq_ignore_ascii_case}
use Rattle.std.specs.Str.Parse.{digits_value}
use Rattle.edi_tables.specs.Octets.{Octets}
use Rattle.edi_tables.specs.Forms.{is_message_name}
use Rattle.edi_tables.specs.Tag.{is_digit, is_tag_of}
use Rattle.edi_tables.specs.declared.tag.Tag.{Tag}
use Rattle.edi_tables.specs.declared.segment.TableRow.{TableRow}
use Rattle.edi_tables.specs.declared.segment.MessageDef.{MessageDef}
use Rattle.edi_tables.specs.declared.table.RowFault.{RowFault}
use Rattle.edi_tables.specs.declared.table.TableKind.{TableKind}
use Rattle.edi_tables.specs.declared.table.TableKind.TheVariants as table
use Rattle.edi_tables.specs.Rows.{table_faults, when}
use Rattle.edi_octets.specs.declared.fault.DirKind.{DirKind}
use Rattle.edi_octets.specs.declared.fault.DirKind.TheVariants.{BadLine, BadPosition, NoType, BadGroup, CloseWithoutOpen, NotClosed, TooMany, NoUnhUnt, EnvelopeTag, BadMax, TooDeep, NoTrigger}
use Rattle.edi_octets.specs.declared.fault.DirFault.{DirFault}
use Rattle.edi_octets.specs.Lines.{Line, lines_of, pieces_in, after_spaces}
use Rattle.edi_tables.specs.Filled.{is_filled}
use Rattle.edi_octets.specs.Profile.{unmarked, fields_of, indentation_of, has_position, position_of, is_greater, after_position, status_in, with_earlier}
use Rattle.edi_tables.specs.First.{unless_faulty}
use Rattle.edi_octets.specs.DirStop.{at_line}

-- the words that a type line begins with
abbrev pub begins_type : Octets → Octets → Octets → Bool
begins_type message type colon =
    bytes_eq message (codes "Message") && bytes_eq type (codes "Type") && bytes_eq colon (codes ":")

-- the name on a type line: a line with exactly the fields `Message`, `Type`, `:` and a message's name
abbrev pub name_on : List Octets → Option Octets
name_on (message ∷ type ∷ colon ∷ name ∷ []) =
    if begins_type message type colon && is_message_name name then Some name else None
name_on fields = None

-- a type line: one with such a name
abbrev pub is_type_line : Line → Bool
is_type_line line = is_some (name_on (fields_of line.octets))

-- a table line: indented by at most 4, and it begins with a position of four digits
abbrev pub is_table_line : Line → Bool
is_table_line line = nat_le (indentation_of line.octets) 4 && has_position 4 line

-- the pieces of a line between single spaces
abbrev pub pieces_of : Line → List Octets
pieces_of line = pieces_in (unmarked line.octets)

-- a status: `M` or `C`
abbrev pub is_status : Octets → Bool
is_status part = is_some (status_in part)

-- the status of a table line is its last field that is `M` or `C`
abbrev pub status_of : Line → Option Bool
status_of line = option_and_then status_in (find is_status (reverse (pieces_of line)))

-- what follows the status on the line, without the spaces in front
abbrev pub rest_of : Line → Octets
rest_of line = after_spaces (join_with_byte 32 (after_last is_status (pieces_of line)))

-- the greatest count in such a rest: the digits that it begins with
abbrev pub max_in : Octets → ℕ
max_in rest = digits_value 10 (take (prefix_len is_digit rest) rest)

-- the tail after it, in which the groups are drawn
abbrev pub tail_in : Octets → Octets
tail_in rest = drop (prefix_len is_digit rest) rest

-- a tail has spaces, `-`, `|` and `+`
abbrev pub is_tail_octet : ℕ → Bool
is_tail_octet x = x == 32 || x == 45 || x == 124 || x == 43

-- how many `+` a tail has
abbrev pub ends_in : Octets → ℕ
ends_in tail = count_by (λ x. x == 43) tail

-- one to six digits, and a tail
abbrev pub has_counts : Octets → Bool
has_counts rest =
    nat_le 1 (prefix_len is_digit rest) && nat_le (prefix_len is_digit rest) 6 && list_all is_tail_octet (tail_in rest)

-- the greatest count of a table line
abbrev pub max_of : Line → ℕ
max_of line = max_in (rest_of line)

-- how many groups the tail of a table line ends: one for each `+`
abbrev pub ends_drawn : Line → ℕ
ends_drawn line = ends_in (tail_in (rest_of line))

-- a status, and then one to six digits and a tail
abbrev pub has_rest : Line → Bool
has_rest line = is_some (status_of line) && has_counts (rest_of line)

-- the fields between the position and the status
abbrev pub middle_of : Line → List Octets
middle_of line = after_position (drop 1 (filter is_filled (before_last is_status (pieces_of line))))

-- a segment line has a tag and a name there
abbrev pub tag_drawn : List Octets → Option Tag
tag_drawn (tag ∷ name ∷ more) = if is_tag_of tag then Some (record { octets = tag }) else None
tag_drawn fields = None

-- `-` alone, any number of them
abbrev pub is_dashes : Octets → Bool
is_dashes field = list_all (λ x. x == 45) field

-- a number without leading zero
abbrev pub is_plain_number : Octets → Bool
is_plain_number field =
    is_filled field && all_ascii_digits field && (length field == 1 || not (slice_index field 0 == 48))

-- the fields that a group line begins with: two or more `-`, and the words `Segment` and `group` in any case
abbrev pub begins_group : Octets → Octets → Octets → Bool
begins_group dashes segment group =
    nat_le 2 (length dashes) && is_dashes dashes && str_eq_ignore_ascii_case segment (codes "Segment")
    && str_eq_ignore_ascii_case group (codes "group")

-- a group line has these there, a number, and fields of `-` alone
abbrev pub number_drawn : List Octets → Option ℕ
number_drawn (dashes ∷ segment ∷ group ∷ number ∷ more) =
    if begins_group dashes segment group && is_plain_number number && list_all is_dashes more
    then Some (digits_value 10 number) else None
number_drawn fields = None

-- a group line: one that has a group's number between position and status
abbrev pub is_group_line : Line → Bool
is_group_line line = is_some (number_drawn (middle_of line))

-- how many groups these table lines have opened
abbrev pub groups_among : List Line → ℕ
groups_among lines = count_by is_group_line lines

-- how many groups these table lines have closed; the `+` of a group line closes none
abbrev pub ends_among : List Line → ℕ
ends_among lines = sum_by ends_drawn (filter (λ line. not (is_group_line line)) lines)

-- how many groups are still open after these table lines
abbrev pub open_after : List Line → ℕ
open_after lines = groups_among lines - ends_among lines

-- the position of the last of these lines, if there is one
abbrev pub last_position : List Line → Option ℕ
last_position lines = elim (reverse lines) [ [] ↦ None | line ∷ more ↦ Some (position_of line) ]

-- a position is greater than that of the table line before
abbrev pub is_in_order : List Line → Line → Bool
is_in_order earlier line = is_greater (last_position earlier) (position_of line)

-- what a group line or a segment line breaks, with so many `+`, after so many groups, of which so many are open
abbrev pub form_faults : List Octets → ℕ → ℕ → ℕ → List DirKind
form_faults middle ends groups open_groups =
    elim (number_drawn middle) [
      | Some number ↦ when (not (ends == 1 && number == groups + 1)) BadGroup
      | None ↦ if is_some (tag_drawn middle) then when (nat_lt open_groups ends) CloseWithoutOpen else BadLine ∷ []
    ]

-- what a table line breaks after these, by its form and by the groups that it opens or closes
abbrev pub drawing_faults : List Line → Line → List DirKind
drawing_faults earlier line =
    form_faults (middle_of line) (ends_drawn line) (groups_among earlier) (open_after earlier)

-- what a table line breaks after these: its status and rest, its position, its form, its groups, in this order
abbrev pub kinds_broken : List Line → Line → List DirKind
kinds_broken earlier line =
    when (not (has_rest line)) BadLine ++ when (not (is_in_order earlier line)) BadPosition
    ++ drawing_faults earlier line

-- the faults of a table line after these: each rule that it breaks, at its line
abbrev pub table_line_faults : List Line → Line → List DirFault
table_line_faults earlier line = map (λ kind. at_line kind line) (kinds_broken earlier line)

-- a line after the type line: no second type line; a table line; else text
abbrev pub line_faults : List Line → Line → List DirFault
line_faults earlier line =
    if is_type_line line then at_line BadLine line ∷ []
    else (if is_table_line line then table_line_faults (filter is_table_line earlier) line else [])

-- the tag of a table line's row: a group has none
abbrev pub row_tag : List Octets → Option Tag
row_tag middle = if is_some (number_drawn middle) then None else tag_drawn middle

-- the row of a table line after these: it is as deep as groups are open
abbrev pub row_of : List Line → Line → TableRow
row_of earlier line =
    record {
      tag = row_tag (middle_of line);
      must = elim (status_of line) [ None ↦ false | Some must ↦ must ];
      max = max_of line;
      depth = open_after earlier;
    }

-- the rows of these table lines, in order
abbrev pub rows_of : List Line → List TableRow
rows_of lines = map (λ p. row_of p.0 p.1) (with_earlier lines)

-- groups are still open after the last table line
abbrev pub open_faults : List Line → List DirFault
open_faults lines =
    elim (reverse lines) [ [] ↦ [] | last ∷ more ↦ when (nat_lt 0 (open_after lines)) (at_line NotClosed last) ]

-- the word for a rule of segment tables; a drawn row is never too deep for the row before
abbrev pub kind_of : TableKind → DirKind
kind_of table.TooMany = TooMany
kind_of table.NoUnhUnt = NoUnhUnt
kind_of table.EnvelopeTag = EnvelopeTag
kind_of table.BadMax = BadMax
kind_of table.BadDepth = TooDeep
kind_of table.TooDeep = TooDeep
kind_of table.NoTrigger = NoTrigger

-- a fault of the rows is at its row's line, or at the type line where there is no such row
abbrev pub row_fault : Line → List Line → RowFault → DirFault
row_fault type lines fault =
    elim (slice_get lines fault.at) [
      | None ↦ at_line (kind_of fault.kind) type
      | Some line ↦ at_line (kind_of fault.kind) line
    ]

-- what the rows break, each fault at its row's line
abbrev pub rows_faults : Line → List Line → List DirFault
rows_faults type lines = map (row_fault type lines) (table_faults (rows_of lines))

-- the faults after the type line, in judging order: each line, groups left open, the rows
abbrev pub table_part_faults : Line → List Line → List DirFault
table_part_faults type lines =
    let drawn = filter is_table_line lines in
    flat_map (λ p. line_faults p.0 p.1) (with_earlier lines) ++ open_faults drawn ++ rows_faults type drawn

-- the message of a type line's name and the lines after it
abbrev pub message_after : Line → List Line → Result MessageDef DirFault
message_after type lines =
    unless_faulty (table_part_faults type lines)
    (record { name = unwrap_or (name_on (fields_of type.octets)) []; rows = rows_of (filter is_table_line lines) })

-- lines are text up to the type line; a file without one is `no-type` at the number of its lines
abbrev pub message_from : ℕ → List Line → Result MessageDef DirFault
message_from count [] = Err (record { line = count; kind = NoType })
message_from count (line ∷ lines) = if is_type_line line then message_after line lines else message_from count lines

-- what a message file gives: its message, or its first fault
unfoldable pub message_in : Octets → Result MessageDef DirFault
message_in file = let lines = lines_of file in message_from (length lines) lines
