-- What is wrong with the envelopes of a text. Places are counted from 0: segment k is at place k - 1.
use Rattle.std.specs.Prelude.{◌+◌, ◌-◌, ℕ, Bool, false, not, ◌==◌, ◌&&◌, ◌||◌, nat_lt, List, ◌++◌, length, filter, find, Option, Some, None, is_some, codes, if◌then◌else◌}
use Rattle.std.specs.Option.{option_map, option_map_or, option_or}
use Rattle.std.specs.List.{range_with_len, flat_map}
use Rattle.std.specs.Str.{bytes_eq}
use Rattle.edi_tables.specs.Octets.{Octets}
use Rattle.edi_tables.specs.declared.tag.Tag.{Tag}
use Rattle.edi_tables.specs.Extents.{Extent, tag_in, message_at, message_closed_at, group_at, group_closed_at, group_opened_at}
use Rattle.edi_tables.specs.Rows.{has_name, when}
use Rattle.edi_octets.specs.Decimal.{decimal_in}
use Rattle.error_ledger.specs.declared.error.ErrorLine.{ErrorLine}
use Rattle.error_ledger.specs.declared.kind.Kind.{Kind}
use Rattle.error_ledger.specs.declared.kind.Kind.TheVariants.{NoUnb, NoUnz, SecondUnb, AfterEnd, Outside, EmptyInterchange, Mixed, Reference, Count, NoUne, EmptyGroup, GroupType, NoTable}
use Rattle.envelope_check.specs.Head.{Head}
use Rattle.envelope_check.specs.declared.head.SegmentMark.{SegmentMark}
use Rattle.envelope_check.specs.Heads.{tags_of, start_in, reference_of, count_of, message_type_of, is_tabled}

-- the segment at place i has this tag
abbrev pub is_at : Octets → List (Option Tag) → ℕ → Bool
is_at name tags i = has_name name (tag_in tags i)

-- the places from a up to b whose segments have this tag
abbrev pub places_of : Octets → List (Option Tag) → ℕ → ℕ → List ℕ
places_of name tags a b = filter (is_at name tags) (range_with_len a (b - a))

-- how many segments from place a up to place b have this tag
abbrev pub count_at : Octets → List (Option Tag) → ℕ → ℕ → ℕ
count_at name tags a b = length (places_of name tags a b)

-- how many groups open before place i
abbrev pub groups_before : List (Option Tag) → ℕ → ℕ
groups_before tags i = count_at (codes "UNG") tags 0 i

-- how many messages open before place i
abbrev pub messages_before : List (Option Tag) → ℕ → ℕ
messages_before tags i = count_at (codes "UNH") tags 0 i

-- two values differ, as octets
abbrev pub differ : Octets → Octets → Bool
differ a b = not (bytes_eq a b)

-- the interchange ends at the first UNZ
unfoldable pub end_of_interchange : List (Option Tag) → Option ℕ
end_of_interchange tags = find (is_at (codes "UNZ") tags) (range_with_len 0 (length tags))

-- place i is the end of the interchange
abbrev pub is_end : List (Option Tag) → ℕ → Bool
is_end tags i = option_map_or (λ z. z == i) (end_of_interchange tags) false

-- place i is after the end of the interchange
abbrev pub is_after_end : List (Option Tag) → ℕ → Bool
is_after_end tags i = option_map_or (λ z. nat_lt z i) (end_of_interchange tags) false

-- how many segments an extent has
abbrev pub segment_count : Extent → ℕ
segment_count e = e.last + 1 - e.first

-- how many messages an extent has: its UNH
abbrev pub messages_in : List (Option Tag) → Extent → ℕ
messages_in tags e = count_at (codes "UNH") tags (e.first - 1) e.last

-- a UNB that isn't the first segment, and isn't after the end
unfoldable pub is_second_unb : List (Option Tag) → ℕ → Bool
is_second_unb tags i = is_at (codes "UNB") tags i && not (i == 0) && not (is_after_end tags i)

-- UNB, UNG and UNZ, which belong to no message
abbrev pub needs_no_message : List (Option Tag) → ℕ → Bool
needs_no_message tags i = is_at (codes "UNB") tags i || is_at (codes "UNG") tags i || is_at (codes "UNZ") tags i

-- not after the end, in no message, and neither UNB, UNG or UNZ nor a UNE that closes a group
unfoldable pub is_outside : List (Option Tag) → ℕ → Bool
is_outside tags i =
    not (is_after_end tags i) && not (is_some (message_at tags i))
    && not (needs_no_message tags i || is_some (group_closed_at tags i))

-- the first UNZ, without a UNG and without a UNH before it
unfoldable pub is_empty_interchange : List (Option Tag) → ℕ → Bool
is_empty_interchange tags i = is_end tags i && groups_before tags i == 0 && messages_before tags i == 0

-- a UNH in no group, in a text that has a UNG somewhere
unfoldable pub is_mixed : List (Option Tag) → ℕ → Bool
is_mixed tags i =
    is_at (codes "UNH") tags i && not (is_some (group_at tags i)) && not (groups_before tags (length tags) == 0)

-- a UNG whose group no UNE closes
unfoldable pub lacks_une : List (Option Tag) → ℕ → Bool
lacks_une tags i = option_map_or (λ e. not e.closed) (group_opened_at tags i) false

-- a UNG whose group has no message
unfoldable pub is_empty_group : List (Option Tag) → ℕ → Bool
is_empty_group tags i = option_map_or (λ e. messages_in tags e == 0) (group_opened_at tags i) false

-- a UNH in a group whose type isn't that of the group
unfoldable pub is_of_other_type : List Head → List (Option Tag) → ℕ → Bool
is_of_other_type heads tags i =
    is_at (codes "UNH") tags i
    && option_map_or (λ e. differ (message_type_of heads (i + 1)) (message_type_of heads e.first))
    (group_at tags i) false

-- what the first UNZ counts: the groups before it or, where there are none, the messages before it
abbrev pub counted_at_end : List (Option Tag) → ℕ → ℕ
counted_at_end tags i =
    if groups_before tags i == 0 then messages_before tags i else groups_before tags i

-- the number that the first UNZ has to give; no other segment has to give it
abbrev pub count_due_at_end : List (Option Tag) → ℕ → Option ℕ
count_due_at_end tags i = if is_end tags i then Some (counted_at_end tags i) else None

-- the number that a closing segment has to give: that of its message's segments, of its group's messages, or that at
-- the end
unfoldable pub count_due : List (Option Tag) → ℕ → Option ℕ
count_due tags i =
    option_or (option_map segment_count (message_closed_at tags i))
    (option_or (option_map (messages_in tags) (group_closed_at tags i)) (count_due_at_end tags i))

-- 1 to 19 digits that give this number
abbrev pub gives : Octets → ℕ → Bool
gives value n = option_map_or (λ m. m == n) (decimal_in value) false

-- a closing segment whose count isn't the number that it has to give
unfoldable pub miscounts : List Head → List (Option Tag) → ℕ → Bool
miscounts heads tags i = option_map_or (λ n. not (gives (count_of heads (i + 1)) n)) (count_due tags i) false

-- the first UNZ closes what the first segment opens, where that is UNB
abbrev pub opening_at_end : List (Option Tag) → ℕ → Option ℕ
opening_at_end tags i = if is_end tags i && is_at (codes "UNB") tags 0 then Some 1 else None

-- the segment that opened what the segment at place i closes: a message, a group or the interchange
unfoldable pub opener_of : List (Option Tag) → ℕ → Option ℕ
opener_of tags i =
    option_or (option_map (λ e. e.first) (message_closed_at tags i))
    (option_or (option_map (λ e. e.first) (group_closed_at tags i)) (opening_at_end tags i))

-- a closing segment whose reference isn't that of the opening one
unfoldable pub refers_elsewhere : List Head → List (Option Tag) → ℕ → Bool
refers_elsewhere heads tags i =
    option_map_or (λ k. differ (reference_of heads (i + 1)) (reference_of heads k)) (opener_of tags i) false

-- a UNH for whose message the directory has no table
unfoldable pub lacks_table : List Head → List (Option Tag) → ℕ → Bool
lacks_table heads tags i = is_at (codes "UNH") tags i && not (is_tabled heads (i + 1))

-- an error of segment k at an element, or at element 0 for the segment as a whole
abbrev pub error_with : ℕ → ℕ → Option Tag → ℕ → Kind → ErrorLine
error_with k start tag element kind = record {
  segment = k;
  start = start;
  tag = tag;
  element = element;
  component = 0;
  kind = kind;
  node = 0;
  missing = None;
}

-- an error of the segment at place i
abbrev pub error_at : List SegmentMark → ℕ → ℕ → Kind → ErrorLine
error_at marks i element kind = error_with (i + 1) (start_in marks i) (tag_in (tags_of marks) i) element kind

-- the errors of the segment at place i, in the order of elements and then of the numbers of the kinds
unfoldable pub envelope_errors_at : List Head → List SegmentMark → ℕ → List ErrorLine
envelope_errors_at heads marks i =
    let tags = tags_of marks in
    when (is_second_unb tags i) (error_at marks i 0 SecondUnb)
    ++ when (is_after_end tags i) (error_at marks i 0 AfterEnd)
    ++ when (is_outside tags i) (error_at marks i 0 Outside)
    ++ when (is_empty_interchange tags i) (error_at marks i 0 EmptyInterchange)
    ++ when (is_mixed tags i) (error_at marks i 0 Mixed)
    ++ when (lacks_une tags i) (error_at marks i 0 NoUne)
    ++ when (is_empty_group tags i) (error_at marks i 0 EmptyGroup)
    ++ when (is_of_other_type heads tags i) (error_at marks i 0 GroupType)
    ++ when (miscounts heads tags i) (error_at marks i 1 Count)
    ++ when (refers_elsewhere heads tags i) (error_at marks i 2 Reference)
    ++ when (lacks_table heads tags i) (error_at marks i 2 NoTable)

-- an error of the text as a whole, at segment 0
abbrev pub error_of_text : Kind → ErrorLine
error_of_text kind = error_with 0 0 None 0 kind

-- the text begins with no UNB; no segment is UNZ
unfoldable pub text_errors : List (Option Tag) → List ErrorLine
text_errors tags =
    when (not (is_at (codes "UNB") tags 0)) (error_of_text NoUnb)
    ++ when (not (is_some (end_of_interchange tags))) (error_of_text NoUnz)

-- the errors of the envelopes of a text, in order
unfoldable pub envelope_errors_of : List Head → List SegmentMark → List ErrorLine
envelope_errors_of heads marks =
    text_errors (tags_of marks) ++ flat_map (envelope_errors_at heads marks) (range_with_len 0 (length marks))
