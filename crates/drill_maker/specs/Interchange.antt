-- The interchange of a drill: orders of one to three lines.
use Rattle.std.specs.Prelude.{ℕ, ◌+◌, ◌*◌, ◌%◌, ◌++◌, codes, decimal}
use Rattle.std.specs.List.{flat_map, range_with_len}
use Rattle.edi_tables.specs.Octets.{Octets}

-- how many lines the order of message i has
abbrev pub line_count : ℕ → ℕ → ℕ
line_count x i = 1 + (i + x) % 3

-- UNB: from the buyer to the seller
unfoldable pub opening_text : Octets
opening_text = codes "UNB+UNOA:3+BUYER:14+SELLER:14+960105:0930+R1'"

-- UNZ: the number of messages
unfoldable pub closing_text : ℕ → Octets
closing_text n = codes "UNZ+" ++ decimal n ++ codes "+R1'"

-- UNH, BGM and DTM of the message with this reference
unfoldable pub head_text : ℕ → Octets
head_text reference =
    codes "UNH+" ++ decimal reference ++ codes "+TSTORD:D:96A:UN'BGM+220+PO" ++ decimal reference
    ++ codes "+9'DTM+137:19960105:102'"

-- LIN and QTY: line j of an order, and its quantity
unfoldable pub line_text : ℕ → ℕ → Octets
line_text j quantity = codes "LIN+" ++ decimal j ++ codes "'QTY+21:" ++ decimal quantity ++ codes "'"

-- UNS and UNT of the message with this reference and so many lines
unfoldable pub end_text : ℕ → ℕ → Octets
end_text lines reference = codes "UNS+S'UNT+" ++ decimal (5 + 2 * lines) ++ codes "+" ++ decimal reference ++ codes "'"

-- the lines of message i, numbered from 1; the quantity of line j is i + j
abbrev pub lines_text : ℕ → ℕ → Octets
lines_text i lines = flat_map (λ j. line_text j (i + j)) (range_with_len 1 lines)

-- message i, from 0, with the reference i + 1
unfoldable pub drill_message : ℕ → ℕ → Octets
drill_message x i = head_text (i + 1) ++ lines_text i (line_count x i) ++ end_text (line_count x i) (i + 1)

-- n messages for the number x, one after the other
abbrev pub messages_text : ℕ → ℕ → Octets
messages_text n x = flat_map (drill_message x) (range_with_len 0 n)

-- the interchange of n messages for the number x, without line ends
unfoldable pub interchange_text : ℕ → ℕ → Octets
interchange_text n x = opening_text ++ messages_text n x ++ closing_text n
