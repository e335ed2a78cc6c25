-- The drill: an interchange that is made from numbers and edited, and what is printed of it.
use Rattle.std.specs.Prelude.{ℕ, zero, suc, [], ◌∷◌, ◌++◌, length, map, codes, decimal}
use Rattle.std.specs.List.{range_with_len, sum_by}
use Rattle.edi_tables.specs.Octets.{Octets}
use Rattle.drill_maker.specs.Edit.{edit_of}
use Rattle.drill_maker.specs.Interchange.{interchange_text}
use Rattle.drill_maker.specs.Reduced.{drill_directory}
use Rattle.kept_text.specs.Edit.{text_with}
use Rattle.text_reading.specs.Errors.{errors_of}
use Rattle.segment_records.specs.Count.{segment_count_of}

-- a text after edit j, which is made for its length
abbrev pub text_edited : ℕ → ℕ → Octets → Octets
text_edited number j text =
    let edit = edit_of j number (length text) in text_with text edit.at edit.cut edit.put

-- a text after the first so many edits, one after the other
unfoldable pub text_drilled : ℕ → ℕ → Octets → Octets
text_drilled number zero text = text
text_drilled number (suc j) text = text_edited number j (text_drilled number j text)

-- the number of errors of a text
abbrev pub error_count : Octets → ℕ
error_count text = length (errors_of drill_directory text)

-- the sum of the numbers of errors after each of the first so many edits
abbrev pub error_sum : ℕ → ℕ → Octets → ℕ
error_sum number edits text = sum_by error_count (map (λ j. text_drilled number j text) (range_with_len 1 edits))

-- a number after a space
abbrev pub spaced : ℕ → Octets
spaced n = codes " " ++ decimal n

-- a line of a word and three numbers
unfoldable pub numbers_line : Octets → ℕ → ℕ → ℕ → Octets
numbers_line word a b c = word ++ spaced a ++ spaced b ++ spaced c ++ 10 ∷ []

-- a word, and the numbers of octets, segments and errors of a text
abbrev pub counts_line : Octets → Octets → Octets
counts_line word text = numbers_line word (length text) (segment_count_of text) (error_count text)

-- how many edits there were, and the sum of the errors
unfoldable pub edits_line : ℕ → ℕ → Octets
edits_line edits total = codes "edits" ++ spaced edits ++ spaced total ++ 10 ∷ []

-- what is printed of a text that so many edits are applied to
unfoldable pub edited_text : ℕ → ℕ → Octets → Octets
edited_text number edits text =
    counts_line (codes "open") text ++ edits_line edits (error_sum number edits text)
    ++ counts_line (codes "close") (text_drilled number edits text)

-- what a drill prints: its three numbers, and what is printed of its interchange
unfoldable pub drill_text : ℕ → ℕ → ℕ → Octets
drill_text messages edits number =
    numbers_line (codes "drill") messages edits number ++ edited_text number edits (interchange_text messages number)
