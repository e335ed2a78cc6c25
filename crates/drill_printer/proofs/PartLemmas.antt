-- Lines put part by part.
use Rattle.std.proofs.Common.{◌≡◌, ◌++◌, ℕ, List, [], refl}
use Rattle.std.specs.Prelude.{codes}
use Rattle.std.proofs.lemmas.List.{append_assoc}
use Rattle.drill_maker.specs.Interchange.{interchange_text}
use Rattle.drill_printer.specs.Drill.{counts_line, drill_text, edited_text, edits_line, error_sum, numbers_line, text_drilled}

-- what is printed of a text that is edited
pub edited_parts : (number edits total : ℕ) (text opened drilled before one two three : List ℕ) → opened ≡ text → total ≡ error_sum number edits opened → drilled ≡ text_drilled number edits opened
    → one ≡ before ++ counts_line (codes "open") opened → two ≡ one ++ edits_line edits total → three ≡ two ++ counts_line (codes "close") drilled
    → three ≡ before ++ edited_text number edits text
unfolding edited_text
edited_parts number edits total text opened drilled before one two three same is_total is_drilled is_one is_two is_three =
    rw (is_three, is_two, is_one, is_total, is_drilled, same) (simp append_assoc)

-- what is printed of a drill
pub drill_parts : (messages edits number : ℕ) (text none one two : List ℕ) → text ≡ interchange_text messages number → none ≡ []
    → one ≡ none ++ numbers_line (codes "drill") messages edits number → two ≡ one ++ edited_text number edits text → two ≡ drill_text messages edits number
unfolding drill_text
drill_parts messages edits number text none one two is_text is_none is_one is_two =
    rw (is_two, is_one, is_none, is_text) refl
