-- A text that is edited, and the directory that it is checked by.
use Rattle.std.proofs.Common.{◌≡◌, ◌+◌, ◌-◌, ◌≤◌, ℕ, zero, suc, List, length, Result, Ok, refl, sym, ap, ◌∙◌, arith, add-one}
use Rattle.std.proofs.lemmas.List.FromFn.{sum_by-map-range_with_len_more}
use Rattle.drill_maker.specs.Edit.{cut_of, edit_place_of, put_of}
use Rattle.drill_maker.specs.Reduced.{drill_directory}
use Rattle.drill_maker.proofs.EditLemmas.{place_within, put_cut}
use Rattle.kept_text.proofs.Edits.{length_with}
use Rattle.drill_printer.specs.Drill.{error_count, error_sum, text_drilled, text_edited}

-- an edit leaves so many octets more as it puts, and so many fewer as it cuts
length_edited : (number j : ℕ) (text : List ℕ) → cut_of j ≤ length text → length (text_edited number j text) + cut_of j ≡ length text + length (put_of j)
length_edited number j text room =
    let long : length (text_edited number j text) ≡ length text - cut_of j + length (put_of j) =
    length_with text (edit_place_of j number (length text)) (cut_of j) (put_of j) (place_within j number (length text) room) in
    omega arith

-- a text after so many edits has as many octets more as the next edit cuts
pub length_drilled : (number j : ℕ) (text : List ℕ) → length (text_drilled number j text) ≡ length text + cut_of j
unfolding text_drilled
length_drilled number zero text = omega arith
length_drilled number (suc j) text =
    let so_far : length (text_drilled number j text) ≡ length text + cut_of j = length_drilled number j text in
    let edited : length (text_edited number j (text_drilled number j text)) + cut_of j ≡ length (text_drilled number j text) + length (put_of j) =
    length_edited number j (text_drilled number j text) (omega arith) in
    let next : length (put_of j) ≡ cut_of (suc j) = put_cut j ∙ ap cut_of (add-one j) in
    omega arith

-- a text before the first edit, and after one more
pub drilled_none : (number : ℕ) (text : List ℕ) → text ≡ text_drilled number 0 text
unfolding text_drilled
drilled_none number text = refl

pub drilled_more : (number j : ℕ) (text now after : List ℕ) → now ≡ text_drilled number j text → after ≡ text_edited number j now → after ≡ text_drilled number (j + 1) text
unfolding text_drilled
drilled_more number j text now after is next = rw (add-one) (next ∙ ap (text_edited number j) is)

-- the sum of the errors after one more edit
pub sum_more : (number j : ℕ) (text : List ℕ) (total total' count : ℕ) → total ≡ error_sum number j text → count ≡ error_count (text_drilled number (j + 1) text) → total' ≡ total + count
    → total' ≡ error_sum number (j + 1) text
sum_more number j text total total' count is more adds =
    adds ∙ ap (λ t. t + count) is ∙ ap (λ c. error_sum number j text + c) more
    ∙ sym (sum_by-map-range_with_len_more error_count (λ k. text_drilled number k text) 1 j (j + 1) (omega arith))

-- a text after so many edits has what the next edit cuts
pub room_left : (number j : ℕ) (text now : List ℕ) → now ≡ text_drilled number j text → cut_of j ≤ length now
room_left number j text now is =
    let long : length now ≡ length text + cut_of j = ap length is ∙ length_drilled number j text in
    omega arith
