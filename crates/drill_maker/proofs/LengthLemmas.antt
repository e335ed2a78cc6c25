-- How long an interchange is.
use Rattle.std.proofs.Common.{◌+◌, ◌*◌, ◌<◌, ◌≤◌, ℕ, length, arith}
use Rattle.std.specs.Prelude.{decimal}
use Rattle.std.proofs.lemmas.Fmt.{length-decimal-le}
use Rattle.std.proofs.lemmas.List.{length-append}
use Rattle.drill_maker.specs.Interchange.{closing_text, end_text, head_text, interchange_text, line_count, line_text, lines_text, drill_message, messages_text, opening_text}
use Rattle.drill_maker.proofs.RangeLemmas.{range_length}

decimal_four : (n : ℕ) → n < 10000 → length (decimal n) ≤ 4
decimal_four n small = length-decimal-le 4 n (omega arith) small (omega arith)

closing_short : (n : ℕ) → n < 10000 → length (closing_text n) ≤ 20
unfolding closing_text
closing_short n small =
    let four : length (decimal n) ≤ 4 = decimal_four n small in
    simp length-append (omega arith)

head_short : (r : ℕ) → r < 10000 → length (head_text r) ≤ 70
unfolding head_text
head_short r small =
    let four : length (decimal r) ≤ 4 = decimal_four r small in
    simp length-append (omega arith)

line_short : (j quantity : ℕ) → j < 10000 → quantity < 10000 → length (line_text j quantity) ≤ 30
unfolding line_text
line_short j quantity few small =
    let four : length (decimal j) ≤ 4 = decimal_four j few in
    let more : length (decimal quantity) ≤ 4 = decimal_four quantity small in
    simp length-append (omega arith)

end_short : (lines r : ℕ) → lines ≤ 3 → r < 10000 → length (end_text lines r) ≤ 20
unfolding end_text
end_short lines r few small =
    let four : length (decimal r) ≤ 4 = decimal_four r small in
    let more : length (decimal (5 + 2 * lines)) ≤ 4 = decimal_four (5 + 2 * lines) (omega arith) in
    simp length-append (omega arith)

lines_short : (i lines : ℕ) → i < 1000 → lines ≤ 3 → length (lines_text i lines) ≤ 90
lines_short i lines few three =
    let each : length (lines_text i lines) ≤ lines * 30 = range_length (λ j. line_text j (i + j)) 30 lines 1 (1 + lines) (omega arith) (λ j from below. line_short j (i + j) (omega arith) (omega arith)) in
    omega arith

message_short : (x i : ℕ) → i < 1000 → length (drill_message x i) ≤ 180
unfolding drill_message
message_short x i few =
    let three : line_count x i ≤ 3 = omega arith in
    let head : length (head_text (i + 1)) ≤ 70 = head_short (i + 1) (omega arith) in
    let lines : length (lines_text i (line_count x i)) ≤ 90 = lines_short i (line_count x i) few three in
    let ends : length (end_text (line_count x i) (i + 1)) ≤ 20 = end_short (line_count x i) (i + 1) three (omega arith) in
    simp length-append (omega arith)

-- a thousand messages have fewer than 200,000 octets
pub interchange_short : (n x : ℕ) → n ≤ 1000 → length (interchange_text n x) < 200000
unfolding interchange_text opening_text
interchange_short n x few =
    let messages : length (messages_text n x) ≤ n * 180 = range_length (drill_message x) 180 n 0 n (omega arith) (λ i from below. message_short x i (omega arith)) in
    let closing : length (closing_text n) ≤ 20 = closing_short n (omega arith) in
    simp length-append (omega arith)
