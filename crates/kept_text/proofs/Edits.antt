-- How long an edited text is.
use Rattle.std.proofs.Common.{◌≡◌, ℕ, ◌+◌, ◌-◌, ◌≤◌, List, ◌++◌, length, take, drop, arith, length-append}
use Rattle.std.proofs.lemmas.List.{length-drop, length-take-le}
use Rattle.kept_text.specs.Edit.{text_with}

-- octets come in place of others
pub length_with : (text : List ℕ) (at cut : ℕ) (put : List ℕ) → at + cut ≤ length text
    → length (text_with text at cut put) ≡ length text - cut + length put
length_with text at cut put within =
    let front : length (take at text) ≡ at = length-take-le at text (omega arith) in
    let back : length (drop (at + cut) text) ≡ length text - (at + cut) = length-drop (at + cut) text in
    let rest : length (put ++ drop (at + cut) text) ≡ length put + length (drop (at + cut) text) =
    length-append put (drop (at + cut) text) in
    let all : length (text_with text at cut put) ≡ length (take at text) + length (put ++ drop (at + cut) text) =
    length-append (take at text) (put ++ drop (at + cut) text) in
    omega arith
