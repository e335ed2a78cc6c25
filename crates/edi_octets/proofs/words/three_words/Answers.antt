use Rattle.std.proofs.Common.{◌∷◌, List, ℕ, sym, ap, ◌∙◌}
use Rattle.edi_octets.specs.Words.{three_of}
use Rattle.edi_octets.proofs.WordLemmas.{three-more}
use Rattle.edi_octets.proofs.words.three_words.Goals as goal

pub returns-in-Some : goal.returns-in-Some
returns-in-Some c =
    let first = rw c.in_ok-rest.was at c.cut_word.ensures in
    let second = rw c.in_ok-rest-2.was at c.cut_word-2.ensures in
    let third = rw c.in-Some.is at c.cut_word-3.ensures in
    let behind_second = second ∙ ap (λ (ws : List (List ℕ)). c.cut_word-2.result.0.now ∷ ws) third in
    sym (ap three_of (first ∙ ap (λ (ws : List (List ℕ)). c.cut_word.result.0.now ∷ ws) behind_second) ∙ three-more c.cut_word.result.0.now c.cut_word-2.result.0.now c.cut_word-3.result.0.now c.in-Some.field-0.now)
