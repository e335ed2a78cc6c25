use Rattle.std.proofs.Common.{◌∷◌, List, ℕ, sym, ap, ◌∙◌}
use Rattle.edi_octets.specs.Words.{four_of}
use Rattle.edi_octets.proofs.WordLemmas.{four-more}
use Rattle.edi_octets.proofs.words.four_words.Goals as goal

pub returns-in-Some : goal.returns-in-Some
returns-in-Some c =
    let first = rw c.in_ok-rest.was at c.cut_word.ensures in
    let second = rw c.in_ok-rest-2.was at c.cut_word-2.ensures in
    let third = rw c.in_ok-rest-3.was at c.cut_word-3.ensures in
    let fourth = rw c.in-Some.is at c.cut_word-4.ensures in
    let behind_third = third ∙ ap (λ (ws : List (List ℕ)). c.cut_word-3.result.0.now ∷ ws) fourth in
    let behind_second = second ∙ ap (λ (ws : List (List ℕ)). c.cut_word-2.result.0.now ∷ ws) behind_third in
    sym (ap four_of (first ∙ ap (λ (ws : List (List ℕ)). c.cut_word.result.0.now ∷ ws) behind_second) ∙ four-more c.cut_word.result.0.now c.cut_word-2.result.0.now c.cut_word-3.result.0.now c.cut_word-4.result.0.now c.in-Some.field-0.now)
