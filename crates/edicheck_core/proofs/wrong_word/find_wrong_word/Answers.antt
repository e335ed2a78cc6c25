use Rattle.std.proofs.Common.{◌≡◌, arith}
use Rattle.std.proofs.lemmas.Grind.{common_steps}
use Rattle.edicheck_core.specs.WrongWord.{wrong_word_of}
use Rattle.edicheck_core.proofs.WordLemmas.{none_where_form}
use Rattle.edicheck_core.proofs.wrong_word.find_wrong_word.Goals as goal

pub returns-in-Some-clause-none : goal.returns-in-Some-clause-none
returns-in-Some-clause-none c =
    let first : c.find_from.result ≡ wrong_word_of c.args.words.now = grind (arith, common_steps) in
    rw first (none_where_form c.args.words.now)
