use Rattle.std.proofs.Common.{◌<◌, List, ℕ, length, subst, sym}
use Rattle.drill_maker.specs.Interchange.{closing_text, interchange_text, messages_text, opening_text}
use Rattle.drill_maker.proofs.LengthLemmas.{interchange_short}
use Rattle.drill_maker.proofs.RangeLemmas.{three_parts}
use Rattle.drill_maker.proofs.interchange.make_interchange.Goals as goal

pub returns-clause-text : goal.returns-clause-text
unfolding interchange_text
returns-clause-text c =
    three_parts opening_text (messages_text c.args.n c.args.x) (closing_text c.args.n) c.empty-out.result c.put_opening.new.out c.put_messages.new.out c.put_closing.new.out
    c.empty-out.ensures c.in_ok-put_opening.ensures
    (rw c.from-count.ensures at c.in_ok-put_messages.ensures) (rw c.from-count.ensures at c.in_ok-put_closing.ensures)

pub returns-clause-short : goal.returns-clause-short
returns-clause-short c =
    let IsShort : List ℕ → Type 0 = λ text. length text < 200000 in
    subst IsShort (sym (returns-clause-text c)) (interchange_short c.args.n c.args.x c.requires.few)
