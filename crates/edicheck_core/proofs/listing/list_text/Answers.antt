use Rattle.edicheck_core.proofs.AnswerLemmas.{listed_long}
use Rattle.edicheck_core.proofs.listing.list_text.Goals as goal

pub returns-in-Err-TooLong-clause-due : goal.returns-in-Err-TooLong-clause-due
returns-in-Err-TooLong-clause-due g c =
    listed_long c.args.detail (g.I.Source.rest c.args.input.now) (g.I.Source.rest c.read_all.new.input) _ _ c.fixed.result c.fixed.ensures (rw c.in-Err-TooLong.field-0-is at c.in-Err-TooLong.ensures.reads)
