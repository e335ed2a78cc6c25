use Rattle.text_reading.proofs.PlacedLaws.{are_placed}
use Rattle.edi_engine.proofs.checked.check_text.Goals as goal

pub returns-in_err-segments-clause-placed : goal.returns-in_err-segments-clause-placed
returns-in_err-segments-clause-placed c = are_placed c.args.directory.now c.parts-parts.ensures.directory c.args.octets.now

pub returns-clause-placed : goal.returns-clause-placed
returns-clause-placed c = are_placed c.args.directory.now c.parts-parts.ensures.directory c.args.octets.now
