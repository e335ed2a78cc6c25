use Rattle.std.specs.Prelude.{codes, decimal}
use Rattle.std.proofs.lemmas.Result.{on_ok_weaker}
use Rattle.drill_maker.specs.Interchange.{head_text}
use Rattle.edi_octets.proofs.PartLemmas.{five_parts}
use Rattle.drill_maker.proofs.interchange.put_head.Goals as goal

pub returns : goal.returns
unfolding head_text
returns c =
    on_ok_weaker c.add-3.result
    (five_parts (codes "UNH+") (decimal c.args.reference) (codes "+TSTORD:D:96A:UN'BGM+220+PO") (decimal c.args.reference) (codes "+9'DTM+137:19960105:102'")
    c.args.out.now c.add.new.self c.put_decimal.new.out c.add-2.new.self c.put_decimal-2.new.out c.add-3.new.self
    c.in_ok-add.ensures.ok c.in_ok-put_decimal.ensures.ok c.in_ok-add-2.ensures.ok c.in_ok-put_decimal-2.ensures.ok)
    c.add-3.ensures.ok
