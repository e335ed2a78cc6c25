use Rattle.std.proofs.Common.{[], ◌∷◌}
use Rattle.std.proofs.lemmas.Result.{on_ok_weaker}
use Rattle.drill_printer.specs.Drill.{numbers_line, spaced}
use Rattle.edi_octets.proofs.PartLemmas.{five_parts}
use Rattle.drill_printer.proofs.drill.put_numbers.Goals as goal

pub returns : goal.returns
unfolding numbers_line
returns c =
    on_ok_weaker c.add-2.result
    (five_parts c.args.word.now (spaced c.args.a) (spaced c.args.b) (spaced c.args.c) (10 ∷ [])
    c.args.out.now c.add.new.self c.put_spaced.new.out c.put_spaced-2.new.out c.put_spaced-3.new.out c.add-2.new.self
    c.in_ok-add.ensures.ok c.in_ok-put_spaced.ensures c.in_ok-put_spaced-2.ensures c.in_ok-put_spaced-3.ensures)
    c.add-2.ensures.ok
