use Rattle.seg_lexer.specs.Left.{fields_left}
use Rattle.seg_lexer.proofs.PartsLemmas.{fields_left-first}
use Rattle.seg_lexer.proofs.components.Fields.take.Goals as goal

pub returns : goal.returns
unfolding fields_left
returns g c =
    fields_left-first c.args.self.now c.args.place c.cut-cut.result.stop c.cut-cut.result.next c.new.result
    c.requires c.cut-cut.ensures.stop c.cut-cut.ensures.rest c.new.ensures.octets c.new.ensures.span
