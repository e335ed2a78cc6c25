use Rattle.std.proofs.Common.{[], ◌∷◌}
use Rattle.std.specs.Prelude.{codes, decimal}
use Rattle.std.specs.List.{flat_map}
use Rattle.std.proofs.lemmas.Result.{on_ok_weaker}
use Rattle.seg_lexer.specs.Value.{octets_of}
use Rattle.edi_octets.specs.Shown.{octet_shown}
use Rattle.listing_printer.specs.Printing.{repetition_shown, value_line}
use Rattle.listing_printer.proofs.ValuesLemmas.{value_put}
use Rattle.listing_printer.proofs.value_lines.put_value.Goals as goal

pub returns : goal.returns
unfolding value_line
returns g c =
    let component = c.args.component.now in
    on_ok_weaker c.add.result
    (value_put (codes "  ") (decimal component.element) (repetition_shown component.repetition) (codes " ") (decimal component.component) (flat_map octet_shown (octets_of component.value)) (10 ∷ []) c.args.lines.now
    c.put_numbers.new.lines c.put_octets.new.lines c.add.new.self
    c.in_ok-put_numbers.ensures c.in_ok-put_octets.ensures)
    c.add.ensures.ok
