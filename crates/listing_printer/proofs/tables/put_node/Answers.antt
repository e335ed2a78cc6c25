use Rattle.std.proofs.Common.{[], ◌∷◌}
use Rattle.std.specs.Prelude.{codes, decimal}
use Rattle.std.proofs.lemmas.Result.{on_ok_weaker}
use Rattle.edi_octets.specs.Profile.{status_text}
use Rattle.listing_printer.specs.Tables.{node_line, node_shown}
use Rattle.listing_printer.proofs.TableLemmas.{node_put}
use Rattle.listing_printer.proofs.tables.put_node.Goals as goal

pub returns : goal.returns
unfolding node_line
returns c =
    let row = c.args.row.now in
    on_ok_weaker c.add-5.result
    (node_put (decimal c.args.number) (decimal row.depth) (node_shown row.tag) (status_text row.must) (decimal row.max) (codes " ") (10 ∷ []) c.args.out.now
    c.put_decimal.new.out c.add.new.self c.put_decimal-2.new.out c.add-2.new.self c.put_node_name.new.out c.add-3.new.self c.put_status.new.out c.add-4.new.self c.put_decimal-3.new.out c.add-5.new.self
    c.in_ok-put_decimal.ensures.ok c.in_ok-add.ensures.ok (rw c.from.ensures at c.in_ok-put_decimal-2.ensures.ok) c.in_ok-add-2.ensures.ok c.in_ok-put_node_name.ensures c.in_ok-add-3.ensures.ok c.in_ok-put_status.ensures.ok c.in_ok-add-4.ensures.ok (rw c.from-2.ensures at c.in_ok-put_decimal-3.ensures.ok))
    c.add-5.ensures.ok
