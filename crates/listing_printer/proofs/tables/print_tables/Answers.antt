use Rattle.std.proofs.Common.{◌≡◌, ◌∙◌, length, ap, arith, get_or, subst}
use Rattle.edi_tables.specs.declared.segment.MessageDef.{MessageDef}
use Rattle.std.specs.Prelude.{List}
use Rattle.listing_printer.specs.Tables.{labels_line}
use Rattle.listing_printer.proofs.TableLemmas.{tables_next, tables_all}
use Rattle.listing_printer.proofs.tables.print_tables.Goals as goal

pub loop-i-preserved : goal.loop-i-preserved
loop-i-preserved c =
    let items = c.items-message-items.ensures ∙ ap (λ p. p.messages) c.parts-parts.ensures.parts in
    let there = subst (λ (xs : List MessageDef). c.message-item.result ≡ get_or xs c.loop-i.i c.message-item.result) items c.message-item.is in
    tables_next c.args.directory.now c.loop-i.i c.message-item.result _ (labels_line c.args.directory.now) c.loop-i.out c.put_table.new.out (omega (arith, c.loop-i-test.true, ap length items)) there c.collisions.ensures c.loop-i.invariant c.in_ok-put_table.ensures

pub returns : goal.returns
returns c =
    let items = c.items-message-items.ensures ∙ ap (λ p. p.messages) c.parts-parts.ensures.parts in
    tables_all c.args.directory.now c.loop-i.i c.loop-i.out (omega (arith, ap length items)) c.loop-i.invariant
