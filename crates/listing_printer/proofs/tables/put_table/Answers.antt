use Rattle.std.proofs.Common.{◌++◌, List, ℕ, length, map, ap, sym, ◌∙◌}
use Rattle.std.specs.Prelude.{codes}
use Rattle.std.specs.List.{flat_map}
use Rattle.std.proofs.lemmas.List.{length-map}
use Rattle.std.proofs.lemmas.Result.{on_ok_weaker}
use Rattle.edi_tables.specs.declared.segment.TableRow.{TableRow}
use Rattle.collision_check.specs.Listed.{collision_seen}
use Rattle.listing_printer.specs.Tables.{table_text, node_lines_from, collision_line}
use Rattle.edi_octets.specs.Decimal.{count_line}
use Rattle.edi_octets.proofs.PartLemmas.{five_parts}
use Rattle.listing_printer.proofs.tables.put_table.Goals as goal

pub returns : goal.returns
unfolding table_text
returns c =
    let seen = map collision_seen c.args.collisions.now in
    on_ok_weaker c.put_collisions.result
    (five_parts (codes "table ") (count_line c.args.message.now.name (length c.args.message.now.rows)) (node_lines_from 0 c.args.message.now.rows) (count_line (codes "collisions") (length seen)) (flat_map collision_line seen)
    c.args.out.now c.add.new.self c.put_count.new.out c.put_nodes.new.out c.put_count-2.new.out c.put_collisions.new.out
    c.in_ok-add.ensures.ok
    (c.in_ok-put_count.ensures.ok ∙ ap (λ (name : List ℕ). c.add.new.self ++ count_line name (length c.items-rows.result.now)) c.octets.ensures ∙ ap (λ (rows : List TableRow). c.add.new.self ++ count_line c.args.message.now.name (length rows)) c.items-rows.ensures)
    (c.in_ok-put_nodes.ensures ∙ ap (λ (rows : List TableRow). c.put_count.new.out ++ node_lines_from 0 rows) c.items-rows.ensures)
    (c.in_ok-put_count-2.ensures.ok ∙ ap (λ (n : ℕ). c.put_nodes.new.out ++ count_line (codes "collisions") n) (sym (length-map c.args.collisions.now collision_seen))))
    c.put_collisions.ensures
