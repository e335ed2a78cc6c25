use Rattle.std.proofs.Common.{◌≡◌, true, sym, ◌∙◌, arith}
use Rattle.edi_tables.specs.Walk.{is_group_at}
use Rattle.edi_tables.proofs.PlaceLaws.{place_small}
use Rattle.edi_tables.proofs.TableLaws.{table_laws}
use Rattle.collision_check.proofs.suspect.tag_of_entry.Goals as goal

pub overflow_add-i : goal.overflow_add-i
overflow_add-i c = let small = place_small c.args.table.now c.args.i c.requires in omega arith

pub node-requires : goal.node-requires
node-requires c =
    let group : is_group_at c.args.table.now c.args.i ≡ true = sym c.is_group.ensures ∙ c.if-is_group.true in
    (table_laws c.args.table.now c.requires.table).trigger_within c.args.i group
