use Rattle.std.proofs.Common.{◌≤◌, None, get_or, refl, ap, ◌∙◌, arith}
use Rattle.std.proofs.lemmas.List.{take_all}
use Rattle.std.proofs.lemmas.Option.{slice_get-get_or}
use Rattle.edi_tables.specs.Rows.{nodes_from}
use Rattle.edi_tables.proofs.Depths.{blank_row}
use Rattle.edi_tables.proofs.Faults.{few_rows, keeps_rules, small_depth}
use Rattle.edi_tables.proofs.Holding.{no_parents, more_parents, parent_read}
use Rattle.edi_tables.proofs.Made.{made_more}
use Rattle.edi_tables.proofs.build.nodes_of.Goals as goal

pub loop-i-init : goal.loop-i-init
loop-i-init c = record { made = c.in_ok-nodes.ensures.items; parents = no_parents c.args.rows.now }

pub bounds-parents-depth : goal.bounds-parents-depth
bounds-parents-depth c =
    let small : c.from-depth.result ≤ 16 = small_depth c.args.rows.now c.requires c.loop-i.i _ _ c.loop-i-test.true c.from-depth.ensures in
    omega arith

pub end_of-requires-clause-few : goal.end_of-requires-clause-few
end_of-requires-clause-few c = few_rows c.args.rows.now c.requires

pub overflow_cast-i : goal.overflow_cast-i
overflow_cast-i c = let few = few_rows c.args.rows.now c.requires in omega arith

pub hold_deeper-requires : goal.hold_deeper-requires
hold_deeper-requires c =
    let row = get_or c.args.rows.now c.loop-i.i blank_row in
    let small : row.depth ≤ 16 = small_depth c.args.rows.now c.requires c.loop-i.i _ blank_row c.loop-i-test.true refl in
    omega (arith, c.loop-i.invariant.parents.long)

pub loop-i-preserved : goal.loop-i-preserved
loop-i-preserved c =
    let rows = c.args.rows.now in
    let i = c.loop-i.i in
    let row = get_or rows i blank_row in
    let at = slice_get-get_or rows i blank_row c.loop-i-test.true in
    let small : row.depth ≤ 16 = small_depth rows c.requires i _ blank_row c.loop-i-test.true refl in
    let kept = (keeps_rules rows c.requires i row at).depth in
    let read = ap (λ depth. get_or c.loop-i.parents depth None) c.from-depth.ensures ∙ parent_read rows i row _ at small kept c.loop-i.invariant.parents in
    record {
      made = c.in_ok-push.ensures.items ∙ made_more rows i blank_row _ _ _ c.loop-i-test.true c.loop-i.invariant.made read c.end_of.ensures;
      parents = rw c.hold_deeper.ensures (more_parents rows i row _ at small kept c.loop-i.invariant.parents);
    }

pub returns : goal.returns
returns c = c.loop-i.invariant.made ∙ ap (nodes_from c.args.rows.now 0) (take_all _ _ c.loop-i-test.false)
