use Rattle.std.proofs.Common.{◌∙◌, ℕ, ◌-◌, length, get_or, sym, ap, arith}
use Rattle.table_walk.proofs.PairReads.{count_up_to}
use Rattle.edi_tables.specs.Walk.{is_trigger_at}
use Rattle.segment_records.proofs.Nodes.{length_numbers, opens_is}
use Rattle.edi_engine.proofs.places.opened_at.Goals as goal

pub bounds-numbers-from : goal.bounds-numbers-from
bounds-numbers-from c =
    let count = ap length c.requires.numbers in
    omega (arith, length_numbers c.args.table.now, c.from-2.ensures, c.requires.within)

pub overflow_add-result : goal.overflow_add-result
overflow_add-result c = omega (arith, c.count_of.ensures, count_up_to 4194303 c.args.state.now (c.args.entry - 1) c.requires.few)

pub returns : goal.returns
returns c =
    let nodes = c.args.table.now in
    let trigger = ap (is_trigger_at nodes) (sym c.from.ensures) ∙ sym c.is_trigger.ensures ∙ c.if-not-is_trigger.false in
    opens_is nodes c.args.numbers.now c.args.state.now c.args.entry _ c.count_of.result trigger c.requires.within c.requires.numbers
    (ap (λ (i : ℕ). get_or c.args.numbers.now i 0) c.from-2.ensures) c.count_of.ensures
