use Rattle.std.proofs.Common.{◌≡◌, ◌+◌, ◌<◌, ◌≤◌, ◌++◌, length, sym, subst, arith}
use Rattle.std.specs.Result.{OnErr, OnOk}
use Rattle.edi_tables.specs.declared.segment.ItemDef.{ItemDef}
use Rattle.element_check.specs.Streams.{demanded, item_errors, values_left}
use Rattle.element_check.proofs.RulesLemmas.{parts_of-few}
use Rattle.element_check.proofs.element.check_item.Goals as goal

pub check_composite-requires-clause-short : goal.check_composite-requires-clause-short
check_composite-requires-clause-short g c =
    let few : length c.parts.result.now ≤ 99 = parts_of-few c.args.rules.now _ _ c.parts.ensures.lawful c.parts.ensures.parts in
    omega arith

-- a stand-alone item is given by its part, whatever its number of repetitions is
pub returns-in-Alone-clause-ok : goal.returns-in-Alone-clause-ok
returns-in-Alone-clause-ok g c =
    subst (λ (item : ItemDef). OnOk c.check_alone.result (c.check_alone.new.errors ≡ c.args.errors.now ++ item_errors c.args.rules.now c.args.element (demanded c.args.must item) (values_left c.args.element c.args.values.now)))
    (sym c.in-Alone.is) c.check_alone.ensures.ok

pub returns-in-Alone-clause-full : goal.returns-in-Alone-clause-full
returns-in-Alone-clause-full g c =
    subst (λ (item : ItemDef). OnErr c.check_alone.result (4 < length c.args.errors.now + length (item_errors c.args.rules.now c.args.element (demanded c.args.must item) (values_left c.args.element c.args.values.now))))
    (sym c.in-Alone.is) c.check_alone.ensures.full
