use Rattle.std.proofs.Common.{ℕ, List, sym, ◌∙◌, arith}
use Rattle.std.proofs.lemmas.List.{map-id}
use Rattle.dir_compile.proofs.NameSets.{seen-item, first-seen, placed-seen, apart-seen, first-item, apart-items}
use Rattle.dir_compile.proofs.names.judge_names.Goals as goal

abbrev itself : List ℕ → List ℕ
itself name = name

pub returns-then-not-added : goal.returns-then-not-added
returns-then-not-added g c =
    let seen = seen-item g.T.Named.name_of itself c.args.items.now c.loop-item.item-index c.loop-item.seen c.name-name.result.now c.item-item.result
    (omega arith) c.item-item.is c.name-name.ensures (map-id _ ∙ c.loop-item.invariant.placed) in
    first-item g.T.Named.name_of c.args.items.now c.fault.result
    (first-seen itself _ _ _ _ seen _ _ c.loop-item.invariant.apart c.in_ok-added.ensures.new c.if-not-added.true c.fault.ensures)

pub loop-item-preserved : goal.loop-item-preserved
loop-item-preserved g c =
    let seen = seen-item g.T.Named.name_of itself c.args.items.now c.loop-item.item-index c.loop-item.seen c.name-name.result.now c.item-item.result
    (omega arith) c.item-item.is c.name-name.ensures (map-id _ ∙ c.loop-item.invariant.placed) in
    record {
      placed = sym (map-id _) ∙ placed-seen itself _ _ _ _ seen _ _ c.if-not-added.false c.in_ok-added.ensures.words;
      apart = apart-seen itself _ _ _ _ seen _ c.loop-item.invariant.apart c.in_ok-added.ensures.new c.if-not-added.false;
    }

pub returns : goal.returns
returns g c = apart-items g.T.Named.name_of c.args.items.now c.loop-item.item-index c.loop-item-test.false c.loop-item.invariant.apart
