use Rattle.std.proofs.Common.{ℕ, List, sym, ◌∙◌, arith}
use Rattle.std.proofs.lemmas.List.{map-id}
use Rattle.dir_compile.proofs.Twice.{twice_in-map}
use Rattle.dir_compile.proofs.NameSets.{seen-item, placed-apart, names-taken}
use Rattle.dir_compile.proofs.names.index.Goals as goal

abbrev itself : List ℕ → List ℕ
itself name = name

pub loop-item-preserved : goal.loop-item-preserved
loop-item-preserved g c =
    let seen = seen-item g.T.Named.name_of itself c.args.items.now c.loop-item.item-index c.loop-item.set.keys c.octets_of.result c.item-item.result
    (omega arith) c.item-item.is (c.octets_of.ensures ∙ c.name.ensures) (map-id _ ∙ c.loop-item.invariant) in
    sym (map-id _) ∙ placed-apart itself _ _ _ _ seen _ (twice_in-map g.T.Named.name_of c.args.items.now ∙ c.requires.apart) c.in_ok-insert.ensures.keys

pub returns : goal.returns
returns g c = c.loop-item.invariant ∙ names-taken g.T.Named.name_of c.args.items.now c.loop-item.item-index c.loop-item-test.false
