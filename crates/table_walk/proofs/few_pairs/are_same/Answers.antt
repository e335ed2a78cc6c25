use Rattle.std.specs.Prelude.{◌&&◌}
use Rattle.std.proofs.lemmas.Bool.{and_parts}
use Rattle.table_walk.proofs.FivePairs.{same_five}
use Rattle.table_walk.proofs.few_pairs.are_same.Goals as goal

pub returns : goal.returns
returns c = λ all.
    let first = c.is_same.result in
    let second = c.is_same-2.result in
    let third = c.is_same-3.result in
    let fourth = c.is_same-4.result in
    let four = and_parts (first && second && third && fourth) c.is_same-5.result all in
    let three = and_parts (first && second && third) fourth four.0 in
    let two = and_parts (first && second) third three.0 in
    let one = and_parts first second two.0 in
    same_five c.args.one.now c.args.other.now c.told-one c.told-other (c.is_same.ensures one.0) (c.is_same-2.ensures one.1)
    (c.is_same-3.ensures two.1) (c.is_same-4.ensures three.1) (c.is_same-5.ensures four.1)
