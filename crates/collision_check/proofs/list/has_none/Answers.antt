use Rattle.std.proofs.Common.{length, arith}
use Rattle.edi_tables.specs.Collisions.{collisions_of}
use Rattle.collision_check.specs.Listed.{collisions_at}
use Rattle.collision_check.proofs.AllDiffer.{none_made}
use Rattle.collision_check.proofs.list.has_none.Goals as goal

pub returns : goal.returns
unfolding collisions_of
returns c = λ _. none_made (collisions_at c.args.table.now) (length c.args.table.now) 0 (λ k from below. c.loop-place.invariant.none k (omega (arith, c.loop-place-test.false, c.loop-place.auto.place-end, c.len-place-end.ensures.value)))
