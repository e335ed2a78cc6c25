use Rattle.std.proofs.Common.{◌≡◌, ℕ, ◌+◌, Vec, Global, ap, ◌∙◌, arith}
use Rattle.std.specs.Prelude.{filter}
use Rattle.std.specs.List.{range_with_len}
use Rattle.edi_tables.specs.Collisions.{is_in_front, front_of}
use Rattle.collision_check.proofs.Pairs.{passing_place, failing_place}
use Rattle.collision_check.proofs.front.front.Goals as goal
use Rattle.collision_check.proofs.front.front.Goals.{then-is_in_front+in_ok-push, else-is_in_front}

pub loop-place-preserved : goal.loop-place-preserved
loop-place-preserved c = elim c.if-is_in_front.branch [
  | then-is_in_front+in_ok-push w ↦ passing_place (is_in_front c.args.table.now c.args.entry) c.loop-place.place c.is_in_front.result c.loop-place.front.items _ c.is_in_front.ensures w.if-is_in_front.true
      (ap (λ (v : Vec ℕ Global). v.items) w.front-is ∙ w.in_ok-push.ensures.items) c.loop-place.invariant
  | else-is_in_front w ↦ failing_place (is_in_front c.args.table.now c.args.entry) c.loop-place.place c.is_in_front.result c.loop-place.front.items _ c.is_in_front.ensures w.if-is_in_front.false
      (ap (λ (v : Vec ℕ Global). v.items) w.front-is) c.loop-place.invariant
]

pub returns : goal.returns
unfolding front_of
returns c =
    let all : c.loop-place.place ≡ c.args.entry + 1 = omega (arith, c.loop-place-test.false, c.loop-place.auto.place-end) in
    c.loop-place.invariant ∙ ap (λ (n : ℕ). filter (is_in_front c.args.table.now c.args.entry) (range_with_len 0 n)) all
