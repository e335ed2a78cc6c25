use Rattle.std.proofs.Common.{◌≡◌, ℕ, map, length, refl, ap, ◌∙◌, arith}
use Rattle.std.specs.List.{range_with_len}
use Rattle.collision_check.specs.Marks.{number_at, numbers_of}
use Rattle.std.specs.Str.{bytes_eq}
use Rattle.std.specs.HashMap.{get}
use Rattle.collision_check.proofs.Marking.{first_next, number_is, numbers_step, tag_read}
use Rattle.collision_check.proofs.numbers.numbers.Goals as goal

pub loop-i-preserved : goal.loop-i-preserved
loop-i-preserved c =
    let nodes = c.args.nodes.now in
    let place = c.loop-i.i in
    let is = tag_read nodes nodes place _ refl c.loop-i-test.true in
    record {
      made = numbers_step nodes place c.loop-i.numbers.items c.push.new.self.items c.in_ok-number.field-0
          (number_is nodes place _ (get bytes_eq c.loop-i.first) (get bytes_eq c.number.new.first) c.in_ok-number.field-0 c.loop-i-test.true is c.loop-i.invariant.known c.in_ok-number.ensures)
          c.in_ok-push.ensures.items c.loop-i.invariant.made;
      known = first_next nodes place _ (get bytes_eq c.loop-i.first) (get bytes_eq c.number.new.first) c.in_ok-number.field-0 is c.loop-i.invariant.known c.in_ok-number.ensures;
    }

pub returns : goal.returns
unfolding numbers_of
returns c =
    let all : c.loop-i.i ≡ length c.args.nodes.now = omega (arith, c.loop-i-test.false, c.loop-i.auto.i-end) in
    c.loop-i.invariant.made ∙ ap (λ (n : ℕ). map (number_at c.args.nodes.now) (range_with_len 0 n)) all
