use Rattle.std.proofs.Common.{◌+◌, ◌-◌, ◌≤◌, length, take, drop, length-take, ap, ◌∙◌, arith}
use Rattle.seq_tree.proofs.Ranges.{range_front, range_back}
use Rattle.seq_tree.proofs.run.Run.cut.Goals as goal

pub returns : goal.returns
returns g c =
    let run = c.self.inside in
    let xs = run.list.value in
    let within : run.from + c.args.i ≤ run.to = omega (arith, c.requires.within, ap length c.self.view_is, length-take (run.to - run.from) (drop run.from xs)) in (
      c.in_ok-front.ensures ∙ range_front xs run.from run.to c.args.i within ∙ ap (take c.args.i) c.self.view_is,
      c.in_ok-back.ensures ∙ range_back xs run.from run.to c.args.i within ∙ ap (drop c.args.i) c.self.view_is,
    )
