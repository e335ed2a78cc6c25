use Rattle.std.proofs.Common.{◌≡◌, ◌-◌, length, ap, sym, ◌∙◌, arith}
use Rattle.piece_text.proofs.Ranges.{range_len, part_of_rest}
use Rattle.piece_text.proofs.view.ViewOctets.slice_at.Goals as goal

pub returns-clause-part : goal.returns-clause-part
returns-clause-part c =
    let count : length c.args.self.now ≡ c.self.inside.to - c.self.inside.from = sym (ap length c.self.view_is) ∙ range_len _ _ _ c.self.invariant.1 in
    rw (← c.self.view_is) (part_of_rest _ _ _ _ c.args.i _ c.slice_from-rest.ensures.part (omega arith) (omega arith) (omega arith))
