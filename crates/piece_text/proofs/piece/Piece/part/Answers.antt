use Rattle.std.proofs.Common.{arith}
use Rattle.piece_text.proofs.Ranges.{part_end}
use Rattle.piece_text.proofs.piece.Piece.part.Goals as goal

pub overflow_cast-result : goal.overflow_cast-result
overflow_cast-result c =
    let low = part_end _ _ _ _ c.args.from c.self.view_is c.self.invariant.1 (omega arith) (omega arith) in
    omega arith

pub overflow_add-result : goal.overflow_add-result
overflow_add-result c =
    let low = part_end _ _ _ _ c.args.from c.self.view_is c.self.invariant.1 (omega arith) (omega arith) in
    omega arith

pub overflow_cast-result-2 : goal.overflow_cast-result-2
overflow_cast-result-2 c =
    let high = part_end _ _ _ _ c.args.to c.self.view_is c.self.invariant.1 (omega arith) c.requires.within in
    omega arith

pub overflow_add-result-2 : goal.overflow_add-result-2
overflow_add-result-2 c =
    let high = part_end _ _ _ _ c.args.to c.self.view_is c.self.invariant.1 (omega arith) c.requires.within in
    omega arith
