use Rattle.std.proofs.Common.{length, ap, arith, length-append}
use Rattle.piece_text.proofs.Full.{count_le}
use Rattle.piece_text.proofs.pieces.join_three.Goals as goal

pub join-requires-2 : goal.join-requires-2
join-requires-2 c =
    let front = count_le c.args.front.now c.requires.full_front in
    let middle = count_le c.args.middle.now c.requires.full_middle in
    let back = count_le c.args.back.now c.requires.full_back in
    let both = simp length-append at (ap length c.in_ok-front.ensures) in
    record { fits = omega arith }
