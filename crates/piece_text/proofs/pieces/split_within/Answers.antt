use Rattle.std.proofs.Common.{length, ap, arith, length-take, length-drop}
use Rattle.piece_text.proofs.Full.{count_le}
use Rattle.piece_text.proofs.Concats.{split_made}
use Rattle.piece_text.proofs.pieces.split_within.Goals as goal

pub join-requires : goal.join-requires
join-requires c =
    let few = count_le c.args.pieces.now c.requires.full in
    let front = simp length-take at (ap length c.in_ok-front.ensures.0) in
    let head = ap length c.in_ok-head.ensures in
    record { fits = omega arith }

pub join-requires-2 : goal.join-requires-2
join-requires-2 c =
    let few = count_le c.args.pieces.now c.requires.full in
    let back = simp length-drop at (ap length c.in_ok-back.ensures.1) in
    let tail = ap length c.in_ok-tail.ensures in
    record { fits = omega arith }

pub returns : goal.returns
returns c =
    split_made c.args.pieces.now _ _ _ _ _ _ c.args.piece.now c.octets.result.now _ _ c.args.place c.args.offset c.in_ok-front.ensures.0 c.in_ok-back.ensures.1 c.in_ok-part.ensures c.octets.ensures c.in_ok-part-2.ensures c.in_ok-head.ensures c.in_ok-tail.ensures c.in_ok-front-2.ensures c.in_ok-back-2.ensures c.requires.is c.requires.some c.requires.within c.requires.full
