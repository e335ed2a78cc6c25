use Rattle.std.proofs.Common.{◌+◌, arith}
use Rattle.std.proofs.lemmas.List.{take_rest}
use Rattle.dir_messages.proofs.PartLemmas.{CutsAtLastSpace-found, pieces_in-one}
use Rattle.dir_messages.proofs.status.cut_at_last_space.Goals as goal

pub returns-in_err-space : goal.returns-in_err-space
returns-in_err-space c = let one = pieces_in-one c.args.text.now (λ k lt. c.in_err-space.ensures k (omega arith) lt) in rw c.from_residual.ensures one

pub returns : goal.returns
returns c =
    rw (take_rest c.args.text.now (c.in_ok-space.space + 1)) (CutsAtLastSpace-found c.args.text.now c.in_ok-space.space c.in_ok-space.ensures)
