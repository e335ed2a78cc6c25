use Rattle.std.proofs.Common.{◌≡◌, ◌+◌, ◌-◌, ◌++◌, ℕ, drop, decimal, ap, ◌∙◌, arith}
use Rattle.edi_octets.proofs.NumeralLemmas.{put-digits}
use Rattle.edi_octets.proofs.numeral.Numeral.put_before.Goals as goal

pub returns-clause-written : goal.returns-clause-written
returns-clause-written c =
    let from : ℕ = c.args.end - 10 in
    let up_to : from + (c.args.end - from) ≡ c.args.end = omega arith in
    put-digits c.args.room.now c.copy_from_slice.new.self from (c.args.end - from) c.self.inside.spaces c.self.inside.number (omega arith) (c.copy_from_slice.ensures.after ∙ c.self.invariant.octets)
    ∙ ap (λ (k : ℕ). decimal c.self.inside.number ++ drop k c.args.room.now) up_to
    ∙ ap (λ (n : ℕ). decimal n ++ drop c.args.end c.args.room.now) c.self.view_is
