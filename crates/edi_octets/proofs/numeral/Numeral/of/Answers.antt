use Rattle.std.proofs.Common.{◌≡◌, ◌+◌, ap, ◌∙◌, arith, length, decimal, ◌++◌, drop, replicate, ℕ}
use Rattle.edi_octets.proofs.NumeralLemmas.{few_digits, written-anew}
use Rattle.edi_octets.proofs.numeral.Numeral.of.Goals as goal

pub write_digits-spaces-requires : goal.write_digits-spaces-requires
write_digits-spaces-requires c = (few_digits c.from.result (omega (arith, c.ranges.n.fits)), omega arith)

pub invariant_of-result : goal.invariant_of-result
invariant_of-result c =
    let put = c.write_digits-spaces in
    let same = c.from.ensures in
    let start : put.result + length (decimal c.args.n) ≡ 10 = omega (arith, put.ensures.start, ap (λ (n : ℕ). length (decimal n)) same) in
    record {
      small = c.ranges.n.fits;
      multiple = omega arith;
      room = start;
      octets = written-anew c.args.n put.result put.new.buf start put.ensures.before (put.ensures.written ∙ ap (λ (n : ℕ). decimal n ++ drop 10 (replicate 10 32)) same);
    }
