use Rattle.std.proofs.Common.{◌≡◌, ◌*◌, ◌/◌, ◌∙◌, arith}
use Rattle.edi_octets.proofs.NumeralLemmas.{three-above, written-on}
use Rattle.edi_octets.proofs.numeral.Numeral.go_to.Goals as goal

pub invariant_of-self : goal.invariant_of-self
invariant_of-self c =
    let multiple = c.self.invariant.multiple in
    let same : c.self.inside.thousands ≡ c.args.n / 1000 * 1000 = omega arith in
    written-on c.self.inside.number c.args.n c.self.inside.thousands c.self.inside.spaces c.self.inside.digits c.copy_from_slice.new.self c.self.invariant
    c.if-self-gt0.true c.if-self-n.true c.if-n-self-lt1000.true c.ranges.n.fits (c.copy_from_slice.ensures.after ∙ three-above c.args.n c.self.inside.thousands same)
