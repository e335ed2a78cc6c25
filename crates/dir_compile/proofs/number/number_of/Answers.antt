use Rattle.std.proofs.Common.{◌-◌, ◌<◌, arith, subst, sym}
use Rattle.dir_compile.proofs.NumberLemmas.{number-small}
use Rattle.dir_compile.proofs.number.number_of.Goals as goal

pub overflow_mul-number : goal.overflow_mul-number
overflow_mul-number c =
    let small : c.loop-place.number < 562949953421312 =
    number-small c.args.octets.now c.loop-place.place c.loop-place.number (λ i. (c.type_inv.octets i).fits) c.requires c.loop-place-test.true c.loop-place.invariant in
    omega (arith, small)

pub overflow_add-number : goal.overflow_add-number
overflow_add-number c =
    let small : c.loop-place.number < 562949953421312 =
    number-small c.args.octets.now c.loop-place.place c.loop-place.number (λ i. (c.type_inv.octets i).fits) c.requires c.loop-place-test.true c.loop-place.invariant in
    let octet : c.from.result < 256 = subst (λ octet. octet < 256) (sym c.from.ensures) (c.type_inv.octets (c.loop-place.place - 1)).fits in
    omega (arith, small, octet)
