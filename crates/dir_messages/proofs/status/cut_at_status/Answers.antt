use Rattle.std.proofs.Common.{◌∷◌, length, sym, ap, ◌∙◌, arith, length-append}
use Rattle.std.proofs.lemmas.List.{take_rest}
use Rattle.dir_messages.proofs.StatusLemmas.{HasFront-whole, HasFront-before, length-HasFront, CutsAtStatus-found, none-HasFront}
use Rattle.dir_messages.proofs.status.cut_at_status.Goals as goal

pub loop-before-init : goal.loop-before-init
loop-before-init c = HasFront-whole c.args.text.now

pub slice_bounds-behind-count : goal.slice_bounds-behind-count
slice_bounds-behind-count c = length-HasFront c.args.text.now c.loop-before.front.now c.loop-before.invariant

pub slice_bounds-behind-start : goal.slice_bounds-behind-start
slice_bounds-behind-start c = length-HasFront c.args.text.now c.loop-before.front.now c.loop-before.invariant

pub returns-in-Some-read_status : goal.returns-in-Some-read_status
returns-in-Some-read_status c =
    rw (take_rest c.args.text.now (length c.loop-before.front.now)) (CutsAtStatus-found c.args.text.now c.loop-before.front.now c.in-Some.before.now c.in-Some.field.now c.in-Some-read_status.must c.loop-before.invariant c.in-Some.ensures (sym c.read_status.ensures ∙ c.in-Some-read_status.is))

pub loop-before-smaller : goal.loop-before-smaller
loop-before-smaller c = omega (arith, ap length c.in-Some.ensures.whole, length-append c.in-Some.before.now (32 ∷ c.in-Some.field.now))

pub loop-before-preserved : goal.loop-before-preserved
loop-before-preserved c =
    HasFront-before c.args.text.now c.loop-before.front.now c.in-Some.before.now c.in-Some.field.now c.loop-before.invariant c.in-Some.ensures (sym c.read_status.ensures ∙ c.in_default-read_status.is)

pub returns : goal.returns
returns c = none-HasFront c.args.text.now c.loop-before.front.now c.loop-before.invariant c.in_default.ensures c.requires
