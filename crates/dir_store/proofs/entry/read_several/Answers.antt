use Rattle.std.proofs.Common.{◌≡◌, ◌∙◌, [], IfSome, Err, ap, sym, subst}
use Rattle.std.proofs.lemmas.Result.{err_from_is_err_and}
use Rattle.dir_store.specs.Lines.{last_of, several}
use Rattle.dir_store.specs.LineStop.{left_in}
use Rattle.dir_store.proofs.LoopLemmas.{goes-on, stops, is-done}
use Rattle.dir_store.proofs.entry.read_several.Goals as goal

pub returns-in_err-member : goal.returns-in_err-member
returns-in_err-member g c =
    let member = g.T.Entry.read_at c.args.known.now in
    let p = err_from_is_err_and c.from_residual-in_err-member.result c.from_residual-in_err-member.ensures.1 in
    let last = c.last.ensures.value ∙ ap last_of c.deref.ensures.value in
    let given = subst (λ before. IfSome (left_in c.in_err-member.field-0.0) (λ fault. member before c.loop.rest.now ≡ Err fault)) last c.in_err-member.ensures in
    rw (p.1, p.2) (stops member c.in_err-member.field-0.0 c.args.count c.loop.counter c.loop.members.items c.loop.rest.now (several c.args.count member [] c.args.octets.now) c.loop-test.true given c.loop.invariant)

pub loop-preserved : goal.loop-preserved
loop-preserved g c =
    let member = g.T.Entry.read_at c.args.known.now in
    let last = c.last.ensures.value ∙ ap last_of c.deref.ensures.value in
    let read = ap (λ before. member before c.loop.rest.now) (sym last) ∙ c.in_ok-member.ensures in
    rw c.in_ok-push.ensures.items (goes-on member c.args.count c.loop.counter c.loop.members.items c.loop.rest.now c.in_ok-member.member c.in_ok-member.after.now (several c.args.count member [] c.args.octets.now) c.loop-test.true read c.loop.invariant)

pub returns : goal.returns
returns g c =
    let member = g.T.Entry.read_at c.args.known.now in
    is-done member c.args.count c.loop.counter c.loop.members.items c.loop.rest.now (several c.args.count member [] c.args.octets.now) c.loop-test.false c.loop.invariant
