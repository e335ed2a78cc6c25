use Rattle.std.proofs.Common.{◌≡◌, ◌<◌, ◌+◌, ◌++◌, ℕ, List, true, false, length, refl, sym, ap, ◌∙◌, subst, arith, length-append}
use Rattle.seg_lexer.specs.Fields.{Component}
use Rattle.element_check.specs.Streams.{AreOrdered, after_left, after_run, components_ahead, demanded, is_next, item_errors, values_left}
use Rattle.element_check.specs.declared.error.LocalError.{LocalError}
use Rattle.element_check.proofs.ErrorsLemmas.{on_err, on_err_then, on_ok_then}
use Rattle.element_check.proofs.RepeatedLemmas.{begun, begun-after, begun-done, begun-few, begun-full, begun-gathered, end-after, end-errors, front-of, later-of, more-ascending, more-few, more-full, more-so_far}
use Rattle.element_check.proofs.RunLemmas.{next-shorter, ordered-run}
use Rattle.element_check.proofs.repeated.check_element.Goals as goal

pub is_missing-missing-requires-clause-ordered : goal.is_missing-missing-requires-clause-ordered
is_missing-missing-requires-clause-ordered g c =
    subst (AreOrdered c.args.element 1) (sym c.begin.ensures.ahead) (ordered-run c.args.element 0 (components_ahead c.args.rest.now) c.requires.ordered)

pub check_item-requires : goal.check_item-requires
unfolding values_left after_left
check_item-requires g c =
    let b = begun c.args.item.now c.args.element (components_ahead c.args.rest.now) (components_ahead c.begin.new.self) c.begin.new.self.repetition c.is_missing-missing.new.rest.repetition c.is_missing-missing.result c.is_excess-first_excess.result
    (values_left c.args.element c.is_missing-missing.new.rest) (values_left c.args.element c.is_excess-first_excess.new.rest) (after_left c.args.element c.is_excess-first_excess.new.rest)
    c.requires.ordered c.begin.ensures.ahead c.begin.ensures.first c.is_missing-missing.ensures.missing c.is_missing-missing.ensures.same c.is_missing-missing.ensures.values
    c.is_excess-first_excess.ensures.excess c.is_excess-first_excess.ensures.values (c.is_excess-first_excess.ensures.after ∙ c.is_missing-missing.ensures.after) in
    record { few = begun-few c.args.rules.now c.args.item.now c.args.element (components_ahead c.args.rest.now) c.requires.ordered c.is_missing-missing.result c.is_excess-first_excess.result _ _ b _ c.requires.few }

pub returns-in_err-check_item-clause-full : goal.returns-in_err-check_item-clause-full
unfolding values_left after_left
returns-in_err-check_item-clause-full g c =
    let b = begun c.args.item.now c.args.element (components_ahead c.args.rest.now) (components_ahead c.begin.new.self) c.begin.new.self.repetition c.is_missing-missing.new.rest.repetition c.is_missing-missing.result c.is_excess-first_excess.result
    (values_left c.args.element c.is_missing-missing.new.rest) (values_left c.args.element c.is_excess-first_excess.new.rest) (after_left c.args.element c.is_excess-first_excess.new.rest)
    c.requires.ordered c.begin.ensures.ahead c.begin.ensures.first c.is_missing-missing.ensures.missing c.is_missing-missing.ensures.same c.is_missing-missing.ensures.values
    c.is_excess-first_excess.ensures.excess c.is_excess-first_excess.ensures.values (c.is_excess-first_excess.ensures.after ∙ c.is_missing-missing.ensures.after) in
    on_err c.from_residual.result (begun-full c.args.rules.now c.args.item.now c.args.element (components_ahead c.args.rest.now) c.requires.ordered c.is_missing-missing.result c.is_excess-first_excess.result _ _ b c.args.errors.now c.in_err-check_item.ensures.full)

pub returns-then-not-first_excess-clause-ok : goal.returns-then-not-first_excess-clause-ok
unfolding values_left after_left
returns-then-not-first_excess-clause-ok g c =
    let b = begun c.args.item.now c.args.element (components_ahead c.args.rest.now) (components_ahead c.begin.new.self) c.begin.new.self.repetition c.is_missing-missing.new.rest.repetition c.is_missing-missing.result c.is_excess-first_excess.result
    (values_left c.args.element c.is_missing-missing.new.rest) (values_left c.args.element c.is_excess-first_excess.new.rest) (after_left c.args.element c.is_excess-first_excess.new.rest)
    c.requires.ordered c.begin.ensures.ahead c.begin.ensures.first c.is_missing-missing.ensures.missing c.is_missing-missing.ensures.same c.is_missing-missing.ensures.values
    c.is_excess-first_excess.ensures.excess c.is_excess-first_excess.ensures.values (c.is_excess-first_excess.ensures.after ∙ c.is_missing-missing.ensures.after) in
    begun-done c.args.rules.now c.args.item.now c.args.element (components_ahead c.args.rest.now) c.requires.ordered c.is_missing-missing.result c.is_excess-first_excess.result _ _ b c.args.errors.now c.check_item.new.errors (components_ahead c.next_repetition-repeated.new.self) c.in_ok-check_item.ensures.ok c.if-not-first_excess.true
    (c.next_repetition-repeated.ensures.ahead ∙ c.pass.ensures ∙ c.in_ok-check_item.ensures.after) (sym c.next_repetition-repeated.ensures.next ∙ c.if-not-repeated.true)

pub returns-then-not-first_excess-clause-after : goal.returns-then-not-first_excess-clause-after
unfolding values_left after_left
returns-then-not-first_excess-clause-after g c =
    let b = begun c.args.item.now c.args.element (components_ahead c.args.rest.now) (components_ahead c.begin.new.self) c.begin.new.self.repetition c.is_missing-missing.new.rest.repetition c.is_missing-missing.result c.is_excess-first_excess.result
    (values_left c.args.element c.is_missing-missing.new.rest) (values_left c.args.element c.is_excess-first_excess.new.rest) (after_left c.args.element c.is_excess-first_excess.new.rest)
    c.requires.ordered c.begin.ensures.ahead c.begin.ensures.first c.is_missing-missing.ensures.missing c.is_missing-missing.ensures.same c.is_missing-missing.ensures.values
    c.is_excess-first_excess.ensures.excess c.is_excess-first_excess.ensures.values (c.is_excess-first_excess.ensures.after ∙ c.is_missing-missing.ensures.after) in
    begun-after c.args.rules.now c.args.item.now c.args.element (components_ahead c.args.rest.now) c.requires.ordered c.is_missing-missing.result c.is_excess-first_excess.result _ _ b (components_ahead c.next_repetition-repeated.new.self)
    (c.next_repetition-repeated.ensures.ahead ∙ c.pass.ensures ∙ c.in_ok-check_item.ensures.after) (sym c.next_repetition-repeated.ensures.next ∙ c.if-not-repeated.true)

pub returns-in_err-all-clause-full : goal.returns-in_err-all-clause-full
unfolding values_left after_left
returns-in_err-all-clause-full g c =
    let b = begun c.args.item.now c.args.element (components_ahead c.args.rest.now) (components_ahead c.begin.new.self) c.begin.new.self.repetition c.is_missing-missing.new.rest.repetition c.is_missing-missing.result c.is_excess-first_excess.result
    (values_left c.args.element c.is_missing-missing.new.rest) (values_left c.args.element c.is_excess-first_excess.new.rest) (after_left c.args.element c.is_excess-first_excess.new.rest)
    c.requires.ordered c.begin.ensures.ahead c.begin.ensures.first c.is_missing-missing.ensures.missing c.is_missing-missing.ensures.same c.is_missing-missing.ensures.values
    c.is_excess-first_excess.ensures.excess c.is_excess-first_excess.ensures.values (c.is_excess-first_excess.ensures.after ∙ c.is_missing-missing.ensures.after) in
    let first : List LocalError = item_errors c.args.rules.now c.args.element (demanded c.is_missing-missing.result c.args.item.now) (values_left c.args.element c.is_excess-first_excess.new.rest) in
    let lengths : length c.check_item.new.errors ≡ length c.args.errors.now + length first = ap length c.in_ok-check_item.ensures.ok ∙ length-append c.args.errors.now first in
    let full : 4 < length c.check_item.new.errors = c.in_err-all.ensures.full in
    let most : 4 < length c.args.errors.now + length first = omega arith in
    on_err c.from_residual-in_err-all.result (begun-full c.args.rules.now c.args.item.now c.args.element (components_ahead c.args.rest.now) c.requires.ordered c.is_missing-missing.result c.is_excess-first_excess.result _ _ b c.args.errors.now most)

pub loop-rest-init : goal.loop-rest-init
unfolding values_left after_left
loop-rest-init g c =
    let b = begun c.args.item.now c.args.element (components_ahead c.args.rest.now) (components_ahead c.begin.new.self) c.begin.new.self.repetition c.is_missing-missing.new.rest.repetition c.is_missing-missing.result c.is_excess-first_excess.result
    (values_left c.args.element c.is_missing-missing.new.rest) (values_left c.args.element c.is_excess-first_excess.new.rest) (after_left c.args.element c.is_excess-first_excess.new.rest)
    c.requires.ordered c.begin.ensures.ahead c.begin.ensures.first c.is_missing-missing.ensures.missing c.is_missing-missing.ensures.same c.is_missing-missing.ensures.values
    c.is_excess-first_excess.ensures.excess c.is_excess-first_excess.ensures.values (c.is_excess-first_excess.ensures.after ∙ c.is_missing-missing.ensures.after) in
    begun-gathered c.args.rules.now c.args.item.now c.args.element (components_ahead c.args.rest.now) c.requires.ordered c.is_missing-missing.result c.is_excess-first_excess.result _ _ b c.in_ok-all.all (components_ahead c.next_repetition-repeated.new.self)
    (c.in_ok-all.ensures.later ∙ later-of c.args.errors.now c.check_item.new.errors _ c.len-known.result c.in_ok-check_item.ensures.ok c.len-known.ensures)
    (c.next_repetition-repeated.ensures.ahead ∙ c.pass.ensures ∙ c.in_ok-check_item.ensures.after)

pub loop-rest-smaller : goal.loop-rest-smaller
unfolding after_left
loop-rest-smaller g c =
    let element = c.args.element in
    let r : ℕ = c.next_repetition.new.self.repetition in
    let xs : List Component = components_ahead c.next_repetition.new.self in
    let next : is_next element xs ≡ true = sym c.next_repetition.ensures.next ∙ c.loop-rest-test.true in
    let passed : components_ahead c.check_repetition.new.rest ≡ after_run element r xs = c.in_ok-check_repetition.ensures.after ∙ c.is_excess-over.ensures.after in
    let fewer : length (after_run element r xs) < length xs = next-shorter element r xs next (c.next_repetition.ensures.here c.loop-rest-test.true) in
    subst (λ (cs : List Component). length cs < length (components_ahead c.loop-rest.rest)) (sym passed)
    (subst (λ (cs : List Component). length (after_run element r xs) < length cs) c.next_repetition.ensures.ahead fewer)

pub loop-rest-preserved : goal.loop-rest-preserved
unfolding values_left after_left
loop-rest-preserved g c =
    let b = begun c.args.item.now c.args.element (components_ahead c.args.rest.now) (components_ahead c.begin.new.self) c.begin.new.self.repetition c.is_missing-missing.new.rest.repetition c.is_missing-missing.result c.is_excess-first_excess.result
    (values_left c.args.element c.is_missing-missing.new.rest) (values_left c.args.element c.is_excess-first_excess.new.rest) (after_left c.args.element c.is_excess-first_excess.new.rest)
    c.requires.ordered c.begin.ensures.ahead c.begin.ensures.first c.is_missing-missing.ensures.missing c.is_missing-missing.ensures.same c.is_missing-missing.ensures.values
    c.is_excess-first_excess.ensures.excess c.is_excess-first_excess.ensures.values (c.is_excess-first_excess.ensures.after ∙ c.is_missing-missing.ensures.after) in
    more-so_far c.args.rules.now c.args.item.now c.args.element (components_ahead c.args.rest.now) c.requires.ordered c.is_missing-missing.result c.is_excess-first_excess.result _ _ b c.loop-rest.all c.loop-rest.excess (components_ahead c.loop-rest.rest) c.loop-rest.invariant
    (components_ahead c.next_repetition.new.self) c.next_repetition.new.self.repetition c.next_repetition.ensures.ahead (sym c.next_repetition.ensures.next ∙ c.loop-rest-test.true) (c.next_repetition.ensures.here c.loop-rest-test.true)
    (values_left c.args.element c.is_excess-over.new.rest) c.is_excess-over.ensures.values
    c.check_repetition.new.all c.is_excess-over.result (components_ahead c.check_repetition.new.rest) c.next_repetition.new.self.repetition (values_left c.args.element c.next_repetition.new.self)
    c.in_ok-check_repetition.ensures.ok refl refl c.is_excess-over.ensures.excess (c.in_ok-check_repetition.ensures.after ∙ c.is_excess-over.ensures.after)

pub check_repetition-requires-clause-few : goal.check_repetition-requires-clause-few
unfolding values_left after_left
check_repetition-requires-clause-few g c =
    let b = begun c.args.item.now c.args.element (components_ahead c.args.rest.now) (components_ahead c.begin.new.self) c.begin.new.self.repetition c.is_missing-missing.new.rest.repetition c.is_missing-missing.result c.is_excess-first_excess.result
    (values_left c.args.element c.is_missing-missing.new.rest) (values_left c.args.element c.is_excess-first_excess.new.rest) (after_left c.args.element c.is_excess-first_excess.new.rest)
    c.requires.ordered c.begin.ensures.ahead c.begin.ensures.first c.is_missing-missing.ensures.missing c.is_missing-missing.ensures.same c.is_missing-missing.ensures.values
    c.is_excess-first_excess.ensures.excess c.is_excess-first_excess.ensures.values (c.is_excess-first_excess.ensures.after ∙ c.is_missing-missing.ensures.after) in
    more-few c.args.rules.now c.args.item.now c.args.element (components_ahead c.args.rest.now) c.requires.ordered c.is_missing-missing.result c.is_excess-first_excess.result _ _ b c.loop-rest.all c.loop-rest.excess (components_ahead c.loop-rest.rest) c.loop-rest.invariant
    (components_ahead c.next_repetition.new.self) c.next_repetition.new.self.repetition c.next_repetition.ensures.ahead (sym c.next_repetition.ensures.next ∙ c.loop-rest-test.true) (c.next_repetition.ensures.here c.loop-rest-test.true)
    (values_left c.args.element c.is_excess-over.new.rest) c.is_excess-over.ensures.values _ c.requires.few

pub check_repetition-requires-clause-ascending : goal.check_repetition-requires-clause-ascending
unfolding values_left after_left
check_repetition-requires-clause-ascending g c =
    let b = begun c.args.item.now c.args.element (components_ahead c.args.rest.now) (components_ahead c.begin.new.self) c.begin.new.self.repetition c.is_missing-missing.new.rest.repetition c.is_missing-missing.result c.is_excess-first_excess.result
    (values_left c.args.element c.is_missing-missing.new.rest) (values_left c.args.element c.is_excess-first_excess.new.rest) (after_left c.args.element c.is_excess-first_excess.new.rest)
    c.requires.ordered c.begin.ensures.ahead c.begin.ensures.first c.is_missing-missing.ensures.missing c.is_missing-missing.ensures.same c.is_missing-missing.ensures.values
    c.is_excess-first_excess.ensures.excess c.is_excess-first_excess.ensures.values (c.is_excess-first_excess.ensures.after ∙ c.is_missing-missing.ensures.after) in
    more-ascending c.args.rules.now c.args.item.now c.args.element (components_ahead c.args.rest.now) c.requires.ordered c.is_missing-missing.result c.is_excess-first_excess.result _ _ b c.loop-rest.all c.loop-rest.excess (components_ahead c.loop-rest.rest) c.loop-rest.invariant

pub returns-in_err-check_repetition-clause-full : goal.returns-in_err-check_repetition-clause-full
unfolding values_left after_left
returns-in_err-check_repetition-clause-full g c =
    let b = begun c.args.item.now c.args.element (components_ahead c.args.rest.now) (components_ahead c.begin.new.self) c.begin.new.self.repetition c.is_missing-missing.new.rest.repetition c.is_missing-missing.result c.is_excess-first_excess.result
    (values_left c.args.element c.is_missing-missing.new.rest) (values_left c.args.element c.is_excess-first_excess.new.rest) (after_left c.args.element c.is_excess-first_excess.new.rest)
    c.requires.ordered c.begin.ensures.ahead c.begin.ensures.first c.is_missing-missing.ensures.missing c.is_missing-missing.ensures.same c.is_missing-missing.ensures.values
    c.is_excess-first_excess.ensures.excess c.is_excess-first_excess.ensures.values (c.is_excess-first_excess.ensures.after ∙ c.is_missing-missing.ensures.after) in
    on_err c.from_residual-in_err-check_repetition.result (more-full c.args.rules.now c.args.item.now c.args.element (components_ahead c.args.rest.now) c.requires.ordered c.is_missing-missing.result c.is_excess-first_excess.result _ _ b c.loop-rest.all c.loop-rest.excess (components_ahead c.loop-rest.rest) c.loop-rest.invariant
    (components_ahead c.next_repetition.new.self) c.next_repetition.new.self.repetition c.next_repetition.ensures.ahead (sym c.next_repetition.ensures.next ∙ c.loop-rest-test.true) (c.next_repetition.ensures.here c.loop-rest-test.true)
    (values_left c.args.element c.is_excess-over.new.rest) c.is_excess-over.ensures.values c.args.errors.now c.in_err-check_repetition.ensures.full)

pub put_excess-requires : goal.put_excess-requires
unfolding values_left after_left
put_excess-requires g c =
    let b = begun c.args.item.now c.args.element (components_ahead c.args.rest.now) (components_ahead c.begin.new.self) c.begin.new.self.repetition c.is_missing-missing.new.rest.repetition c.is_missing-missing.result c.is_excess-first_excess.result
    (values_left c.args.element c.is_missing-missing.new.rest) (values_left c.args.element c.is_excess-first_excess.new.rest) (after_left c.args.element c.is_excess-first_excess.new.rest)
    c.requires.ordered c.begin.ensures.ahead c.begin.ensures.first c.is_missing-missing.ensures.missing c.is_missing-missing.ensures.same c.is_missing-missing.ensures.values
    c.is_excess-first_excess.ensures.excess c.is_excess-first_excess.ensures.values (c.is_excess-first_excess.ensures.after ∙ c.is_missing-missing.ensures.after) in
    record { ascending = more-ascending c.args.rules.now c.args.item.now c.args.element (components_ahead c.args.rest.now) c.requires.ordered c.is_missing-missing.result c.is_excess-first_excess.result _ _ b c.loop-rest.all c.loop-rest.excess (components_ahead c.loop-rest.rest) c.loop-rest.invariant }

pub returns-in_err-put_excess-clause-full : goal.returns-in_err-put_excess-clause-full
unfolding values_left after_left
returns-in_err-put_excess-clause-full g c =
    let b = begun c.args.item.now c.args.element (components_ahead c.args.rest.now) (components_ahead c.begin.new.self) c.begin.new.self.repetition c.is_missing-missing.new.rest.repetition c.is_missing-missing.result c.is_excess-first_excess.result
    (values_left c.args.element c.is_missing-missing.new.rest) (values_left c.args.element c.is_excess-first_excess.new.rest) (after_left c.args.element c.is_excess-first_excess.new.rest)
    c.requires.ordered c.begin.ensures.ahead c.begin.ensures.first c.is_missing-missing.ensures.missing c.is_missing-missing.ensures.same c.is_missing-missing.ensures.values
    c.is_excess-first_excess.ensures.excess c.is_excess-first_excess.ensures.values (c.is_excess-first_excess.ensures.after ∙ c.is_missing-missing.ensures.after) in
    let past : is_next c.args.element (components_ahead c.loop-rest.rest) ≡ false = ap (is_next c.args.element) (sym c.next_repetition.ensures.ahead) ∙ sym c.next_repetition.ensures.next ∙ c.loop-rest-test.false in
    let same = end-errors c.args.rules.now c.args.item.now c.args.element (components_ahead c.args.rest.now) c.requires.ordered c.is_missing-missing.result c.is_excess-first_excess.result _ _ b c.loop-rest.all c.loop-rest.excess (components_ahead c.loop-rest.rest) c.loop-rest.invariant past in
    let full = subst (λ (es : List LocalError). 4 < length es) same c.in_err-put_excess.ensures.full in
    on_err c.from_residual-in_err-put_excess.result (omega (arith, full))

pub returns-clause-ok : goal.returns-clause-ok
unfolding values_left after_left
returns-clause-ok g c =
    let b = begun c.args.item.now c.args.element (components_ahead c.args.rest.now) (components_ahead c.begin.new.self) c.begin.new.self.repetition c.is_missing-missing.new.rest.repetition c.is_missing-missing.result c.is_excess-first_excess.result
    (values_left c.args.element c.is_missing-missing.new.rest) (values_left c.args.element c.is_excess-first_excess.new.rest) (after_left c.args.element c.is_excess-first_excess.new.rest)
    c.requires.ordered c.begin.ensures.ahead c.begin.ensures.first c.is_missing-missing.ensures.missing c.is_missing-missing.ensures.same c.is_missing-missing.ensures.values
    c.is_excess-first_excess.ensures.excess c.is_excess-first_excess.ensures.values (c.is_excess-first_excess.ensures.after ∙ c.is_missing-missing.ensures.after) in
    let past : is_next c.args.element (components_ahead c.loop-rest.rest) ≡ false = ap (is_next c.args.element) (sym c.next_repetition.ensures.ahead) ∙ sym c.next_repetition.ensures.next ∙ c.loop-rest-test.false in
    on_ok_then c.add.result c.add.ensures.ok (λ is.
    is ∙ ap (λ (es : List LocalError). es ++ c.as_slice.result.now) (c.in_ok-all.ensures.front ∙ front-of c.args.errors.now c.check_item.new.errors _ c.len-known.result c.in_ok-check_item.ensures.ok c.len-known.ensures)
    ∙ ap (λ (es : List LocalError). c.args.errors.now ++ es) (c.as_slice.ensures ∙ c.in_ok-put_excess.ensures.ok ∙ end-errors c.args.rules.now c.args.item.now c.args.element (components_ahead c.args.rest.now) c.requires.ordered c.is_missing-missing.result c.is_excess-first_excess.result _ _ b c.loop-rest.all c.loop-rest.excess (components_ahead c.loop-rest.rest) c.loop-rest.invariant past))

pub returns-clause-full : goal.returns-clause-full
unfolding values_left after_left
returns-clause-full g c =
    let b = begun c.args.item.now c.args.element (components_ahead c.args.rest.now) (components_ahead c.begin.new.self) c.begin.new.self.repetition c.is_missing-missing.new.rest.repetition c.is_missing-missing.result c.is_excess-first_excess.result
    (values_left c.args.element c.is_missing-missing.new.rest) (values_left c.args.element c.is_excess-first_excess.new.rest) (after_left c.args.element c.is_excess-first_excess.new.rest)
    c.requires.ordered c.begin.ensures.ahead c.begin.ensures.first c.is_missing-missing.ensures.missing c.is_missing-missing.ensures.same c.is_missing-missing.ensures.values
    c.is_excess-first_excess.ensures.excess c.is_excess-first_excess.ensures.values (c.is_excess-first_excess.ensures.after ∙ c.is_missing-missing.ensures.after) in
    let past : is_next c.args.element (components_ahead c.loop-rest.rest) ≡ false = ap (is_next c.args.element) (sym c.next_repetition.ensures.ahead) ∙ sym c.next_repetition.ensures.next ∙ c.loop-rest-test.false in
    on_err_then c.add.result c.add.ensures.full (λ full.
    subst (λ (es : List LocalError). 4 < length c.args.errors.now + length es) (c.as_slice.ensures ∙ c.in_ok-put_excess.ensures.ok ∙ end-errors c.args.rules.now c.args.item.now c.args.element (components_ahead c.args.rest.now) c.requires.ordered c.is_missing-missing.result c.is_excess-first_excess.result _ _ b c.loop-rest.all c.loop-rest.excess (components_ahead c.loop-rest.rest) c.loop-rest.invariant past)
    (subst (λ (es : List LocalError). 4 < length es + length c.as_slice.result.now) (c.in_ok-all.ensures.front ∙ front-of c.args.errors.now c.check_item.new.errors _ c.len-known.result c.in_ok-check_item.ensures.ok c.len-known.ensures) full))

pub returns-clause-after : goal.returns-clause-after
unfolding values_left after_left
returns-clause-after g c =
    let b = begun c.args.item.now c.args.element (components_ahead c.args.rest.now) (components_ahead c.begin.new.self) c.begin.new.self.repetition c.is_missing-missing.new.rest.repetition c.is_missing-missing.result c.is_excess-first_excess.result
    (values_left c.args.element c.is_missing-missing.new.rest) (values_left c.args.element c.is_excess-first_excess.new.rest) (after_left c.args.element c.is_excess-first_excess.new.rest)
    c.requires.ordered c.begin.ensures.ahead c.begin.ensures.first c.is_missing-missing.ensures.missing c.is_missing-missing.ensures.same c.is_missing-missing.ensures.values
    c.is_excess-first_excess.ensures.excess c.is_excess-first_excess.ensures.values (c.is_excess-first_excess.ensures.after ∙ c.is_missing-missing.ensures.after) in
    let past : is_next c.args.element (components_ahead c.loop-rest.rest) ≡ false = ap (is_next c.args.element) (sym c.next_repetition.ensures.ahead) ∙ sym c.next_repetition.ensures.next ∙ c.loop-rest-test.false in
    on_ok_then c.add.result c.add.ensures.ok (λ is.
    c.next_repetition.ensures.ahead ∙ end-after c.args.rules.now c.args.item.now c.args.element (components_ahead c.args.rest.now) c.requires.ordered c.is_missing-missing.result c.is_excess-first_excess.result _ _ b c.loop-rest.all c.loop-rest.excess (components_ahead c.loop-rest.rest) c.loop-rest.invariant past)
