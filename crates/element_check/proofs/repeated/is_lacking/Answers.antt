use Rattle.std.proofs.Common.{◌≡◌, ◌≤◌, ◌<◌, ℕ, List, not, true, length, sym, ap, ◌∙◌, subst, arith}
use Rattle.seg_lexer.specs.Fields.{Component}
use Rattle.element_check.specs.Local.{last_repetition}
use Rattle.element_check.specs.Repeated.{some_in}
use Rattle.element_check.specs.Streams.{AreOrdered, IsAtRepetition, after_left, after_run, components_ahead, has_needed, is_next, values_left}
use Rattle.element_check.proofs.RepeatedLemmas.{lacking-end, lacking-found, lacking-order, lacking-step}
use Rattle.element_check.proofs.RunLemmas.{after_run-last, next-shorter, some-all}
use Rattle.element_check.proofs.repeated.is_lacking.Goals as goal

pub returns-then-has_needed : goal.returns-then-has_needed
unfolding values_left
returns-then-has_needed g c =
    let item = c.args.item.now in
    let element = c.args.element in
    let xs : List Component = components_ahead c.next_repetition.new.self in
    let n : ℕ = last_repetition (components_ahead c.args.rest.now) element in
    let ahead : xs ≡ components_ahead c.loop-values.values = c.next_repetition.ensures.ahead in
    let order : AreOrdered element 1 xs = subst (AreOrdered element 1) (sym ahead) c.loop-values.invariant.ordered in
    let within : last_repetition xs element ≤ n = subst (λ (cs : List Component). last_repetition cs element ≤ n) (sym ahead) c.loop-values.invariant.within in
    let next : is_next element xs ≡ true = sym c.next_repetition.ensures.next ∙ c.loop-values-test.true in
    sym (ap not (some-all (has_needed item) (components_ahead c.args.rest.now) element ∙ c.loop-values.invariant.same
    ∙ ap (λ (cs : List Component). some_in (has_needed item) cs element 1 n) (sym ahead)
    ∙ lacking-found item element n c.next_repetition.new.self.repetition xs order next (c.next_repetition.ensures.here c.loop-values-test.true) within (sym c.has_needed.ensures.needed ∙ c.if-has_needed.true)))

pub loop-values-smaller : goal.loop-values-smaller
unfolding after_left
loop-values-smaller g c =
    let element = c.args.element in
    let r : ℕ = c.next_repetition.new.self.repetition in
    let xs : List Component = components_ahead c.next_repetition.new.self in
    let ahead : xs ≡ components_ahead c.loop-values.values = c.next_repetition.ensures.ahead in
    let next : is_next element xs ≡ true = sym c.next_repetition.ensures.next ∙ c.loop-values-test.true in
    let passed : components_ahead c.pass.new.self ≡ after_run element r xs = c.pass.ensures ∙ c.has_needed.ensures.after in
    let fewer : length (after_run element r xs) < length xs = next-shorter element r xs next (c.next_repetition.ensures.here c.loop-values-test.true) in
    subst (λ (cs : List Component). length cs < length (components_ahead c.loop-values.values)) (sym passed)
    (subst (λ (cs : List Component). length (after_run element r xs) < length cs) ahead fewer)

pub loop-values-preserved : goal.loop-values-preserved
unfolding after_left values_left
loop-values-preserved g c =
    let item = c.args.item.now in
    let element = c.args.element in
    let r : ℕ = c.next_repetition.new.self.repetition in
    let xs : List Component = components_ahead c.next_repetition.new.self in
    let n : ℕ = last_repetition (components_ahead c.args.rest.now) element in
    let ahead : xs ≡ components_ahead c.loop-values.values = c.next_repetition.ensures.ahead in
    let order : AreOrdered element 1 xs = subst (AreOrdered element 1) (sym ahead) c.loop-values.invariant.ordered in
    let within : last_repetition xs element ≤ n = subst (λ (cs : List Component). last_repetition cs element ≤ n) (sym ahead) c.loop-values.invariant.within in
    let next : is_next element xs ≡ true = sym c.next_repetition.ensures.next ∙ c.loop-values-test.true in
    let here : IsAtRepetition element r xs = c.next_repetition.ensures.here c.loop-values-test.true in
    let passed : components_ahead c.pass.new.self ≡ after_run element r xs = c.pass.ensures ∙ c.has_needed.ensures.after in
    let fewer : last_repetition (after_run element r xs) element ≤ last_repetition xs element = after_run-last element r xs in
    let most : last_repetition (after_run element r xs) element ≤ n = omega arith in
    record {
      same = c.loop-values.invariant.same
          ∙ ap (λ (cs : List Component). some_in (has_needed item) cs element 1 n) (sym ahead)
          ∙ lacking-step item element n r xs order next here within (sym c.has_needed.ensures.needed ∙ c.if-has_needed.false)
          ∙ ap (λ (cs : List Component). some_in (has_needed item) cs element 1 n) (sym passed);
      ordered = subst (AreOrdered element 1) (sym passed) (lacking-order item element n r xs order next here within);
      within = subst (λ (cs : List Component). last_repetition cs element ≤ n) (sym passed) most;
    }

pub returns : goal.returns
returns g c =
    let item = c.args.item.now in
    let element = c.args.element in
    let xs : List Component = components_ahead c.next_repetition.new.self in
    let n : ℕ = last_repetition (components_ahead c.args.rest.now) element in
    let ahead : xs ≡ components_ahead c.loop-values.values = c.next_repetition.ensures.ahead in
    let order : AreOrdered element 1 xs = subst (AreOrdered element 1) (sym ahead) c.loop-values.invariant.ordered in
    sym (ap not (some-all (has_needed item) (components_ahead c.args.rest.now) element ∙ c.loop-values.invariant.same
    ∙ ap (λ (cs : List Component). some_in (has_needed item) cs element 1 n) (sym ahead)
    ∙ lacking-end item element n xs order (sym c.next_repetition.ensures.next ∙ c.loop-values-test.false)))
