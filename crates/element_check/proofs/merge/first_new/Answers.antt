use Rattle.std.proofs.Common.{◌≤◌, List, length, drop, get_or, sym, ◌∙◌, subst, arith}
use Rattle.std.proofs.lemmas.List.{drop_more}
use Rattle.error_ledger.specs.declared.kind.Kind.TheVariants.{BadUna}
use Rattle.element_check.specs.Ascending.{AreAscending}
use Rattle.element_check.specs.Local.{error_at}
use Rattle.element_check.specs.declared.error.LocalError.{LocalError}
use Rattle.element_check.proofs.MergeLemmas.{IsPoint, ascending-drop, passed-known, passed-same, rest-slice}
use Rattle.element_check.proofs.merge.first_new.Goals as goal

-- what an index gives past the end
none : LocalError
none = error_at 0 0 BadUna

pub count_before-at-requires : goal.count_before-at-requires
count_before-at-requires c =
    subst AreAscending (sym (rest-slice c.args.known.now c.loop-passed.at)) (ascending-drop c.loop-passed.at c.args.known.now c.requires)

pub returns-then-at-known-clause-front : goal.returns-then-at-known-clause-front
unfolding none
returns-then-at-known-clause-front c =
    let known = c.args.known.now in
    let at = c.loop-passed.at in
    let passed = c.loop-passed.passed in
    let y = get_or c.args.fresh.now passed none in
    let k = c.count_before-at.result in
    passed-known known c.args.fresh.now at passed y c.loop-passed.invariant.0
    (drop_more c.args.fresh.now passed none c.loop-passed-test.true)
    c.loop-passed.invariant.1 k
    (subst (λ (es : List LocalError). IsPoint y es k) (rest-slice known at) c.count_before-at.ensures.point)
    (subst (λ (es : List LocalError). k ≤ length es) (rest-slice known at) c.count_before-at.ensures.within)

pub loop-passed-preserved : goal.loop-passed-preserved
unfolding none
loop-passed-preserved c =
    let known = c.args.known.now in
    let at = c.loop-passed.at in
    let passed = c.loop-passed.passed in
    let y = get_or c.args.fresh.now passed none in
    let k = c.count_before-at.result in
    let within : k ≤ length (drop at known) = subst (λ (es : List LocalError). k ≤ length es) (rest-slice known at) c.count_before-at.ensures.within in (
      omega arith,
      passed-same known c.args.fresh.now at passed y c.loop-passed.invariant.0
          (drop_more c.args.fresh.now passed none c.loop-passed-test.true)
          c.loop-passed.invariant.1 k
          (subst (λ (es : List LocalError). IsPoint y es k) (rest-slice known at) c.count_before-at.ensures.point)
          within none (omega arith) (sym c.is_before.ensures ∙ c.if-is_before.false),
    )
