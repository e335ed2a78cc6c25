use Rattle.std.proofs.Common.{◌≡◌, ◌⊎◌, inl, inr, length, drop, sym, ◌∙◌, arith}
use Rattle.error_ledger.specs.declared.kind.Kind.TheVariants.{BadUna}
use Rattle.element_check.specs.Local.{error_at}
use Rattle.element_check.specs.declared.error.LocalError.{LocalError}
use Rattle.element_check.proofs.ErrorsLemmas.{on_err, on_err_then, on_ok_then}
use Rattle.element_check.proofs.MergeLemmas.{ends-put, first-ends-full, fresh-next, known-next, known-next-alone, known-next-same, merged-ends, put-full, put-next, second-ends-full}
use Rattle.element_check.proofs.merge.put_merged.Goals as goal
use Rattle.element_check.proofs.merge.put_merged.Goals.{then-not-is_before, else-not-is_before, then-loop-i-test+else-j-fresh, else-loop-i-test}

-- what an index gives past the end
none : LocalError
none = error_at 0 0 BadUna

pub returns-in_err-put-clause-full : goal.returns-in_err-put-clause-full
unfolding none
returns-in_err-put-clause-full c =
    on_err c.from_residual.result
    (put-full c.args.errors.now _ (drop c.loop-i.i c.args.known.now) (drop c.loop-i.j c.args.fresh.now) c.loop-i.errors _ _ c.loop-i.invariant.2
    (fresh-next c.args.known.now c.args.fresh.now c.loop-i.i c.loop-i.j none c.loop-i-test.true c.if-j-fresh.true (sym c.is_before.ensures ∙ c.if-is_before.true))
    c.in_err-put.ensures.full)

pub loop-i-preserved-then-is_before : goal.loop-i-preserved-then-is_before
unfolding none
loop-i-preserved-then-is_before c = (
  c.loop-i.invariant.0,
  omega arith,
  put-next c.args.errors.now _ (drop c.loop-i.i c.args.known.now) (drop c.loop-i.j c.args.fresh.now) c.loop-i.errors c.put.new.self _ _ c.loop-i.invariant.2
      (fresh-next c.args.known.now c.args.fresh.now c.loop-i.i c.loop-i.j none c.loop-i-test.true c.if-j-fresh.true (sym c.is_before.ensures ∙ c.if-is_before.true))
      c.in_ok-put.ensures.ok,
)

pub returns-in_err-put-2-clause-full : goal.returns-in_err-put-2-clause-full
unfolding none
returns-in_err-put-2-clause-full c =
    on_err c.from_residual-in_err-put-2.result
    (put-full c.args.errors.now _ (drop c.loop-i.i c.args.known.now) (drop c.loop-i.j c.args.fresh.now) c.loop-i.errors _ _ c.loop-i.invariant.2
    (known-next c.args.known.now c.args.fresh.now c.loop-i.i c.loop-i.j none c.loop-i-test.true c.if-j-fresh.true (sym c.is_before.ensures ∙ c.if-is_before.false))
    c.in_err-put-2.ensures.full)

pub loop-i-preserved : goal.loop-i-preserved
unfolding none
loop-i-preserved c =
    let not_before = sym c.is_before.ensures ∙ c.if-is_before.false in
    elim c.if-not-is_before.branch [
      | then-not-is_before w ↦ (
        omega arith,
        omega arith,
        put-next c.args.errors.now _ (drop c.loop-i.i c.args.known.now) (drop c.loop-i.j c.args.fresh.now) c.loop-i.errors c.put-else-is_before.new.self _ _ c.loop-i.invariant.2
            (known-next-same c.args.known.now c.args.fresh.now c.loop-i.i c.loop-i.j none c.loop-i-test.true c.if-j-fresh.true not_before (sym c.is_before-else-is_before.ensures ∙ w.if-not-is_before.true) c.if-not-is_before.j w.j-is)
            c.in_ok-put-2.ensures.ok,
      )
      | else-not-is_before w ↦ (
        omega arith,
        omega arith,
        put-next c.args.errors.now _ (drop c.loop-i.i c.args.known.now) (drop c.loop-i.j c.args.fresh.now) c.loop-i.errors c.put-else-is_before.new.self _ _ c.loop-i.invariant.2
            (known-next-alone c.args.known.now c.args.fresh.now c.loop-i.i c.loop-i.j none c.loop-i-test.true c.if-j-fresh.true not_before (sym c.is_before-else-is_before.ensures ∙ w.if-not-is_before.false) c.if-not-is_before.j w.j-is)
            c.in_ok-put-2.ensures.ok,
      )
    ]

pub returns-in_err-add-clause-full : goal.returns-in_err-add-clause-full
returns-in_err-add-clause-full c =
    let ended : (c.loop-i.i ≡ length c.args.known.now) ⊎ (c.loop-i.j ≡ length c.args.fresh.now) =
    elim c.loop-i-test.branch [ then-loop-i-test+else-j-fresh w ↦ inr (omega arith) | else-loop-i-test w ↦ inl (omega arith) ] in
    let end = merged-ends c.args.known.now c.args.fresh.now c.loop-i.i c.loop-i.j c.loop-i.invariant.0 c.loop-i.invariant.1 ended in
    on_err c.from_residual-in_err-add.result
    (first-ends-full c.args.known.now c.args.fresh.now c.args.errors.now _ c.loop-i.errors c.loop-i.i c.loop-i.j c.loop-i.invariant.2 end c.in_err-add.ensures.full)

pub returns-clause-ok : goal.returns-clause-ok
returns-clause-ok c =
    let ended : (c.loop-i.i ≡ length c.args.known.now) ⊎ (c.loop-i.j ≡ length c.args.fresh.now) =
    elim c.loop-i-test.branch [ then-loop-i-test+else-j-fresh w ↦ inr (omega arith) | else-loop-i-test w ↦ inl (omega arith) ] in
    let end = merged-ends c.args.known.now c.args.fresh.now c.loop-i.i c.loop-i.j c.loop-i.invariant.0 c.loop-i.invariant.1 ended in
    on_ok_then c.add-2.result c.add-2.ensures.ok
    (ends-put c.args.known.now c.args.fresh.now c.args.errors.now _ c.loop-i.errors c.loop-i.i c.loop-i.j c.loop-i.invariant.2 end c.add.new.self c.add-2.new.self c.in_ok-add.ensures.ok)

pub returns-clause-full : goal.returns-clause-full
returns-clause-full c =
    let ended : (c.loop-i.i ≡ length c.args.known.now) ⊎ (c.loop-i.j ≡ length c.args.fresh.now) =
    elim c.loop-i-test.branch [ then-loop-i-test+else-j-fresh w ↦ inr (omega arith) | else-loop-i-test w ↦ inl (omega arith) ] in
    let end = merged-ends c.args.known.now c.args.fresh.now c.loop-i.i c.loop-i.j c.loop-i.invariant.0 c.loop-i.invariant.1 ended in
    on_err_then c.add-2.result c.add-2.ensures.full
    (second-ends-full c.args.known.now c.args.fresh.now c.args.errors.now _ c.loop-i.errors c.loop-i.i c.loop-i.j c.loop-i.invariant.2 end c.add.new.self c.in_ok-add.ensures.ok)
