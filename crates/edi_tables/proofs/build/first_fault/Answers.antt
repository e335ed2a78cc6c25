use Rattle.std.proofs.Common.{length, sym, ap, ◌∙◌, arith, slice_get, below_more}
use Rattle.std.proofs.lemmas.Bool.{eqb-true, eqb-false}
use Rattle.std.proofs.lemmas.Option.{slice_get-get_or}
use Rattle.edi_tables.proofs.Faults.{first_fault_too_many, first_fault_no_rows, first_fault_at, no_first_fault, no_faults_of_place}
use Rattle.edi_tables.proofs.build.first_fault.Goals as goal

pub returns-then-rows-gt-MAX_ROWS : goal.returns-then-rows-gt-MAX_ROWS
returns-then-rows-gt-MAX_ROWS c = sym (first_fault_too_many c.args.rows.now c.if-rows-gt-MAX_ROWS.true)

pub returns-then-is_empty : goal.returns-then-is_empty
returns-then-is_empty c =
    let rows = c.args.rows.now in
    sym (first_fault_no_rows rows (eqb-true (length rows) 0 (sym c.is_empty.ensures ∙ c.if-is_empty.true)))

pub returns-in-Some : goal.returns-in-Some
returns-in-Some c =
    let rows = c.args.rows.now in
    sym (first_fault_at rows c.loop-i.i _ c.in-Some.kind c.if-rows-gt-MAX_ROWS.false c.loop-i-test.true c.loop-i.invariant
    (slice_get-get_or rows c.loop-i.i _ c.loop-i-test.true) (sym c.row_fault.ensures ∙ c.in-Some.is))

pub loop-i-preserved : goal.loop-i-preserved
loop-i-preserved c =
    let rows = c.args.rows.now in
    below_more _ c.loop-i.i c.loop-i.invariant
    (no_faults_of_place rows c.loop-i.i _ (slice_get-get_or rows c.loop-i.i _ c.loop-i-test.true) (sym c.row_fault.ensures ∙ c.in_default.is))

pub returns : goal.returns
returns c =
    let rows = c.args.rows.now in
    let some = eqb-false (length rows) 0 (sym c.is_empty.ensures ∙ c.if-is_empty.false) in
    ap (λ faults. slice_get faults 0) (sym (no_first_fault rows c.if-rows-gt-MAX_ROWS.false (omega arith) (λ k below. c.loop-i.invariant k (omega arith))))
