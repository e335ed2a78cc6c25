use Rattle.std.proofs.Common.{◌++◌, [], ◌∷◌, arith, sym, ap, ◌∙◌}
use Rattle.std.proofs.lemmas.Result.{err_from_is_err_and}
use Rattle.contrl_segments.specs.Stamp.{is_reference_of}
use Rattle.edit_script.specs.Texts.{IsReferenceText}
use Rattle.edit_script.proofs.ReferenceLemmas.{reference_part, reference_follow, reference_bad, reference_unended}
use Rattle.edit_script.proofs.ReadingLemmas.{takes_then, takes_same, reads_no_more, reads_bad, reads_whole, reads_refused}
use Rattle.edit_script.proofs.words.take_reference.Goals as goal

pub returns-in_err-octet-clause-reads : goal.returns-in_err-octet-clause-reads
returns-in_err-octet-clause-reads g c =
    let p = err_from_is_err_and c.from_residual.result c.from_residual.ensures.1 in
    let held = c.loop-reference.invariant in
    rw (p.1, p.2) (reads_no_more IsReferenceText _ _ _ c.loop-reference.reference _ (reference_part _ held.few held.lawful) held.takes c.in_err-octet.ensures.reads)

pub returns-then-is_reference-clause-reads : goal.returns-then-is_reference-clause-reads
returns-then-is_reference-clause-reads g c =
    let held = c.loop-reference.invariant in
    reads_whole IsReferenceText _ _ _ c.loop-reference.reference c.in_ok-octet.octet _ (sym (ap is_reference_of c.octets.ensures) ∙ sym c.is_reference.ensures ∙ c.if-is_reference.true, ap (λ x. c.loop-reference.reference ++ x ∷ []) c.if-octet-eq10.true) held.takes c.in_ok-octet.ensures.reads

pub returns-else-is_reference-clause-reads : goal.returns-else-is_reference-clause-reads
returns-else-is_reference-clause-reads g c =
    let held = c.loop-reference.invariant in
    reads_bad IsReferenceText _ _ _ c.loop-reference.reference _ (reference_part _ held.few held.lawful) (rw c.if-octet-eq10.true (reference_unended _ held.lawful (sym (ap is_reference_of c.octets.ensures) ∙ sym c.is_reference.ensures ∙ c.if-is_reference.false))) held.takes c.in_ok-octet.ensures.reads

pub returns-then-not-may_follow-clause-reads : goal.returns-then-not-may_follow-clause-reads
returns-then-not-may_follow-clause-reads g c =
    let held = c.loop-reference.invariant in
    let may_not = rw c.octets-in-loop-reference.ensures at (sym c.may_follow.ensures ∙ c.if-not-may_follow.true) in
    reads_bad IsReferenceText _ _ _ c.loop-reference.reference _ (reference_part _ held.few held.lawful) (reference_bad _ _ held.lawful c.if-octet-eq10.false may_not) held.takes c.in_ok-octet.ensures.reads

pub loop-reference-preserved : goal.loop-reference-preserved
loop-reference-preserved g c =
    let held = c.loop-reference.invariant in
    let may = rw c.octets-in-loop-reference.ensures at (sym c.may_follow.ensures ∙ c.if-not-may_follow.false) in
    let longer = reference_follow c.loop-reference.reference c.in_ok-octet.octet held.lawful may in
    record {
      few = rw c.in_ok-add.ensures.ok longer.0;
      lawful = rw c.in_ok-add.ensures.ok longer.1;
      takes = takes_same _ _ _ _ (sym c.in_ok-add.ensures.ok) (takes_then _ _ _ _ _ held.takes c.in_ok-octet.ensures.reads);
      counted = omega (arith, c.in_ok-octet.ensures.fair.counted);
      steady = λ was. (c.in_ok-octet.ensures.fair.steady (held.steady was)).1;
    }

pub returns-in_err-add-clause-reads : goal.returns-in_err-add-clause-reads
returns-in_err-add-clause-reads g c =
    let p = err_from_is_err_and c.from_residual-in_err-add.result c.from_residual-in_err-add.ensures.1 in
    let held = c.loop-reference.invariant in
    let may = rw c.octets-in-loop-reference.ensures at (sym c.may_follow.ensures ∙ c.if-not-may_follow.false) in
    let longer = reference_follow c.loop-reference.reference c.in_ok-octet.octet held.lawful may in
    rw (p.1, p.2) (reads_refused IsReferenceText _ _ (c.loop-reference.reference ++ c.in_ok-octet.octet ∷ []) (reference_part _ longer.0 longer.1) (takes_then _ _ _ _ _ held.takes c.in_ok-octet.ensures.reads))
