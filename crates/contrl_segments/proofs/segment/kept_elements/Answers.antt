use Rattle.std.proofs.Common.{ap, sym, ◌∙◌, arith, map, take}
use Rattle.contrl_segments.specs.Written.{is_empty_element, trimmed}
use Rattle.contrl_segments.specs.Lent.{element_lent}
use Rattle.std.proofs.lemmas.List.{take_all}
use Rattle.contrl_segments.proofs.TrimLemmas.{kept-empty, kept-full, trimmed-map}
use Rattle.contrl_segments.proofs.segment.kept_elements.Goals as goal
use Rattle.contrl_segments.proofs.segment.kept_elements.Goals.{then-not-is_empty, else-not-is_empty}

pub loop-i-preserved : goal.loop-i-preserved
loop-i-preserved c =
    elim c.if-not-is_empty.branch [
      | then-not-is_empty w ↦ record {
        within = omega arith;
        trims = kept-full _ c.args.elements.now c.loop-i.i _ c.loop-i-test.true (sym c.is_empty.ensures ∙ w.if-not-is_empty.true) ∙ ap (λ k. take k c.args.elements.now) (sym w.kept-is);
      }
      | else-not-is_empty w ↦ record {
        within = omega arith;
        trims = kept-empty _ c.args.elements.now c.loop-i.i c.loop-i.kept _ c.loop-i-test.true c.loop-i.invariant.trims (sym c.is_empty.ensures ∙ w.if-not-is_empty.false) ∙ ap (λ k. take k c.args.elements.now) (sym w.kept-is);
      }
    ]

pub returns : goal.returns
returns c =
    let all = take_all c.loop-i.i c.args.elements.now c.loop-i-test.false in
    ap (map element_lent) (sym c.loop-i.invariant.trims ∙ ap (trimmed (λ v. is_empty_element (element_lent v))) all) ∙ sym (trimmed-map element_lent is_empty_element c.args.elements.now)
