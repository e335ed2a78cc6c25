use Rattle.std.proofs.Common.{ℕ, ◌+◌, ◌++◌, List, drop, sym, ap, ◌∙◌, arith}
use Rattle.element_check.specs.Rules.{SegmentRules}
use Rattle.element_check.specs.Streams.{after_front, items_errors, surplus_elements}
use Rattle.element_check.specs.declared.error.LocalError.{LocalError}
use Rattle.element_check.proofs.StreamLemmas.{items-end, items-step}
use Rattle.seg_lexer.specs.Fields.{are_single, components_of}
use Rattle.clean_segments.specs.Looked.{looked_left}
use Rattle.clean_segments.specs.declared.kinds.OctetKinds.{OctetKinds}
use Rattle.clean_segments.proofs.look.are_elements_clean.Goals as goal

pub loop-item-preserved : goal.loop-item-preserved
loop-item-preserved c =
    let number = c.loop-item.invariant.number in
    let rest = looked_left c.loop-item.rest in
    record {
      same =
          ap (items_errors c.args.rules.now (c.loop-item.element + 1) (drop (c.loop-item.item-index + 1) c.args.rules.now.items)) (c.is_item_clean.ensures.after c.if-not-is_item_clean.false)
          ∙ sym (ap (λ (es : List LocalError). es ++ items_errors c.args.rules.now (c.loop-item.element + 1) (drop (c.loop-item.item-index + 1) c.args.rules.now.items) (after_front (c.loop-item.element + 1) rest)) (c.is_item_clean.ensures.clean c.if-not-is_item_clean.false))
          ∙ items-step c.args.rules.now c.loop-item.element c.rules.inside.items.now c.loop-item.item-index _ rest (ap (λ (r : SegmentRules). r.items) c.rules.view_is) c.loop-item-test.true
          ∙ c.loop-item.invariant.same;
      number = omega arith;
      one = record { kinds = c.loop-item.invariant.one.kinds ∙ c.is_item_clean.ensures.one.kinds; octets = c.loop-item.invariant.one.octets ∙ c.is_item_clean.ensures.one.octets };
    }

pub returns-clause-clean : goal.returns-clause-clean
returns-clause-clean c passed =
    sym c.loop-item.invariant.same
    ∙ sym (items-end c.args.rules.now c.loop-item.element c.rules.inside.items.now c.loop-item.item-index (looked_left c.loop-item.rest) (ap (λ (r : SegmentRules). r.items) c.rules.view_is) c.loop-item-test.false)
    ∙ ap (surplus_elements c.loop-item.element) (c.is_at_end.ensures.left passed)

pub returns-clause-single : goal.returns-clause-single
returns-clause-single c passed =
    let one = c.loop-item.invariant.one in
    ap (λ (kinds : OctetKinds). are_single (components_of kinds.separators c.args.fields.octets.now)) one.kinds
    ∙ ap (λ (octets : List ℕ). are_single (components_of c.loop-item.rest.kinds.now.separators octets)) one.octets
    ∙ c.is_at_end.ensures.single passed
