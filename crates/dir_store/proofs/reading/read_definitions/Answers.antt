use Rattle.std.proofs.Common.{◌≡◌, List, Ok, sym, subst}
use Rattle.std.specs.Prelude.{codes}
use Rattle.edi_tables.specs.Ascending.{IsAscendingBy}
use Rattle.edi_tables.specs.declared.element.ElementDef.{ElementDef}
use Rattle.edi_tables.specs.declared.element.CompositeDef.{CompositeDef}
use Rattle.edi_tables.specs.declared.segment.SegmentDef.{SegmentDef}
use Rattle.dir_compile.specs.Compile.{element_name, composite_name, segment_name}
use Rattle.dir_store.specs.Store.{section_at, composite_at, segment_at}
use Rattle.dir_store.proofs.KnownLemmas.{elements-order, composites-order, segments-order, none-order}
use Rattle.dir_store.proofs.reading.read_definitions.Goals as goal

pub invariant_of-known-2 : goal.invariant_of-known-2
invariant_of-known-2 c = record {
  elements_ascend = subst (λ (xs : List ElementDef). IsAscendingBy element_name xs) (sym c.deref-known.ensures.value) (elements-order _ c.in_ok-elements.elements.items _ c.in_ok-elements.ensures);
  composites_ascend = none-order composite_name;
  segments_ascend = none-order segment_name;
}

pub invariant_of-known-3 : goal.invariant_of-known-3
invariant_of-known-3 c =
    let read = subst (λ (es : List ElementDef). section_at (codes "C") (composite_at es) c.in_ok-lists.rest.now ≡ Ok (c.in_ok-composites.composites.items, c.in_ok-composites.rest.now)) c.deref-known.ensures.value c.in_ok-composites.ensures in
    record {
      elements_ascend = subst (λ (xs : List ElementDef). IsAscendingBy element_name xs) (sym c.deref-known.ensures.value) (elements-order _ c.in_ok-elements.elements.items _ c.in_ok-elements.ensures);
      composites_ascend = subst (λ (xs : List CompositeDef). IsAscendingBy composite_name xs) (sym c.deref-known-2.ensures.value) (composites-order _ _ c.in_ok-elements.elements.items _ c.in_ok-composites.composites.items _ c.in_ok-elements.ensures read);
      segments_ascend = none-order segment_name;
    }

pub invariant_of-known-4 : goal.invariant_of-known-4
invariant_of-known-4 c =
    let read = subst (λ (es : List ElementDef). section_at (codes "C") (composite_at es) c.in_ok-lists.rest.now ≡ Ok (c.in_ok-composites.composites.items, c.in_ok-composites.rest.now)) c.deref-known.ensures.value c.in_ok-composites.ensures in
    let one = subst (λ (es : List ElementDef). section_at (codes "S") (segment_at c.args.version es c.deref-known-2.result.now) c.in_ok-composites.rest.now ≡ Ok (c.in_ok-segments.segments.items, c.in_ok-segments.rest.now)) c.deref-known.ensures.value c.in_ok-segments.ensures in
    let two = subst (λ (cs : List CompositeDef). section_at (codes "S") (segment_at c.args.version c.in_ok-elements.elements.items cs) c.in_ok-composites.rest.now ≡ Ok (c.in_ok-segments.segments.items, c.in_ok-segments.rest.now)) c.deref-known-2.ensures.value one in
    record {
      elements_ascend = subst (λ (xs : List ElementDef). IsAscendingBy element_name xs) (sym c.deref-known.ensures.value) (elements-order _ c.in_ok-elements.elements.items _ c.in_ok-elements.ensures);
      composites_ascend = subst (λ (xs : List CompositeDef). IsAscendingBy composite_name xs) (sym c.deref-known-2.ensures.value) (composites-order _ _ c.in_ok-elements.elements.items _ c.in_ok-composites.composites.items _ c.in_ok-elements.ensures read);
      segments_ascend = subst (λ (xs : List SegmentDef). IsAscendingBy segment_name xs) (sym c.deref-known-3.ensures.value) (segments-order _ _ _ c.in_ok-elements.elements.items _ c.in_ok-composites.composites.items c.in_ok-segments.segments.items _ c.in_ok-elements.ensures two);
    }
