use Rattle.std.proofs.Common.{false, sym, ap, ◌∙◌}
use Rattle.edi_tables.specs.declared.segment.ItemDef.{ItemDef}
use Rattle.element_check.specs.Streams.{front_values, item_errors}
use Rattle.element_check.proofs.StreamLemmas.{next_value}
use Rattle.clean_segments.specs.Looked.{looked_left}
use Rattle.clean_segments.proofs.LookLemmas.{alone-clean, front-none}
use Rattle.clean_segments.proofs.look.is_item_clean.Goals as goal

pub returns-then-is_part_clean-clause-clean : goal.returns-then-is_part_clean-clause-clean
returns-then-is_part_clean-clause-clean c passed =
    let next = next_value (λ octets. octets.now) c.in-Ok.value (front_values c.args.element (looked_left c.args.fields.now)) (front_values c.args.element (looked_left c.take.new.self)) c.in-Ok.ensures.value in
    ap (λ (i : ItemDef). item_errors c.args.rules.now c.args.element i (front_values c.args.element (looked_left c.args.fields.now))) c.in-Alone.is
    ∙ alone-clean c.args.rules.now c.args.element c.in-Alone.part _ _ _ next (c.is_part_clean.ensures c.args.element 0 false c.if-is_part_clean.true) (c.is_past.ensures passed)

pub returns-then-is_part_clean-clause-after : goal.returns-then-is_part_clean-clause-after
returns-then-is_part_clean-clause-after c passed = sym (front-none c.args.element _ (c.is_past.ensures passed)) ∙ c.in-Ok.ensures.after
