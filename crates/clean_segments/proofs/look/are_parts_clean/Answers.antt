use Rattle.std.proofs.Common.{◌≡◌, ◌+◌, ◌-◌, ℕ, drop, length, sym, take, ap, ◌∙◌, arith}
use Rattle.element_check.specs.Streams.{front_values, part_rules, parts_errors}
use Rattle.element_check.proofs.StreamLemmas.{next_value}
use Rattle.clean_segments.specs.Looked.{looked_left}
use Rattle.clean_segments.proofs.LookLemmas.{front-none, parts-begun, parts-later, parts-past}
use Rattle.clean_segments.proofs.look.are_parts_clean.Goals as goal

pub loop-part-preserved : goal.loop-part-preserved
loop-part-preserved c =
    let i = c.loop-part.part-index in
    let later = take (length c.args.parts.now - 1) (drop 1 c.args.parts.now) in
    let next = next_value (λ octets. octets.now) c.in-Ok.value (front_values c.args.element (looked_left c.loop-part.fields)) (front_values c.args.element (looked_left c.take.new.self)) c.in-Ok.ensures.value in
    let number : i + 1 + 2 ≡ i + 2 + 1 = omega arith in
    record {
      same = λ named.
          ap (λ (n : ℕ). parts_errors (part_rules c.args.rules.now named) c.args.element n (drop (i + 1) later) (front_values c.args.element (looked_left c.take.new.self))) number
          ∙ parts-later c.args.rules.now c.args.element (i + 2) named later i _ _ _ _ c.loop-part-test.true next (c.is_part_clean-in-loop-part.ensures c.args.element (i + 2) named c.if-not-is_part_clean-2.false)
          ∙ c.loop-part.invariant.same named;
      after = c.in-Ok.ensures.after ∙ c.loop-part.invariant.after;
      one = record { kinds = c.loop-part.invariant.one.kinds ∙ c.in-Ok.ensures.one.kinds; octets = c.loop-part.invariant.one.octets ∙ c.in-Ok.ensures.one.octets };
    }

pub returns-clause-clean : goal.returns-clause-clean
returns-clause-clean c named passed =
    parts-begun c.args.rules.now c.args.element named c.args.parts.now _ c.args.first.now _ c.in-len1-up.len_at_least (c.is_part_clean.ensures c.args.element 1 named c.if-not-is_part_clean.false)
    (sym (c.loop-part.invariant.same named)
    ∙ parts-past c.args.rules.now c.args.element (c.loop-part.part-index + 2) named _ c.loop-part.part-index _ c.loop-part-test.false (c.is_past.ensures passed))

pub returns-clause-after : goal.returns-clause-after
returns-clause-after c passed = sym (front-none c.args.element _ (c.is_past.ensures passed)) ∙ c.loop-part.invariant.after
