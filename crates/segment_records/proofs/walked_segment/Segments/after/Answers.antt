use Rattle.std.proofs.Common.{◌≡◌, ℕ, ◌+◌, take, drop, sym, ap, ◌∙◌, subst, arith}
use Rattle.std.specs.Option.{option_copied}
use Rattle.segment_records.specs.WalkedSegments.{AreStretches, left_of, mode_left, octets_in, seen_from}
use Rattle.segment_records.specs.declared.mode.Mode.{Mode}
use Rattle.segment_records.proofs.Skipping.{place_short, seen_drop, stretches_drop}
use Rattle.segment_records.proofs.Walking.{left_after, none_after}
use Rattle.segment_records.proofs.walked_segment.Segments.after.Goals as goal

pub overflow_cast-result : goal.overflow_cast-result
overflow_cast-result c =
    let short = place_short c.args.from c.args.records.now c.args.count c.requires.stretches c.requires.within in omega arith

pub overflow_add-result : goal.overflow_add-result
overflow_add-result c =
    let short = place_short c.args.from c.args.records.now c.args.count c.requires.stretches c.requires.within in omega arith

pub invariant_of-result : goal.invariant_of-result
invariant_of-result c =
    let records = c.args.records.now in
    let count = c.args.count in
    let old = c.iter_from-rest.result in
    let new = c.next-current.new.self in
    let left : left_of (option_copied c.next-current.result) new ≡ drop count records =
    left_after old new c.next-current.result c.next-current.ensures.steps ∙ c.iter_from-rest.ensures in
    let number : 1 + count ≡ count + 1 = omega arith in
    record {
      none = none_after old new c.next-current.result c.next-current.ensures.steps;
      stretches =
          subst (AreStretches (count + 1) (c.args.from + c.octets_before-octets.result)) (sym left)
          (subst (λ (n : ℕ). AreStretches (count + 1) (c.args.from + n) (drop count records)) (sym c.octets_before-octets.ensures)
          (subst (λ (n : ℕ). AreStretches n (c.args.from + octets_in (take count records)) (drop count records)) number
          (stretches_drop 1 c.args.from records count c.requires.within c.requires.stretches)));
    }

pub returns : goal.returns
returns c =
    let records = c.args.records.now in
    let count = c.args.count in
    let from = c.args.from in
    let old = c.iter_from-rest.result in
    let new = c.next-current.new.self in
    let octets = c.octets_before-octets.result in
    let left : left_of (option_copied c.next-current.result) new ≡ drop count records =
    left_after old new c.next-current.result c.next-current.ensures.steps ∙ c.iter_from-rest.ensures in
    let number : count + 1 ≡ 1 + count = omega arith in
    ap (seen_from (count + 1) (from + octets) c.mode_after-before.result.now) left
    ∙ ap (λ (m : Mode). seen_from (count + 1) (from + octets) m (drop count records)) c.mode_after-before.ensures
    ∙ ap (λ (n : ℕ). seen_from (count + 1) (from + n) (mode_left c.args.before.now (take count records)) (drop count records)) c.octets_before-octets.ensures
    ∙ ap (λ (n : ℕ). seen_from n (from + octets_in (take count records)) (mode_left c.args.before.now (take count records)) (drop count records)) number
    ∙ seen_drop 1 from c.args.before.now records count c.requires.within
