use Rattle.std.proofs.Common.{ℕ, ◌+◌, List, sym, subst}
use Rattle.std.specs.Option.{option_copied}
use Rattle.segment_records.specs.Records.{Kept}
use Rattle.segment_records.specs.WalkedSegments.{AreStretches, left_of}
use Rattle.segment_records.proofs.Walking.{left_after, none_after, stretches_at, stretches_next}
use Rattle.segment_records.proofs.walked_segment.SegmentsIterator.next.Goals as goal

pub invariant_of-self : goal.invariant_of-self
invariant_of-self c =
    let kept = c.in_ok-record.record.now in
    let old = c.self.inside.rest in
    let now = stretches_at c.self.inside.number c.self.inside.from c.self.inside.current old c.in_ok-record.record c.in_ok-record.was c.self.invariant.stretches in
    record {
      none = none_after old c.next-next.new.self c.next-next.result c.next-next.ensures.steps;
      stretches = subst (λ (n : ℕ). AreStretches (c.self.inside.number + 1) (c.self.inside.from + n) (left_of (option_copied c.next-next.result) c.next-next.new.self)) (sym c.octets.ensures)
          (subst (λ (rest : List Kept). AreStretches (c.self.inside.number + 1) (c.self.inside.from + kept.octets) rest)
          (sym (left_after old c.next-next.new.self c.next-next.result c.next-next.ensures.steps))
          (stretches_next c.self.inside.number c.self.inside.from kept old now));
    }
