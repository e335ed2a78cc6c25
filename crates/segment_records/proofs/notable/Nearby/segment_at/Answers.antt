use Rattle.std.proofs.Common.{◌≡◌, ◌+◌, ◌-◌, ◌≤◌, take, drop, refl, sym, ◌∙◌, arith}
use Rattle.std.specs.Prelude.{slice_get}
use Rattle.std.specs.Option.{option_copied}
use Rattle.segment_records.specs.WalkedSegments.{mode_left, octets_in}
use Rattle.segment_records.proofs.Skipping.{made_alike, octets_next, place_short, seen_get, stretches_at_place}
use Rattle.segment_records.proofs.Walking.{first_filled, first_within}
use Rattle.segment_records.proofs.notable.Nearby.segment_at.Goals as goal

pub overflow_cast-result : goal.overflow_cast-result
overflow_cast-result g c =
    let near = c.args.self.now in
    let short = place_short near.from near.records.now c.args.place near.stretches (omega arith) in omega arith

pub overflow_add-result : goal.overflow_add-result
overflow_add-result g c =
    let near = c.args.self.now in
    let short = place_short near.from near.records.now c.args.place near.stretches (omega arith) in omega arith

pub overflow_sub-result : goal.overflow_sub-result
overflow_sub-result g c =
    let next = octets_next c.args.self.now.records.now c.args.place c.record_at-record.result.now c.record_at-record.ensures.is in
    omega (arith, c.from.ensures, c.octets.ensures)

pub invariant_of-result : goal.invariant_of-result
invariant_of-result g c =
    let near = c.args.self.now in
    let kept = c.record_at-record.result.now in
    let at = c.record_at-record.ensures.is in
    let next = octets_next near.records.now c.args.place kept at in
    let it = stretches_at_place near.from near.records.now c.args.place kept near.stretches at in
    let rest = drop (c.args.place + 1) near.records.now in
    let start = near.from + octets_in (take c.args.place near.records.now) in
    let inside = first_within (1 + c.args.place) start kept rest it in
    let numbers : 1 + c.args.place ≤ start + 1 = it.numbered in
    let place : c.args.end - c.from.result ≡ octets_in (take c.args.place near.records.now) = omega (arith, c.from.ensures, c.octets.ensures) in
    let within : near.from + (c.args.end - c.from.result) + kept.octets ≤ 4194304 = omega arith in
    let numbered : c.args.place + 1 ≤ near.from + (c.args.end - c.from.result) + 1 = omega arith in
    record { filled = first_filled (1 + c.args.place) start kept rest it; within = within; numbered = numbered }

pub returns-clause-is : goal.returns-clause-is
returns-clause-is g c =
    let near = c.args.self.now in
    let records = near.records.now in
    let kept = c.record_at-record.result.now in
    let at = c.record_at-record.ensures.is in
    let next = octets_next records c.args.place kept at in
    let place : octets_in (take c.args.place records) ≡ c.args.end - c.from.result = omega (arith, c.from.ensures, c.octets.ensures) in
    seen_get 1 near.from near.before.now records c.args.place kept at
    ∙ made_alike (1 + c.args.place) (c.args.place + 1) (near.from + octets_in (take c.args.place records)) (near.from + (c.args.end - c.from.result))
    (mode_left near.before.now (take c.args.place records)) c.mode_before-before.result.now kept kept
    (slice_get records (c.args.place + 1)) (option_copied c.record_after-next.result)
    (omega arith) (omega arith) (sym c.mode_before-before.ensures.is) refl (sym c.record_after-next.ensures.is)
