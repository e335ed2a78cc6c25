use Rattle.std.proofs.Common.{◌≡◌, ℕ, ◌+◌, ◌-◌, ◌<◌, ◌≤◌, false, true, List, ◌∷◌, length, take, drop, sum_by, sym, ap, ◌∙◌, arith}
use Rattle.std.specs.Prelude.{filter, slice_get}
use Rattle.std.proofs.lemmas.Option.{slice_get_within}
use Rattle.segment_records.specs.Bounds.{bounds_message}
use Rattle.segment_records.specs.Look.{seen_of}
use Rattle.segment_records.specs.Notable.{is_notable, marks_of}
use Rattle.segment_records.specs.WalkedSegments.{SeenSegment, seen_from}
use Rattle.segment_records.proofs.Skipping.{octets_next, place_short, rank_after, sum_by_next, take_before, take_last, take_marked, take_none}
use Rattle.segment_records.proofs.notable.NotableSegments.next_counted.Goals as goal
use Rattle.segment_records.proofs.notable.NotableSegments.next_counted.Goals.{else-marked-self-via-then-marked-self+else-bounds_message, else-marked-self-via-else-marked-self}

first_part : (one two : List SeenSegment × ℕ) → one ≡ two → one.0 ≡ two.0
first_part one two same = ap (λ (w : List SeenSegment × ℕ). w.0) same

pub returns-then-self-len-clause-end : goal.returns-then-self-len-clause-end
returns-then-self-len-clause-end g c =
    let s = c.self.inside in
    let none = first_part _ _ (sym c.self.view_is) ∙ take_none s.from s.before.now s.records.now s.done (omega arith) in (none, none)

pub returns-then-self-marks-clause-next : goal.returns-then-self-marks-clause-next
returns-then-self-marks-clause-next g c =
    let s = c.self.inside in
    let seen = seen_of c.segment_at.result in
    let q : ℕ = c.len-self-inside.result - 1 in
    let all : List SeenSegment = seen_from 1 s.from s.before.now s.records.now in
    let within = c.self.invariant.within in
    let last : q + 1 ≡ length s.records.now = omega arith in
    let end : q + 1 ≡ c.len-self-inside.result = omega arith in
    let low : s.done ≤ q = omega arith in
    let same : sum_by marks_of s.records.now ≡ sum_by marks_of (take s.done s.records.now) =
    sym c.marks.ensures ∙ sym c.if-self-marks.true ∙ c.self.invariant.marked in
    first_part _ _ (sym c.self.view_is)
    ∙ take_last s.from s.before.now s.records.now s.done q seen low last same c.segment_at.ensures.is
    ∙ ap (λ (n : ℕ). seen ∷ filter is_notable (drop n all)) end

pub returns-then-bounds_message-clause-next : goal.returns-then-bounds_message-clause-next
returns-then-bounds_message-clause-next g c =
    let s = c.self.inside in
    let marked = c.find-marked.result in
    let seen = seen_of c.segment_at-then-bounds_message.result in
    let q : ℕ = marked.place - 1 in
    let all : List SeenSegment = seen_from 1 s.from s.before.now s.records.now in
    let place : q + 1 ≡ marked.place = omega arith in
    let low : s.done ≤ q = omega arith in
    let bounds : bounds_message marked.item.now.tag ≡ true =
    ap bounds_message (sym c.tag.ensures) ∙ sym c.bounds_message.ensures ∙ c.if-bounds_message.true in
    let same : sum_by marks_of (take (q + 1) s.records.now) ≡ sum_by marks_of (take s.done s.records.now) =
    ap (λ (n : ℕ). sum_by marks_of (take n s.records.now)) place ∙ (rw c.self.invariant.way at c.find-marked.ensures.rank) ∙ c.self.invariant.marked in
    first_part _ _ (sym c.self.view_is)
    ∙ take_before s.from s.before.now s.records.now s.done q marked.item.now seen low
    (ap (slice_get s.records.now) place ∙ (rw c.self.invariant.way at c.find-marked.ensures.is)) bounds same c.segment_at-then-bounds_message.ensures.is
    ∙ ap (λ (n : ℕ). seen ∷ filter is_notable (drop n all)) place

pub overflow_add-self : goal.overflow_add-self
overflow_add-self g c =
    let s = c.self.inside in
    let within = slice_get_within s.records.now c.find-marked.result.place c.find-marked.result.item.now (rw c.self.invariant.way at c.find-marked.ensures.is) in
    let short = place_short s.from s.records.now c.find-marked.result.place c.self.invariant.stretches (omega arith) in omega arith

pub segment_at-requires-2-clause-end : goal.segment_at-requires-2-clause-end
segment_at-requires-2-clause-end g c =
    let next = octets_next c.self.inside.records.now c.find-marked.result.place c.find-marked.result.item.now (rw c.self.invariant.way at c.find-marked.ensures.is) in
    omega (arith, c.from.ensures, c.octets.ensures, (rw c.self.invariant.way at c.find-marked.ensures.before))

pub invariant_of-self-2 : goal.invariant_of-self-2
invariant_of-self-2 g c =
    let s = c.self.inside in
    let marked = c.find-marked.result in
    let at = (rw c.self.invariant.way at c.find-marked.ensures.is) in
    let within = slice_get_within s.records.now marked.place marked.item.now at in
    let next = sum_by_next marks_of s.records.now marked.place marked.item.now at in
    record {
      within = omega arith;
      marked = omega (arith, (rw c.self.invariant.way at c.find-marked.ensures.rank), c.find-marked.ensures.marked);
      stretches = c.self.invariant.stretches;
      way = c.find-marked.ensures.same ∙ c.self.invariant.way;
      behind = omega (arith, c.find-marked.ensures.behind);
    }

pub returns-clause-next : goal.returns-clause-next
returns-clause-next g c =
    let s = c.self.inside in
    let marked = c.find-marked.result in
    let at = (rw c.self.invariant.way at c.find-marked.ensures.is) in
    let one = c.find-marked.ensures.marked in
    let seen = seen_of c.segment_at-2.result in
    let same : sum_by marks_of (take marked.place s.records.now) ≡ sum_by marks_of (take s.done s.records.now) =
    (rw c.self.invariant.way at c.find-marked.ensures.rank) ∙ c.self.invariant.marked in
    let inside : s.done < marked.place → bounds_message marked.item.now.tag ≡ false =
    elim c.else-marked-self.branch [
      | else-marked-self-via-then-marked-self+else-bounds_message w ↦
          λ less. ap bounds_message (sym w.tag.ensures) ∙ sym w.bounds_message.ensures ∙ w.if-bounds_message.false
      | else-marked-self-via-else-marked-self w ↦ λ less. absurd (omega arith)
    ] in
    let low = rank_after s.from s.before.now s.records.now s.done marked.place marked.item.now at one same in
    first_part _ _ (sym c.self.view_is)
    ∙ take_marked s.from s.before.now s.records.now s.done marked.place marked.item.now seen low at one inside same c.segment_at-2.ensures.is
