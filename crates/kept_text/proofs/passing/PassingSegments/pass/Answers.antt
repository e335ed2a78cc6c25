use Rattle.std.proofs.Common.{◌≡◌, ◌+◌, ◌-◌, ◌<◌, ◌≤◌, ◌∙◌, ℕ, Some, ap, drop, get_or, length, sym, subst, take, arith}
use Rattle.std.specs.List.{slice_get}
use Rattle.segment_records.specs.Count.{segment_count_of}
use Rattle.segment_records.specs.Records.{IsModeOf, records_from}
use Rattle.segment_records.specs.WalkedSegments.{kept_in, mode_left, octets_in}
use Rattle.segment_records.specs.declared.mode.Mode.{Mode}
use Rattle.segment_records.specs.declared.mode.Mode.TheVariants.{Outside}
use Rattle.kept_text.proofs.Batches.{at_hand_within, belongs_next, boundary_next_here, found_at, from_next, mode_next, records_next_here, short_next, within_next}
use Rattle.kept_text.proofs.Begun.{few_kept, usable_by}
use Rattle.kept_text.specs.Passing.{Passing}
use Rattle.kept_text.proofs.passing.PassingSegments.pass.Goals as goal
use Rattle.kept_text.proofs.passing.PassingSegments.pass.Goals.{After-octets}

-- the segment at hand is in the batch
inside : (c : After-octets) → c.self.inside.place < length c.self.inside.batch.items
inside c =
    at_hand_within c.self.inside c.self.invariant
    (subst (λ (r : Passing). r.passed < segment_count_of r.text) (sym c.self.view_is) c.requires)

there : (c : After-octets) → slice_get c.self.inside.batch.items c.self.inside.place ≡ Some c.index-record.result.now
there c = found_at c.self.inside.batch.items c.self.inside.place c.index-record.result.now (inside c) c.index-record.ensures

-- the boundary after it
from_is : (c : After-octets) → c.self.inside.from + c.index-record.result.now.octets ≡ c.self.inside.from + c.octets.result
from_is c = ap (λ (n : ℕ). c.self.inside.from + n) (sym c.octets.ensures)

pub index-record-requires : goal.index-record-requires
index-record-requires c =
    let inside = at_hand_within c.self.inside c.self.invariant
    (subst (λ (r : Passing). r.passed < segment_count_of r.text) (sym c.self.view_is) c.requires) in
    omega arith

pub overflow_add-from : goal.overflow_add-from
overflow_add-from c =
    let short = short_next c.self.inside c.self.invariant c.index-record.result.now (there c) in
    let same = from_is c in
    omega arith

pub invariant_of-self : goal.invariant_of-self
invariant_of-self c =
    let p = c.self.inside in
    let it = c.self.invariant in
    let at = there (goal.at.invariant_of-self c).After-octets in
    let x = c.index-record.result.now in
    let next : p.begun + p.place + 1 ≡ p.begun + (p.place + 1) = omega arith in
    let within = within_next p it x at in
    record {
      lawful = it.lawful;
      short = it.short;
      context = it.context;
      clean = it.clean;
      known = it.known;
      outside = it.outside;
      inside = omega (arith, c.if-self-lt-BATCH.true);
      within = omega arith;
      from = sym (from_is (goal.at.invariant_of-self c).After-octets) ∙ from_next p it x at
          ∙ ap (λ (n : ℕ). p.context.service.body + octets_in (take n (kept_in p.directory.now p.text.now))) next;
      last = it.last;
      batch = it.batch;
    }

pub read_batch_uncounted-requires-clause-usable : goal.read_batch_uncounted-requires-clause-usable
read_batch_uncounted-requires-clause-usable c = usable_by c.self.inside.text.now c.self.inside.context c.self.invariant.context

pub read_batch_uncounted-requires-clause-boundary : goal.read_batch_uncounted-requires-clause-boundary
read_batch_uncounted-requires-clause-boundary c =
    let here = (goal.at.read_batch_uncounted-requires-clause-boundary c).After-octets in
    let boundary = boundary_next_here c.self.inside c.self.invariant c.index-record.result.now (there here) in
    (boundary.0, boundary.1 ∙ ap Some (from_is here))

pub read_batch_uncounted-requires-clause-mode : goal.read_batch_uncounted-requires-clause-mode
read_batch_uncounted-requires-clause-mode c =
    let here = (goal.at.read_batch_uncounted-requires-clause-mode c).After-octets in
    subst (λ (n : ℕ). IsModeOf c.self.inside.directory.now n c.mode.result.now) (from_is here)
    (subst (IsModeOf c.self.inside.directory.now (c.self.inside.from + c.index-record.result.now.octets)) (sym c.mode.ensures)
    (belongs_next c.self.inside c.self.invariant c.index-record.result.now (there here)))

pub swap_remove-requires : goal.swap_remove-requires
swap_remove-requires c =
    let low = inside (goal.at.swap_remove-requires c).After-octets in
    let same = ap (λ v. length v.items) c.replace-passed.ensures.value in
    omega arith

pub overflow_add-self-2 : goal.overflow_add-self-2
overflow_add-self-2 c =
    let few = few_kept c.self.inside.directory.now c.self.inside.text.now in
    let it = c.self.invariant in
    let within = it.within in
    let short = it.short in
    omega arith

pub invariant_of-self-2 : goal.invariant_of-self-2
invariant_of-self-2 c =
    let p = c.self.inside in
    let it = c.self.invariant in
    let here = (goal.at.invariant_of-self-2 c).After-octets in
    let at = there here in
    let x = c.index-record.result.now in
    let low = it.inside in
    let full = c.if-self-lt-BATCH.false in
    let next : p.begun + p.place + 1 ≡ p.begun + 128 = omega arith in
    let next_place : p.begun + p.place + 1 ≡ p.begun + 128 + 0 = omega arith in
    let within = within_next p it x at in
    let y = c.swap_remove.result in
    let taken : y ≡ get_or p.batch.items p.place y =
    c.swap_remove.ensures.value ∙ ap (λ v. get_or v.items p.place y) c.replace-passed.ensures.value in
    record {
      lawful = it.lawful;
      short = it.short;
      context = it.context;
      clean = c.read_batch_uncounted.ensures.clean;
      known = c.read_batch_uncounted.ensures.known;
      outside = it.outside;
      inside = omega arith;
      within = omega arith;
      from = sym (from_is here) ∙ from_next p it x at
          ∙ ap (λ (n : ℕ). p.context.service.body + octets_in (take n (kept_in p.directory.now p.text.now))) next_place;
      last = mode_next p it y (found_at p.batch.items p.place y (inside here) taken)
          ∙ ap (λ (n : ℕ). mode_left Outside (take n (kept_in p.directory.now p.text.now))) next;
      batch = ap (λ v. v.items) c.replace-passed.ensures.after ∙ c.in_ok-next.ensures.records
          ∙ ap (λ (m : Mode). take 129 (records_from p.directory.now p.context m (drop (p.from + c.octets.result) p.text.now))) c.mode.ensures
          ∙ ap (λ (n : ℕ). take 129 (records_from p.directory.now p.context x.step.after (drop n p.text.now))) (sym (from_is here))
          ∙ ap (take 129) (records_next_here p it x at)
          ∙ ap (λ (n : ℕ). take 129 (drop n (kept_in p.directory.now p.text.now))) next;
    }
