use Rattle.std.proofs.Common.{◌≡◌, ℕ, ◌+◌, ◌<◌, ◌≤◌, ◌∙◌, List, None, Some, ap, drop, length, sym, take, arith}
use Rattle.std.specs.List.{slice_get}
use Rattle.std.specs.Option.{option_copied, option_map}
use Rattle.segment_records.specs.Look.{seen_of}
use Rattle.segment_records.specs.Records.{Kept}
use Rattle.segment_records.specs.WalkedSegments.{kept_in, mode_left, seen_in}
use Rattle.segment_records.specs.declared.mode.Mode.TheVariants.{Outside}
use Rattle.segment_records.proofs.Walking.{first_filled, first_within}
use Rattle.kept_text.proofs.Batches.{batch_is, none_here, past_none, seen_at_hand, stretch_here}
use Rattle.kept_text.proofs.Begun.{few_kept}
use Rattle.kept_text.specs.Passing.{Passing}
use Rattle.std.proofs.lemmas.Option.{slice_get_within}
use Rattle.kept_text.proofs.passing.PassingSegments.at_hand.Goals as goal
use Rattle.kept_text.proofs.passing.PassingSegments.at_hand.Goals.{In_ok-record}

-- the record at hand is in the batch
there : (c : In_ok-record) → slice_get c.self.inside.batch.items c.self.inside.place ≡ Some c.in_ok-record.record.now
there c =
    ap (λ (xs : List Kept). slice_get xs c.self.inside.place) (sym c.deref.ensures.value)
    ∙ sym c.record_at.ensures ∙ ap option_copied c.in_ok-record.was

-- and there are no more segments than octets
few : (c : In_ok-record) → c.self.inside.begun + c.self.inside.place + 1 ≤ 4194304
few c =
    let it = c.self.invariant in
    let inside = it.inside in
    let kept : List Kept = kept_in c.self.inside.directory.now c.self.inside.text.now in
    let k : ℕ = c.self.inside.begun + c.self.inside.place in
    let x : Kept = c.in_ok-record.record.now in
    let at : slice_get kept k ≡ Some x = batch_is c.self.inside it c.self.inside.place x (there c) (omega arith) in
    let within : k < length kept = slice_get_within kept k x at in
    let count = few_kept c.self.inside.directory.now c.self.inside.text.now in
    let short = it.short in
    omega arith

pub returns-in_err-record : goal.returns-in_err-record
returns-in_err-record c =
    let none = ap (λ (xs : List Kept). slice_get xs c.self.inside.place) (sym c.deref.ensures.value)
    ∙ sym c.record_at.ensures ∙ ap option_copied c.in_err-record.was in
    ap (option_map seen_of) c.from_residual.ensures
    ∙ sym (none_here c.self.inside c.self.invariant (past_none c.self.inside.batch.items c.self.inside.place none))
    ∙ ap (λ (r : Passing). slice_get (seen_in r.directory r.text) r.passed) c.self.view_is

pub overflow_add-result : goal.overflow_add-result
overflow_add-result c = let most = few (goal.at.overflow_add-result c).In_ok-record in omega arith

pub overflow_cast-result : goal.overflow_cast-result
overflow_cast-result c = let most = few (goal.at.overflow_cast-result c).In_ok-record in omega arith

pub overflow_add-result-2 : goal.overflow_add-result-2
overflow_add-result-2 c = let most = few (goal.at.overflow_add-result-2 c).In_ok-record in omega arith

pub overflow_cast-result-2 : goal.overflow_cast-result-2
overflow_cast-result-2 c =
    let it = stretch_here c.self.inside c.self.invariant c.in_ok-record.record.now (there (goal.at.overflow_cast-result-2 c).In_ok-record) in
    let within = it.within in
    omega arith

pub invariant_of-result : goal.invariant_of-result
invariant_of-result c =
    let p = c.self.inside in
    let x = c.in_ok-record.record.now in
    let it = stretch_here p c.self.invariant x (there (goal.at.invariant_of-result c).In_ok-record) in
    let rest = drop (p.begun + p.place + 1) (kept_in p.directory.now p.text.now) in
    let numbers : 1 + (p.begun + p.place) ≤ p.from + 1 = it.numbered in
    let numbered : p.begun + p.place + 1 ≤ p.from + 1 = omega arith in
    record {
      filled = first_filled (1 + (p.begun + p.place)) p.from x rest it;
      within = first_within (1 + (p.begun + p.place)) p.from x rest it;
      numbered = numbered;
    }

pub returns : goal.returns
returns c =
    let p = c.self.inside in
    seen_at_hand p c.self.invariant c.in_ok-record.record.now (option_copied c.record_at-2.result) c.mode_before.result.now
    (there (goal.at.returns c).In_ok-record)
    (c.record_at-2.ensures ∙ ap (λ (xs : List Kept). slice_get xs (p.place + 1)) c.deref-2.ensures.value)
    (c.mode_before.ensures ∙ sym (ap (λ (r : Passing). mode_left Outside (take r.passed (kept_in r.directory r.text))) c.self.view_is))
    ∙ ap (λ (r : Passing). slice_get (seen_in r.directory r.text) r.passed) c.self.view_is
