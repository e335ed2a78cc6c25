use Rattle.std.proofs.Common.{◌≡◌, ◌+◌, ◌-◌, ◌<◌, ◌∙◌, Some, ap, sym, take, arith}
use Rattle.std.proofs.lemmas.Option.{slice_get-get_or, slice_get_within}
use Rattle.segment_records.specs.WalkedSegments.{kept_in, mode_left}
use Rattle.segment_records.specs.declared.mode.Mode.TheVariants.{Outside}
use Rattle.kept_text.proofs.Batches.{batch_at, mode_here}
use Rattle.kept_text.specs.Passing.{Passing}
use Rattle.kept_text.proofs.passing.PassingSegments.mode_before.Goals as goal

pub index-requires : goal.index-requires
index-requires c =
    let it = c.self.invariant in
    let inside = it.inside in
    let within = it.within in
    let some = c.if-self-eq0.false in
    let found = batch_at c.self.inside it (c.self.inside.place - 1) (omega arith) (omega arith) in
    let there = slice_get_within c.self.inside.batch.items (c.self.inside.place - 1) found.0 found.1.0 in
    omega arith

pub returns : goal.returns
returns c =
    let p = c.self.inside in
    let it = c.self.invariant in
    let inside = it.inside in
    let within = it.within in
    let some = c.if-self-eq0.false in
    let found = batch_at p it (p.place - 1) (omega arith) (omega arith) in
    let there = slice_get_within p.batch.items (p.place - 1) found.0 found.1.0 in
    let x = c.index.result.now in
    c.mode.ensures
    ∙ mode_here p it x (omega arith) (slice_get-get_or p.batch.items (p.place - 1) x there ∙ ap Some (sym c.index.ensures))
    ∙ ap (λ (r : Passing). mode_left Outside (take r.passed (kept_in r.directory r.text))) c.self.view_is
