use Rattle.std.proofs.Common.{◌≡◌, ◌∙◌, ap, length, arith}
use Rattle.segment_records.specs.WalkedSegments.{kept_in}
use Rattle.kept_text.specs.Change.{changed_by}
use Rattle.kept_text.specs.Reading.{Reading}
use Rattle.kept_text.proofs.Begun.{few_kept}
use Rattle.kept_text.proofs.kept.KeptText.edited_records.Goals as goal

pub apply-requires-clause-few : goal.apply-requires-clause-few
apply-requires-clause-few g c =
    let r : Reading = c.args.self.now in
    let kept : c.self.inside.records ≡ kept_in r.directory r.text =
    c.self.invariant.records ∙ ap (λ (r : Reading). kept_in r.directory r.text) c.self.view_is in
    let all = ap length (ap (changed_by c.in_ok-change.change) kept ∙ c.in_ok-change.ensures.records) in
    let few = few_kept r.directory c.args.text.now in
    let short = c.requires.short in
    omega arith
