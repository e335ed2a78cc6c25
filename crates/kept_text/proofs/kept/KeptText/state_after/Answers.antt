use Rattle.std.proofs.Common.{◌≡◌, ◌≤◌, length, ap, ◌∙◌, arith}
use Rattle.segment_records.specs.Messages.{mode_after}
use Rattle.segment_records.specs.Segments.{segments_of_text}
use Rattle.segment_records.specs.Count.{segment_count_of}
use Rattle.kept_text.specs.Reading.{Reading}
use Rattle.kept_text.proofs.Readings.{count_is, mode_is}
use Rattle.kept_text.proofs.kept.KeptText.state_after.Goals as goal

pub mode_after_first-requires : goal.mode_after_first-requires
mode_after_first-requires c =
    let count : length c.self.inside.records ≡ segment_count_of c.args.self.now.text =
    count_is c.self.inside c.self.invariant ∙ ap (λ (r : Reading). segment_count_of r.text) c.self.view_is in
    let few : c.args.k ≤ segment_count_of c.args.self.now.text = c.requires in
    omega arith

pub returns : goal.returns
returns c =
    let count : length c.self.inside.records ≡ segment_count_of c.args.self.now.text =
    count_is c.self.inside c.self.invariant ∙ ap (λ (r : Reading). segment_count_of r.text) c.self.view_is in
    let few : c.args.k ≤ segment_count_of c.args.self.now.text = c.requires in
    c.mode_after_first.ensures
    ∙ mode_is c.self.inside c.self.invariant c.args.k (omega arith)
    ∙ ap (λ (r : Reading). mode_after r.directory (segments_of_text r.text) c.args.k) c.self.view_is
