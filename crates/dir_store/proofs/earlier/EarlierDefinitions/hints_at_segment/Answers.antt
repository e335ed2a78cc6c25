use Rattle.std.proofs.Common.{◌∙◌, ap, sym}
use Rattle.std.specs.Prelude.{is_some}
use Rattle.std.proofs.lemmas.Slice.Eq.{bytes_eq-Decides}
use Rattle.dir_compile.specs.Compile.{segment_name}
use Rattle.dir_store.proofs.SearchLemmas.{named-item}
use Rattle.dir_store.proofs.earlier.EarlierDefinitions.hints_at_segment.Goals as goal

pub returns-in-Some : goal.returns-in-Some
returns-in-Some c = λ same.
    let tag = c.args.tag.octets in
    let named = (bytes_eq-Decides c.in-Some.segment.now.tag.octets tag).0 (sym c.eq.ensures ∙ same) in
    sym (ap is_some (named-item segment_name tag c.args.self.now.segments.now c.of_tag.result c.in-Some.segment c.args.self.now.segments_ascend c.in-Some.ensures.lookup named))
