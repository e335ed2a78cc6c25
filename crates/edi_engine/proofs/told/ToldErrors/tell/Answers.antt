use Rattle.std.proofs.Common.{◌++◌, ◌∙◌, ap, sym}
use Rattle.std.proofs.lemmas.List.{append-nil}
use Rattle.segment_records.specs.Look.{seen_of}
use Rattle.segment_records.proofs.NotableLaws.{quiet_lines}
use Rattle.edi_engine.proofs.told.ToldErrors.tell.Goals as goal

pub returns-then-not-is_notable-clause-lines : goal.returns-then-not-is_notable-clause-lines
returns-then-not-is_notable-clause-lines c =
    let told = c.args.self.now.lines.items in
    let quiet = quiet_lines c.args.directory.now (seen_of c.args.seen.now) c.requires (sym c.is_notable.ensures ∙ c.if-not-is_notable.true) in
    sym (append-nil told) ∙ ap (λ lines. told ++ lines) (sym quiet)
