use Rattle.std.proofs.Common.{ap, length, not, ◌∙◌}
use Rattle.seg_lexer.specs.Fields.{is_separator}
use Rattle.seg_lexer.proofs.RepeatLemmas.{components-single}
use Rattle.clean_segments.proofs.KindLemmas.{unrepeating}
use Rattle.clean_segments.proofs.LookedLemmas.{all-passed}
use Rattle.clean_segments.proofs.PlainLemmas.{none-any}
use Rattle.clean_segments.proofs.looked.LookedFields.is_at_end.Goals as goal

pub returns-clause-single : goal.returns-clause-single
returns-clause-single c ended =
    let f = c.args.self.now in
    let sp = f.kinds.now.separators in
    let passed = all-passed sp f.kinds.now.level f.octets.now f.next (c.is_none.ensures ∙ ap not ended) f.passed in
    components-single sp f.octets.now
    (none-any (is_separator sp.repetition) f.octets.now (unrepeating sp f.kinds.now.level f.octets.now (length f.octets.now) passed))
