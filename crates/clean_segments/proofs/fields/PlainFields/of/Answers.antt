use Rattle.std.proofs.Common.{sym, ◌∙◌}
use Rattle.seg_lexer.proofs.RepeatLemmas.{components-single}
use Rattle.clean_segments.specs.Plain.{plain_left}
use Rattle.clean_segments.proofs.PlainLemmas.{from-first}
use Rattle.clean_segments.proofs.fields.PlainFields.of.Goals as goal

pub returns-clause-components : goal.returns-clause-components
unfolding plain_left
returns-clause-components c = from-first c.args.separators c.args.octets.now

pub returns-clause-single : goal.returns-clause-single
returns-clause-single c =
    components-single c.args.separators c.args.octets.now (sym c.has_separator.ensures ∙ c.if-has_separator.false)
