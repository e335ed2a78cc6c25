use Rattle.std.proofs.Common.{ap, length, ◌∙◌, arith}
use Rattle.seg_lexer.specs.Fields.{is_separator}
use Rattle.seg_lexer.specs.Released.{is_release}
use Rattle.clean_segments.specs.Plain.{plain_left}
use Rattle.clean_segments.specs.Start.{plain_rest}
use Rattle.clean_segments.proofs.PlainLemmas.{none-at, plain-last, plain-next}
use Rattle.clean_segments.proofs.fields.PlainFields.take_from.Goals as goal

pub returns-in-None : goal.returns-in-None
unfolding plain_left
returns-in-None c =
    let f = c.args.self.now in
    ap (plain_rest f.separators f.octets.now) c.requires
    ∙ plain-last f.separators f.octets.now (length f.octets.now) (omega arith)
    (none-at (is_release f.separators.release) f.octets.now f.plain) (none-at (is_separator f.separators.repetition) f.octets.now f.single)
    c.args.start (f.here c.args.start c.requires).within (omega arith) c.in-None.ensures

pub returns-in-Some : goal.returns-in-Some
unfolding plain_left
returns-in-Some c =
    let f = c.args.self.now in
    ap (plain_rest f.separators f.octets.now) c.requires
    ∙ plain-next f.separators f.octets.now (length f.octets.now) (omega arith)
    (none-at (is_release f.separators.release) f.octets.now f.plain) (none-at (is_separator f.separators.repetition) f.octets.now f.single)
    c.args.start c.in-Some.end c.in-Some.ensures.0.high c.in-Some.ensures.0 c.past.result c.past.ensures.element c.past.ensures.component c.in-Some.ensures.1
