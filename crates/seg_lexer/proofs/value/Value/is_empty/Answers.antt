use Rattle.std.proofs.Common.{sym, ap, ◌∙◌, arith}
use Rattle.seg_lexer.specs.Released.{is_release}
use Rattle.seg_lexer.specs.Value.{octets_of}
use Rattle.seg_lexer.proofs.StretchLemmas.{empty-none, empty-one, empty-more}
use Rattle.seg_lexer.proofs.value.Value.is_empty.Goals as goal

pub returns-in-0 : goal.returns-in-0
unfolding octets_of
returns-in-0 g c = sym (empty-none c.args.self.now.release (g.O.Octets.octets c.args.self.now.text.now) c.args.self.now.from c.args.self.now.to c.in-0.is)

pub returns-in-1 : goal.returns-in-1
unfolding octets_of
returns-in-1 g c =
    c.is_release.ensures
    ∙ (ap (is_release c.args.self.now.release) c.octet.ensures
    ∙ empty-one c.args.self.now.release (g.O.Octets.octets c.args.self.now.text.now) c.args.self.now.from c.args.self.now.to c.in-1.is c.args.self.now.within)

pub returns-in_default : goal.returns-in_default
unfolding octets_of
returns-in_default g c = sym (empty-more c.args.self.now.release (g.O.Octets.octets c.args.self.now.text.now) c.args.self.now.from c.args.self.now.to (omega arith) c.args.self.now.within)
