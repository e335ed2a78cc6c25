use Rattle.std.proofs.Common.{not, refl, sym, ap, ◌∙◌}
use Rattle.std.specs.List.{list_any}
use Rattle.std.specs.Str.{bytes_eq}
use Rattle.edi_octets.specs.Left.{line_shown}
use Rattle.edi_octets.proofs.HeadLemmas.{head-twice, head-good}
use Rattle.edi_octets.proofs.earlier_names.EarlierNames.read_head.Goals as goal

pub returns-then-not-branch-clause-judged : goal.returns-then-not-branch-clause-judged
returns-then-not-branch-clause-judged g c = λ is_code coded earlier read codes.
    let named = sym c.has_name.ensures ∙ c.if-not-has_name.false in
    let new = c.in_ok-add.ensures.new ∙ ap (λ word. not (list_any (bytes_eq word) c.args.self.now)) c.first_field.ensures in
    let twice = head-twice is_code coded (line_shown c.args.head.now) earlier c.in-Some.code (sym c.in-Some.is ∙ read) named c.args.self.now codes c.in_ok-add.field-0 new c.if-not-branch.true in
    rw (c.breaks-then-not-branch.ensures, twice) refl

pub returns-clause-judged : goal.returns-clause-judged
returns-clause-judged g c = λ is_code coded earlier read codes.
    let named = sym c.has_name.ensures ∙ c.if-not-has_name.false in
    let new = c.in_ok-add.ensures.new ∙ ap (λ word. not (list_any (bytes_eq word) c.args.self.now)) c.first_field.ensures in
    let good = head-good is_code coded (line_shown c.args.head.now) earlier c.in-Some.code (sym c.in-Some.is ∙ read) named c.args.self.now codes c.in_ok-add.field-0 new c.if-not-branch.false in
    rw (good.0, good.1) refl
