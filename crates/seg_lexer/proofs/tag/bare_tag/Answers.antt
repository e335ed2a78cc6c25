use Rattle.std.proofs.Common.{sym, ◌∙◌, refl}
use Rattle.seg_lexer.proofs.BareTagLemmas.{bare-tag}
use Rattle.seg_lexer.proofs.tag.bare_tag.Goals as goal

pub returns-then-is_bare-3 : goal.returns-then-is_bare-3
returns-then-is_bare-3 c segment long is =
    bare-tag c.args.separators.now c.args.part.now segment c.args.len c.in-len3-up.len_at_least
    (c.if-is_bare.ensures refl) (c.if-is_bare-2.ensures refl) (c.if-is_bare-3.ensures refl)
    (sym c.is_tag.ensures ∙ c.if-not-is_tag.false) (λ x later. c.if-not-ends_tag_field.ensures.next x later refl) (c.if-not-ends_tag_field.ensures.last refl) long is
