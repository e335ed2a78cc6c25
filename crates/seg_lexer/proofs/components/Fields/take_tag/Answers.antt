use Rattle.std.proofs.Common.{sym, ap, ◌∙◌}
use Rattle.std.specs.Option.{option_map}
use Rattle.edi_tables.specs.declared.tag.Tag.{Tag}
use Rattle.seg_lexer.proofs.OrderLemmas.{components_left-in_order}
use Rattle.seg_lexer.proofs.TagLemmas.{order-past, past-all, tag_of-first, tag_of-none}
use Rattle.seg_lexer.proofs.components.Fields.take_tag.Goals as goal

pub returns-in_err-first-clause-tag : goal.returns-in_err-first-clause-tag
returns-in_err-first-clause-tag g c =
    ap (option_map (λ (t : Tag). t.octets)) c.from_residual.ensures ∙ tag_of-none _ c.in_err-first.ensures.value.0

pub returns-in_err-first-clause-rest : goal.returns-in_err-first-clause-rest
returns-in_err-first-clause-rest g c =
    sym (past-all _ c.in_err-first.ensures.value.1) ∙ c.in_err-first.ensures.elements

pub returns-in_err-first-clause-in_order : goal.returns-in_err-first-clause-in_order
returns-in_err-first-clause-in_order g c =
    order-past _ c.in_err-first.ensures.value.1 (components_left-in_order c.take_tag_value.new.self)

pub loop-further-init : goal.loop-further-init
loop-further-init g c = record {
  tag = tag_of-first _ _ _ _ c.in_ok-first.ensures.value c.tag_in-tag.ensures;
  rest = c.in_ok-first.ensures.elements;
}

pub returns-clause-rest : goal.returns-clause-rest
returns-clause-rest g c =
    sym (past-all _ c.in_default.ensures.value.1) ∙ (c.in_default.ensures.elements ∙ c.loop-further.invariant.rest)

pub returns-clause-in_order : goal.returns-clause-in_order
returns-clause-in_order g c =
    order-past _ c.in_default.ensures.value.1 (components_left-in_order c.take_tag_value-in-loop-further.new.self)
