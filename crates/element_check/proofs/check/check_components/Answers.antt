use Rattle.std.proofs.Common.{◌≡◌, ◌++◌, ◌+◌, ◌<◌, List, length, ap, subst, ◌∙◌, arith}
use Rattle.std.specs.Option.{option_map}
use Rattle.edi_tables.specs.declared.tag.Tag.{Tag}
use Rattle.seg_lexer.specs.Left.{components_left, fields_left}
use Rattle.element_check.specs.Local.{local_errors_of}
use Rattle.element_check.specs.Streams.{errors_past}
use Rattle.element_check.specs.declared.error.LocalError.{LocalError}
use Rattle.element_check.proofs.AscendingLemmas.{told-ascending}
use Rattle.element_check.proofs.BridgeLemmas.{errors-past, past-few}
use Rattle.element_check.proofs.OrderedLemmas.{past-ordered}
use Rattle.element_check.proofs.check.check_components.Goals as goal

pub gather-requires : goal.gather-requires
gather-requires g c = record {
  few = past-few (fields_left c.args.components) (fields_left c.take_tag-tag.new.self) _ c.requires.in_order c.take_tag-tag.ensures.rest c.requires.few;
  ordered = past-ordered c.args.components (fields_left c.take_tag-tag.new.self) c.take_tag-tag.ensures.rest;
}

pub returns-in_err-gather-clause-only_past_four : goal.returns-in_err-gather-clause-only_past_four
returns-in_err-gather-clause-only_past_four g c is_err =
    let octets = option_map (λ (t : Tag). t.octets) c.take_tag-tag.result in
    let past : errors_past c.args.directory.now c.args.context.now (components_left c.take_tag-tag.new.self) octets ≡ local_errors_of c.args.directory.now c.args.context.now (components_left c.args.components) =
    errors-past c.args.directory.now c.args.context.now (fields_left c.args.components) (fields_left c.take_tag-tag.new.self) octets c.requires.in_order c.take_tag-tag.ensures.rest c.take_tag-tag.ensures.tag in
    let full = subst (λ (es : List LocalError). 4 < length es + length (errors_past c.args.directory.now c.args.context.now (components_left c.take_tag-tag.new.self) octets)) c.new-errors.ensures c.in_err-gather.ensures.full in
    subst (λ (es : List LocalError). 4 < length es) past (omega (arith, full))

pub returns-clause-errors : goal.returns-clause-errors
returns-clause-errors g c =
    let octets = option_map (λ (t : Tag). t.octets) c.take_tag-tag.result in
    c.into_list.ensures ∙ c.in_ok-gather.ensures.ok
    ∙ ap (λ (es : List LocalError). es ++ errors_past c.args.directory.now c.args.context.now (components_left c.take_tag-tag.new.self) octets) c.new-errors.ensures
    ∙ errors-past c.args.directory.now c.args.context.now (fields_left c.args.components) (fields_left c.take_tag-tag.new.self) octets c.requires.in_order c.take_tag-tag.ensures.rest c.take_tag-tag.ensures.tag

pub returns-clause-ascending : goal.returns-clause-ascending
returns-clause-ascending g c =
    let octets = option_map (λ (t : Tag). t.octets) c.take_tag-tag.result in
    told-ascending c.args.directory.now c.args.context.now (components_left c.args.components) c.into_list.result.items
    (c.into_list.ensures ∙ c.in_ok-gather.ensures.ok
    ∙ ap (λ (es : List LocalError). es ++ errors_past c.args.directory.now c.args.context.now (components_left c.take_tag-tag.new.self) octets) c.new-errors.ensures
    ∙ errors-past c.args.directory.now c.args.context.now (fields_left c.args.components) (fields_left c.take_tag-tag.new.self) octets c.requires.in_order c.take_tag-tag.ensures.rest c.take_tag-tag.ensures.tag)
