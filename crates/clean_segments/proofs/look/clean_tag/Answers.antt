use Rattle.std.proofs.Common.{◌≡◌, true, sym, ap, ◌∙◌}
use Rattle.seg_lexer.specs.Fields.{are_single, components_of, separators_of}
use Rattle.seg_lexer.specs.declared.context.Context.{Context}
use Rattle.seg_lexer.specs.declared.service.Separators.{Separators}
use Rattle.seg_lexer.proofs.OrderLemmas.{components_of-in_order}
use Rattle.element_check.specs.Streams.{after_front, front_values, items_errors}
use Rattle.element_check.proofs.RulesLemmas.{rules_of-context, rules_of-few, rules_of-repeatable}
use Rattle.clean_segments.specs.Looked.{looked_left}
use Rattle.clean_segments.specs.declared.kinds.OctetKinds.{OctetKinds}
use Rattle.clean_segments.proofs.LookLemmas.{none-wrong, tagged}
use Rattle.clean_segments.proofs.look.clean_tag.Goals as goal
use Rattle.clean_segments.proofs.look.clean_tag.Goals.{Then-are_elements_clean}

pub are_elements_clean-requires-clause-short : goal.are_elements_clean-requires-clause-short
are_elements_clean-requires-clause-short c =
    rules_of-few c.args.directory.now c.args.context.now c.in_ok-tag.tag.octets c.in_ok-rules.rules c.in_ok-rules.ensures.lawful c.in_ok-rules.ensures.rules

pub are_elements_clean-requires-clause-level : goal.are_elements_clean-requires-clause-level
are_elements_clean-requires-clause-level c =
    ap (λ (kinds : OctetKinds). kinds.level) (sym c.in_ok-tag.ensures.one.kinds ∙ c.of-fields.ensures.kinds)
    ∙ c.are_by.ensures.level c.if-not-are_by.false
    ∙ sym (ap (λ (context : Context). context.level) (rules_of-context c.args.directory.now c.args.context.now c.in_ok-tag.tag.octets c.in_ok-rules.rules c.in_ok-rules.ensures.rules))

module _ (c : Then-are_elements_clean) where
  separators : c.args.kinds.now.separators ≡ separators_of c.args.context.now.service
  separators = c.are_by.ensures.separators c.if-not-are_by.false

  all : looked_left c.of-fields.result ≡ components_of (separators_of c.args.context.now.service) c.args.octets.now
  all = c.of-fields.ensures.left ∙ ap (λ (sp : Separators). components_of sp c.args.octets.now) separators

  single : are_single (components_of (separators_of c.args.context.now.service) c.args.octets.now) ≡ true
  single =
      sym (ap (λ (sp : Separators). are_single (components_of sp c.args.octets.now)) separators)
      ∙ ap (λ (kinds : OctetKinds). are_single (components_of kinds.separators c.args.octets.now)) (sym c.of-fields.ensures.kinds ∙ c.in_ok-tag.ensures.one.kinds)
      ∙ ap (λ octets. are_single (components_of c.take_tag.new.self.kinds.now.separators octets)) (sym c.of-fields.ensures.octets ∙ c.in_ok-tag.ensures.one.octets)
      ∙ c.are_elements_clean.ensures.single c.if-are_elements_clean.true

pub returns-then-are_elements_clean-clause-tag : goal.returns-then-are_elements_clean-clause-tag
returns-then-are_elements_clean-clause-tag c =
    tagged _ c.in_ok-tag.tag.octets (components_of-in_order (separators_of c.args.context.now.service) c.args.octets.now) (single c)
    (sym (ap (front_values 0) (all c)) ∙ c.in_ok-tag.ensures.field) c.in_ok-tag.ensures.tag

pub returns-then-are_elements_clean-clause-clean : goal.returns-then-are_elements_clean-clause-clean
returns-then-are_elements_clean-clause-clean c =
    none-wrong c.args.directory.now c.args.context.now _ c.in_ok-tag.tag.octets c.in_ok-rules.rules
    (components_of-in_order (separators_of c.args.context.now.service) c.args.octets.now) (single c)
    (rules_of-repeatable c.args.directory.now c.args.context.now c.in_ok-tag.tag.octets c.in_ok-rules.rules c.in_ok-rules.ensures.lawful c.in_ok-rules.ensures.rules)
    (returns-then-are_elements_clean-clause-tag c) (sym c.in_ok-rules.ensures.rules)
    (sym (ap (items_errors c.in_ok-rules.rules 0 c.in_ok-rules.rules.items) (c.in_ok-tag.ensures.after ∙ ap (after_front 0) (all c)))
    ∙ c.are_elements_clean.ensures.clean c.if-are_elements_clean.true)
