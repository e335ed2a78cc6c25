use Rattle.std.proofs.Common.{◌≡◌, cond, length, None}
use Rattle.std.specs.Option.{option_map}
use Rattle.seg_lexer.specs.Left.{components_left, fields_left}
use Rattle.seg_lexer.specs.Tag.{past_tag_field, tag_field, tag_of}
use Rattle.seg_lexer.proofs.TagLemmas.{all_empty}
use Rattle.seg_lexer.proofs.components.Fields.take_tag.Given as goal

-- the tag, if every further value is empty, and the components of the elements, of which none is taken
abbrev pub invariant-loop-further : goal.invariant-loop-further
invariant-loop-further g l = record {
  tag : tag_of (components_left l.fn.self) ≡ cond (all_empty (tag_field (components_left l.self))) (option_map (λ t. t.octets) l.tag) None;
  rest : past_tag_field (fields_left l.self) ≡ past_tag_field (fields_left l.fn.self);
}

abbrev pub decreases-loop-further : goal.decreases-loop-further
decreases-loop-further g l = length (tag_field (components_left l.self))
