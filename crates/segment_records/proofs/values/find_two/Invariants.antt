use Rattle.std.proofs.Common.{◌≡◌}
use Rattle.std.specs.Option.{option_map, option_or}
use Rattle.seg_lexer.specs.Fields.{octets_at}
use Rattle.seg_lexer.specs.Left.{components_left}
use Rattle.seg_lexer.specs.Value.{octets_of}
use Rattle.segment_records.proofs.values.find_two.Given as goal

-- what was found so far, or else what is left, is what there was
abbrev pub invariant-loop-found : goal.invariant-loop-found
invariant-loop-found g l = record {
  first : option_or (option_map octets_of l.one) (octets_at l.first.0 l.first.1 (components_left l.found-iterator)) ≡ octets_at l.first.0 l.first.1 (components_left l.components);
  second : option_or (option_map octets_of l.other) (octets_at l.second.0 l.second.1 (components_left l.found-iterator)) ≡ octets_at l.second.0 l.second.1 (components_left l.components);
}
