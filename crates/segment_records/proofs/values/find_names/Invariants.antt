use Rattle.std.proofs.Common.{◌≡◌}
use Rattle.std.specs.Option.{option_map, option_or}
use Rattle.seg_lexer.specs.Fields.{octets_at}
use Rattle.seg_lexer.specs.Left.{components_left}
use Rattle.seg_lexer.specs.Value.{octets_of}
use Rattle.segment_records.proofs.values.find_names.Given as goal

-- what was found so far, or else what is left, is what there was
abbrev pub invariant-loop-found : goal.invariant-loop-found
invariant-loop-found g l = record {
  message : option_or (option_map octets_of l.message) (octets_at 2 1 (components_left l.found-iterator)) ≡ octets_at 2 1 (components_left l.components);
  version : option_or (option_map octets_of l.version) (octets_at 2 2 (components_left l.found-iterator)) ≡ octets_at 2 2 (components_left l.components);
  release : option_or (option_map octets_of l.release) (octets_at 2 3 (components_left l.found-iterator)) ≡ octets_at 2 3 (components_left l.components);
  agency : option_or (option_map octets_of l.agency) (octets_at 2 4 (components_left l.found-iterator)) ≡ octets_at 2 4 (components_left l.components);
}
