use Rattle.std.proofs.Common.{◌≡◌, length}
use Rattle.std.specs.Option.{option_copied, option_or}
use Rattle.seg_lexer.specs.Fields.{octets_at}
use Rattle.clean_segments.specs.Plain.{plain_left}
use Rattle.segment_records.proofs.values.find_plain_two.Given as goal

-- what was found so far, or else what is left, is what there was
abbrev pub invariant-loop-found : goal.invariant-loop-found
invariant-loop-found l = record {
  first : option_or (option_copied l.one) (octets_at l.first.0 l.first.1 (plain_left l.left)) ≡ octets_at l.first.0 l.first.1 (plain_left l.components);
  second : option_or (option_copied l.other) (octets_at l.second.0 l.second.1 (plain_left l.left)) ≡ octets_at l.second.0 l.second.1 (plain_left l.components);
}

abbrev pub decreases-loop-found : goal.decreases-loop-found
decreases-loop-found l = length (plain_left l.left)
