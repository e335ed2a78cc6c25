use Rattle.std.proofs.Common.{◌≡◌, length}
use Rattle.std.specs.Option.{option_copied, option_or}
use Rattle.seg_lexer.specs.Fields.{octets_at}
use Rattle.clean_segments.specs.Plain.{plain_left}
use Rattle.segment_records.proofs.values.find_plain_names.Given as goal

-- what was found so far, or else what is left, is what there was
abbrev pub invariant-loop-found : goal.invariant-loop-found
invariant-loop-found l = record {
  reference : option_or (option_copied l.reference) (octets_at 1 1 (plain_left l.left)) ≡ octets_at 1 1 (plain_left l.components);
  message : option_or (option_copied l.message) (octets_at 2 1 (plain_left l.left)) ≡ octets_at 2 1 (plain_left l.components);
  version : option_or (option_copied l.version) (octets_at 2 2 (plain_left l.left)) ≡ octets_at 2 2 (plain_left l.components);
  release : option_or (option_copied l.release) (octets_at 2 3 (plain_left l.left)) ≡ octets_at 2 3 (plain_left l.components);
  agency : option_or (option_copied l.agency) (octets_at 2 4 (plain_left l.left)) ≡ octets_at 2 4 (plain_left l.components);
}

abbrev pub decreases-loop-found : goal.decreases-loop-found
decreases-loop-found l = length (plain_left l.left)
