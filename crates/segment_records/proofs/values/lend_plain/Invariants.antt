use Rattle.std.proofs.Common.{◌≡◌, length}
use Rattle.seg_lexer.specs.Fields.{octets_at}
use Rattle.clean_segments.specs.Plain.{plain_left}
use Rattle.segment_records.proofs.values.lend_plain.Given as goal

-- what is left has the value that there was
abbrev pub invariant-loop-found : goal.invariant-loop-found
invariant-loop-found l =
    octets_at l.element l.component (plain_left l.left) ≡ octets_at l.element l.component (plain_left l.components)

abbrev pub decreases-loop-found : goal.decreases-loop-found
decreases-loop-found l = length (plain_left l.left)
