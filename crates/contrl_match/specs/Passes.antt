-- For bodies: what the segments of an acknowledgement lead to and find, as a walk comes to them one after the other.
use Rattle.std.specs.Prelude.{List, [], ◌∷◌, Option, None, codes, if◌then◌else◌}
use Rattle.std.specs.Option.{option_and_then, option_map}
use Rattle.edi_tables.specs.Rows.{has_name}
use Rattle.edi_tables.specs.declared.tag.Tag.{Tag}
use Rattle.contrl_segments.specs.declared.summary.Summary.{Summary}
use Rattle.segment_records.specs.Segments.{Segment, value_in}
use Rattle.contrl_match.specs.Spots.{Spot, group_named, message_named, segment_placed}
use Rattle.contrl_match.specs.Telling.{Values, told_with}
use Rattle.contrl_match.specs.declared.finding.Finding.{Finding}

-- before the first segment
abbrev pub first_spot : Spot
first_spot = record { group = None; message = None; segment = None }

-- what the next segment is about, after one with this tag and these values: a UCF takes the group anew, a UCM the
-- message, a UCS the segment, each by what it is about itself
abbrev pub spot_after : Summary → Spot → Option Tag → Values → Spot
spot_after s spot tag values =
    if has_name (codes "UCF") tag
    then record spot { group = option_map (λ p. p.0) (group_named s.groups (values 1 1)) }
    else if has_name (codes "UCM") tag
    then record spot { message = message_named s.messages spot.group (values 1 1) }
    else if has_name (codes "UCS") tag
    then record spot { segment = option_and_then (segment_placed (values 1 1)) spot.message }
    else spot

-- what segments find, one after the other, from such a spot on
unfoldable pub told_from : Summary → Spot → List Segment → List (Option (List Finding))
told_from s spot [] = []
told_from s spot (x ∷ xs) =
    told_with s spot x.tag (value_in x.components)
    ∷ told_from s (spot_after s spot x.tag (value_in x.components)) xs
