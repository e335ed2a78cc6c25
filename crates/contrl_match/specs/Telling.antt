-- What the segments of an acknowledgement find in the text that it answers.
use Rattle.std.specs.Prelude.{ℕ, ◌+◌, ◌-◌, not, List, [], ◌∷◌, Option, Some, find, is_some, map, unwrap_or, codes, if◌then◌else◌}
use Rattle.std.specs.List.{enumerate_from, flat_map}
use Rattle.std.specs.Option.{option_and_then, option_map}
use Rattle.edi_tables.specs.Octets.{Octets}
use Rattle.edi_tables.specs.Rows.{has_name}
use Rattle.edi_tables.specs.declared.tag.Tag.{Tag}
use Rattle.contrl_segments.specs.Written.{is_empty_value}
use Rattle.contrl_segments.specs.declared.summary.Summary.{Summary}
use Rattle.segment_records.specs.Segments.{Segment, value_in}
use Rattle.contrl_match.specs.Spots.{Spot, group_named, message_named, number_named, segment_placed, spot_at}
use Rattle.contrl_match.specs.declared.finding.Finding.{Finding}
use Rattle.contrl_match.specs.declared.finding.Where.{Where}
use Rattle.contrl_match.specs.declared.finding.Where.TheVariants as level

-- the values of a segment, by the numbers of element and component
abbrev pub Values : Type 0
Values = ℕ → ℕ → Octets

-- an element and a component, each 0 where it isn't named
pub record Site : Type 0 where
  pub element : ℕ
  pub component : ℕ

-- a number that may be left out; 0 then
abbrev pub number_or_none : Octets → Option ℕ
number_or_none value = if is_empty_value value then Some 0 else number_named value

-- the place that S011 names in this element: 0098 counts the tag field, so the element is one less, and 0104 is the
-- component; none where either is filled and no number
abbrev pub site_in : Values → ℕ → Option Site
site_in values element =
    option_and_then (λ position. option_map (λ component. record { element = position - 1; component = component })
    (number_or_none (values element 2))) (number_or_none (values element 1))

-- a finding of this level at a segment: the tag and the code that it names, and the element and the component
abbrev pub finding_at : Where → ℕ → Octets → Octets → Site → Finding
finding_at level segment tag code site = record {
  level = level;
  segment = segment;
  tag = tag;
  element = site.element;
  component = site.component;
  code = code;
}

-- a finding, where a code says what is wrong
abbrev pub when_filled : Octets → Finding → List Finding
when_filled code finding = if is_empty_value code then [] else finding ∷ []

-- what is found by 0085, 0013 and S011, which are this element and the next two
abbrev pub answer_told : Where → ℕ → ℕ → Values → Option (List Finding)
answer_told level element segment values =
    option_map (λ site. when_filled (values element 1)
    (finding_at level segment (values (element + 1) 1) (values element 1) site)) (site_in values (element + 2))

-- what is found by a UCS whose position leads to this segment
abbrev pub position_told : Values → ℕ → List Finding
position_told values segment =
    when_filled (values 2 1) (finding_at level.Segment segment [] (values 2 1) (record { element = 0; component = 0 }))

-- what is found by a UCD below such a UCS
abbrev pub detail_told : Values → ℕ → Option (List Finding)
detail_told values segment =
    option_map (λ site. finding_at level.Segment segment [] (values 1 1) site ∷ []) (site_in values 2)

-- what a segment finds after those before it, by its tag and values; none where it leads to no place of the text
abbrev pub told_with : Summary → Spot → Option Tag → Values → Option (List Finding)
told_with s spot tag values =
    if has_name (codes "UCI") tag then answer_told level.Interchange 5 0 values
    else if has_name (codes "UCF") tag
    then option_and_then (λ p. answer_told level.Group 5 p.1.first values) (group_named s.groups (values 1 1))
    else if has_name (codes "UCM") tag
    then option_and_then (λ m. answer_told level.Message 4 m.first values)
    (message_named s.messages spot.group (values 1 1))
    else if has_name (codes "UCS") tag
    then option_map (position_told values) (option_and_then (segment_placed (values 1 1)) spot.message)
    else if has_name (codes "UCD") tag then option_and_then (detail_told values) spot.segment
    else Some []

-- what a segment finds at its place among the others, by what those before it lead to
abbrev pub told_at : Summary → List Segment → ℕ × Segment → Option (List Finding)
told_at s segments p = told_with s (spot_at s segments p.0) p.1.tag (value_in p.1.components)

-- what each segment finds, in order
unfoldable pub told_of : Summary → List Segment → List (Option (List Finding))
told_of s segments = map (told_at s segments) (enumerate_from 0 segments)

-- the number of the first that leads to no place, from 1
abbrev pub first_lost : List (Option (List Finding)) → Option ℕ
first_lost told = option_map (λ p. p.0) (find (λ p. not (is_some p.1)) (enumerate_from 1 told))

-- all that is found, in order
abbrev pub all_told : List (Option (List Finding)) → List Finding
all_told told = flat_map (λ one. unwrap_or one []) told
