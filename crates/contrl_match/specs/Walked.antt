-- For bodies: what is seen of the steps of a walk over an acknowledgement, and what each step answers.
use Rattle.std.specs.Prelude.{ℕ, ◌≡◌, ◌<◌, ◌==◌, true, not, List, [], ◌∷◌, Option, Some, None, Result, Err, codes, slice_get, if◌then◌else◌}
use Rattle.std.specs.Option.{ForSome, option_and_then, option_map}
use Rattle.edi_tables.specs.Rows.{has_name}
use Rattle.edi_tables.specs.declared.tag.Tag.{Tag}
use Rattle.edi_octets.specs.declared.octets.Octets.{Ghosts}
use Rattle.seg_lexer.specs.Fields.{Component}
use Rattle.seg_lexer.specs.Left.{components_left}
use Rattle.seg_lexer.specs.declared.components.Fields.{Fields}
use Rattle.contrl_segments.specs.declared.summary.Summary.{Summary}
use Rattle.segment_records.specs.Segments.{Segment, value_in}
use Rattle.contrl_match.specs.Match.{found_by, is_answer, uci_in}
use Rattle.contrl_match.specs.Spots.{Spot, group_named, message_named, segment_placed}
use Rattle.contrl_match.specs.Telling.{Site, Values, answer_told, detail_told, first_lost, position_told, site_in, told_of}
use Rattle.contrl_match.specs.declared.finding.Finding.{Finding}
use Rattle.contrl_match.specs.declared.finding.Where.TheVariants as level
use Rattle.contrl_match.specs.declared.spot.Spot.{Spot as ReadSpot}
use Rattle.contrl_match.specs.declared.stop.MatchStop.{MatchStop}
use Rattle.contrl_match.specs.declared.stop.MatchStop.TheVariants.{Other}
use Rattle.contrl_match.specs.declared.told.Told.{Told}
use Rattle.contrl_match.specs.declared.told.Told.TheVariants.{Lost, Nothing, Found}
use Rattle.contrl_match.specs.declared.values.Site.{Site as ReadSite}

-- a number that isn't zero
abbrev pub unless_zero : Option ℕ → Option ℕ
unless_zero number = elim number [ None ↦ None | Some n ↦ if n == 0 then None else Some n ]

-- the element and the component that were read
abbrev pub site_seen : ReadSite → Site
site_seen site = record { element = site.element; component = site.component }

-- the group, the message and the segment that a walk has come to
abbrev pub spot_seen : ReadSpot → Spot
spot_seen spot = record {
  group = spot.group;
  message = option_map (λ m. m.now) spot.message;
  segment = spot.segment;
}

-- what a segment finds; none where it leads to no place
abbrev pub told_seen : Told → Option (List Finding)
told_seen Lost = None
told_seen Nothing = Some []
told_seen (Found finding) = Some (finding ∷ [])

-- the components of a segment, if there is one
abbrev pub components_seen : {O : Type 0} {o : Ghosts O} → Option (Fields O o) → List Component
components_seen None = []
components_seen (Some components) = components_left components

-- the place that S011 names in this element is small
abbrev pub HasSmallSite : Values → ℕ → Type 0
HasSmallSite values element =
    ForSome (site_in values element) (λ site. (site.element < 1000) × (site.component < 1000))

-- so it is in each segment that has one
pub record HasSmallSites (tag : Option Tag) (values : Values) : Type 0 where
  pub uci : has_name (codes "UCI") tag ≡ true → HasSmallSite values 7
  pub ucf : has_name (codes "UCF") tag ≡ true → HasSmallSite values 7
  pub ucm : has_name (codes "UCM") tag ≡ true → HasSmallSite values 6
  pub ucd : has_name (codes "UCD") tag ≡ true → HasSmallSite values 2

-- and in each of these segments
abbrev pub AreSitesSmall : List Segment → Type 0
AreSitesSmall segments =
    (k : ℕ) → ForSome (slice_get segments k) (λ x. HasSmallSites x.tag (value_in x.components))

-- what a UCF finds: by the group that it names
abbrev pub group_told : Summary → Values → Option (List Finding)
group_told s values =
    option_and_then (λ p. answer_told level.Group 5 p.1.first values) (group_named s.groups (values 1 1))

-- what a UCM finds: by the message that it names, in the group that a walk has come to
abbrev pub message_told : Summary → Spot → Values → Option (List Finding)
message_told s spot values =
    option_and_then (λ m. answer_told level.Message 4 m.first values)
    (message_named s.messages spot.group (values 1 1))

-- what a UCS finds: by the position that it names, in the message that a walk has come to
abbrev pub segment_told : Spot → Values → Option (List Finding)
segment_told spot values =
    option_map (position_told values) (option_and_then (segment_placed (values 1 1)) spot.message)

-- what a UCD finds: at the segment that a walk has come to
abbrev pub place_told : Spot → Values → Option (List Finding)
place_told spot values = option_and_then (detail_told values) spot.segment

-- a segment was answered so: with what it finds, and the spot after it
pub record IsTold (told : Told) (after : ReadSpot) (found : Option (List Finding)) (spot : Spot) : Type 0 where
  pub finds : told_seen told ≡ found
  pub next : spot_seen after ≡ spot

-- what a reply finds that has no errors and is a CONTRL message
abbrev pub answered_by : Summary → List Segment → Result (List Finding) MatchStop
answered_by s segments =
    if not (is_answer s.opening (value_in (uci_in segments))) then Err Other
    else found_by (told_of s segments) (first_lost (told_of s segments))
