-- An acknowledgement led back to the text that it answers.
use Rattle.std.specs.Prelude.{ℕ, ◌==◌, ◌&&◌, Bool, false, not, nat_eq, List, [], ◌∷◌, Option, Some, None, Result, Ok, Err, find, length, codes, if◌then◌else◌}
use Rattle.std.specs.Option.{option_eq}
use Rattle.std.specs.Str.{bytes_eq}
use Rattle.edi_tables.specs.Octets.{Octets}
use Rattle.edi_tables.specs.Rows.{has_name}
use Rattle.dir_compile.specs.Directory.{Directory, table_named}
use Rattle.seg_lexer.specs.Fields.{Component}
use Rattle.contrl_segments.specs.declared.summary.GroupHead.{GroupHead}
use Rattle.contrl_segments.specs.declared.summary.MessageHead.{MessageHead}
use Rattle.contrl_segments.specs.declared.summary.Opening.{Opening}
use Rattle.contrl_segments.specs.declared.summary.Opening.TheVariants.{BadUnb, Good, NoUnb}
use Rattle.contrl_segments.specs.declared.summary.Party.{Party}
use Rattle.contrl_segments.specs.declared.summary.Summary.{Summary}
use Rattle.segment_records.specs.Segments.{Segment, segments_of_text, value_in}
use Rattle.text_reading.specs.Summary.{summary_of}
use Rattle.contrl_match.specs.Telling.{Values, all_told, first_lost, told_of}
use Rattle.contrl_match.specs.declared.finding.Finding.{Finding}
use Rattle.contrl_match.specs.declared.stop.MatchStop.{MatchStop}
use Rattle.contrl_match.specs.declared.stop.MatchStop.TheVariants.{NotContrl, Other, Unclean, Unknown}

-- a reply of these groups and messages is one CONTRL message, outside of groups: that message has table 0
abbrev pub is_contrl : Directory → List GroupHead → List MessageHead → Bool
is_contrl dir [] (m ∷ []) =
    option_eq nat_eq (table_named dir m.kind m.version m.release m.agency) (Some 0)
is_contrl dir _ _ = false

-- what the first UCI of the segments of a reply says
abbrev pub uci_in : List Segment → List Component
uci_in segments =
    elim (find (λ segment. has_name (codes "UCI") segment.tag) segments)
    [ None ↦ [] | Some segment ↦ segment.components ]

-- a party is named by three components of this element
abbrev pub is_party : Values → ℕ → Party → Bool
is_party values element party =
    bytes_eq (values element 1) party.id && bytes_eq (values element 2) party.qualifier
    && bytes_eq (values element 3) party.route

-- a UCI of these values answers an interchange that is opened so: it names its reference (0020), its sender (S002) and
-- its recipient (S003)
abbrev pub is_answer : Opening → Values → Bool
is_answer NoUnb values = false
is_answer BadUnb values = false
is_answer (Good level version sender recipient reference) values =
    bytes_eq (values 1 1) reference && is_party values 2 sender && is_party values 3 recipient

-- what is found, or the first segment that leads to no place
abbrev pub found_by : List (Option (List Finding)) → Option ℕ → Result (List Finding) MatchStop
found_by told None = Ok (all_told told)
found_by told (Some k) = Err (Unknown k)

-- what a reply with this summary and these segments finds in a text with that summary, or the first of these that
-- applies: it has errors, it is no CONTRL message, it answers another interchange, a segment leads to no place
abbrev pub match_by : Directory → Summary → Summary → List Segment → Result (List Finding) MatchStop
match_by dir s reply segments =
    if not (length reply.errors == 0) then Err (Unclean (length reply.errors))
    else if not (is_contrl dir reply.groups reply.messages) then Err NotContrl
    else if not (is_answer s.opening (value_in (uci_in segments))) then Err Other
    else found_by (told_of s segments) (first_lost (told_of s segments))

-- what the octets of a reply find in a text, by a directory
unfoldable pub match_of : Directory → Octets → Octets → Result (List Finding) MatchStop
match_of dir text octets = match_by dir (summary_of dir text) (summary_of dir octets) (segments_of_text octets)
