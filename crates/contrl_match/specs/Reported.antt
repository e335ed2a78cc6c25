-- What an acknowledgement reports of a text, by the summary of the text alone.
use Rattle.std.specs.Prelude.{ℕ, ◌||◌, Bool, List, [], ◌∷◌, ◌++◌, Option, Some, None, filter, map, if◌then◌else◌}
use Rattle.std.specs.List.{enumerate_from, flat_map}
use Rattle.error_ledger.specs.declared.error.ErrorLine.{ErrorLine}
use Rattle.error_ledger.specs.Kinds.{is_of_element, is_of_segment}
use Rattle.contrl_writer.specs.declared.level.Levelled.{Levelled}
use Rattle.contrl_segments.specs.Details.{code_told, has_position, tag_told}
use Rattle.contrl_segments.specs.declared.summary.GroupHead.{GroupHead}
use Rattle.contrl_segments.specs.declared.summary.MessageHead.{MessageHead}
use Rattle.contrl_segments.specs.declared.summary.Summary.{Summary}
use Rattle.contrl_writer.specs.Contrl.{members_of}
use Rattle.contrl_writer.specs.Levels.{first_error, group_errors, interchange_errors, levelled, message_errors}
use Rattle.contrl_writer.specs.Report.{whole_errors}
use Rattle.contrl_match.specs.Telling.{Site, finding_at}
use Rattle.contrl_match.specs.declared.finding.Finding.{Finding}
use Rattle.contrl_match.specs.declared.finding.Where.{Where}
use Rattle.contrl_match.specs.declared.finding.Where.TheVariants as level

-- the place of an error in its segment, where an acknowledgement tells it
abbrev pub site_of : ErrorLine → Site
site_of e =
    if has_position e then record { element = e.element; component = e.component }
    else record { element = 0; component = 0 }

-- the finding of an error of the interchange, of a group or of a message as a whole
abbrev pub whole_finding : Where → ℕ → ErrorLine → Finding
whole_finding level segment e = finding_at level segment (tag_told e.kind e.tag) (code_told e) (site_of e)

-- the finding of the first such error, where there is one
abbrev pub first_finding : Where → ℕ → Option ErrorLine → List Finding
first_finding level segment None = []
first_finding level segment (Some e) = whole_finding level segment e ∷ []

-- the finding of an error at a segment of a message
abbrev pub part_finding : Levelled → Finding
part_finding x = finding_at level.Segment x.error.segment [] (code_told x.error) (site_of x.error)

-- an error of a segment as a whole, or of an element
abbrev pub is_part : Levelled → Bool
is_part x = is_of_segment x.error.kind || is_of_element x.error.kind

-- of a message with these errors: the first of the message as a whole, and then each of its segments
abbrev pub message_findings : MessageHead → List Levelled → List Finding
message_findings m errors =
    first_finding level.Message m.first (first_error (whole_errors errors)) ++ map part_finding (filter is_part errors)

-- of messages, one after the other
abbrev pub messages_findings : List Levelled → List MessageHead → List Finding
messages_findings errors messages = flat_map (λ m. message_findings m (message_errors m errors)) messages

-- of a group with this first error at group level: that error alone; or, where it has none, these findings
abbrev pub group_findings : GroupHead → Option ErrorLine → List Finding → List Finding
group_findings g (Some e) findings = whole_finding level.Group g.first e ∷ []
group_findings g None findings = findings

-- of a group: its first error at group level alone, or else what is found in its messages
abbrev pub findings_in : List Levelled → List MessageHead → ℕ × GroupHead → List Finding
findings_in errors messages p =
    group_findings p.1 (first_error (group_errors p.1 errors)) (messages_findings errors (members_of p.0 messages))

-- below the interchange: of each group, or in a text without groups of each message
abbrev pub lower_findings : List Levelled → List MessageHead → List GroupHead → List Finding
lower_findings errors messages [] = messages_findings errors messages
lower_findings errors messages (g ∷ gs) = flat_map (findings_in errors messages) (enumerate_from 0 (g ∷ gs))

-- of an interchange: its first error at interchange level alone, or else what is found below it
abbrev pub interchange_findings : Option ErrorLine → List Finding → List Finding
interchange_findings (Some e) findings = whole_finding level.Interchange 0 e ∷ []
interchange_findings None findings = findings

-- what the acknowledgement of a text with this summary reports
unfoldable pub reported : Summary → List Finding
reported s =
    interchange_findings (first_error (interchange_errors (levelled s)))
    (lower_findings (levelled s) s.messages s.groups)
