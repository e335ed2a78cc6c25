-- The acknowledgement of an interchange: a CONTRL message, and the interchange that it is sent in.
use Rattle.std.specs.Prelude.{ℕ, ◌+◌, ◌==◌, Bool, false, List, [], ◌∷◌, ◌++◌, length, filter, take, Option, Some, None}
use Rattle.std.specs.List.{enumerate_from, flat_map}
use Rattle.edi_tables.specs.Octets.{Octets}
use Rattle.error_ledger.specs.declared.error.ErrorLine.{ErrorLine}
use Rattle.contrl_writer.specs.declared.answer.Contrl.{Contrl}
use Rattle.contrl_writer.specs.declared.answer.Contrl.TheVariants as answers
use Rattle.contrl_writer.specs.declared.level.Levelled.{Levelled}
use Rattle.contrl_segments.specs.declared.stamp.Stamp.{Stamp}
use Rattle.contrl_segments.specs.declared.summary.GroupHead.{GroupHead}
use Rattle.contrl_segments.specs.declared.summary.MessageHead.{MessageHead}
use Rattle.contrl_segments.specs.declared.summary.Opening.{Opening}
use Rattle.contrl_segments.specs.declared.summary.Opening.TheVariants.{NoUnb, BadUnb, Good}
use Rattle.contrl_segments.specs.declared.summary.Summary.{Summary}
use Rattle.contrl_writer.specs.Levels.{first_error, group_errors, interchange_errors, levelled, message_errors}
use Rattle.contrl_writer.specs.Report.{report}
use Rattle.contrl_segments.specs.Service.{acknowledged, rejected, ucf, syntax_identifier, uci, unb, unh, unt, unz}
use Rattle.contrl_segments.specs.Written.{Segment, contrl_text}

-- the report of a message, where it has an error
abbrev pub report_where : MessageHead → List Levelled → List Segment
report_where m [] = []
report_where m (x ∷ xs) = report m (x ∷ xs)

-- the reports of those messages that have an error at message level, in order
abbrev pub reports_of : List Levelled → List MessageHead → List Segment
reports_of errors messages = flat_map (λ m. report_where m (message_errors m errors)) messages

-- the group that a message is in, if it is in one, is group i
abbrev pub is_member : ℕ → Option ℕ → Bool
is_member i None = false
is_member i (Some j) = j == i

-- the messages of group i
abbrev pub members_of : ℕ → List MessageHead → List MessageHead
members_of i messages = filter (λ m. is_member i m.group) messages

-- the answer to a group: rejected for its first error at group level; else acknowledged, with the reports of its
-- messages, where there are any
abbrev pub group_answer : GroupHead → Option ErrorLine → List Segment → List Segment
group_answer g (Some e) reports = ucf g rejected (Some e) ∷ []
group_answer g None [] = []
group_answer g None (r ∷ rs) = ucf g acknowledged None ∷ r ∷ rs

-- the answer to a group, which is given with its number, in a text with these errors and messages
abbrev pub group_answers : List Levelled → List MessageHead → ℕ × GroupHead → List Segment
group_answers errors messages p =
    group_answer p.1 (first_error (group_errors p.1 errors)) (reports_of errors (members_of p.0 messages))

-- all that can be reported below an interchange that is acknowledged: in a text without groups the reports of its
-- messages, else the answers to its groups
abbrev pub lower_segments : List Levelled → List MessageHead → List GroupHead → List Segment
lower_segments errors messages [] = reports_of errors messages
lower_segments errors messages (g ∷ gs) = flat_map (group_answers errors messages) (enumerate_from 0 (g ∷ gs))

-- the answer to an interchange: rejected for its first error at interchange level; else acknowledged, with the first
-- 99,000 lower segments
abbrev pub interchange_answer : (Octets → Option ErrorLine → Segment) → Option ErrorLine → List Segment → List Segment
interchange_answer told (Some e) lower = told rejected (Some e) ∷ []
interchange_answer told None lower = told acknowledged None ∷ take 99000 lower

-- a message with these segments between its UNH and its UNT
abbrev pub message_of : List Segment → List Segment
message_of body = unh ∷ body ++ unt (length body + 2) ∷ []

-- the segments of the acknowledgement of an interchange that is opened so; none where its UNB is missing or bad
abbrev pub contrl_for : Opening → Summary → Stamp → Octets → List Segment
contrl_for NoUnb s stamp own = []
contrl_for BadUnb s stamp own = []
contrl_for (Good level version sender recipient reference) s stamp own =
    let errors = levelled s in
    let first = first_error (interchange_errors errors) in
    let body = interchange_answer (uci sender recipient reference) first (lower_segments errors s.messages s.groups) in
    unb (syntax_identifier level version) sender recipient stamp own ∷ message_of body ++ unz own ∷ []

-- the segments of the acknowledgement of a summary, with a stamp and a reference of its own
unfoldable pub contrl_of : Summary → Stamp → Octets → List Segment
contrl_of s stamp own = contrl_for s.opening s stamp own

-- what is answered: that the UNB is missing, or bad, or the octets of these segments
abbrev pub answer_by : Opening → List Segment → Contrl
answer_by NoUnb segments = answers.NoUnb
answer_by BadUnb segments = answers.BadUnb
answer_by (Good level version sender recipient reference) segments = answers.Octets (contrl_text segments)

-- the answer to a summary: its acknowledgement, if its UNB is neither missing nor bad
abbrev pub answer_to : Summary → Stamp → Octets → Contrl
answer_to s stamp own = answer_by s.opening (contrl_of s stamp own)
