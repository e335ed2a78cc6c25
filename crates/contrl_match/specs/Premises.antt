-- When an acknowledgement tells all that it may tell, and names each group and message apart from the others.
use Rattle.std.specs.Prelude.{ℕ, ◌≡◌, ◌+◌, ◌≤◌, IsTrue, List, [], ◌∷◌, Some, None, All, length, slice_get}
use Rattle.std.specs.List.{enumerate_from, flat_map}
use Rattle.contrl_writer.specs.declared.level.Levelled.{Levelled}
use Rattle.contrl_segments.specs.Details.{is_near}
use Rattle.contrl_segments.specs.declared.summary.GroupHead.{GroupHead}
use Rattle.contrl_segments.specs.declared.summary.MessageHead.{MessageHead}
use Rattle.contrl_segments.specs.declared.summary.Summary.{Summary}
use Rattle.contrl_writer.specs.Contrl.{lower_segments, members_of}
use Rattle.contrl_writer.specs.Levels.{first_error, group_errors, interchange_errors, levelled, message_errors}
use Rattle.contrl_writer.specs.Report.{element_errors, errors_of_position, message_blocks}

-- the report of a message with these errors leaves none out: each is at one of its first 999,999 segments; those of
-- elements are at places of at most three digits, and at most 99 at each segment; and there are at most 999 blocks
pub record IsToldWhole (m : MessageHead) (errors : List Levelled) : Type 0 where
  pub positions : All (λ x. x.error.segment + 1 ≤ m.first + 999999) errors
  pub near : All (λ x. IsTrue (is_near x.error)) (element_errors errors)
  pub details : (position : ℕ) → length (element_errors (errors_of_position m position errors)) ≤ 99
  pub blocks : length (message_blocks m errors) ≤ 999

-- the messages of a group that has no error at group level
abbrev pub members_told : List Levelled → List MessageHead → ℕ × GroupHead → List MessageHead
members_told errors messages p =
    elim (first_error (group_errors p.1 errors)) [ None ↦ members_of p.0 messages | Some e ↦ [] ]

-- the messages whose errors are reported: all of them in a text without groups, else those of groups without an error
-- at group level
abbrev pub messages_told : List Levelled → List MessageHead → List GroupHead → List MessageHead
messages_told errors messages [] = messages
messages_told errors messages (g ∷ gs) = flat_map (members_told errors messages) (enumerate_from 0 (g ∷ gs))

-- below an interchange no limit leaves anything out: there are at most 99,000 segments, and the report of each message
-- whose errors are reported is whole
pub record IsLowerWhole (errors : List Levelled) (messages : List MessageHead) (groups : List GroupHead) : Type 0 where
  pub lower : length (lower_segments errors messages groups) ≤ 99000
  pub reports : All (λ m. IsToldWhole m (message_errors m errors)) (messages_told errors messages groups)

-- no limit of an acknowledgement leaves out an error; where the interchange itself has one, nothing else is reported
abbrev pub IsToldInFull : Summary → Type 0
IsToldInFull s =
    first_error (interchange_errors (levelled s)) ≡ None → IsLowerWhole (levelled s) s.messages s.groups

-- no two functional groups have one reference (0048)
abbrev pub AreGroupsApart : List GroupHead → Type 0
AreGroupsApart groups =
    (i j : ℕ) (g h : GroupHead) → slice_get groups i ≡ Some g → slice_get groups j ≡ Some h
    → g.reference ≡ h.reference → i ≡ j

-- no two messages of one group, or of none, have one reference (0062)
abbrev pub AreMessagesApart : List MessageHead → Type 0
AreMessagesApart messages =
    (i j : ℕ) (m n : MessageHead) → slice_get messages i ≡ Some m → slice_get messages j ≡ Some n
    → m.group ≡ n.group → m.reference ≡ n.reference → i ≡ j
