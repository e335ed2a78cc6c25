-- For bodies: what of a summary its acknowledgement is made from.
use Rattle.std.specs.Prelude.{ℕ, Bool, true, List, [], ◌∷◌, filter, Option, Some, None}
use Rattle.std.specs.List.{list_any}
use Rattle.error_ledger.specs.declared.error.ErrorLine.{ErrorLine}
use Rattle.contrl_segments.specs.declared.summary.GroupHead.{GroupHead}
use Rattle.contrl_segments.specs.declared.summary.MessageHead.{MessageHead}
use Rattle.contrl_segments.specs.declared.summary.Summary.{Summary}
use Rattle.contrl_writer.specs.Levels.{is_among, is_in_message}

-- one of these errors is at a segment of a message
abbrev pub is_touched : List ErrorLine → MessageHead → Bool
is_touched errors m = list_any (λ e. is_in_message e.segment m) errors

-- a message with these segments is asked for: each one is, or if errors are given, each one that has one of them
abbrev pub is_asked_at : Option (List ErrorLine) → ℕ → ℕ → Bool
is_asked_at None first last = true
is_asked_at (Some errors) first last = list_any (λ e. is_among first last e.segment) errors

-- the same of a message
abbrev pub is_asked : Option (List ErrorLine) → MessageHead → Bool
is_asked errors m = is_asked_at errors m.first m.last

-- the functional groups, if there is an error
abbrev pub groups_needed : List ErrorLine → List GroupHead → List GroupHead
groups_needed [] groups = []
groups_needed (e ∷ es) groups = groups

-- a summary without the messages that have no error, and without the groups if there is no error
abbrev pub needed : Summary → Summary
needed s = record {
  opening = s.opening;
  groups = groups_needed s.errors s.groups;
  messages = filter (is_touched s.errors) s.messages;
  errors = s.errors;
}
