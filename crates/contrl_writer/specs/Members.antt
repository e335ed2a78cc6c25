-- For bodies and their invariants: the messages of a group, in a list of messages with the places of their groups.
use Rattle.std.specs.Prelude.{ℕ, ◌==◌, List, map, filter}
use Rattle.contrl_writer.specs.declared.members.Member.{Member}
use Rattle.contrl_segments.specs.declared.summary.MessageHead.{MessageHead}

-- the place of the group that a message lies in, among the groups of the interchange
abbrev pub group_of : Member → ℕ
group_of x = x.group

-- the messages that lie in group i, in order
abbrev pub heads_in : ℕ → List Member → List MessageHead
heads_in i members = map (λ x. x.message.now) (filter (λ x. x.group == i) members)
