-- For bodies: what groups and messages are found by.
use Rattle.std.specs.Prelude.{ℕ, ◌≡◌, ◌&&◌, Bool, nat_eq, List, Option}
use Rattle.std.specs.Borrow.{Bor}
use Rattle.std.specs.Option.{option_eq, option_map}
use Rattle.std.specs.Str.{bytes_eq}
use Rattle.indexmap.specs.IndexMap.{IndexMap, get}
use Rattle.edi_tables.specs.Octets.{Octets}
use Rattle.contrl_segments.specs.declared.summary.GroupHead.{GroupHead}
use Rattle.contrl_segments.specs.declared.summary.MessageHead.{MessageHead}
use Rattle.contrl_match.specs.Spots.{group_named, message_named}

-- what is seen of a group that is found, with its place
abbrev pub group_seen : ℕ × Bor GroupHead → ℕ × GroupHead
group_seen p = (p.0, p.1.now)

-- what is seen of a message that is found
abbrev pub found_head : Bor MessageHead → MessageHead
found_head m = m.now

-- two references are the same
abbrev pub same_reference : Bor Octets → Bor Octets → Bool
same_reference one other = bytes_eq one.now other.now

-- two references are the same, and so are the groups that they are used in
abbrev pub same_message : Option ℕ × Bor Octets → Option ℕ × Bor Octets → Bool
same_message one other = option_eq nat_eq one.0 other.0 && bytes_eq one.1.now other.1.now

-- a map has the first of these groups with each reference
abbrev pub IsGroupIndex : {S : Type 0} → IndexMap (Bor Octets) (ℕ × Bor GroupHead) S → List GroupHead → Type 0
IsGroupIndex map groups =
    (reference : Bor Octets)
    → option_map group_seen (get same_reference map reference) ≡ group_named groups reference.now

-- a map has the first of these messages with each group and reference
abbrev pub IsMessageIndex : {S : Type 0}
    → IndexMap (Option ℕ × Bor Octets) (Bor MessageHead) S → List MessageHead → Type 0
IsMessageIndex map messages =
    (key : Option ℕ × Bor Octets)
    → option_map found_head (get same_message map key) ≡ message_named messages key.0 key.1.now
