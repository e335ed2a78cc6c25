-- The functional groups and messages of segments that are seen one after the other.
use Rattle.std.specs.Prelude.{◌<◌, ℕ, ◌+◌, ◌-◌, Bool, false, List, [], ◌∷◌, ◌++◌, Option, Some, None, codes, if◌then◌else◌}
use Rattle.std.specs.List.{list_any}
use Rattle.edi_tables.specs.Octets.{Octets}
use Rattle.edi_tables.specs.declared.tag.Tag.{Tag}
use Rattle.edi_tables.specs.Rows.{has_name}
use Rattle.seg_lexer.specs.declared.service.Service.{Service}
use Rattle.contrl_segments.specs.declared.summary.GroupHead.{GroupHead}
use Rattle.contrl_segments.specs.declared.summary.MessageHead.{MessageHead}
use Rattle.segment_records.specs.Bounds.{stops_message}
use Rattle.segment_records.specs.WalkedSegments.{SeenSegment}
use Rattle.segment_records.specs.Openers.{group_head_of, message_head_of}
use Rattle.segment_records.specs.Told.{components_seen}

-- the first of UNE, UNG, UNZ, UNB stops a group
abbrev pub stops_group : Option Tag → Bool
stops_group tag = list_any (λ name. has_name name tag) (codes "UNE" ∷ codes "UNG" ∷ codes "UNZ" ∷ codes "UNB" ∷ [])

-- a segment has a number, from 1
abbrev pub IsNumbered : SeenSegment → Type 0
IsNumbered seen = 0 < seen.number

-- how members open, close and stop heads: the number of a member, the head that it opens, and a head with its end
pub record Spanning (S H : Type 0) : Type 0 where
  pub opens : S → Bool
  pub closes : S → Bool
  pub stops : S → Bool
  pub number : S → ℕ
  pub head : S → H
  pub ended : H → ℕ → H

-- the last segment of what stops at this one: this one itself, if it closes
abbrev pub last_by : Bool → ℕ → ℕ
last_by closes number = if closes then number else number - 1

-- an open head that ends with this segment
abbrev pub ended_by : {H : Type 0} → (H → ℕ → H) → Option H → ℕ → List H
ended_by ended None last = []
ended_by ended (Some head) last = ended head last ∷ []

-- the heads of the members to come, with the one that is open; the last segment has this number
abbrev pub heads_from : {S H : Type 0} → Spanning S H → ℕ → Option H → List S → List H
heads_from by count current [] = ended_by by.ended current count
heads_from by count current (x ∷ xs) =
    if by.stops x
    then ended_by by.ended current (last_by (by.closes x) (by.number x))
    ++ heads_from by count (if by.opens x then Some (by.head x) else None) xs
    else heads_from by count current xs

-- the group that a UNG opens; its end isn't seen yet
abbrev pub group_seen : Service → Octets → SeenSegment → GroupHead
group_seen service text seen =
    group_head_of (record { first = seen.number; last = seen.number; closed = false })
    (components_seen service text seen)

-- a group whose last segment is this one
abbrev pub group_ended : GroupHead → ℕ → GroupHead
group_ended head last = record head { last = last }

-- how segments open, close and stop functional groups: UNG opens one, UNE closes it, and UNE, UNG, UNZ and UNB stop it
abbrev pub group_spans : Service → Octets → Spanning SeenSegment GroupHead
group_spans service text = record {
  opens = λ seen. has_name (codes "UNG") seen.kept.tag;
  closes = λ seen. has_name (codes "UNE") seen.kept.tag;
  stops = λ seen. stops_group seen.kept.tag;
  number = λ seen. seen.number;
  head = group_seen service text;
  ended = group_ended;
}

-- how many groups have begun with a segment, itself included: a UNG begins one
abbrev pub begun_by : Option Tag → ℕ → ℕ
begun_by tag begun = if has_name (codes "UNG") tag then begun + 1 else begun

-- the place of the group that is open after a segment: UNG opens the next one, and UNE, UNZ and UNB leave none open
abbrev pub group_by : Option Tag → ℕ → Option ℕ → Option ℕ
group_by tag begun group = if has_name (codes "UNG") tag then Some begun else (if stops_group tag then None else group)

-- segments, each with the group that is open after it
abbrev pub grouped : ℕ → Option ℕ → List SeenSegment → List (Option ℕ × SeenSegment)
grouped begun group [] = []
grouped begun group (seen ∷ more) =
    (group_by seen.kept.tag begun group, seen)
    ∷ grouped (begun_by seen.kept.tag begun) (group_by seen.kept.tag begun group) more

-- the message that a UNH opens in a group; its end isn't seen yet
abbrev pub message_seen : Service → Octets → Option ℕ → SeenSegment → MessageHead
message_seen service text group seen =
    message_head_of group (record { first = seen.number; last = seen.number; closed = false })
    (components_seen service text seen)

-- a message whose last segment is this one
abbrev pub message_ended : MessageHead → ℕ → MessageHead
message_ended head last = record head { last = last }

-- how segments, each with its group, open, close and stop messages: UNH opens one, UNT closes it, and UNT, UNH, UNE,
-- UNG, UNZ and UNB stop it
abbrev pub message_spans : Service → Octets → Spanning (Option ℕ × SeenSegment) MessageHead
message_spans service text = record {
  opens = λ p. has_name (codes "UNH") p.1.kept.tag;
  closes = λ p. has_name (codes "UNT") p.1.kept.tag;
  stops = λ p. stops_message p.1.kept.tag;
  number = λ p. p.1.number;
  head = λ p. message_seen service text p.0 p.1;
  ended = message_ended;
}
