-- What is known of a text at one of its segments, and the rules in these terms. Only bodies and invariants need this.
use Rattle.std.specs.Prelude.{◌≡◌, ◌+◌, ◌-◌, ℕ, Bool, true, false, not, ◌==◌, ◌&&◌, ◌||◌, List, [], ◌∷◌, find, slice_get, unwrap_or, Option, Some, None, is_some, if◌then◌else◌}
use Rattle.std.specs.Option.{option_map, option_map_or, option_copied}
use Rattle.std.specs.List.{flat_map, list_any}
use Rattle.std.specs.Str.{bytes_eq}
use Rattle.edi_tables.specs.Rows.{when}
use Rattle.error_ledger.specs.declared.error.ErrorLine.{ErrorLine}
use Rattle.error_ledger.specs.declared.kind.Kind.{Kind}
use Rattle.error_ledger.specs.declared.kind.Kind.TheVariants.{SecondUnb, AfterEnd, Outside, EmptyInterchange, Mixed, Reference, Count, NoUne, EmptyGroup, GroupType, NoTable}
use Rattle.envelope_check.specs.Head.{Head}
use Rattle.envelope_check.specs.declared.head.HeadKind.{HeadKind}
use Rattle.envelope_check.specs.declared.head.HeadKind.TheVariants.{Unb, Ung, Unh, Unt, Une, Unz}
use Rattle.envelope_check.specs.declared.head.SegmentMark.{SegmentMark}
use Rattle.envelope_check.specs.declared.known.Known.{Known}
use Rattle.envelope_check.specs.Envelope.{gives, error_with}

-- which of the six kinds a segment is, if it is a head
abbrev pub kind_in : Option Head → Option HeadKind
kind_in head = option_map (λ h. h.kind) head

-- UNB, which opens an interchange
abbrev pub is_unb : HeadKind → Bool
is_unb Unb = true
is_unb _ = false

-- UNG, which opens a functional group
abbrev pub is_ung : HeadKind → Bool
is_ung Ung = true
is_ung _ = false

-- UNH, which opens a message
abbrev pub is_unh : HeadKind → Bool
is_unh Unh = true
is_unh _ = false

-- UNZ, which closes an interchange
abbrev pub is_unz : HeadKind → Bool
is_unz Unz = true
is_unz _ = false

-- UNE, which closes a functional group
abbrev pub is_une : HeadKind → Bool
is_une Une = true
is_une _ = false

-- a group ends at the next head of such a kind: any but UNH and UNT
abbrev pub ends_group : HeadKind → Bool
ends_group Unh = false
ends_group Unt = false
ends_group _ = true

-- any kind but UNT, which closes a message
abbrev pub is_no_unt : HeadKind → Bool
is_no_unt Unt = false
is_no_unt _ = true

-- the head at the front of those to come, where it is segment k
abbrev pub head_here : List Head → ℕ → Option Head
head_here [] k = None
head_here (head ∷ after) k = if head.segment == k then Some head else None

-- the heads after segment k
abbrev pub heads_after : List Head → ℕ → List Head
heads_after [] k = []
heads_after (head ∷ after) k = if head.segment == k then after else head ∷ after

-- the first segment, where it is UNB
abbrev pub first_unb : List Head → Option Head
first_unb heads = elim (head_here heads 1) [ None ↦ None | Some head ↦ if is_unb head.kind then Some head else None ]

-- a head of such a kind is among these
abbrev pub has_kind : (HeadKind → Bool) → List Head → Bool
has_kind is heads = list_any (λ head. is head.kind) heads

-- the open message after a segment, as its UNH: a UNH opens one, and any other head ends it
abbrev pub message_after : Option HeadKind → Option Head → Option Head → Option Head
message_after None head before = before
message_after (Some Unh) head before = head
message_after (Some _) head before = None

-- the open group after a segment, as its UNG: a UNG opens one, and UNE, UNZ and UNB end it
abbrev pub group_after : Option HeadKind → Option Head → Option Head → Option Head
group_after (Some Ung) head before = head
group_after (Some Une) head before = None
group_after (Some Unz) head before = None
group_after (Some Unb) head before = None
group_after _ head before = before

-- how many segments the open message has after a segment: one at its UNH, and one more at any other
abbrev pub message_segments_after : Option HeadKind → ℕ → ℕ
message_segments_after (Some Unh) n = 1
message_segments_after _ n = n + 1

-- how many messages the open group has after a segment: none at its UNG, and one more at each UNH
abbrev pub group_messages_after : Option HeadKind → ℕ → ℕ
group_messages_after (Some Ung) n = 0
group_messages_after (Some Unh) n = n + 1
group_messages_after _ n = n

-- one more where the segment is of this kind
abbrev pub counted_after : (HeadKind → Bool) → Option HeadKind → ℕ → ℕ
counted_after is None n = n
counted_after is (Some kind) n = if is kind then n + 1 else n

-- what is known before the first segment
pub record IsKnownFirst (heads : List Head) (known : Known) : Type 0 where
  pub has_groups : known.has_groups ≡ has_kind is_ung heads
  pub interchange : option_copied known.interchange ≡ first_unb heads
  pub ended : known.ended ≡ false
  pub message : option_copied known.message ≡ None
  pub group : option_copied known.group ≡ None
  pub segments : known.segments ≡ 0
  pub groups : known.groups ≡ 0
  pub messages : known.messages ≡ 0

-- what is known after a segment
pub record IsKnownAfter (old : Known) (head : Option Head) (new : Known) : Type 0 where
  pub has_groups : new.has_groups ≡ old.has_groups
  pub interchange : option_copied new.interchange ≡ option_copied old.interchange
  pub ended : new.ended ≡ (old.ended || option_map_or is_unz (kind_in head) false)
  pub message : option_copied new.message ≡ message_after (kind_in head) head (option_copied old.message)
  pub message_segments : new.message_segments ≡ message_segments_after (kind_in head) old.message_segments
  pub group : option_copied new.group ≡ group_after (kind_in head) head (option_copied old.group)
  pub group_messages : new.group_messages ≡ group_messages_after (kind_in head) old.group_messages
  pub segments : new.segments ≡ old.segments + 1
  pub groups : new.groups ≡ counted_after is_ung (kind_in head) old.groups
  pub messages : new.messages ≡ counted_after is_unh (kind_in head) old.messages

-- what is known after n segments that are no heads
pub record IsKnownAfterOthers (old : Known) (n : ℕ) (new : Known) : Type 0 where
  pub has_groups : new.has_groups ≡ old.has_groups
  pub interchange : option_copied new.interchange ≡ option_copied old.interchange
  pub ended : new.ended ≡ old.ended
  pub message : option_copied new.message ≡ option_copied old.message
  pub message_segments : new.message_segments ≡ old.message_segments + n
  pub group : option_copied new.group ≡ option_copied old.group
  pub group_messages : new.group_messages ≡ old.group_messages
  pub segments : new.segments ≡ old.segments + n
  pub groups : new.groups ≡ old.groups
  pub messages : new.messages ≡ old.messages

-- the number of the next head, or one more than that of the last segment where no head is to come
abbrev pub next_number : List Head → ℕ → ℕ
next_number [] total = total + 1
next_number (head ∷ after) total = head.segment

-- how many segments from here on are no heads and can break no rule: before the end and in an open message, those up to
-- the next head or to the last segment
abbrev pub sound_run_by : Known → List Head → ℕ → ℕ
sound_run_by known rest total =
    if known.ended || not (is_some known.message) then 0 else next_number rest total - 1 - known.segments

-- a UNB that isn't the first segment, and isn't after the end
abbrev pub second_unb_by : Option HeadKind → ℕ → Bool → Bool
second_unb_by (Some Unb) segments ended = not (segments == 0) && not ended
second_unb_by _ segments ended = false

-- the segment lies in an open message, closes an open message or group, or is one that needs neither
abbrev pub has_place_by : Option HeadKind → Bool → Bool → Bool
has_place_by None in_message in_group = in_message
has_place_by (Some Unt) in_message in_group = in_message
has_place_by (Some Une) in_message in_group = in_group
has_place_by (Some _) in_message in_group = true

-- not after the end, and with no such place
abbrev pub outside_by : Option HeadKind → Bool → Bool → Bool → Bool
outside_by kind ended in_message in_group = not ended && not (has_place_by kind in_message in_group)

-- the first UNZ, without a UNG and without a UNH before it
abbrev pub empty_interchange_by : Option HeadKind → Bool → ℕ → ℕ → Bool
empty_interchange_by (Some Unz) ended groups messages = not ended && groups == 0 && messages == 0
empty_interchange_by _ ended groups messages = false

-- a UNH in no group, in a text that has a UNG somewhere
abbrev pub mixed_by : Option HeadKind → Bool → Bool → Bool
mixed_by (Some Unh) in_group has_groups = not in_group && has_groups
mixed_by _ in_group has_groups = false

-- the kind of the first of the later heads that ends a group
abbrev pub group_end : List Head → Option HeadKind
group_end after = kind_in (find (λ head. ends_group head.kind) after)

-- the kind of the first of the later heads that isn't a UNT
abbrev pub next_but_unt : List Head → Option HeadKind
next_but_unt after = kind_in (find (λ head. is_no_unt head.kind) after)

-- a UNG whose group no UNE closes
abbrev pub lacks_une_by : Option HeadKind → Option HeadKind → Bool
lacks_une_by (Some Ung) end = not (option_map_or is_une end false)
lacks_une_by _ end = false

-- a UNG whose group has no message: no UNH is the next head that isn't a UNT
abbrev pub empty_group_by : Option HeadKind → Option HeadKind → Bool
empty_group_by (Some Ung) next = not (option_map_or is_unh next false)
empty_group_by _ next = false

-- a UNH in a group whose type isn't that of the group
abbrev pub other_type_by : Option HeadKind → Option Head → Option Head → Bool
other_type_by (Some Unh) (Some head) (Some group) = not (bytes_eq head.name group.name)
other_type_by _ _ _ = false

-- what a closing segment is compared with: that of the open message, of the open group or of the interchange
abbrev pub by_closing : {A : Type 0} → Option HeadKind → Option A → Option A → Option A → Option A
by_closing (Some Unt) message group interchange = message
by_closing (Some Une) message group interchange = group
by_closing (Some Unz) message group interchange = interchange
by_closing _ message group interchange = None

-- what the first UNZ counts: the groups before it or, if there are none, the messages before it
abbrev pub counted_by : ℕ → ℕ → ℕ
counted_by groups messages = if groups == 0 then messages else groups

-- the number that a closing segment has to give: that of its message's segments, of its group's messages, or that at
-- the end
abbrev pub count_due_by : Option HeadKind → Known → Option ℕ
count_due_by kind known =
    by_closing kind
    (if is_some known.message then Some (known.message_segments + 1) else None)
    (if is_some known.group then Some known.group_messages else None)
    (if known.ended then None else Some (counted_by known.groups known.messages))

-- a closing segment whose count isn't the number that it has to give
abbrev pub miscounts_by : Option Head → Option ℕ → Bool
miscounts_by None due = false
miscounts_by (Some head) due = option_map_or (λ n. not (gives head.count n)) due false

-- the head that opened what a closing segment closes: a message, a group or the interchange
abbrev pub opening_by : Option HeadKind → Known → Option Head
opening_by kind known =
    by_closing kind (option_copied known.message) (option_copied known.group)
    (if known.ended then None else option_copied known.interchange)

-- a closing segment whose reference isn't that of the opening one
abbrev pub refers_elsewhere_by : Option Head → Option Head → Bool
refers_elsewhere_by None opening = false
refers_elsewhere_by (Some head) opening = option_map_or (λ o. not (bytes_eq head.reference o.reference)) opening false

-- a UNH for whose message the directory has no table
abbrev pub lacks_table_by : Option Head → Bool
lacks_table_by None = false
lacks_table_by (Some head) = is_unh head.kind && not head.tabled

-- whether each rule is broken, with the element and the kind of its error
unfoldable pub rules_by : Known → Option Head → List Head → List (Bool × ℕ × Kind)
rules_by known head after =
    let kind = kind_in head in
    (second_unb_by kind known.segments known.ended, 0, SecondUnb)
    ∷ (known.ended, 0, AfterEnd)
    ∷ (outside_by kind known.ended (is_some known.message) (is_some known.group), 0, Outside)
    ∷ (empty_interchange_by kind known.ended known.groups known.messages, 0, EmptyInterchange)
    ∷ (mixed_by kind (is_some known.group) known.has_groups, 0, Mixed)
    ∷ (lacks_une_by kind (group_end after), 0, NoUne)
    ∷ (empty_group_by kind (next_but_unt after), 0, EmptyGroup)
    ∷ (other_type_by kind head (option_copied known.group), 0, GroupType)
    ∷ (miscounts_by head (count_due_by kind known), 1, Count)
    ∷ (refers_elsewhere_by head (opening_by kind known), 2, Reference)
    ∷ (lacks_table_by head, 2, NoTable)
    ∷ []

-- the mark at place i
abbrev pub mark_at : List SegmentMark → ℕ → SegmentMark
mark_at marks i = unwrap_or (slice_get marks i) (record { start = 0; tag = None })

-- an error of segment k
abbrev pub error_of : ℕ → SegmentMark → ℕ → Kind → ErrorLine
error_of k mark element kind = error_with k mark.start mark.tag element kind

-- the error of a rule, where it is broken
abbrev pub told : ℕ → SegmentMark → Bool × ℕ × Kind → List ErrorLine
told k mark rule = when rule.0 (error_of k mark rule.1 rule.2)

-- the errors of segment k
unfoldable pub errors_by : ℕ → SegmentMark → List (Bool × ℕ × Kind) → List ErrorLine
errors_by k mark rules = flat_map (told k mark) rules
