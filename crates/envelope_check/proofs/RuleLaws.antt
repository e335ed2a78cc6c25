-- Each rule on a segment, given by what is known there.
use Rattle.std.proofs.Common.{◌≡◌, ℕ, ◌+◌, ◌<◌, Bool, true, false, not, cond, List, [], ◌&&◌, ◌||◌, Option, Some, None, length, refl, sym, ap, ◌∙◌}
use Rattle.std.specs.Prelude.{is_some, ◌==◌, codes}
use Rattle.std.specs.Option.{option_map, option_map_or, option_copied}
use Rattle.std.specs.Str.{bytes_eq}
use Rattle.std.proofs.lemmas.Bool.{false≢true, true≢false}
use Rattle.edi_tables.specs.Extents.{Extent, tag_in, message_at, group_at, group_closed_at}
use Rattle.edi_tables.specs.declared.tag.Tag.{Tag}
use Rattle.envelope_check.specs.Head.{Head}
use Rattle.envelope_check.specs.declared.head.HeadKind.{HeadKind}
use Rattle.envelope_check.specs.declared.head.HeadKind.TheVariants.{Unb, Unh, Unt, Unz}
use Rattle.envelope_check.specs.declared.head.SegmentMark.{SegmentMark}
use Rattle.envelope_check.specs.declared.known.Known.{Known}
use Rattle.envelope_check.specs.Heads.{tags_of, head_of, message_type_of, is_tabled}
use Rattle.envelope_check.specs.Known.{kind_in, is_unb, is_ung, is_unh, is_unz, is_une, ends_group, second_unb_by, outside_by, empty_interchange_by, mixed_by, other_type_by, lacks_table_by}
use Rattle.envelope_check.specs.Envelope.{is_at, count_at, is_end, is_after_end, is_second_unb, is_outside, is_empty_interchange, is_mixed, is_of_other_type, lacks_table}
use Rattle.envelope_check.proofs.Ahead.{Here}
use Rattle.envelope_check.proofs.Counting.{is_end_by}
use Rattle.envelope_check.proofs.TagKinds.{is_unt, unb_by_kind, ung_by_kind, unh_by_kind, unz_by_kind}
use Rattle.edi_tables.proofs.Openings.{first_of, next_stop}
use Rattle.envelope_check.proofs.Extents.{tag_kind, kind_passes, held, message_opened, group_opened, message_from, group_from, closes_group, ends_group_at, message_at_by, group_at_by, group_closed_by}
use Rattle.envelope_check.proofs.IsKnown.{IsKnown, opener}

-- a segment with what is known before it
pub record Site (heads : List Head) (marks : List SegmentMark) (i : ℕ) (known : Known) (here : Option Head) (after : List Head) : Type 0 where
  pub within : i < length (tags_of marks)
  pub so_far : IsKnown heads (tags_of marks) i known
  pub segment : Here heads marks i here after

pub is_some_map : {A B : Type 0} (f : A → B) (o : Option A) → is_some (option_map f o) ≡ is_some o
is_some_map f None = refl
is_some_map f (Some x) = refl

second_unb_same : (kind : Option HeadKind) (i : ℕ) (ended : Bool) → (kind_passes is_unb kind && not (i == 0) && not ended) ≡ second_unb_by kind i ended
second_unb_same (Some Unb) i ended = refl
second_unb_same _ i ended = refl

pub second_unb_is : (heads : List Head) (marks : List SegmentMark) (i : ℕ) (known : Known) (here : Option Head) (after : List Head) → Site heads marks i known here after → is_second_unb (tags_of marks) i ≡ second_unb_by (kind_in here) known.segments known.ended
unfolding is_second_unb
second_unb_is heads marks i known here after site =
    let tags = tags_of marks in
    ap (λ b. b && not (i == 0) && not (is_after_end tags i)) (unb_by_kind (tag_in tags i))
    ∙ second_unb_same (tag_kind tags i) i (is_after_end tags i)
    ∙ ap (λ k. second_unb_by k i (is_after_end tags i)) (sym site.segment.kind)
    ∙ ap (λ n. second_unb_by (kind_in here) n (is_after_end tags i)) (sym site.so_far.segments)
    ∙ ap (λ b. second_unb_by (kind_in here) known.segments b) (sym site.so_far.ended)

-- what holds a place in a message, and what it closes, by its kind
abbrev in_message_by : Option HeadKind → ℕ → Option ℕ → Option ℕ
in_message_by kind i before = held (kind_passes is_unh kind) (kind_passes is_unt kind) (kind_passes (λ _. true) kind) i before

abbrev in_group_by : Option HeadKind → ℕ → Option ℕ → Option ℕ
in_group_by kind i before = held (kind_passes is_ung kind) (kind_passes is_une kind) (kind_passes ends_group kind) i before

outside_same : (kind : Option HeadKind) (ended : Bool) (i : ℕ) (message group : Option ℕ) →
    (not ended && not (is_some (in_message_by kind i message))
    && not (kind_passes is_unb kind || kind_passes is_ung kind || kind_passes is_unz kind || is_some (cond (kind_passes is_une kind) group None)))
    ≡ outside_by kind ended (is_some message) (is_some group)
outside_same kind true i message group = refl
outside_same None false i None group = refl
outside_same None false i (Some a) group = refl
outside_same (Some Unt) false i None group = refl
outside_same (Some Unt) false i (Some a) group = refl
outside_same (Some _) false i message group = refl

pub outside_is : (heads : List Head) (marks : List SegmentMark) (i : ℕ) (known : Known) (here : Option Head) (after : List Head) → Site heads marks i known here after → is_outside (tags_of marks) i ≡ outside_by (kind_in here) known.ended (is_some known.message) (is_some known.group)
unfolding is_outside
outside_is heads marks i known here after site =
    let tags = tags_of marks in
    let kind = tag_kind tags i in
    let ended = is_after_end tags i in
    let message : is_some (message_at tags i) ≡ is_some (in_message_by kind i (message_opened tags i)) =
    ap is_some (message_at_by tags i site.within) ∙ is_some_map (message_from tags) _ in
    let group : is_some (group_closed_at tags i) ≡ is_some (cond (kind_passes is_une kind) (group_opened tags i) None) =
    ap is_some (group_closed_by tags i site.within) ∙ is_some_map (group_from tags) _ in
    ap (λ m. not ended && not m && not (is_at (codes "UNB") tags i || is_at (codes "UNG") tags i || is_at (codes "UNZ") tags i || is_some (group_closed_at tags i))) message
    ∙ ap (λ b. not ended && not (is_some (in_message_by kind i (message_opened tags i))) && not (b || is_at (codes "UNG") tags i || is_at (codes "UNZ") tags i || is_some (group_closed_at tags i))) (unb_by_kind (tag_in tags i))
    ∙ ap (λ b. not ended && not (is_some (in_message_by kind i (message_opened tags i))) && not (kind_passes is_unb kind || b || is_at (codes "UNZ") tags i || is_some (group_closed_at tags i))) (ung_by_kind (tag_in tags i))
    ∙ ap (λ b. not ended && not (is_some (in_message_by kind i (message_opened tags i))) && not (kind_passes is_unb kind || kind_passes is_ung kind || b || is_some (group_closed_at tags i))) (unz_by_kind (tag_in tags i))
    ∙ ap (λ b. not ended && not (is_some (in_message_by kind i (message_opened tags i))) && not (kind_passes is_unb kind || kind_passes is_ung kind || kind_passes is_unz kind || b)) group
    ∙ outside_same kind ended i (message_opened tags i) (group_opened tags i)
    ∙ ap (λ k. outside_by k ended (is_some (message_opened tags i)) (is_some (group_opened tags i))) (sym site.segment.kind)
    ∙ ap (λ b. outside_by (kind_in here) b (is_some (message_opened tags i)) (is_some (group_opened tags i))) (sym site.so_far.ended)
    ∙ ap (λ b. outside_by (kind_in here) known.ended b (is_some (group_opened tags i))) (sym site.so_far.in_message)
    ∙ ap (λ b. outside_by (kind_in here) known.ended (is_some known.message) b) (sym site.so_far.in_group)

empty_interchange_same : (kind : Option HeadKind) (ended : Bool) (groups messages : ℕ) → ((kind_passes is_unz kind && not ended) && groups == 0 && messages == 0) ≡ empty_interchange_by kind ended groups messages
empty_interchange_same (Some Unz) ended groups messages = refl
empty_interchange_same _ ended groups messages = refl

-- the end of the interchange, by what is known
pub end_is : (heads : List Head) (marks : List SegmentMark) (i : ℕ) (known : Known) (here : Option Head) (after : List Head) → Site heads marks i known here after → is_end (tags_of marks) i ≡ (kind_passes is_unz (kind_in here) && not known.ended)
end_is heads marks i known here after site =
    let tags = tags_of marks in
    is_end_by tags i site.within
    ∙ ap (λ b. b && not (is_after_end tags i)) (unz_by_kind (tag_in tags i) ∙ ap (kind_passes is_unz) (sym site.segment.kind))
    ∙ ap (λ b. kind_passes is_unz (kind_in here) && not b) (sym site.so_far.ended)

pub empty_interchange_is : (heads : List Head) (marks : List SegmentMark) (i : ℕ) (known : Known) (here : Option Head) (after : List Head) → Site heads marks i known here after → is_empty_interchange (tags_of marks) i ≡ empty_interchange_by (kind_in here) known.ended known.groups known.messages
unfolding is_empty_interchange
empty_interchange_is heads marks i known here after site =
    let tags = tags_of marks in
    ap (λ b. b && count_at (codes "UNG") tags 0 i == 0 && count_at (codes "UNH") tags 0 i == 0) (end_is heads marks i known here after site)
    ∙ ap (λ n. (kind_passes is_unz (kind_in here) && not known.ended) && n == 0 && count_at (codes "UNH") tags 0 i == 0) (sym site.so_far.groups)
    ∙ ap (λ n. (kind_passes is_unz (kind_in here) && not known.ended) && known.groups == 0 && n == 0) (sym site.so_far.messages)
    ∙ empty_interchange_same (kind_in here) known.ended known.groups known.messages

mixed_same : (kind : Option HeadKind) (i : ℕ) (group : Option ℕ) (has_groups : Bool) → (kind_passes is_unh kind && not (is_some (in_group_by kind i group)) && has_groups) ≡ mixed_by kind (is_some group) has_groups
mixed_same (Some Unh) i group has_groups = refl
mixed_same _ i group has_groups = refl

-- the group that a segment lies in, by its kind
group_at_is : (heads : List Head) (marks : List SegmentMark) (i : ℕ) (known : Known) (here : Option Head) (after : List Head) → Site heads marks i known here after → group_at (tags_of marks) i ≡ option_map (group_from (tags_of marks)) (in_group_by (kind_in here) i (group_opened (tags_of marks) i))
group_at_is heads marks i known here after site =
    let tags = tags_of marks in
    group_at_by tags i site.within ∙ ap (λ k. option_map (group_from tags) (in_group_by k i (group_opened tags i))) (sym site.segment.kind)

-- a segment's tag, by its kind
unh_is : (heads : List Head) (marks : List SegmentMark) (i : ℕ) (known : Known) (here : Option Head) (after : List Head) → Site heads marks i known here after → is_at (codes "UNH") (tags_of marks) i ≡ kind_passes is_unh (kind_in here)
unh_is heads marks i known here after site = unh_by_kind (tag_in (tags_of marks) i) ∙ ap (kind_passes is_unh) (sym site.segment.kind)

pub mixed_is : (heads : List Head) (marks : List SegmentMark) (i : ℕ) (known : Known) (here : Option Head) (after : List Head) → Site heads marks i known here after → is_mixed (tags_of marks) i ≡ mixed_by (kind_in here) (is_some known.group) known.has_groups
unfolding is_mixed
mixed_is heads marks i known here after site =
    let tags = tags_of marks in
    ap (λ b. b && not (is_some (group_at tags i)) && not (count_at (codes "UNG") tags 0 (length tags) == 0)) (unh_is heads marks i known here after site)
    ∙ ap (λ b. kind_passes is_unh (kind_in here) && not b && not (count_at (codes "UNG") tags 0 (length tags) == 0)) (ap is_some (group_at_is heads marks i known here after site) ∙ is_some_map (group_from tags) _)
    ∙ ap (λ b. kind_passes is_unh (kind_in here) && not (is_some (in_group_by (kind_in here) i (group_opened tags i))) && b) (sym site.so_far.has_groups)
    ∙ mixed_same (kind_in here) i (group_opened tags i) known.has_groups
    ∙ ap (λ b. mixed_by (kind_in here) b known.has_groups) (sym site.so_far.in_group)

pub no_head : (kind : HeadKind) → None ≡ Some kind → ⊥
no_head kind same = cc

-- what segment k gives, by its head
type_at : (heads : List Head) (i : ℕ) (here : Option Head) → here ≡ head_of heads (i + 1) → message_type_of heads (i + 1) ≡ option_map_or (λ h. h.name) here []
type_at heads i here found = ap (λ o. option_map_or (λ (h : Head). h.name) o []) (sym found)

-- the head that opened what is open is there
pub record IsOpener (heads : List Head) (open_at : Option ℕ) (head : Option Head) : Type 0 where
  pub same : head ≡ opener heads open_at
  pub there : is_some head ≡ is_some open_at

other_type_same : (heads : List Head) (here group : Option Head) (i : ℕ) (kind : Option HeadKind) (before : Option ℕ) (from : ℕ → Extent) → ((a : ℕ) → (from a).first ≡ a + 1) → kind_in here ≡ kind → IsOpener heads before group →
    (kind_passes is_unh kind && option_map_or (λ e. not (bytes_eq (option_map_or (λ h. h.name) here []) (message_type_of heads e.first))) (option_map from (in_group_by kind i before)) false) ≡ other_type_by kind here group
other_type_same heads None group i (Some Unh) before from first is opening = absurd (no_head Unh is)
other_type_same heads (Some head) None i (Some Unh) None from first is opening = refl
other_type_same heads (Some head) (Some group) i (Some Unh) None from first is opening = absurd (true≢false opening.there)
other_type_same heads (Some head) None i (Some Unh) (Some a) from first is opening = absurd (false≢true opening.there)
other_type_same heads (Some head) (Some group) i (Some Unh) (Some a) from first is opening =
    ap (λ n. not (bytes_eq head.name (message_type_of heads n))) (first a)
    ∙ ap (λ o. not (bytes_eq head.name (option_map_or (λ (h : Head). h.name) o []))) (sym opening.same)
other_type_same heads here group i _ before from first is opening = refl

-- the head that opened the group, and the message, that is open
pub group_opener : (heads : List Head) (tags : List (Option Tag)) (i : ℕ) (known : Known) → IsKnown heads tags i known → IsOpener heads (group_opened tags i) (option_copied known.group)
group_opener heads tags i known is_known = record { same = is_known.group; there = is_some_map (λ g. g.now) known.group ∙ is_known.in_group }

pub message_opener : (heads : List Head) (tags : List (Option Tag)) (i : ℕ) (known : Known) → IsKnown heads tags i known → IsOpener heads (message_opened tags i) (option_copied known.message)
message_opener heads tags i known is_known = record { same = is_known.message; there = is_some_map (λ g. g.now) known.message ∙ is_known.in_message }

pub other_type_is : (heads : List Head) (marks : List SegmentMark) (i : ℕ) (known : Known) (here : Option Head) (after : List Head) → Site heads marks i known here after → is_of_other_type heads (tags_of marks) i ≡ other_type_by (kind_in here) here (option_copied known.group)
unfolding is_of_other_type
other_type_is heads marks i known here after site =
    let tags = tags_of marks in
    ap (λ b. b && option_map_or (λ e. not (bytes_eq (message_type_of heads (i + 1)) (message_type_of heads e.first))) (group_at tags i) false) (unh_is heads marks i known here after site)
    ∙ ap (λ t. kind_passes is_unh (kind_in here) && option_map_or (λ e. not (bytes_eq t (message_type_of heads e.first))) (group_at tags i) false) (type_at heads i here site.segment.found)
    ∙ ap (λ g. kind_passes is_unh (kind_in here) && option_map_or (λ e. not (bytes_eq (option_map_or (λ h. h.name) here []) (message_type_of heads e.first))) g false) (group_at_is heads marks i known here after site)
    ∙ other_type_same heads here (option_copied known.group) i (kind_in here) (group_opened tags i) (group_from tags)
    (λ a. first_of (closes_group tags) (length tags) a (next_stop (ends_group_at tags) (length tags) a)) refl (group_opener heads tags i known site.so_far)

lacks_table_same : (here : Option Head) → (kind_passes is_unh (kind_in here) && not (option_map_or (λ h. h.tabled) here false)) ≡ lacks_table_by here
lacks_table_same None = refl
lacks_table_same (Some head) = refl

pub lacks_table_is : (heads : List Head) (marks : List SegmentMark) (i : ℕ) (known : Known) (here : Option Head) (after : List Head) → Site heads marks i known here after → lacks_table heads (tags_of marks) i ≡ lacks_table_by here
unfolding lacks_table
lacks_table_is heads marks i known here after site =
    ap (λ b. b && not (is_tabled heads (i + 1))) (unh_is heads marks i known here after site)
    ∙ ap (λ o. kind_passes is_unh (kind_in here) && not (option_map_or (λ (h : Head). h.tabled) o false)) (sym site.segment.found)
    ∙ lacks_table_same here
