-- How a group goes on after its UNG, given by the heads to come.
use Rattle.std.proofs.Common.{◌≡◌, ℕ, ◌+◌, ◌-◌, ◌<◌, ◌≤◌, Bool, true, false, not, cond, List, Option, Some, None, length, refl, sym, ap, subst, ◌∙◌, inl, inr, arith}
use Rattle.std.specs.Prelude.{find, is_some, ◌==◌, codes}
use Rattle.std.specs.Option.{option_map, option_map_or, option_and_then}
use Rattle.std.specs.List.{range_with_len}
use Rattle.std.proofs.lemmas.Bool.{cases_Bool, cases_eq, cases_lt, cases_order, true≢false}
use Rattle.edi_tables.specs.Extents.{Extent, tag_in, group_opened_at}
use Rattle.edi_tables.specs.declared.tag.Tag.{Tag}
use Rattle.envelope_check.specs.Head.{Head}
use Rattle.envelope_check.specs.declared.head.HeadKind.{HeadKind}
use Rattle.envelope_check.specs.declared.head.HeadKind.TheVariants.{Unb, Ung, Unh, Unt, Une, Unz}
use Rattle.envelope_check.specs.declared.head.SegmentMark.{SegmentMark}
use Rattle.envelope_check.specs.declared.known.Known.{Known}
use Rattle.envelope_check.specs.Heads.{tags_of}
use Rattle.envelope_check.specs.Known.{kind_in, is_ung, is_unh, is_une, is_no_unt, ends_group, group_end, next_but_unt, lacks_une_by, empty_group_by}
use Rattle.envelope_check.specs.Envelope.{is_at, count_at, messages_in, lacks_une, is_empty_group}
use Rattle.edi_tables.proofs.Searching.{IsFirst, Found, found, find_is, find_none}
use Rattle.envelope_check.proofs.Counting.{none_counted}
use Rattle.envelope_check.proofs.TagKinds.{unh_by_kind, une_by_kind, group_stop_by_kind}
use Rattle.edi_tables.proofs.Openings.{stretch_to, next_stop, first_of}
use Rattle.envelope_check.proofs.Extents.{kind_passes, group_from, closes_group, ends_group_at, group_opened_by}
use Rattle.envelope_check.proofs.Ahead.{length_tags, Heads, at_kind, kind_at, find_ahead}
use Rattle.envelope_check.proofs.IsKnown.{find_same}
use Rattle.envelope_check.proofs.RuleLaws.{Site}

-- the group that a UNG opens, by its kind
opened_is : (heads : List Head) (marks : List SegmentMark) (i : ℕ) (known : Known) (here : Option Head) (after : List Head) → Site heads marks i known here after → group_opened_at (tags_of marks) i ≡ option_map (group_from (tags_of marks)) (cond (kind_passes is_ung (kind_in here)) (Some i) None)
opened_is heads marks i known here after site =
    group_opened_by (tags_of marks) i site.within
    ∙ ap (λ k. option_map (group_from (tags_of marks)) (cond (kind_passes is_ung k) (Some i) None)) (sym site.segment.kind)

closed_same : (kind : Option HeadKind) (a : ℕ) (from : ℕ → Extent) (end : Option HeadKind) → (from a).closed ≡ kind_passes is_une end → option_map_or (λ e. not e.closed) (option_map from (cond (kind_passes is_ung kind) (Some a) None)) false ≡ lacks_une_by kind end
closed_same (Some Ung) a from end same = ap not same
closed_same None a from end same = refl
closed_same (Some _) a from end same = refl

-- a group is closed where the head that ends it is a UNE
closed_by_end : (c : ℕ → Bool) (kinds : ℕ → Option HeadKind) (n a : ℕ) (r : Option ℕ) → ((k : ℕ) → c k ≡ kind_passes is_une (kinds k)) → (stretch_to c n a r).closed ≡ kind_passes is_une (option_and_then kinds r)
closed_by_end c kinds n a None each = refl
closed_by_end c kinds n a (Some j) each = elim (cases_Bool (c j)) [
  | inl shows ↦ rw shows (sym (sym (each j) ∙ shows))
  | inr never ↦ rw never (sym (sym (each j) ∙ never))
]

-- the heads after a segment
heads_left : (heads : List Head) (marks : List SegmentMark) (i : ℕ) (known : Known) (here : Option Head) (after : List Head) → Site heads marks i known here after → Heads marks (i + 1) (length (tags_of marks) - (i + 1)) after
heads_left heads marks i known here after site = subst (λ n. Heads marks (i + 1) (n - (i + 1)) after) (sym (length_tags marks)) site.segment.ahead.fits

group_end_at : (heads : List Head) (marks : List SegmentMark) (i : ℕ) (known : Known) (here : Option Head) (after : List Head) → Site heads marks i known here after → group_end after ≡ option_and_then (kind_at marks) (next_stop (ends_group_at (tags_of marks)) (length (tags_of marks)) i)
group_end_at heads marks i known here after site =
    let tags = tags_of marks in
    find_ahead ends_group marks (i + 1) (length tags - (i + 1)) after (heads_left heads marks i known here after site)
    ∙ ap (option_and_then (kind_at marks)) (find_same (at_kind ends_group marks) (ends_group_at tags) (λ k. sym (group_stop_by_kind (tag_in tags k))) (range_with_len (i + 1) (length tags - (i + 1))))

pub lacks_une_is : (heads : List Head) (marks : List SegmentMark) (i : ℕ) (known : Known) (here : Option Head) (after : List Head) → Site heads marks i known here after → lacks_une (tags_of marks) i ≡ lacks_une_by (kind_in here) (group_end after)
unfolding lacks_une
lacks_une_is heads marks i known here after site =
    let tags = tags_of marks in
    ap (λ o. option_map_or (λ e. not e.closed) o false) (opened_is heads marks i known here after site)
    ∙ closed_same (kind_in here) i (group_from tags) (group_end after)
    (closed_by_end (closes_group tags) (kind_at marks) (length tags) i (next_stop (ends_group_at tags) (length tags) i) (λ k. une_by_kind (tag_in tags k))
    ∙ ap (kind_passes is_une) (sym (group_end_at heads marks i known here after site)))

-- places are tested by the kinds of their segments
pub record Kinds (stops messages others : ℕ → Bool) (kinds : ℕ → Option HeadKind) : Type 0 where
  pub stop : (k : ℕ) → stops k ≡ kind_passes ends_group (kinds k)
  pub message : (k : ℕ) → messages k ≡ kind_passes is_unh (kinds k)
  pub other : (k : ℕ) → others k ≡ kind_passes is_no_unt (kinds k)

unh_is_other : (kind : Option HeadKind) → kind_passes is_no_unt kind ≡ false → kind_passes is_unh kind ≡ false
unh_is_other None h = refl
unh_is_other (Some Unh) h = h
unh_is_other (Some _) h = refl

stop_is_other : (kind : Option HeadKind) → kind_passes is_no_unt kind ≡ false → kind_passes ends_group kind ≡ false
stop_is_other None h = refl
stop_is_other (Some Unt) h = refl
stop_is_other (Some _) h = absurd (true≢false h)

stop_or_unh : (kind : Option HeadKind) → kind_passes is_no_unt kind ≡ true → kind_passes is_unh kind ≡ false → kind_passes ends_group kind ≡ true
stop_or_unh None h k = h
stop_or_unh (Some Unh) h k = absurd (true≢false k)
stop_or_unh (Some Unt) h k = h
stop_or_unh (Some _) h k = refl

unh_no_stop : (kind : Option HeadKind) → kind_passes is_unh kind ≡ true → kind_passes ends_group kind ≡ false
unh_no_stop None h = refl
unh_no_stop (Some Unh) h = refl
unh_no_stop (Some Unt) h = refl
unh_no_stop (Some Ung) h = sym h
unh_no_stop (Some Une) h = sym h
unh_no_stop (Some Unz) h = sym h
unh_no_stop (Some Unb) h = sym h

last_low : (c : ℕ → Bool) (n a j : ℕ) → j ≤ (stretch_to c n a (Some j)).last
last_low c n a j = elim (cases_Bool (c j)) [
  | inl shows ↦ rw shows (omega arith)
  | inr never ↦ rw never (omega arith)
]

last_high : (c : ℕ → Bool) (n a j : ℕ) → (stretch_to c n a (Some j)).last ≤ j + 1
last_high c n a j = elim (cases_Bool (c j)) [
  | inl shows ↦ rw shows (omega arith)
  | inr never ↦ rw never (omega arith)
]

last_within : (c stops : ℕ → Bool) (n a : ℕ) (r : Option ℕ) → a < n → Found stops (a + 1) n r → (stretch_to c n a r).last ≤ n
last_within c stops n a None within none = omega arith
last_within c stops n a (Some j) within first = omega (arith, last_high c n a j, first.below)

-- up to the first other head there is no message
no_message : (messages others : ℕ → Bool) (kinds : ℕ → Option HeadKind) (a j k : ℕ) → ((k : ℕ) → messages k ≡ kind_passes is_unh (kinds k)) → ((k : ℕ) → others k ≡ kind_passes is_no_unt (kinds k)) → messages a ≡ false → ((k : ℕ) → a + 1 ≤ k → k < j → others k ≡ false) → a ≤ k → k < j → messages k ≡ false
no_message messages others kinds a j k message other here none from below = elim (cases_eq a k) [
  | inl same ↦ ap messages (sym same) ∙ here
  | inr past ↦ message k ∙ unh_is_other (kinds k) (sym (other k) ∙ none k (omega arith) below)
]

-- the first other head is a message of the group
message_found : (c stops messages others : ℕ → Bool) (kinds : ℕ → Option HeadKind) (n a j : ℕ) (r : Option ℕ) → Kinds stops messages others kinds → a < n → messages a ≡ false → Found stops (a + 1) n r → IsFirst others (a + 1) n j → kind_passes is_unh (kinds j) ≡ true → j < (stretch_to c n a r).last
message_found c stops messages others kinds n a j None by within here none first unh = first.below
message_found c stops messages others kinds n a j (Some s) by within here stop first unh =
    let no_stop : stops j ≡ false = by.stop j ∙ unh_no_stop (kinds j) unh in
    elim (cases_order s j) [
      | inl same ↦ absurd (true≢false (sym stop.passes ∙ ap stops same ∙ no_stop))
      | inr differ ↦ elim differ [
        | inl less ↦ absurd (true≢false (sym stop.passes ∙ by.stop s ∙ stop_is_other (kinds s) (sym (by.other s) ∙ first.none s stop.from less)))
        | inr more ↦ omega (arith, last_low c n a s)
      ]
    ]

-- the first other head ends the group
group_stopped : (c stops messages others : ℕ → Bool) (kinds : ℕ → Option HeadKind) (n a j : ℕ) (r : Option ℕ) → Kinds stops messages others kinds → Found stops (a + 1) n r → IsFirst others (a + 1) n j → kind_passes is_unh (kinds j) ≡ false → (stretch_to c n a r).last ≤ j + 1
group_stopped c stops messages others kinds n a j None by none first other =
    absurd (true≢false (sym (by.stop j ∙ stop_or_unh (kinds j) (sym (by.other j) ∙ first.passes) other) ∙ none.none j first.from first.below))
group_stopped c stops messages others kinds n a j (Some s) by stop first other = elim (cases_lt j s) [
  | inl past ↦ absurd (true≢false (sym (by.stop j ∙ stop_or_unh (kinds j) (sym (by.other j) ∙ first.passes) other) ∙ stop.none j first.from past))
  | inr low ↦ omega (arith, last_high c n a s)
]

abbrev message_within : (ℕ → Bool) → ℕ → ℕ → Bool
message_within messages a last = is_some (find messages (range_with_len a (last - a)))

within_none : (messages : ℕ → Bool) (a last : ℕ) → a ≤ last → ((k : ℕ) → a ≤ k → k < last → messages k ≡ false) → message_within messages a last ≡ false
within_none messages a last low none = ap is_some (find_none messages a (last - a) last (omega arith) (record { none = none }))

within_some : (messages : ℕ → Bool) (a last j : ℕ) → a ≤ j → j < last → messages j ≡ true → ((k : ℕ) → a ≤ k → k < j → messages k ≡ false) → message_within messages a last ≡ true
within_some messages a last j low below here none = ap is_some (find_is messages a (last - a) last j (omega arith) (record { from = low; below = below; passes = here; none = none }))

from_last : (c stops : ℕ → Bool) (n a : ℕ) (r : Option ℕ) → a < n → Found stops (a + 1) n r → a ≤ (stretch_to c n a r).last
from_last c stops n a None within none = omega arith
from_last c stops n a (Some s) within stop = omega (arith, last_low c n a s, stop.from)

message_ahead : (c stops messages others : ℕ → Bool) (kinds : ℕ → Option HeadKind) (n a : ℕ) (r q : Option ℕ) → Kinds stops messages others kinds → a < n → messages a ≡ false → Found stops (a + 1) n r → Found others (a + 1) n q → message_within messages a (stretch_to c n a r).last ≡ kind_passes is_unh (option_and_then kinds q)
message_ahead c stops messages others kinds n a r None by within here stop none =
    within_none messages a (stretch_to c n a r).last (from_last c stops n a r within stop)
    (λ k from below. no_message messages others kinds a n k by.message by.other here none.none from (omega (arith, last_within c stops n a r within stop)))
message_ahead c stops messages others kinds n a r (Some j) by within here stop first = elim (cases_Bool (kind_passes is_unh (kinds j))) [
  | inl unh ↦
      within_some messages a (stretch_to c n a r).last j (omega (arith, first.from)) (message_found c stops messages others kinds n a j r by within here stop first unh) (by.message j ∙ unh)
      (λ k from below. no_message messages others kinds a j k by.message by.other here first.none from below)
      ∙ sym unh
  | inr other ↦
      within_none messages a (stretch_to c n a r).last (from_last c stops n a r within stop)
      (λ k from below. elim (cases_eq k j) [
        | inl same ↦ ap messages same ∙ by.message j ∙ other
        | inr differ ↦ no_message messages others kinds a j k by.message by.other here first.none from (omega (arith, group_stopped c stops messages others kinds n a j r by stop first other))
      ])
      ∙ sym other
]

-- how many messages an extent has, from its first segment on
messages_none : (tags : List (Option Tag)) (a : ℕ) (e : Extent) → e.first ≡ a + 1 → (messages_in tags e == 0) ≡ not (message_within (is_at (codes "UNH") tags) a e.last)
messages_none tags a e first =
    let from : e.first - 1 ≡ a = omega arith in
    ap (λ k. count_at (codes "UNH") tags k e.last == 0) from ∙ none_counted (is_at (codes "UNH") tags) (range_with_len a (e.last - a))

next_at : (heads : List Head) (marks : List SegmentMark) (i : ℕ) (known : Known) (here : Option Head) (after : List Head) → Site heads marks i known here after → next_but_unt after ≡ option_and_then (kind_at marks) (find (at_kind is_no_unt marks) (range_with_len (i + 1) (length (tags_of marks) - (i + 1))))
next_at heads marks i known here after site =
    find_ahead is_no_unt marks (i + 1) (length (tags_of marks) - (i + 1)) after (heads_left heads marks i known here after site)

ung_no_unh : (kind : Option HeadKind) → kind_passes is_ung kind ≡ true → kind_passes is_unh kind ≡ false
ung_no_unh (Some Unh) h = sym h
ung_no_unh _ h = refl

-- a group from a UNG on is empty where its first head that is no UNT is no UNH
empty_from : (heads : List Head) (marks : List SegmentMark) (i : ℕ) (known : Known) (here : Option Head) (after : List Head) → Site heads marks i known here after → kind_passes is_ung (kind_in here) ≡ true → (messages_in (tags_of marks) (group_from (tags_of marks) i) == 0) ≡ not (kind_passes is_unh (next_but_unt after))
empty_from heads marks i known here after site ung =
    let tags = tags_of marks in
    let n = length tags in
    let stop = next_stop (ends_group_at tags) n i in
    let next = find (at_kind is_no_unt marks) (range_with_len (i + 1) (n - (i + 1))) in
    let here_no : is_at (codes "UNH") tags i ≡ false = unh_by_kind (tag_in tags i) ∙ ap (kind_passes is_unh) (sym site.segment.kind) ∙ ung_no_unh (kind_in here) ung in
    let fits : i + 1 + (n - (i + 1)) ≡ n = omega (arith, site.within) in
    let ahead = message_ahead (closes_group tags) (ends_group_at tags) (is_at (codes "UNH") tags) (at_kind is_no_unt marks) (kind_at marks) n i stop next
    (record { stop = λ k. group_stop_by_kind (tag_in tags k); message = λ k. unh_by_kind (tag_in tags k); other = λ k. refl }) site.within here_no
    (found (ends_group_at tags) (i + 1) (n - (i + 1)) n fits) (found (at_kind is_no_unt marks) (i + 1) (n - (i + 1)) n fits) in
    messages_none tags i (group_from tags i) (first_of (closes_group tags) n i stop)
    ∙ ap not (ahead ∙ ap (kind_passes is_unh) (sym (next_at heads marks i known here after site)))

empty_same : (kind : Option HeadKind) (a : ℕ) (from : ℕ → Extent) (empty : Extent → Bool) (next : Option HeadKind) → (kind_passes is_ung kind ≡ true → empty (from a) ≡ not (kind_passes is_unh next)) → option_map_or empty (option_map from (cond (kind_passes is_ung kind) (Some a) None)) false ≡ empty_group_by kind next
empty_same (Some Ung) a from empty next same = same refl
empty_same None a from empty next same = refl
empty_same (Some _) a from empty next same = refl

pub empty_group_is : (heads : List Head) (marks : List SegmentMark) (i : ℕ) (known : Known) (here : Option Head) (after : List Head) → Site heads marks i known here after → is_empty_group (tags_of marks) i ≡ empty_group_by (kind_in here) (next_but_unt after)
unfolding is_empty_group
empty_group_is heads marks i known here after site =
    let tags = tags_of marks in
    ap (λ o. option_map_or (λ e. messages_in tags e == 0) o false) (opened_is heads marks i known here after site)
    ∙ empty_same (kind_in here) i (group_from tags) (λ e. messages_in tags e == 0) (next_but_unt after) (empty_from heads marks i known here after site)
