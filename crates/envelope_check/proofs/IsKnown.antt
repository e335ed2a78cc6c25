-- What is known of a text at a place, from its definitions, and how it goes on from one segment to the next.
use Rattle.std.proofs.Common.{◌≡◌, ℕ, suc, ◌+◌, ◌<◌, ◌≤◌, Bool, true, false, not, cond, List, [], ◌∷◌, ◌++◌, ◌||◌, Option, Some, None, length, refl, sym, ap, subst, ◌∙◌, inl, inr, arith, add-one}
use Rattle.std.specs.Prelude.{find, filter, is_some, ◌==◌, codes, if◌then◌else◌}
use Rattle.std.specs.Option.{option_map_or, option_and_then, option_copied}
use Rattle.std.specs.List.{range_with_len}
use Rattle.std.specs.Borrow.{Bor}
use Rattle.std.proofs.lemmas.Bool.{cases_Bool}
use Rattle.edi_tables.specs.Extents.{tag_in}
use Rattle.edi_tables.specs.declared.tag.Tag.{Tag}
use Rattle.envelope_check.specs.Head.{Head}
use Rattle.envelope_check.specs.declared.head.HeadKind.{HeadKind}
use Rattle.envelope_check.specs.declared.head.HeadKind.TheVariants.{Ung, Unh, Unt}
use Rattle.envelope_check.specs.declared.head.SegmentMark.{SegmentMark}
use Rattle.envelope_check.specs.declared.known.Known.{Known}
use Rattle.edi_tables.specs.Rows.{has_name, when}
use Rattle.error_ledger.specs.declared.kind.Kind.TheVariants.{NoUnb, NoUnz}
use Rattle.envelope_check.specs.Heads.{tags_of, head_of, kind_of, Fits}
use Rattle.envelope_check.specs.Known.{kind_in, head_here, has_kind, first_unb, is_unb, IsKnownFirst, is_ung, is_unh, is_unz, ends_group, message_after, group_after, message_segments_after, group_messages_after, counted_after, IsKnownAfter, IsKnownAfterOthers}
use Rattle.envelope_check.specs.Envelope.{is_at, count_at, is_after_end, end_of_interchange, text_errors, error_of_text}
use Rattle.envelope_check.proofs.Counting.{count_more, count_none, none_counted, is_after_end_more, is_after_end_first}
use Rattle.envelope_check.proofs.Ahead.{length_tags, Here, at_kind, any_ahead, no_heads, here_at, ahead_first}
use Rattle.envelope_check.proofs.TagKinds.{stops_message, stops_group, unb_by_kind, ung_by_kind, unh_by_kind, unz_by_kind, message_stop_by_kind, group_stop_by_kind}
use Rattle.envelope_check.proofs.Extents.{tag_kind, kind_passes, message_opened, group_opened}
use Rattle.edi_tables.proofs.Openings.{opened, opened_is, Opened, IsOpen}

-- the head of the segment that opened something
abbrev pub opener : List Head → Option ℕ → Option Head
opener heads a = option_and_then (λ k. head_of heads (k + 1)) a

pub record IsKnown (heads : List Head) (tags : List (Option Tag)) (i : ℕ) (known : Known) : Type 0 where
  pub has_groups : known.has_groups ≡ not (count_at (codes "UNG") tags 0 (length tags) == 0)
  pub interchange : option_copied known.interchange ≡ cond (is_at (codes "UNB") tags 0) (head_of heads 1) None
  pub has_interchange : is_some known.interchange ≡ is_at (codes "UNB") tags 0
  pub ended : known.ended ≡ is_after_end tags i
  pub message : option_copied known.message ≡ opener heads (message_opened tags i)
  pub in_message : is_some known.message ≡ is_some (message_opened tags i)
  pub message_segments : (a : ℕ) → message_opened tags i ≡ Some a → known.message_segments + a ≡ i
  pub group : option_copied known.group ≡ opener heads (group_opened tags i)
  pub in_group : is_some known.group ≡ is_some (group_opened tags i)
  pub group_messages : (a : ℕ) → group_opened tags i ≡ Some a → known.group_messages ≡ count_at (codes "UNH") tags a i
  pub segments : known.segments ≡ i
  pub groups : known.groups ≡ count_at (codes "UNG") tags 0 i
  pub messages : known.messages ≡ count_at (codes "UNH") tags 0 i

pub is_some_copied : (o : Option (Bor Head)) → is_some (option_copied o) ≡ is_some o
is_some_copied None = refl
is_some_copied (Some h) = refl

-- what is open after a segment, by its kind
abbrev message_open_after : Option HeadKind → ℕ → Option ℕ → Option ℕ
message_open_after kind i before = cond (kind_passes is_unh kind) (Some i) (cond (kind_passes (λ _. true) kind) None before)

abbrev group_open_after : Option HeadKind → ℕ → Option ℕ → Option ℕ
group_open_after kind i before = cond (kind_passes is_ung kind) (Some i) (cond (kind_passes ends_group kind) None before)

choice_same : (o p s t : Bool) (i : ℕ) (before : Option ℕ) → o ≡ p → s ≡ t → cond o (Some i) (cond s None before) ≡ cond p (Some i) (cond t None before)
choice_same o p s t i before opens stops = rw (opens, stops) refl

message_opened_more : (tags : List (Option Tag)) (i : ℕ) → message_opened tags (suc i) ≡ message_open_after (tag_kind tags i) i (message_opened tags i)
message_opened_more tags i =
    choice_same (is_at (codes "UNH") tags i) _ (stops_message (tag_in tags i)) _ i (message_opened tags i) (unh_by_kind (tag_in tags i)) (message_stop_by_kind (tag_in tags i))

group_opened_more : (tags : List (Option Tag)) (i : ℕ) → group_opened tags (suc i) ≡ group_open_after (tag_kind tags i) i (group_opened tags i)
group_opened_more tags i =
    choice_same (is_at (codes "UNG") tags i) _ (stops_group (tag_in tags i)) _ i (group_opened tags i) (ung_by_kind (tag_in tags i)) (group_stop_by_kind (tag_in tags i))

-- the head that opened what is open after a segment
message_kept : (heads : List Head) (kind : Option HeadKind) (i : ℕ) (here : Option Head) (before : Option ℕ) → here ≡ head_of heads (i + 1) → message_after kind here (opener heads before) ≡ opener heads (message_open_after kind i before)
message_kept heads None i here before found = refl
message_kept heads (Some Unh) i here before found = found
message_kept heads (Some _) i here before found = refl

group_kept : (heads : List Head) (kind : Option HeadKind) (i : ℕ) (here : Option Head) (before : Option ℕ) → here ≡ head_of heads (i + 1) → group_after kind here (opener heads before) ≡ opener heads (group_open_after kind i before)
group_kept heads None i here before found = refl
group_kept heads (Some Ung) i here before found = found
group_kept heads (Some _) i here before found = refl

message_there : (kind : Option HeadKind) (i : ℕ) (here was : Option Head) (before : Option ℕ) → kind_in here ≡ kind → is_some was ≡ is_some before → is_some (message_after kind here was) ≡ is_some (message_open_after kind i before)
message_there None i here was before kind same = same
message_there (Some Unh) i None was before kind same = cc
message_there (Some Unh) i (Some head) was before kind same = refl
message_there (Some _) i here was before kind same = refl

group_there : (kind : Option HeadKind) (i : ℕ) (here was : Option Head) (before : Option ℕ) → kind_in here ≡ kind → is_some was ≡ is_some before → is_some (group_after kind here was) ≡ is_some (group_open_after kind i before)
group_there None i here was before kind same = same
group_there (Some Unh) i here was before kind same = same
group_there (Some Unt) i here was before kind same = same
group_there (Some Ung) i None was before kind same = cc
group_there (Some Ung) i (Some head) was before kind same = refl
group_there (Some _) i here was before kind same = refl

some_same : (i a : ℕ) → Some i ≡ Some a → i ≡ a
some_same i a same = cc

none_some : (a : ℕ) → None ≡ Some a → ⊥
none_some a same = cc

segments_kept : (kind : Option HeadKind) (i n a : ℕ) (before : Option ℕ) → ((b : ℕ) → before ≡ Some b → n + b ≡ i) → message_open_after kind i before ≡ Some a → message_segments_after kind n + a ≡ suc i
segments_kept None i n a before each is = omega (arith, each a is)
segments_kept (Some Unh) i n a before each is = omega (arith, some_same i a is)
segments_kept (Some _) i n a before each is = absurd (none_some a is)

-- the messages of the open group, with the segment itself
messages_kept : (tags : List (Option Tag)) (kind : Option HeadKind) (i n a : ℕ) (before : Option ℕ) → is_at (codes "UNH") tags i ≡ kind_passes is_unh kind → ((b : ℕ) → before ≡ Some b → (n ≡ count_at (codes "UNH") tags b i) × (b ≤ i)) → group_open_after kind i before ≡ Some a → group_messages_after kind n ≡ count_at (codes "UNH") tags a (i + 1)
messages_kept tags None i n a before tested each is =
    let was = each a is in
    was.0 ∙ sym (count_more (codes "UNH") tags a i was.1 ∙ rw tested (omega arith))
messages_kept tags (Some Unh) i n a before tested each is =
    let was = each a is in
    ap (λ m. m + 1) was.0 ∙ sym (count_more (codes "UNH") tags a i was.1 ∙ rw tested refl)
messages_kept tags (Some Unt) i n a before tested each is =
    let was = each a is in
    was.0 ∙ sym (count_more (codes "UNH") tags a i was.1 ∙ rw tested (omega arith))
messages_kept tags (Some Ung) i n a before tested each is =
    let same = some_same i a is in
    let counted = count_more (codes "UNH") tags i i (omega arith) ∙ rw tested (rw (count_none (codes "UNH") tags i) refl) in
    sym (ap (λ b. count_at (codes "UNH") tags b (i + 1)) (sym same) ∙ counted)
messages_kept tags (Some _) i n a before tested each is = absurd (none_some a is)

counted_kept : (p : HeadKind → Bool) (kind : Option HeadKind) (n : ℕ) → counted_after p kind n ≡ n + cond (kind_passes p kind) 1 0
counted_kept p None n = omega arith
counted_kept p (Some kind) n = elim (cases_Bool (p kind)) [
  | inl passes ↦ rw passes refl
  | inr fails ↦ rw fails (omega arith)
]

ended_kept : (kind : Option HeadKind) (was : Bool) → (was || option_map_or is_unz kind false) ≡ (was || kind_passes is_unz kind)
ended_kept kind was = refl

pub opened_before : (o s : ℕ → Bool) (i a : ℕ) → opened o s i ≡ Some a → a < i
opened_before o s i a is =
    let it : IsOpen o s i a = subst (Opened o s i) is (opened_is o s i) in
    it.before

-- what is known after a segment
pub known_next : (heads : List Head) (marks : List SegmentMark) (i : ℕ) (old new : Known) (here : Option Head) (after : List Head) → i < length marks → Here heads marks i here after → IsKnown heads (tags_of marks) i old → IsKnownAfter old here new → IsKnown heads (tags_of marks) (i + 1) new
known_next heads marks i old new here after within site known next =
    let tags = tags_of marks in
    let in_tags : i < length tags = omega (arith, length_tags marks) in
    let message_now = ap (λ k. message_open_after k i (message_opened tags i)) site.kind ∙ sym (message_opened_more tags i) ∙ ap (message_opened tags) (sym (add-one i)) in
    let group_now = ap (λ k. group_open_after k i (group_opened tags i)) site.kind ∙ sym (group_opened_more tags i) ∙ ap (group_opened tags) (sym (add-one i)) in
    let unh : is_at (codes "UNH") tags i ≡ kind_passes is_unh (kind_in here) = unh_by_kind (tag_in tags i) ∙ ap (kind_passes is_unh) (sym site.kind) in
    let ung : is_at (codes "UNG") tags i ≡ kind_passes is_ung (kind_in here) = ung_by_kind (tag_in tags i) ∙ ap (kind_passes is_ung) (sym site.kind) in
    let unz : is_at (codes "UNZ") tags i ≡ kind_passes is_unz (kind_in here) = unz_by_kind (tag_in tags i) ∙ ap (kind_passes is_unz) (sym site.kind) in
    record {
      has_groups = next.has_groups ∙ known.has_groups;
      interchange = next.interchange ∙ known.interchange;
      has_interchange = sym (is_some_copied new.interchange) ∙ ap is_some next.interchange ∙ is_some_copied old.interchange ∙ known.has_interchange;
      ended = next.ended ∙ ap (λ b. b || kind_passes is_unz (kind_in here)) known.ended ∙ ap (λ b. is_after_end tags i || b) (sym unz) ∙ sym (is_after_end_more tags i in_tags);
      message = next.message ∙ ap (message_after (kind_in here) here) known.message ∙ message_kept heads (kind_in here) i here (message_opened tags i) site.found ∙ ap (opener heads) message_now;
      in_message = sym (is_some_copied new.message) ∙ ap is_some next.message
          ∙ message_there (kind_in here) i here (option_copied old.message) (message_opened tags i) refl (is_some_copied old.message ∙ known.in_message) ∙ ap is_some message_now;
      message_segments = λ a is. omega (arith, next.message_segments, segments_kept (kind_in here) i old.message_segments a (message_opened tags i) known.message_segments (message_now ∙ is));
      group = next.group ∙ ap (group_after (kind_in here) here) known.group ∙ group_kept heads (kind_in here) i here (group_opened tags i) site.found ∙ ap (opener heads) group_now;
      in_group = sym (is_some_copied new.group) ∙ ap is_some next.group
          ∙ group_there (kind_in here) i here (option_copied old.group) (group_opened tags i) refl (is_some_copied old.group ∙ known.in_group) ∙ ap is_some group_now;
      group_messages = λ a is. next.group_messages ∙ messages_kept tags (kind_in here) i old.group_messages a (group_opened tags i) unh
          (λ b was. (known.group_messages b was, omega (arith, opened_before (is_at (codes "UNG") tags) (λ j. stops_group (tag_in tags j)) i b was))) (group_now ∙ is);
      segments = omega (arith, next.segments, known.segments);
      groups = next.groups ∙ counted_kept is_ung (kind_in here) old.groups ∙ ap (λ n. n + cond (kind_passes is_ung (kind_in here)) 1 0) known.groups
          ∙ ap (λ b. count_at (codes "UNG") tags 0 i + cond b 1 0) (sym ung) ∙ sym (count_more (codes "UNG") tags 0 i (omega arith));
      messages = next.messages ∙ counted_kept is_unh (kind_in here) old.messages ∙ ap (λ n. n + cond (kind_passes is_unh (kind_in here)) 1 0) known.messages
          ∙ ap (λ b. count_at (codes "UNH") tags 0 i + cond b 1 0) (sym unh) ∙ sym (count_more (codes "UNH") tags 0 i (omega arith));
    }

-- it is known as well where nothing has changed
pub known_same : (heads : List Head) (tags : List (Option Tag)) (i : ℕ) (old new : Known) → IsKnown heads tags i old → IsKnownAfterOthers old 0 new → IsKnown heads tags i new
known_same heads tags i old new known same = record {
  has_groups = same.has_groups ∙ known.has_groups;
  interchange = same.interchange ∙ known.interchange;
  has_interchange = sym (is_some_copied new.interchange) ∙ ap is_some same.interchange ∙ is_some_copied old.interchange ∙ known.has_interchange;
  ended = same.ended ∙ known.ended;
  message = same.message ∙ known.message;
  in_message = sym (is_some_copied new.message) ∙ ap is_some same.message ∙ is_some_copied old.message ∙ known.in_message;
  message_segments = λ a is. omega (arith, same.message_segments, known.message_segments a is);
  group = same.group ∙ known.group;
  in_group = sym (is_some_copied new.group) ∙ ap is_some same.group ∙ is_some_copied old.group ∙ known.in_group;
  group_messages = λ a is. same.group_messages ∙ known.group_messages a is;
  segments = omega (arith, same.segments, known.segments);
  groups = same.groups ∙ known.groups;
  messages = same.messages ∙ known.messages;
}

-- what is known n segments later, where none of them is a head
abbrev pub later : Known → ℕ → Known
later known n = record known {
  message_segments = known.message_segments + n;
  segments = known.segments + n;
  few_message_segments = omega (arith, known.few_message_segments);
  few_group_messages = omega (arith, known.few_group_messages);
  few_groups = omega (arith, known.few_groups);
  few_messages = omega (arith, known.few_messages);
}

pub later_others : (known : Known) (n : ℕ) → IsKnownAfterOthers known n (later known n)
later_others known n = record {
  has_groups = refl;
  interchange = refl;
  ended = refl;
  message = refl;
  message_segments = refl;
  group = refl;
  group_messages = refl;
  segments = refl;
  groups = refl;
  messages = refl;
}

or_none : (b : Bool) → b ≡ (b || false)
or_none true = refl
or_none false = refl

-- the last of n + 1 such segments
pub last_other : (old new : Known) (n : ℕ) → IsKnownAfterOthers old (suc n) new → IsKnownAfter (later old n) None new
last_other old new n all = record {
  has_groups = all.has_groups;
  interchange = all.interchange;
  ended = all.ended ∙ or_none old.ended;
  message = all.message;
  message_segments = omega (arith, all.message_segments);
  group = all.group;
  group_messages = all.group_messages;
  segments = omega (arith, all.segments);
  groups = all.groups;
  messages = all.messages;
}

-- two tests that agree find the same
pub find_same : (p q : ℕ → Bool) → ((k : ℕ) → p k ≡ q k) → (xs : List ℕ) → find p xs ≡ find q xs
find_same p q same [] = refl
find_same p q same (x ∷ xs) = rw (same x, find_same p q same xs) refl

-- a head of a kind is among all heads where some segment has its tag
pub any_of : (name : List ℕ) (p : HeadKind → Bool) (heads : List Head) (marks : List SegmentMark) → Fits heads marks → ((tag : Option Tag) → has_name name tag ≡ kind_passes p (kind_of tag)) → has_kind p heads ≡ is_some (find (is_at name (tags_of marks)) (range_with_len 0 (length (tags_of marks))))
any_of name p heads marks fits by =
    any_ahead p marks 0 (length marks) heads (record { fits = fits })
    ∙ ap is_some (find_same (at_kind p marks) (is_at name (tags_of marks)) (λ k. sym (by (tag_in (tags_of marks) k))) (range_with_len 0 (length marks)))
    ∙ ap (λ n. is_some (find (is_at name (tags_of marks)) (range_with_len 0 n))) (sym (length_tags marks))

not_not : (b : Bool) → b ≡ not (not b)
not_not true = refl
not_not false = refl

has_groups_is : (heads : List Head) (marks : List SegmentMark) → Fits heads marks → has_kind is_ung heads ≡ not (count_at (codes "UNG") (tags_of marks) 0 (length (tags_of marks)) == 0)
has_groups_is heads marks fits =
    let tags = tags_of marks in
    any_of (codes "UNG") is_ung heads marks fits ung_by_kind
    ∙ not_not (is_some (find (is_at (codes "UNG") tags) (range_with_len 0 (length tags))))
    ∙ ap not (sym (none_counted (is_at (codes "UNG") tags) (range_with_len 0 (length tags))))
    ∙ ap (λ n. not (length (filter (is_at (codes "UNG") tags) (range_with_len 0 n)) == 0)) (omega arith)

first_unb_here : (here : Option Head) → (elim here [ None ↦ None | Some head ↦ if is_unb head.kind then Some head else None ]) ≡ cond (kind_passes is_unb (kind_in here)) here None
first_unb_here None = refl
first_unb_here (Some head) = refl

is_some_unb : (here : Option Head) → is_some (cond (kind_passes is_unb (kind_in here)) here None) ≡ kind_passes is_unb (kind_in here)
is_some_unb None = refl
is_some_unb (Some head) = elim (cases_Bool (is_unb head.kind)) [
  | inl it ↦ rw it refl
  | inr other ↦ rw other refl
]

unb_at_first : (heads : List Head) (marks : List SegmentMark) → Fits heads marks → (first_unb heads ≡ cond (is_at (codes "UNB") (tags_of marks) 0) (head_of heads 1) None) × (is_some (first_unb heads) ≡ is_at (codes "UNB") (tags_of marks) 0)
unb_at_first heads [] fits = let none = no_heads [] 0 heads (record { fits = fits }) in rw none (refl, refl)
unb_at_first heads (mark ∷ marks) fits =
    let site = here_at heads (mark ∷ marks) 0 heads (omega arith) (ahead_first heads (mark ∷ marks) fits) in
    let unb : kind_passes is_unb (kind_in (head_here heads 1)) ≡ is_at (codes "UNB") (tags_of (mark ∷ marks)) 0 =
    ap (kind_passes is_unb) site.kind ∙ sym (unb_by_kind (tag_in (tags_of (mark ∷ marks)) 0)) in
    let chosen = first_unb_here (head_here heads 1) in (
      chosen ∙ ap (λ b. cond b (head_here heads 1) None) unb ∙ ap (λ h. cond (is_at (codes "UNB") (tags_of (mark ∷ marks)) 0) h None) site.found,
      ap is_some chosen ∙ is_some_unb (head_here heads 1) ∙ unb,
    )

pub known_first : (heads : List Head) (marks : List SegmentMark) (known : Known) → Fits heads marks → IsKnownFirst heads known → IsKnown heads (tags_of marks) 0 known
known_first heads marks known fits first = record {
  has_groups = first.has_groups ∙ has_groups_is heads marks fits;
  interchange = first.interchange ∙ (unb_at_first heads marks fits).0;
  has_interchange = sym (is_some_copied known.interchange) ∙ ap is_some first.interchange ∙ (unb_at_first heads marks fits).1;
  ended = first.ended ∙ sym (is_after_end_first (tags_of marks));
  message = first.message;
  in_message = sym (is_some_copied known.message) ∙ ap is_some first.message;
  message_segments = λ a is. absurd (none_some a is);
  group = first.group;
  in_group = sym (is_some_copied known.group) ∙ ap is_some first.group;
  group_messages = λ a is. absurd (none_some a is);
  segments = first.segments;
  groups = first.groups;
  messages = first.messages;
}

-- the errors of the text as a whole
pub text_errors_by : (heads : List Head) (marks : List SegmentMark) → Fits heads marks → text_errors (tags_of marks) ≡ when (not (is_some (first_unb heads))) (error_of_text NoUnb) ++ when (not (has_kind is_unz heads)) (error_of_text NoUnz)
unfolding text_errors end_of_interchange
text_errors_by heads marks fits =
    ap (λ b. when (not b) (error_of_text NoUnb) ++ when (not (is_some (find (is_at (codes "UNZ") (tags_of marks)) (range_with_len 0 (length (tags_of marks)))))) (error_of_text NoUnz))
    (sym (unb_at_first heads marks fits).1)
    ∙ ap (λ b. when (not (is_some (first_unb heads))) (error_of_text NoUnb) ++ when (not b) (error_of_text NoUnz)) (sym (any_of (codes "UNZ") is_unz heads marks fits unz_by_kind))
