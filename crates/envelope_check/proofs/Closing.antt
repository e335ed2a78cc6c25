-- What a closing segment has to give: its count, and the reference of the segment that opened what it closes.
use Rattle.std.proofs.Common.{◌≡◌, ℕ, ◌+◌, ◌<◌, Bool, true, false, not, cond, List, [], ◌&&◌, Option, Some, None, length, refl, sym, ap, ◌∙◌, arith}
use Rattle.std.specs.Prelude.{is_some, codes, if◌then◌else◌}
use Rattle.std.specs.Option.{option_map, option_map_or, option_and_then, option_or, option_copied}
use Rattle.std.specs.Str.{bytes_eq}
use Rattle.std.proofs.lemmas.Bool.{false≢true, true≢false}
use Rattle.edi_tables.specs.Extents.{Extent, tag_in, message_closed_at, group_closed_at}
use Rattle.edi_tables.specs.declared.tag.Tag.{Tag}
use Rattle.envelope_check.specs.Head.{Head}
use Rattle.envelope_check.specs.declared.head.HeadKind.{HeadKind}
use Rattle.envelope_check.specs.declared.head.HeadKind.TheVariants.{Unh, Unt, Une, Unz}
use Rattle.envelope_check.specs.declared.head.SegmentMark.{SegmentMark}
use Rattle.envelope_check.specs.declared.known.Known.{Known}
use Rattle.envelope_check.specs.Heads.{tags_of, head_of, reference_of, count_of}
use Rattle.envelope_check.specs.Known.{kind_in, is_unh, is_unz, is_une, by_closing, counted_by, count_due_by, miscounts_by, opening_by, refers_elsewhere_by}
use Rattle.envelope_check.specs.Envelope.{is_at, count_at, is_end, segment_count, messages_in, counted_at_end, count_due, opener_of, gives, miscounts, refers_elsewhere}
use Rattle.envelope_check.proofs.Counting.{count_more}
use Rattle.envelope_check.proofs.TagKinds.{is_unt, unt_by_kind, une_by_kind, unh_by_kind}
use Rattle.edi_tables.proofs.Openings.{first_of, next_stop, stretch_closed}
use Rattle.envelope_check.proofs.Extents.{tag_kind, kind_passes, message_opened, group_opened, message_from, group_from, message_marks, group_marks, opens_message, closes_message, ends_message, opens_group, closes_group, ends_group_at, message_closed_by, group_closed_by}
use Rattle.envelope_check.proofs.IsKnown.{IsKnown, opened_before, is_some_copied}
use Rattle.envelope_check.proofs.RuleLaws.{Site, end_is, IsOpener, group_opener, message_opener}

-- the message that a segment closes ends with it
message_ends : (tags : List (Option Tag)) (i a : ℕ) → i < length tags → is_at (codes "UNT") tags i ≡ true → message_opened tags i ≡ Some a → message_from tags a ≡ record { first = a + 1; last = i + 1; closed = true }
message_ends tags i a within here opening =
    stretch_closed (opens_message tags) (closes_message tags) (ends_message tags) (length tags) i a (message_marks tags) within here opening

group_ends : (tags : List (Option Tag)) (i a : ℕ) → i < length tags → is_at (codes "UNE") tags i ≡ true → group_opened tags i ≡ Some a → group_from tags a ≡ record { first = a + 1; last = i + 1; closed = true }
group_ends tags i a within here opening =
    stretch_closed (opens_group tags) (closes_group tags) (ends_group_at tags) (length tags) i a (group_marks tags) within here opening

-- three choices, of which a closing segment makes one
abbrev pub chosen : {A : Type 0} → Option HeadKind → Option A → Option A → Bool → Option A → Option A
chosen kind message group ended interchange =
    option_or (cond (kind_passes is_unt kind) message None)
    (option_or (cond (kind_passes is_une kind) group None) (cond (kind_passes is_unz kind && not ended) interchange None))

chosen_is : {A : Type 0} (kind : Option HeadKind) (message group : Option A) (ended : Bool) (interchange : Option A) → chosen kind message group ended interchange ≡ by_closing kind message group (if ended then None else interchange)
chosen_is None message group ended interchange = refl
chosen_is (Some Unt) None group ended interchange = refl
chosen_is (Some Unt) (Some m) group ended interchange = refl
chosen_is (Some Une) message None ended interchange = refl
chosen_is (Some Une) message (Some g) ended interchange = refl
chosen_is (Some Unz) message group true interchange = refl
chosen_is (Some Unz) message group false interchange = refl
chosen_is (Some _) message group ended interchange = refl

map_cond : {A B : Type 0} (f : A → B) (b : Bool) (o : Option A) → option_map f (cond b o None) ≡ cond b (option_map f o) None
map_cond f true o = refl
map_cond f false o = refl

map_map : {A B C : Type 0} (f : B → C) (g : A → B) (o : Option A) → option_map f (option_map g o) ≡ option_map (λ a. f (g a)) o
map_map f g None = refl
map_map f g (Some x) = refl

-- a number or a segment by what is closed at place i
message_part : {A : Type 0} (heads : List Head) (marks : List SegmentMark) (i : ℕ) (known : Known) (here : Option Head) (after : List Head) (f : Extent → A) → Site heads marks i known here after
    → option_map f (message_closed_at (tags_of marks) i) ≡ cond (kind_passes is_unt (kind_in here)) (option_map (λ a. f (message_from (tags_of marks) a)) (message_opened (tags_of marks) i)) None
message_part heads marks i known here after f site =
    let tags = tags_of marks in
    ap (option_map f) (message_closed_by tags i site.within ∙ map_cond (message_from tags) (kind_passes is_unt (tag_kind tags i)) (message_opened tags i))
    ∙ map_cond f (kind_passes is_unt (tag_kind tags i)) (option_map (message_from tags) (message_opened tags i))
    ∙ ap (λ o. cond (kind_passes is_unt (tag_kind tags i)) o None) (map_map f (message_from tags) (message_opened tags i))
    ∙ ap (λ k. cond (kind_passes is_unt k) (option_map (λ a. f (message_from tags a)) (message_opened tags i)) None) (sym site.segment.kind)

group_part : {A : Type 0} (heads : List Head) (marks : List SegmentMark) (i : ℕ) (known : Known) (here : Option Head) (after : List Head) (f : Extent → A) → Site heads marks i known here after
    → option_map f (group_closed_at (tags_of marks) i) ≡ cond (kind_passes is_une (kind_in here)) (option_map (λ a. f (group_from (tags_of marks) a)) (group_opened (tags_of marks) i)) None
group_part heads marks i known here after f site =
    let tags = tags_of marks in
    ap (option_map f) (group_closed_by tags i site.within ∙ map_cond (group_from tags) (kind_passes is_une (tag_kind tags i)) (group_opened tags i))
    ∙ map_cond f (kind_passes is_une (tag_kind tags i)) (option_map (group_from tags) (group_opened tags i))
    ∙ ap (λ o. cond (kind_passes is_une (tag_kind tags i)) o None) (map_map f (group_from tags) (group_opened tags i))
    ∙ ap (λ k. cond (kind_passes is_une k) (option_map (λ a. f (group_from tags a)) (group_opened tags i)) None) (sym site.segment.kind)

cond_under : {A : Type 0} (b : Bool) (x y : Option A) → (b ≡ true → x ≡ y) → cond b x None ≡ cond b y None
cond_under true x y same = same refl
cond_under false x y same = refl

-- where both are there, and agree
option_same : {A : Type 0} (o : Option ℕ) (f : ℕ → A) (there : Bool) (x : A) → there ≡ is_some o → ((a : ℕ) → o ≡ Some a → f a ≡ x) → option_map f o ≡ (if there then Some x else None)
option_same None f there x same each = rw same refl
option_same (Some a) f there x same each = rw same (ap Some (each a refl))

message_count : (heads : List Head) (marks : List SegmentMark) (i : ℕ) (known : Known) (here : Option Head) (after : List Head) → Site heads marks i known here after → kind_passes is_unt (kind_in here) ≡ true
    → option_map (λ a. segment_count (message_from (tags_of marks) a)) (message_opened (tags_of marks) i) ≡ (if is_some known.message then Some (known.message_segments + 1) else None)
message_count heads marks i known here after site closing =
    let tags = tags_of marks in
    let unt : is_at (codes "UNT") tags i ≡ true = unt_by_kind (tag_in tags i) ∙ ap (kind_passes is_unt) (sym site.segment.kind) ∙ closing in
    option_same (message_opened tags i) (λ a. segment_count (message_from tags a)) (is_some known.message) (known.message_segments + 1) site.so_far.in_message
    (λ a is. ap segment_count (message_ends tags i a site.within unt is) ∙ omega (arith, site.so_far.message_segments a is))

unh_no_une : (kind : Option HeadKind) → kind_passes is_une kind ≡ true → kind_passes is_unh kind ≡ false
unh_no_une (Some Unh) h = sym h
unh_no_une _ h = refl

group_count : (heads : List Head) (marks : List SegmentMark) (i : ℕ) (known : Known) (here : Option Head) (after : List Head) → Site heads marks i known here after → kind_passes is_une (kind_in here) ≡ true
    → option_map (λ a. messages_in (tags_of marks) (group_from (tags_of marks) a)) (group_opened (tags_of marks) i) ≡ (if is_some known.group then Some known.group_messages else None)
group_count heads marks i known here after site closing =
    let tags = tags_of marks in
    let une : is_at (codes "UNE") tags i ≡ true = une_by_kind (tag_in tags i) ∙ ap (kind_passes is_une) (sym site.segment.kind) ∙ closing in
    let unh : is_at (codes "UNH") tags i ≡ false = unh_by_kind (tag_in tags i) ∙ ap (kind_passes is_unh) (sym site.segment.kind) ∙ unh_no_une (kind_in here) closing in
    option_same (group_opened tags i) (λ a. messages_in tags (group_from tags a)) (is_some known.group) known.group_messages site.so_far.in_group
    (λ a is. let before : a < i = opened_before (opens_group tags) (ends_group_at tags) i a is in
    ap (messages_in tags) (group_ends tags i a site.within une is) ∙ ap (λ n. count_at (codes "UNH") tags n (i + 1)) (omega arith)
    ∙ count_more (codes "UNH") tags a i (omega arith) ∙ ap (λ b. count_at (codes "UNH") tags a i + cond b 1 0) unh ∙ omega (arith, site.so_far.group_messages a is))

-- the number that a closing segment has to give
count_due_is : (heads : List Head) (marks : List SegmentMark) (i : ℕ) (known : Known) (here : Option Head) (after : List Head) → Site heads marks i known here after → count_due (tags_of marks) i ≡ count_due_by (kind_in here) known
unfolding count_due
count_due_is heads marks i known here after site =
    let tags = tags_of marks in
    let kind = kind_in here in
    let message = message_part heads marks i known here after segment_count site
    ∙ cond_under (kind_passes is_unt kind) _ _ (message_count heads marks i known here after site) in
    let group = group_part heads marks i known here after (messages_in tags) site
    ∙ cond_under (kind_passes is_une kind) _ _ (group_count heads marks i known here after site) in
    let counted : counted_at_end tags i ≡ counted_by known.groups known.messages =
    ap (λ n. counted_by n (count_at (codes "UNH") tags 0 i)) (sym site.so_far.groups) ∙ ap (counted_by known.groups) (sym site.so_far.messages) in
    ap (λ o. option_or o (option_or (option_map (messages_in tags) (group_closed_at tags i)) (if is_end tags i then Some (counted_at_end tags i) else None))) message
    ∙ ap (λ o. option_or (cond (kind_passes is_unt kind) (if is_some known.message then Some (known.message_segments + 1) else None) None) (option_or o (if is_end tags i then Some (counted_at_end tags i) else None))) group
    ∙ ap (λ b. option_or (cond (kind_passes is_unt kind) (if is_some known.message then Some (known.message_segments + 1) else None) None)
    (option_or (cond (kind_passes is_une kind) (if is_some known.group then Some known.group_messages else None) None) (if b then Some (counted_at_end tags i) else None)))
    (end_is heads marks i known here after site)
    ∙ ap (λ n. option_or (cond (kind_passes is_unt kind) (if is_some known.message then Some (known.message_segments + 1) else None) None)
    (option_or (cond (kind_passes is_une kind) (if is_some known.group then Some known.group_messages else None) None) (if kind_passes is_unz kind && not known.ended then Some n else None)))
    counted
    ∙ chosen_is kind (if is_some known.message then Some (known.message_segments + 1) else None) (if is_some known.group then Some known.group_messages else None) known.ended (Some (counted_by known.groups known.messages))

miscounts_same : (here : Option Head) (known : Known) → option_map_or (λ n. not (gives (option_map_or (λ h. h.count) here []) n)) (count_due_by (kind_in here) known) false ≡ miscounts_by here (count_due_by (kind_in here) known)
miscounts_same None known = refl
miscounts_same (Some head) known = refl

pub miscounts_is : (heads : List Head) (marks : List SegmentMark) (i : ℕ) (known : Known) (here : Option Head) (after : List Head) → Site heads marks i known here after → miscounts heads (tags_of marks) i ≡ miscounts_by here (count_due_by (kind_in here) known)
unfolding miscounts
miscounts_is heads marks i known here after site =
    ap (λ o. option_map_or (λ n. not (gives (count_of heads (i + 1)) n)) o false) (count_due_is heads marks i known here after site)
    ∙ ap (λ o. option_map_or (λ n. not (gives (option_map_or (λ (h : Head). h.count) o []) n)) (count_due_by (kind_in here) known) false) (sym site.segment.found)
    ∙ miscounts_same here known

-- a reference compared with that of a segment that is there
refers_same : (heads : List Head) (value : List ℕ) (k : Option ℕ) (opening : Option Head) → opening ≡ option_and_then (head_of heads) k → is_some opening ≡ is_some k
    → option_map_or (λ n. not (bytes_eq value (reference_of heads n))) k false ≡ option_map_or (λ o. not (bytes_eq value o.reference)) opening false
refers_same heads value None None same there = refl
refers_same heads value None (Some head) same there = absurd (true≢false there)
refers_same heads value (Some k) None same there = absurd (false≢true there)
refers_same heads value (Some k) (Some head) same there = ap (λ o. not (bytes_eq value (option_map_or (λ (h : Head). h.reference) o []))) (sym same)

-- the head that opened what a segment closes is the head of the segment that opened it
record Agrees (heads : List Head) (k : Option ℕ) (head : Option Head) : Type 0 where
  same : head ≡ option_and_then (head_of heads) k
  there : is_some head ≡ is_some k

agrees_none : (heads : List Head) → Agrees heads None None
agrees_none heads = record { same = refl; there = refl }

agrees_by : (heads : List Head) (kind : Option HeadKind) (k l m : Option ℕ) (x y z : Option Head) → Agrees heads k x → Agrees heads l y → Agrees heads m z → Agrees heads (by_closing kind k l m) (by_closing kind x y z)
agrees_by heads None k l m x y z a b c = agrees_none heads
agrees_by heads (Some Unt) k l m x y z a b c = a
agrees_by heads (Some Une) k l m x y z a b c = b
agrees_by heads (Some Unz) k l m x y z a b c = c
agrees_by heads (Some _) k l m x y z a b c = agrees_none heads

agrees_opened : (heads : List Head) (open_at : Option ℕ) (head : Option Head) (from : ℕ → Extent) → ((a : ℕ) → (from a).first ≡ a + 1) → IsOpener heads open_at head → Agrees heads (option_map (λ a. (from a).first) open_at) head
agrees_opened heads None head from first opening = record { same = opening.same; there = opening.there }
agrees_opened heads (Some a) head from first opening = record { same = opening.same ∙ ap (head_of heads) (sym (first a)); there = opening.there }

chosen_head : (heads : List Head) (unb : Bool) → cond unb (head_of heads 1) None ≡ option_and_then (head_of heads) (cond unb (Some 1) None)
chosen_head heads true = refl
chosen_head heads false = refl

some_chosen : (unb : Bool) → unb ≡ is_some {T = ℕ} (cond unb (Some 1) None)
some_chosen true = refl
some_chosen false = refl

and_cond : (a b : Bool) (x : Option ℕ) → cond (a && b) x None ≡ cond a (cond b x None) None
and_cond true b x = refl
and_cond false b x = refl

agrees_interchange : (heads : List Head) (tags : List (Option Tag)) (i : ℕ) (known : Known) → IsKnown heads tags i known → Agrees heads (cond (is_at (codes "UNB") tags 0) (Some 1) None) (option_copied known.interchange)
agrees_interchange heads tags i known is_known = record {
  same = is_known.interchange ∙ chosen_head heads (is_at (codes "UNB") tags 0);
  there = is_some_copied known.interchange ∙ is_known.has_interchange ∙ some_chosen (is_at (codes "UNB") tags 0);
}

agrees_unless : (heads : List Head) (ended : Bool) (k : Option ℕ) (head : Option Head) → Agrees heads k head → Agrees heads (if ended then None else k) (if ended then None else head)
agrees_unless heads true k head agrees = agrees_none heads
agrees_unless heads false k head agrees = agrees

-- the segment that opened what a segment closes
opening_part : (heads : List Head) (marks : List SegmentMark) (i : ℕ) (known : Known) (here : Option Head) (after : List Head) → Site heads marks i known here after → opener_of (tags_of marks) i
    ≡ by_closing (kind_in here) (option_map (λ a. (message_from (tags_of marks) a).first) (message_opened (tags_of marks) i)) (option_map (λ a. (group_from (tags_of marks) a).first) (group_opened (tags_of marks) i))
    (if known.ended then None else cond (is_at (codes "UNB") (tags_of marks) 0) (Some 1) None)
unfolding opener_of
opening_part heads marks i known here after site =
    let tags = tags_of marks in
    let kind = kind_in here in
    let unb = is_at (codes "UNB") tags 0 in
    let message = message_part heads marks i known here after (λ e. e.first) site in
    let group = group_part heads marks i known here after (λ e. e.first) site in
    let opened_message = option_map (λ a. (message_from tags a).first) (message_opened tags i) in
    let opened_group = option_map (λ a. (group_from tags a).first) (group_opened tags i) in
    ap (λ o. option_or o (option_or (option_map (λ e. e.first) (group_closed_at tags i)) (if is_end tags i && unb then Some 1 else None))) message
    ∙ ap (λ o. option_or (cond (kind_passes is_unt kind) opened_message None) (option_or o (if is_end tags i && unb then Some 1 else None))) group
    ∙ ap (λ o. option_or (cond (kind_passes is_unt kind) opened_message None) (option_or (cond (kind_passes is_une kind) opened_group None) o))
    (and_cond (is_end tags i) unb (Some 1) ∙ ap (λ b. cond b (cond unb (Some 1) None) None) (end_is heads marks i known here after site))
    ∙ chosen_is kind opened_message opened_group known.ended (cond unb (Some 1) None)

refers_here : (here opening : Option Head) → (kind_in here ≡ None → opening ≡ None)
    → option_map_or (λ o. not (bytes_eq (option_map_or (λ h. h.reference) here []) o.reference)) opening false ≡ refers_elsewhere_by here opening
refers_here None opening none = ap (λ o. option_map_or (λ (q : Head). not (bytes_eq [] q.reference)) o false) (none refl)
refers_here (Some head) opening none = refl

opening_none : (kind : Option HeadKind) (known : Known) → kind ≡ None → opening_by kind known ≡ None
opening_none kind known none = rw none refl

pub refers_elsewhere_is : (heads : List Head) (marks : List SegmentMark) (i : ℕ) (known : Known) (here : Option Head) (after : List Head) → Site heads marks i known here after → refers_elsewhere heads (tags_of marks) i ≡ refers_elsewhere_by here (opening_by (kind_in here) known)
unfolding refers_elsewhere
refers_elsewhere_is heads marks i known here after site =
    let tags = tags_of marks in
    let message = agrees_opened heads (message_opened tags i) (option_copied known.message) (message_from tags)
    (λ a. first_of (closes_message tags) (length tags) a (next_stop (ends_message tags) (length tags) a)) (message_opener heads tags i known site.so_far) in
    let group = agrees_opened heads (group_opened tags i) (option_copied known.group) (group_from tags)
    (λ a. first_of (closes_group tags) (length tags) a (next_stop (ends_group_at tags) (length tags) a)) (group_opener heads tags i known site.so_far) in
    let interchange = agrees_unless heads known.ended _ _ (agrees_interchange heads tags i known site.so_far) in
    let agrees = agrees_by heads (kind_in here) _ _ _ _ _ _ message group interchange in
    ap (λ o. option_map_or (λ k. not (bytes_eq (reference_of heads (i + 1)) (reference_of heads k))) o false) (opening_part heads marks i known here after site)
    ∙ refers_same heads (reference_of heads (i + 1)) _ (opening_by (kind_in here) known) agrees.same agrees.there
    ∙ ap (λ o. option_map_or (λ (q : Head). not (bytes_eq (option_map_or (λ (h : Head). h.reference) o []) q.reference)) (opening_by (kind_in here) known) false) (sym site.segment.found)
    ∙ refers_here here (opening_by (kind_in here) known) (opening_none (kind_in here) known)
