-- The functional groups and messages of a text by its records are those that the definitions say.
use Rattle.std.proofs.Common.{◌≡◌, ℕ, suc, ◌+◌, ◌-◌, ◌<◌, ◌≤◌, Bool, true, false, cond, List, [], ◌∷◌, length, drop, Option, Some, None, refl, sym, ap, ◌∙◌, arith}
use Rattle.std.specs.Prelude.{map, All, codes, if◌then◌else◌}
use Rattle.std.specs.List.{slice_get, enumerate_from, range_with_len}
use Rattle.std.specs.Option.{option_map}
use Rattle.std.proofs.lemmas.Bool.{false≢true}
use Rattle.std.proofs.lemmas.List.{length-map}
use Rattle.std.proofs.lemmas.List.Elements.{All-cons, All-nil}
use Rattle.std.proofs.lemmas.Option.{slice_get-map, slice_get_within}
use Rattle.edi_tables.specs.declared.tag.Tag.{Tag}
use Rattle.edi_tables.specs.Extents.{Extent, group_extents, message_extents, tag_in}
use Rattle.edi_tables.specs.Rows.{has_name}
use Rattle.edi_tables.proofs.Openings.{first_of, next_stop, opened, stretch}
use Rattle.dir_compile.specs.declared.parts.Parts.{Parts}
use Rattle.dir_compile.specs.Directory.{IsDirectory}
use Rattle.envelope_check.specs.declared.head.HeadKind.{HeadKind}
use Rattle.envelope_check.specs.declared.head.HeadKind.TheVariants.{Unb, Ung, Unh, Unt, Une, Unz}
use Rattle.envelope_check.proofs.Extents.{closes_group, closes_message, ends_group_at, ends_message, group_marks, message_marks, opens_group, opens_message}
use Rattle.envelope_check.proofs.TagKinds.{Sort, known, named, other, sort_of}
use Rattle.contrl_segments.specs.declared.summary.GroupHead.{GroupHead}
use Rattle.contrl_segments.specs.declared.summary.MessageHead.{MessageHead}
use Rattle.element_check.specs.Local.{local_errors_of}
use Rattle.contrl_segments.specs.declared.summary.Opening.TheVariants.{NoUnb}
use Rattle.seg_lexer.specs.Context.{context_of}
use Rattle.seg_lexer.specs.Fields.{Component}
use Rattle.seg_lexer.specs.Service.{service_of}
use Rattle.seg_lexer.specs.declared.context.Context.{Context}
use Rattle.seg_lexer.specs.declared.service.Service.{Service}
use Rattle.segment_records.specs.Segments.{Segment, segments_of_text, tags_in}
use Rattle.segment_records.specs.Records.{Kept}
use Rattle.segment_records.specs.declared.mode.Mode.{Mode}
use Rattle.segment_records.specs.declared.mode.Mode.TheVariants.{Outside}
use Rattle.segment_records.specs.Count.{segment_count_of}
use Rattle.segment_records.specs.WalkedSegments.{SeenSegment, kept_in, seen_at, seen_from, seen_in}
use Rattle.segment_records.specs.Spans.{IsNumbered, begun_by, group_by, group_spans, grouped, heads_from, message_seen, message_spans, stops_group}
use Rattle.segment_records.specs.Bounds.{stops_message}
use Rattle.segment_records.specs.Openers.{group_head_of, message_head_of, opening_by}
use Rattle.text_reading.specs.Summary.{group_of, groups_in, messages_in, opening_components, opening_in}
use Rattle.segment_records.specs.Told.{components_seen}
use Rattle.text_reading.proofs.Bounds.{none_first, some_first}
use Rattle.segment_records.proofs.Following.{stretch_in}
use Rattle.text_reading.proofs.Grouping.{below_next, group_is, opened_below, opened_next}
use Rattle.segment_records.proofs.Headed.{components_alike, count_segments, place_in}
use Rattle.segment_records.proofs.Looking.{first_left, next_left, seen_is}
use Rattle.segment_records.proofs.Spanned.{AreAt, IsAt, heads_are, heads_mapped}

-- a UNH neither opens nor stops a group
record IsApart (tag : Option Tag) : Type 0 where
  opens : has_name (codes "UNG") tag ≡ false
  stops : stops_group tag ≡ false

apart_kind : (kind : HeadKind) → has_name (codes "UNH") (named kind) ≡ true → IsApart (named kind)
apart_kind Unh h = record { opens = refl; stops = refl }
apart_kind Unb h = absurd (false≢true h)
apart_kind Ung h = absurd (false≢true h)
apart_kind Unt h = absurd (false≢true h)
apart_kind Une h = absurd (false≢true h)
apart_kind Unz h = absurd (false≢true h)

apart_sort : (tag : Option Tag) → Sort tag → has_name (codes "UNH") tag ≡ true → IsApart tag
apart_sort tag (known kind it) h =
    let apart = apart_kind kind (sym (ap (has_name (codes "UNH")) it.is) ∙ h) in
    record { opens = ap (has_name (codes "UNG")) it.is ∙ apart.opens; stops = ap stops_group it.is ∙ apart.stops }
apart_sort tag (other it) h = absurd (false≢true (sym it.unh ∙ h))

unh_apart : (tag : Option Tag) → has_name (codes "UNH") tag ≡ true → IsApart tag
unh_apart tag = apart_sort tag (sort_of tag)

group_stays : (tag : Option Tag) (begun : ℕ) (group : Option ℕ) → IsApart tag → group_by tag begun group ≡ group
group_stays tag begun group it =
    ap (λ (v : Bool). if v then Some begun else (if stops_group tag then None else group)) it.opens
    ∙ ap (λ (v : Bool). if v then None else group) it.stops

-- an extent from a place to a last segment
abbrev from_to : ℕ → ℕ → Extent
from_to first last = record { first = first; last = last; closed = false }

module _ (all : List Segment) where
  abbrev tags : List (Option Tag)
  tags = tags_in all

  tag_here : (k : ℕ) (segment : Segment) → slice_get all k ≡ Some segment → tag_in tags k ≡ segment.tag
  tag_here k segment is =
      ap (λ (found : Option (Option Tag)). elim found [ None ↦ None | Some tag ↦ tag ])
      (slice_get-map (λ (segment : Segment). segment.tag) all k ∙ ap (option_map (λ (segment : Segment). segment.tag)) is)

  count_tags : length tags ≡ length all
  count_tags = length-map all (λ (segment : Segment). segment.tag)

  components_here : (k last : ℕ) (segment : Segment) → slice_get all k ≡ Some segment → opening_components all (from_to (k + 1) last) ≡ segment.components
  components_here k last segment is =
      let place : k + 1 - 1 ≡ k = omega arith in
      ap (λ (found : Option Segment). elim found [ None ↦ [] | Some segment ↦ segment.components ]) (ap (slice_get all) place ∙ is)

  -- the group of an extent
  abbrev group_from_to : ℕ → ℕ → GroupHead
  group_from_to first last = group_head_of (from_to first last) (opening_components all (from_to first last))

  abbrev group_made : ℕ → GroupHead
  group_made b = group_from_to (b + 1) (b + 1)

  -- the message of an extent
  abbrev message_from_to : ℕ → ℕ → MessageHead
  message_from_to first last =
      message_head_of (group_of (group_extents tags) (first - 1)) (from_to first last) (opening_components all (from_to first last))

  abbrev message_made : ℕ → MessageHead
  message_made b = message_from_to (b + 1) (b + 1)

  -- the place of the group that a UNH lies in
  group_here : (k : ℕ) → k < length all → IsApart (tag_in tags k)
      → group_of (group_extents tags) k ≡ option_map (opened_below (opens_group tags)) (opened (opens_group tags) (ends_group_at tags) k)
  unfolding group_extents
  group_here k within it =
      group_is (opens_group tags) (closes_group tags) (ends_group_at tags) (length tags) k (group_marks tags) (omega (arith, count_tags)) it.opens it.stops

module _ (dir : Parts) (directory : IsDirectory dir) (text : List ℕ) where
  abbrev s : Service
  s = (context_of text).service

  abbrev all : List Segment
  all = segments_of_text text

  abbrev seen : ℕ × Segment → SeenSegment
  seen = seen_at dir (context_of text) all

  components_are : (k : ℕ) (segment : Segment) → slice_get all k ≡ Some segment → components_seen s text (seen (k, segment)) ≡ segment.components
  components_are k segment is =
      components_alike dir (context_of text) s text all k segment (stretch_in dir directory text k segment is) (place_in text k segment is)

  group_at : (k : ℕ) (segment : Segment) → slice_get all k ≡ Some segment
      → IsAt (group_spans s text) (opens_group (tags_in all)) (closes_group (tags_in all)) (ends_group_at (tags_in all)) (group_made all) k (seen (k, segment))
  group_at k segment is =
      let tag = sym (tag_here all k segment is) in
      record {
        opens = ap (has_name (codes "UNG")) tag;
        closes = ap (has_name (codes "UNE")) tag;
        stops = ap stops_group tag;
        number = refl;
        head = λ opens. ap (group_head_of (from_to (k + 1) (k + 1))) (components_are k segment is ∙ sym (components_here all k (k + 1) segment is));
      }

  groups_at : (k : ℕ) (more : List Segment) → drop k all ≡ more
      → AreAt (group_spans s text) (opens_group (tags_in all)) (closes_group (tags_in all)) (ends_group_at (tags_in all)) (group_made all) k (map seen (enumerate_from k more))
  groups_at k [] left = tt
  groups_at k (segment ∷ more) left =
      (group_at k segment (first_left all (segment ∷ more) k left), groups_at (k + 1) more (next_left all segment more k left))

  -- the group that is open after a segment
  pushed : (k : ℕ) (v w : Bool) (before : Option ℕ)
      → (if v then Some (opened_below (opens_group (tags_in all)) k) else (if w then None else option_map (opened_below (opens_group (tags_in all))) before))
      ≡ option_map (opened_below (opens_group (tags_in all))) (cond v (Some k) (cond w None before))
  pushed k true w before = refl
  pushed k false true before = refl
  pushed k false false before = refl

  -- the groups that have begun before a place, and the one that is open
  abbrev begun_before : ℕ → ℕ
  begun_before k = opened_below (opens_group (tags_in all)) k

  abbrev group_before : ℕ → Option ℕ
  group_before k = option_map (opened_below (opens_group (tags_in all))) (opened (opens_group (tags_in all)) (ends_group_at (tags_in all)) k)

  begun_after : (k : ℕ) (segment : Segment) (begun : ℕ) → slice_get all k ≡ Some segment → begun ≡ begun_before k → begun_by segment.tag begun ≡ begun_before (k + 1)
  begun_after k segment begun is begun_is =
      ap (λ (tag : Option Tag). begun_by tag begun) (sym (tag_here all k segment is))
      ∙ ap (begun_by (tag_in (tags_in all) k)) begun_is
      ∙ sym (below_next (opens_group (tags_in all)) k)

  group_after : (k : ℕ) (segment : Segment) (begun : ℕ) (group : Option ℕ) → slice_get all k ≡ Some segment → begun ≡ begun_before k → group ≡ group_before k
      → group_by segment.tag begun group ≡ group_before (k + 1)
  group_after k segment begun group is begun_is group_is =
      ap (λ (tag : Option Tag). group_by tag begun group) (sym (tag_here all k segment is))
      ∙ ap (λ (n : ℕ). group_by (tag_in (tags_in all) k) n group) begun_is
      ∙ ap (group_by (tag_in (tags_in all) k) (begun_before k)) group_is
      ∙ pushed k (opens_group (tags_in all) k) (ends_group_at (tags_in all) k) (opened (opens_group (tags_in all)) (ends_group_at (tags_in all)) k)
      ∙ ap (option_map (opened_below (opens_group (tags_in all)))) (sym (opened_next (opens_group (tags_in all)) (ends_group_at (tags_in all)) k))

  message_head_at : (k : ℕ) (segment : Segment) (begun : ℕ) (group : Option ℕ) → slice_get all k ≡ Some segment → group ≡ group_before k
      → opens_message (tags_in all) k ≡ true → message_seen s text (group_by segment.tag begun group) (seen (k, segment)) ≡ message_made all k
  message_head_at k segment begun group is group_is opens =
      let tag = sym (tag_here all k segment is) in
      let place : k ≡ k + 1 - 1 = omega arith in
      let groups : List Extent = group_extents (tags_in all) in
      ap (λ (g : Option ℕ). message_seen s text g (seen (k, segment)))
      (group_stays segment.tag begun group (unh_apart segment.tag (ap (has_name (codes "UNH")) tag ∙ opens))
      ∙ group_is
      ∙ sym (group_here all k (slice_get_within all k segment is) (unh_apart (tag_in (tags_in all) k) opens))
      ∙ ap (group_of groups) place)
      ∙ ap (message_head_of (group_of groups (k + 1 - 1)) (from_to (k + 1) (k + 1))) (components_are k segment is ∙ sym (components_here all k (k + 1) segment is))

  message_at : (k : ℕ) (segment : Segment) (begun : ℕ) (group : Option ℕ) → slice_get all k ≡ Some segment → group ≡ group_before k
      → IsAt (message_spans s text) (opens_message (tags_in all)) (closes_message (tags_in all)) (ends_message (tags_in all)) (message_made all) k
      (group_by segment.tag begun group, seen (k, segment))
  message_at k segment begun group is group_is =
      let tag = sym (tag_here all k segment is) in
      record {
        opens = ap (has_name (codes "UNH")) tag;
        closes = ap (has_name (codes "UNT")) tag;
        stops = ap stops_message tag;
        number = refl;
        head = message_head_at k segment begun group is group_is;
      }

  messages_at : (k : ℕ) (more : List Segment) (begun : ℕ) (group : Option ℕ) → drop k all ≡ more → begun ≡ begun_before k → group ≡ group_before k
      → AreAt (message_spans s text) (opens_message (tags_in all)) (closes_message (tags_in all)) (ends_message (tags_in all)) (message_made all) k
      (grouped begun group (map seen (enumerate_from k more)))
  messages_at k [] begun group left begun_is group_is = tt
  messages_at k (segment ∷ more) begun group left begun_is group_is =
      let is = first_left all (segment ∷ more) k left in (
        message_at k segment begun group is group_is,
        messages_at (k + 1) more (begun_by segment.tag begun) (group_by segment.tag begun group) (next_left all segment more k left)
            (begun_after k segment begun is begun_is) (group_after k segment begun group is begun_is group_is),
      )

  length_seen : (k : ℕ) (more : List Segment) → length (map seen (enumerate_from k more)) ≡ length more
  length_seen k [] = refl
  length_seen k (segment ∷ more) = ap suc (length_seen (k + 1) more)

  length_grouped : (begun : ℕ) (group : Option ℕ) (xs : List SeenSegment) → length (grouped begun group xs) ≡ length xs
  length_grouped begun group [] = refl
  length_grouped begun group (x ∷ xs) = ap suc (length_grouped (begun_by x.kept.tag begun) (group_by x.kept.tag begun group) xs)

  count_is : segment_count_of text ≡ length (tags_in all)
  count_is = count_segments text ∙ sym (count_tags (segments_of_text text))

  groups_are : heads_from (group_spans s text) (segment_count_of text) None (seen_in dir text) ≡ groups_in all
  unfolding group_extents
  groups_are =
      let tags : List (Option Tag) = tags_in all in
      let o = opens_group tags in
      let c = closes_group tags in
      let e = ends_group_at tags in
      let n = length tags in
      ap (λ (m : ℕ). heads_from (group_spans s text) m None (seen_in dir text)) count_is
      ∙ ap (heads_from (group_spans s text) n None) (seen_is dir directory text)
      ∙ heads_are (group_spans s text) o c e (group_made all) n (group_marks tags) (map seen (enumerate_from 0 all))
      (length_seen 0 all ∙ sym (count_tags all)) (groups_at 0 all refl)
      ∙ sym (heads_mapped (group_spans s text) o c e (group_made all) n (λ (x : Extent). group_head_of x (opening_components all x))
      (λ b. ap (λ (first : ℕ). group_from_to all first (stretch c e n b).last) (first_of c n b (next_stop e n b))) (range_with_len 0 n))

  messages_are : heads_from (message_spans s text) (segment_count_of text) None (grouped 0 None (seen_in dir text)) ≡ messages_in all
  unfolding message_extents
  messages_are =
      let tags : List (Option Tag) = tags_in all in
      let o = opens_message tags in
      let c = closes_message tags in
      let e = ends_message tags in
      let n = length tags in
      ap (λ (m : ℕ). heads_from (message_spans s text) m None (grouped 0 None (seen_in dir text))) count_is
      ∙ ap (λ (xs : List SeenSegment). heads_from (message_spans s text) n None (grouped 0 None xs)) (seen_is dir directory text)
      ∙ heads_are (message_spans s text) o c e (message_made all) n (message_marks tags) (grouped 0 None (map seen (enumerate_from 0 all)))
      (length_grouped 0 None (map seen (enumerate_from 0 all)) ∙ length_seen 0 all ∙ sym (count_tags all)) (messages_at 0 all 0 None refl refl refl)
      ∙ sym (heads_mapped (message_spans s text) o c e (message_made all) n
      (λ (x : Extent). message_head_of (group_of (group_extents tags) (x.first - 1)) x (opening_components all x))
      (λ b. ap (λ (first : ℕ). message_from_to all first (stretch c e n b).last) (first_of c n b (next_stop e n b))) (range_with_len 0 n))

  module _ (service : Service) (octets : List ℕ) (count : ℕ) (left : List SeenSegment)
      (service_is : service ≡ s) (octets_is : octets ≡ text) (count_is : count ≡ segment_count_of text) (left_is : left ≡ seen_in dir text) where
    -- the groups of a text
    pub groups_told : heads_from (group_spans service octets) count None left ≡ groups_in all
    groups_told =
        ap (λ (x : Service). heads_from (group_spans x octets) count None left) service_is
        ∙ ap (λ (t : List ℕ). heads_from (group_spans s t) count None left) octets_is
        ∙ ap (λ (n : ℕ). heads_from (group_spans s text) n None left) count_is
        ∙ ap (λ (xs : List SeenSegment). heads_from (group_spans s text) (segment_count_of text) None xs) left_is
        ∙ groups_are

    -- its messages
    pub messages_told : heads_from (message_spans service octets) count None (grouped 0 None left) ≡ messages_in all
    messages_told =
        ap (λ (x : Service). heads_from (message_spans x octets) count None (grouped 0 None left)) service_is
        ∙ ap (λ (t : List ℕ). heads_from (message_spans s t) count None (grouped 0 None left)) octets_is
        ∙ ap (λ (n : ℕ). heads_from (message_spans s text) n None (grouped 0 None left)) count_is
        ∙ ap (λ (xs : List SeenSegment). heads_from (message_spans s text) (segment_count_of text) None (grouped 0 None xs)) left_is
        ∙ messages_are

  -- what opens an interchange without a segment
  pub opening_none : seen_in dir text ≡ [] → NoUnb ≡ opening_in dir (context_of text) (slice_get all 0)
  opening_none none = sym (ap (opening_in dir (context_of text)) (none_first dir directory text all (sym (seen_is dir directory text) ∙ none)))

  module _ (first : SeenSegment) (rest : List SeenSegment) (is : seen_in dir text ≡ first ∷ rest) where
    abbrev at : (segment : Segment) × (slice_get all 0 ≡ Some segment) × (first ≡ seen (0, segment))
    at = some_first dir directory text all first rest (sym (seen_is dir directory text) ∙ is)

    opening_named : (named : Bool) → has_name (codes "UNB") first.kept.tag ≡ named
        → opening_in dir (context_of text) (slice_get all 0)
        ≡ (if named then opening_by (context_of text) at.0.components (local_errors_of dir (context_of text) at.0.components) else NoUnb)
    opening_named named same =
        ap (opening_in dir (context_of text)) at.1
        ∙ ap (λ (v : Bool). if v then opening_by (context_of text) at.0.components (local_errors_of dir (context_of text) at.0.components) else NoUnb)
        (ap (λ (x : SeenSegment). has_name (codes "UNB") x.kept.tag) (sym at.2) ∙ same)

    -- by another segment
    pub opening_other : has_name (codes "UNB") first.kept.tag ≡ false → NoUnb ≡ opening_in dir (context_of text) (slice_get all 0)
    opening_other unnamed = sym (opening_named false unnamed)

    -- by a UNB, whose components are read from the text
    pub opening_read : has_name (codes "UNB") first.kept.tag ≡ true → (context : Context) (octets : List ℕ) → context ≡ context_of text → octets ≡ text
        → opening_by context (components_seen context.service octets first) first.kept.local ≡ opening_in dir (context_of text) (slice_get all 0)
    opening_read named context octets context_is octets_is =
        ap (λ (c : Context). opening_by c (components_seen c.service octets first) first.kept.local) context_is
        ∙ ap (λ (t : List ℕ). opening_by (context_of text) (components_seen (context_of text).service t first) first.kept.local) octets_is
        ∙ ap (λ (x : SeenSegment). opening_by (context_of text) (components_seen s text x) x.kept.local) at.2
        ∙ ap (λ (components : List Component). opening_by (context_of text) components (local_errors_of dir (context_of text) at.0.components)) (components_are 0 at.0 at.1)
        ∙ sym (opening_named true named)

-- segments are numbered from 1
numbered_from : (n from : ℕ) (before : Mode) (kept : List Kept) → 0 < n → All IsNumbered (seen_from n from before kept)
numbered_from n from before [] some = All-nil IsNumbered
numbered_from n from before (k ∷ more) some =
    All-cons IsNumbered (record { number = n; from = from; before = before; kept = k; next = slice_get more 0 })
    (seen_from (n + 1) (from + k.octets) k.step.after more) some (numbered_from (n + 1) (from + k.octets) k.step.after more (omega arith))

pub numbered_in : (dir : Parts) (text : List ℕ) → All IsNumbered (seen_in dir text)
unfolding seen_in
numbered_in dir text = numbered_from 1 (service_of text).body Outside (kept_in dir text) (omega arith)

-- segments with their groups, one further
pub grouped_next : (begun : ℕ) (group : Option ℕ) (left : List SeenSegment) (x : SeenSegment) (rest : List SeenSegment) → left ≡ x ∷ rest
    → (tag : Option Tag) (after : ℕ) (next : Option ℕ) → tag ≡ x.kept.tag → after ≡ begun_by tag begun → next ≡ group_by tag begun group
    → grouped begun group left ≡ (next, x) ∷ grouped after next rest
grouped_next begun group left x rest is tag after next tag_is after_is next_is =
    let counted = ap (λ (t : Option Tag). begun_by t begun) (sym tag_is) ∙ sym after_is in
    let grouping = ap (λ (t : Option Tag). group_by t begun group) (sym tag_is) ∙ sym next_is in
    ap (grouped begun group) is
    ∙ ap (λ (n : ℕ). (group_by x.kept.tag begun group, x) ∷ grouped n (group_by x.kept.tag begun group) rest) counted
    ∙ ap (λ (g : Option ℕ). (g, x) ∷ grouped after g rest) grouping

begun_few : (v : Bool) (begun : ℕ) → (if v then begun + 1 else begun) ≤ begun + 1
begun_few true begun = omega arith
begun_few false begun = omega arith

-- no more groups have begun than there are segments
pub few_left : (begun after : ℕ) (tag : Option Tag) (left : List SeenSegment) (x : SeenSegment) (rest : List SeenSegment) → left ≡ x ∷ rest
    → after ≡ begun_by tag begun → begun + length left ≤ 4194304 → after + length rest ≤ 4194304
few_left begun after tag left x rest is after_is few =
    let long : length left ≡ suc (length rest) = ap length is in
    let less = begun_few (has_name (codes "UNG") tag) begun in
    omega (arith, long, less, after_is)

pub few_same : (left all : List SeenSegment) → left ≡ all → length all ≤ 4194304 → 0 + length left ≤ 4194304
few_same left all is few = let long = ap length is in omega arith
