-- The heads and the marks of a text by its records are those that the definitions say, and fit each other.
use Rattle.std.proofs.Common.{◌≡◌, ℕ, ◌+◌, Bool, true, List, [], ◌∷◌, length, drop, Option, Some, None, refl, sym, ap, ◌∙◌, arith}
use Rattle.std.specs.Prelude.{map, All, codes, is_some}
use Rattle.std.specs.List.{slice_get, enumerate_from, filter_map, cons_option, range_with_len}
use Rattle.std.specs.Option.{option_map, option_map_or}
use Rattle.std.proofs.lemmas.List.{length-map}
use Rattle.std.proofs.lemmas.List.Elements.{All-cons, All-nil}
use Rattle.std.proofs.lemmas.Option.{slice_get-map}
use Rattle.edi_tables.specs.declared.tag.Tag.{Tag}
use Rattle.edi_tables.specs.Extents.{tag_in}
use Rattle.edi_tables.specs.Rows.{has_name}
use Rattle.dir_compile.specs.declared.parts.Parts.{Parts}
use Rattle.dir_compile.specs.Directory.{IsDirectory}
use Rattle.seg_lexer.specs.Context.{context_of}
use Rattle.seg_lexer.specs.Fields.{Component, components_at}
use Rattle.seg_lexer.specs.Segments.{boundaries_of, ends_of}
use Rattle.seg_lexer.specs.Service.{service_of}
use Rattle.seg_lexer.specs.declared.context.Context.{Context}
use Rattle.seg_lexer.specs.declared.service.Service.{Service}
use Rattle.seg_lexer.proofs.AppendLemmas.{pairs}
use Rattle.seg_lexer.proofs.ContextEnds.{ends-same}
use Rattle.envelope_check.specs.Head.{Head}
use Rattle.envelope_check.specs.declared.head.HeadKind.{HeadKind}
use Rattle.envelope_check.specs.declared.head.HeadKind.TheVariants.{Unb, Ung, Unh, Unt, Une, Unz}
use Rattle.envelope_check.specs.declared.head.SegmentMark.{SegmentMark}
use Rattle.envelope_check.specs.Heads.{Fits, HeadPlace, head_place, kind_of, head_place_of, start_in, tags_of}
use Rattle.envelope_check.proofs.TagKinds.{IsOther, Sort, known, named, other, sort_of}
use Rattle.segment_records.specs.Messages.{mode_after, table_for}
use Rattle.segment_records.specs.Segments.{Segment, segment_between, segments_by, segments_of_text}
use Rattle.segment_records.specs.Steps.{Step, opening_step}
use Rattle.segment_records.proofs.Taking.{step_at_unh}
use Rattle.segment_records.specs.Count.{segment_count_of}
use Rattle.segment_records.specs.Heads.{count_in, given_by, head_at, head_of, heads_of, marks_of, name_in, reference_in, tabled_in}
use Rattle.segment_records.specs.WalkedSegments.{SeenSegment, as_segment, seen_at, seen_in}
use Rattle.segment_records.specs.Told.{KeepsValues, components_seen, head_seen, head_when, mark_seen, tabled_seen}
use Rattle.segment_records.proofs.Following.{All-at, seen_where, stretch_in}
use Rattle.segment_records.proofs.Looking.{all_enumerated, filter_map_alike, first_left, map_alike, next_left, seen_is}
use Rattle.segment_records.proofs.Rests.{length_segments, same_count}
use Rattle.segment_records.proofs.Stretches.{IsStretch}

-- the components of a segment are those at its places
abbrev IsAtPlace : Service → List ℕ → Segment → Type 0
IsAtPlace s text segment = segment.components ≡ components_at s text segment.start segment.end

places_of_pairs : (s : Service) (text : List ℕ) (ps : List (ℕ × ℕ)) → All (IsAtPlace s text) (map (segment_between s text) ps)
places_of_pairs s text [] = All-nil (IsAtPlace s text)
places_of_pairs s text (p ∷ ps) = All-cons (IsAtPlace s text) (segment_between s text p) (map (segment_between s text) ps) refl (places_of_pairs s text ps)

all_places : (s : Service) (text : List ℕ) → All (IsAtPlace s text) (segments_by s text)
unfolding segments_by boundaries_of
all_places s text = places_of_pairs s text (pairs s.body (ends_of s text))

pub place_in : (text : List ℕ) (i : ℕ) (segment : Segment) → slice_get (segments_of_text text) i ≡ Some segment → IsAtPlace (context_of text).service text segment
unfolding segments_of_text
place_in text i segment is =
    let s = (context_of text).service in
    All-at (IsAtPlace s text) (segments_by s text) (all_places s text) i segment is

kind_named : (kind : HeadKind) → kind_of (named kind) ≡ Some kind
kind_named Unb = refl
kind_named Ung = refl
kind_named Unh = refl
kind_named Unt = refl
kind_named Une = refl
kind_named Unz = refl

kind_none : (tag : Option Tag) → IsOther tag → kind_of tag ≡ None
kind_none tag it = rw (it.unb, it.ung, it.unh, it.unt, it.une, it.unz) refl

tabled_opening : (dir : Parts) (found : Option ℕ) → is_some (opening_step dir found).entry ≡ is_some found
tabled_opening dir None = refl
tabled_opening dir (Some table) = refl

module _ (dir : Parts) (context : Context) (s : Service) (text : List ℕ) (segments : List Segment) (i : ℕ) (segment : Segment)
    (it : IsStretch text segment) (place : IsAtPlace s text segment) where
  abbrev seen : SeenSegment
  seen = seen_at dir context segments (i, segment)

  pub starts_alike : (as_segment seen).start ≡ segment.start
  starts_alike = let low = it.low in omega arith

  pub ends_alike : (as_segment seen).end ≡ segment.end
  ends_alike =
      let low = it.low in
      let ordered = it.ordered in omega arith

  pub components_alike : components_at s text (as_segment seen).start (as_segment seen).end ≡ segment.components
  components_alike =
      ap (λ (n : ℕ). components_at s text n (as_segment seen).end) starts_alike
      ∙ ap (λ (n : ℕ). components_at s text segment.start n) ends_alike ∙ sym place

  -- its values are kept
  pub values_alike : KeepsValues s text seen
  values_alike = ap (given_by segment.tag) (sym components_alike)

  -- a UNH is at an entry where the directory has its table
  tabled_alike : (kind : HeadKind) → segment.tag ≡ named kind → tabled_seen seen kind ≡ tabled_in dir segment.components kind
  tabled_alike Unb tag = refl
  tabled_alike Ung tag = refl
  tabled_alike Unt tag = refl
  tabled_alike Une tag = refl
  tabled_alike Unz tag = refl
  tabled_alike Unh tag =
      let unh : has_name (codes "UNH") segment.tag ≡ true = ap (has_name (codes "UNH")) tag in
      ap (λ (step : Step). is_some step.entry) (step_at_unh dir (mode_after dir segments i) segment unh)
      ∙ tabled_opening dir (table_for dir segment.components)

  head_with : HeadKind → ℕ → List Component → Bool → Head
  head_with kind start components tabled = record {
    segment = i + 1;
    start = start;
    kind = kind;
    reference = reference_in components kind;
    count = count_in components kind;
    name = name_in components kind;
    tabled = tabled;
  }

  head_alike : (kind : HeadKind) → segment.tag ≡ named kind → head_seen s text seen kind ≡ head_of dir (i + 1) segment kind
  unfolding head_with
  head_alike kind tag =
      ap (λ (n : ℕ). head_with kind n (components_seen s text seen) (tabled_seen seen kind)) starts_alike
      ∙ ap (λ (components : List Component). head_with kind segment.start components (tabled_seen seen kind)) components_alike
      ∙ ap (head_with kind segment.start segment.components) (tabled_alike kind tag)

  heads_by : Sort segment.tag → head_when s text seen ≡ head_at dir (i + 1, segment)
  heads_by (known kind it) =
      ap (option_map (head_seen s text seen)) (ap kind_of it.is ∙ kind_named kind)
      ∙ ap Some (head_alike kind it.is)
      ∙ sym (ap (option_map (head_of dir (i + 1) segment)) (ap kind_of it.is ∙ kind_named kind))
  heads_by (other it) =
      ap (option_map (head_seen s text seen)) (kind_none segment.tag it)
      ∙ sym (ap (option_map (head_of dir (i + 1) segment)) (kind_none segment.tag it))

  pub heads_alike : head_when s text seen ≡ head_at dir (i + 1, segment)
  heads_alike = heads_by (sort_of segment.tag)

  pub marks_alike : mark_seen seen ≡ record { start = segment.start; tag = segment.tag }
  marks_alike = ap (λ (n : ℕ). record { start = n; tag = segment.tag }) starts_alike

-- a mark with the first octet and the tag of a segment is that of the segment
pub mark_is : (seen : SeenSegment) (mark : SegmentMark) → mark.start ≡ (as_segment seen).start → mark.tag ≡ seen.kept.tag → mark ≡ mark_seen seen
mark_is seen mark start tag =
    ap (λ (n : ℕ). let m : SegmentMark = record { start = n; tag = mark.tag } in m) start
    ∙ ap (λ (t : Option Tag). let m : SegmentMark = record { start = (as_segment seen).start; tag = t } in m) tag

-- members with their numbers, from 1 or from 0
abbrev up : ℕ × Segment → ℕ × Segment
up p = (p.0 + 1, p.1)

counted_up : {B : Type 0} (f : ℕ × Segment → Option B) (n : ℕ) (xs : List Segment) → filter_map (λ (p : ℕ × Segment). f (p.0 + 1, p.1)) (enumerate_from n xs) ≡ filter_map f (enumerate_from (n + 1) xs)
counted_up f n [] = refl
counted_up f n (x ∷ xs) = ap (λ ys. cons_option (f (n + 1, x)) ys) (counted_up f (n + 1) xs)

plain_map : {B : Type 0} (f : Segment → B) (n : ℕ) (xs : List Segment) → map (λ (p : ℕ × Segment). f p.1) (enumerate_from n xs) ≡ map f xs
plain_map f n [] = refl
plain_map f n (x ∷ xs) = ap (λ ys. f x ∷ ys) (plain_map f (n + 1) xs)

module _ (dir : Parts) (directory : IsDirectory dir) (text : List ℕ) where
  -- of each segment of a text its values are kept
  pub values_kept : All (KeepsValues (context_of text).service text) (seen_in dir text)
  values_kept = seen_where dir directory text (KeepsValues (context_of text).service text)
      (λ i segment is. values_alike dir (context_of text) (context_of text).service text (segments_of_text text) i segment
      (stretch_in dir directory text i segment is) (place_in text i segment is))

  -- the heads of a text
  pub heads_are : filter_map (head_when (context_of text).service text) (seen_in dir text) ≡ heads_of dir (segments_of_text text)
  unfolding heads_of
  heads_are =
      let context = context_of text in
      let segments : List Segment = segments_of_text text in
      let s = context.service in
      ap (filter_map (head_when s text)) (seen_is dir directory text)
      ∙ filter_map_alike (seen_at dir context segments) (head_when s text) (λ (p : ℕ × Segment). head_at dir (p.0 + 1, p.1)) (enumerate_from 0 segments)
      (all_enumerated (λ (p : ℕ × Segment). head_when s text (seen_at dir context segments p) ≡ head_at dir (p.0 + 1, p.1)) segments
      (λ i segment is. heads_alike dir context s text segments i segment (stretch_in dir directory text i segment is) (place_in text i segment is)))
      ∙ counted_up (head_at dir) 0 segments

  -- its marks
  pub marks_are : map mark_seen (seen_in dir text) ≡ marks_of (segments_of_text text)
  marks_are =
      let context = context_of text in
      let segments : List Segment = segments_of_text text in
      let s = context.service in
      let mark : Segment → SegmentMark = λ segment. record { start = segment.start; tag = segment.tag } in
      ap (map mark_seen) (seen_is dir directory text)
      ∙ map_alike (seen_at dir context segments) mark_seen (λ (p : ℕ × Segment). mark p.1) (enumerate_from 0 segments)
      (all_enumerated (λ (p : ℕ × Segment). mark_seen (seen_at dir context segments p) ≡ mark p.1) segments
      (λ i segment is. marks_alike dir context s text segments i segment (stretch_in dir directory text i segment is) (place_in text i segment is)))
      ∙ plain_map mark 0 segments

-- the place of the head at a place
module _ (dir : Parts) (all : List Segment) where
  tag_at_place : (i : ℕ) (segment : Segment) → slice_get all i ≡ Some segment → tag_in (tags_of (marks_of all)) i ≡ segment.tag
  tag_at_place i segment is =
      ap (λ (found : Option (Option Tag)). elim found [ None ↦ None | Some tag ↦ tag ])
      (slice_get-map (λ (mark : SegmentMark). mark.tag) (marks_of all) i
      ∙ ap (option_map (λ (mark : SegmentMark). mark.tag)) (slice_get-map (λ (segment : Segment). record { start = segment.start; tag = segment.tag }) all i
      ∙ ap (option_map (λ (segment : Segment). record { start = segment.start; tag = segment.tag })) is))

  start_at_place : (i : ℕ) (segment : Segment) → slice_get all i ≡ Some segment → start_in (marks_of all) i ≡ segment.start
  start_at_place i segment is =
      ap (λ (found : Option SegmentMark). option_map_or (λ mark. mark.start) found 0)
      (slice_get-map (λ (segment : Segment). record { start = segment.start; tag = segment.tag }) all i
      ∙ ap (option_map (λ (segment : Segment). record { start = segment.start; tag = segment.tag })) is)

  place_alike : (i : ℕ) (segment : Segment) → slice_get all i ≡ Some segment → option_map head_place_of (head_at dir (i + 1, segment)) ≡ head_place (marks_of all) i
  place_alike i segment is =
      by (kind_of segment.tag)
      ∙ ap (λ (n : ℕ). option_map (λ (kind : HeadKind). let p : HeadPlace = record { segment = i + 1; start = n; kind = kind } in p) (kind_of segment.tag)) (sym (start_at_place i segment is))
      ∙ ap (λ (tag : Option Tag). option_map (λ (kind : HeadKind). let p : HeadPlace = record { segment = i + 1; start = start_in (marks_of all) i; kind = kind } in p) (kind_of tag)) (sym (tag_at_place i segment is))
    where
      by : (found : Option HeadKind) → option_map head_place_of (option_map (head_of dir (i + 1) segment) found)
          ≡ option_map (λ (kind : HeadKind). let p : HeadPlace = record { segment = i + 1; start = segment.start; kind = kind } in p) found
      by None = refl
      by (Some kind) = refl

  mapped_option : (o : Option Head) (heads : List Head) → map head_place_of (cons_option o heads) ≡ cons_option (option_map head_place_of o) (map head_place_of heads)
  mapped_option None heads = refl
  mapped_option (Some head) heads = refl

  fits_from : (k : ℕ) (more : List Segment) → drop k all ≡ more
      → map head_place_of (filter_map (head_at dir) (enumerate_from (k + 1) more)) ≡ filter_map (head_place (marks_of all)) (range_with_len k (length more))
  fits_from k [] left = refl
  fits_from k (segment ∷ more) left =
      mapped_option (head_at dir (k + 1, segment)) (filter_map (head_at dir) (enumerate_from (k + 1 + 1) more))
      ∙ ap (λ (o : Option HeadPlace). cons_option o (map head_place_of (filter_map (head_at dir) (enumerate_from (k + 1 + 1) more)))) (place_alike k segment (first_left all (segment ∷ more) k left))
      ∙ ap (λ (places : List HeadPlace). cons_option (head_place (marks_of all) k) places) (fits_from (k + 1) more (next_left all segment more k left))

  -- the heads fit the marks
  pub fits_are : Fits (heads_of dir all) (marks_of all)
  unfolding heads_of
  fits_are =
      fits_from 0 all refl
      ∙ ap (λ (n : ℕ). filter_map (head_place (marks_of all)) (range_with_len 0 n)) (sym (length-map all (λ (segment : Segment). record { start = segment.start; tag = segment.tag })))

-- a text has as many segments by the service characters of its context as by its own
pub count_segments : (text : List ℕ) → segment_count_of text ≡ length (segments_of_text text)
unfolding segments_of_text
count_segments text =
    same_count (service_of text) text ∙ length_segments (service_of text) text
    ∙ sym (length_segments (context_of text).service text ∙ ap length (ends-same text))

-- there are as many marks as segments
pub count_marks : (text : List ℕ) → segment_count_of text ≡ length (marks_of (segments_of_text text))
count_marks text =
    count_segments text
    ∙ sym (length-map (segments_of_text text) (λ (segment : Segment). record { start = segment.start; tag = segment.tag }))
