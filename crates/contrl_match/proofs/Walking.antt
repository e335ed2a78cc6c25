-- The walk over the segments of an acknowledgement: what each is read as, and one further.
use Rattle.std.proofs.Common.{◌≡◌, ℕ, ◌+◌, Bool, true, false, cond, Option, Some, None, Result, Ok, Err, List, [], ◌++◌, drop, is_some, length, refl, sym, ap, ◌∙◌, subst, arith}
use Rattle.std.specs.Prelude.{codes, find, slice_get, unwrap_or}
use Rattle.std.specs.List.{zip}
use Rattle.std.specs.Option.{option_map}
use Rattle.std.proofs.lemmas.List.{drop_all}
use Rattle.std.proofs.lemmas.Option.{slice_get-map}
use Rattle.edi_octets.proofs.PlaceLemmas.{drop_here}
use Rattle.edi_tables.specs.Octets.{Octets}
use Rattle.edi_tables.specs.Rows.{has_name}
use Rattle.edi_tables.specs.declared.tag.Tag.{Tag}
use Rattle.seg_lexer.specs.Context.{context_of}
use Rattle.seg_lexer.specs.Fields.{Component, components_at}
use Rattle.seg_lexer.specs.Segments.{boundaries_of, ends_of, segment_in, segments_of}
use Rattle.seg_lexer.specs.Stretch.{Stretch}
use Rattle.seg_lexer.specs.Tag.{tag_of}
use Rattle.seg_lexer.specs.declared.service.Service.{Service}
use Rattle.contrl_segments.specs.declared.summary.Summary.{Summary}
use Rattle.segment_records.specs.Segments.{Segment, segment_between, segments_by, segments_of_text, tag_read, value_in}
use Rattle.segment_records.proofs.Keeping.{tag_back}
use Rattle.segment_records.proofs.Rests.{same_count}
use Rattle.contrl_match.specs.Match.{found_by, uci_in}
use Rattle.contrl_match.specs.Passes.{spot_after}
use Rattle.contrl_match.specs.Spots.{Spot}
use Rattle.contrl_match.specs.Telling.{first_lost, told_of, told_with}
use Rattle.contrl_match.specs.Walked.{AreSitesSmall, HasSmallSites, IsTold, spot_seen, told_seen}
use Rattle.contrl_match.specs.declared.finding.Finding.{Finding}
use Rattle.contrl_match.specs.declared.spot.Spot.{Spot as ReadSpot}
use Rattle.contrl_match.specs.declared.stop.MatchStop.{MatchStop}
use Rattle.contrl_match.specs.declared.stop.MatchStop.TheVariants.{Unknown}
use Rattle.contrl_match.specs.declared.told.Told.{Told}
use Rattle.contrl_match.proofs.Steps.{IsPassing, drop-lost, drop-step, passing-all, passing-none, spot_next, told_here}

-- a segment that is read: its tag, and its components
pub record IsReadAs (segments : List Segment) (k : ℕ) (named : Option Tag) (says : List Component) (x : Segment) : Type 0 where
  pub at : slice_get segments k ≡ Some x
  pub tag : x.tag ≡ named
  pub components : x.components ≡ says

-- the pair of boundary and end that a stretch comes from
pair-of : (text : Octets) (p : Stretch) (o : Option (ℕ × ℕ)) → option_map (segment_in text) o ≡ Some p → (q : ℕ × ℕ) × ((o ≡ Some q) × (segment_in text q ≡ p))
pair-of text p None is = absurd (let never : ⊥ = cc in never)
pair-of text p (Some q) is = (q, (refl, (let same : segment_in text q ≡ p = cc in same)))

module _ (s : Service) (text : Octets) (k : ℕ) where
  segment-at : (p : Stretch) → slice_get (segments_of s text) k ≡ Some p → (q : ℕ × ℕ) × ((slice_get (segments_by s text) k ≡ Some (segment_between s text q)) × (segment_in text q ≡ p))
  unfolding segments_by segments_of
  segment-at p is =
      let pairs : List (ℕ × ℕ) = zip (boundaries_of s text) (ends_of s text) in
      let found = pair-of text p (slice_get pairs k) (sym (slice_get-map (segment_in text) pairs k) ∙ is) in
      (found.0, (slice_get-map (segment_between s text) pairs k ∙ ap (option_map (segment_between s text)) found.1.0, found.1.1))

  same-segments : s ≡ (context_of text).service → segments_by s text ≡ segments_of_text text
  unfolding segments_of_text
  same-segments is = ap (λ (r : Service). segments_by r text) is

  -- the segment that the lexer finds is one of the text, and is read so
  pub segment-as : (start end : ℕ) (tag : Option Tag) (components : List Component) → s ≡ (context_of text).service
      → slice_get (segments_of s text) k ≡ Some (record { from = start; to = end })
      → option_map (λ t. t.octets) tag ≡ tag_of (components_at s text start end) → components ≡ components_at s text start end
      → (x : Segment) × IsReadAs (segments_of_text text) k tag components x
  segment-as start end tag components service is tagged read =
      let found = segment-at (record { from = start; to = end }) is in
      let x : Segment = segment_between s text found.0 in
      let same : x.components ≡ components = ap (λ (p : Stretch). components_at s text p.from p.to) found.1.1 ∙ sym read in (
        x,
        record {
          at = ap (λ (xs : List Segment). slice_get xs k) (sym (same-segments service)) ∙ found.1.0;
          tag = ap tag_read (same ∙ read) ∙ sym (tag_back tag (components_at s text start end) tagged);
          components = same;
        },
      )

  -- after the last segment none is left
  pub none-left : s ≡ (context_of text).service → length (segments_of s text) ≡ k → drop k (segments_of_text text) ≡ []
  none-left service few =
      drop_all k (segments_of_text text)
      (let count : length (segments_of_text text) ≡ k = ap length (sym (same-segments service)) ∙ (sym (same_count s text) ∙ few) in omega arith)

-- the numbers that it tells are small
pub small-as : (segments : List Segment) (k : ℕ) (tag : Option Tag) (components : List Component) (x : Segment) → IsReadAs segments k tag components x → AreSitesSmall segments → HasSmallSites tag (value_in components)
small-as segments k tag components x read small =
    subst (λ (t : Option Tag). HasSmallSites t (value_in components)) read.tag
    (subst (λ (cs : List Component). HasSmallSites x.tag (value_in cs)) read.components (small k x read.at))

some-of : {A : Type 0} (o : Option A) (d : A) → is_some o ≡ true → o ≡ Some (unwrap_or o d)
some-of None d is = absurd (let never : ⊥ = cc in never)
some-of (Some x) d is = refl

none-of : {A : Type 0} (o : Option A) → is_some o ≡ false → o ≡ None
none-of None is = refl
none-of (Some x) is = absurd (let never : ⊥ = cc in never)

module _ (s : Summary) (segments : List Segment) (k : ℕ) (tag : Option Tag) (components : List Component) (x : Segment) (read : IsReadAs segments k tag components x) where
  told-as : (spot : Spot) → told_here s spot x ≡ told_with s spot tag (value_in components)
  told-as spot =
      ap (λ (t : Option Tag). told_with s spot t (value_in x.components)) read.tag
      ∙ ap (λ (cs : List Component). told_with s spot tag (value_in cs)) read.components

  next-as : (spot : Spot) → spot_next s spot x ≡ spot_after s spot tag (value_in components)
  next-as spot =
      ap (λ (t : Option Tag). spot_after s spot t (value_in x.components)) read.tag
      ∙ ap (λ (cs : List Component). spot_after s spot tag (value_in cs)) read.components

  module _ (spot : Spot) (after : ReadSpot) (told : Told) (found : List Finding)
      (so_far : IsPassing s segments (drop k segments) k spot found)
      (here : IsTold told after (told_with s spot tag (value_in components)) (spot_after s spot tag (value_in components))) where
    -- one that leads to a place
    pub walk-on : (now : List Finding) → true ≡ is_some (told_seen told) → now ≡ found ++ unwrap_or (told_seen told) []
        → IsPassing s segments (drop (k + 1) segments) (k + 1) (spot_seen after) now
    walk-on now led kept =
        let more : List Finding = unwrap_or (told_seen told) [] in
        subst (λ (fs : List Finding). IsPassing s segments (drop (k + 1) segments) (k + 1) (spot_seen after) fs) (sym kept)
        (subst (λ (next : Spot). IsPassing s segments (drop (k + 1) segments) (k + 1) next (found ++ more)) (next-as spot ∙ sym here.next)
        (drop-step s segments x k spot found more read.at so_far (told-as spot ∙ (sym here.finds ∙ some-of (told_seen told) [] (sym led)))))

    -- one that doesn't
    pub walk-lost : false ≡ is_some (told_seen told) → found_by (told_of s segments) (first_lost (told_of s segments)) ≡ Err (Unknown (k + 1))
    walk-lost lost =
        ap (found_by (told_of s segments)) (drop-lost s segments x k spot found read.at so_far (told-as spot ∙ (sym here.finds ∙ none-of (told_seen told) (sym lost))))

-- after the last segment all is found
pub walk-over : (s : Summary) (segments : List Segment) (k : ℕ) (spot : Spot) (found : List Finding) → drop k segments ≡ [] → IsPassing s segments (drop k segments) k spot found
    → found_by (told_of s segments) (first_lost (told_of s segments)) ≡ Ok found
walk-over s segments k spot found none so_far =
    let over : IsPassing s segments [] k spot found = subst (λ (rest : List Segment). IsPassing s segments rest k spot found) none so_far in
    ap (found_by (told_of s segments)) (passing-none s segments k spot found over)
    ∙ ap (λ (fs : List Finding). let r : Result (List Finding) MatchStop = Ok fs in r) (passing-all s segments k spot found over)

-- the first UCI
abbrev pub uci_from : List Segment → Option Segment
uci_from segments = find (λ segment. has_name (codes "UCI") segment.tag) segments

abbrev pub said_by : Option Segment → List Component
said_by found = elim found [ None ↦ [] | Some segment ↦ segment.components ]

module _ (segments : List Segment) (k : ℕ) (tag : Option Tag) (components : List Component) (x : Segment) (read : IsReadAs segments k tag components x) where
  uci-at : uci_from (drop k segments) ≡ cond (has_name (codes "UCI") tag) (Some x) (uci_from (drop (k + 1) segments))
  uci-at =
      ap uci_from (drop_here segments k x read.at)
      ∙ ap (λ (t : Option Tag). cond (has_name (codes "UCI") t) (Some x) (uci_from (drop (k + 1) segments))) read.tag

  -- it isn't this one
  pub uci-later : has_name (codes "UCI") tag ≡ false → uci_from segments ≡ uci_from (drop k segments) → uci_from segments ≡ uci_from (drop (k + 1) segments)
  uci-later other so_far = so_far ∙ (uci-at ∙ ap (λ (b : Bool). cond b (Some x) (uci_from (drop (k + 1) segments))) other)

  -- it is this one
  pub uci-here : has_name (codes "UCI") tag ≡ true → uci_from segments ≡ uci_from (drop k segments) → components ≡ uci_in segments
  uci-here is so_far =
      sym (ap said_by (so_far ∙ (uci-at ∙ ap (λ (b : Bool). cond b (Some x) (uci_from (drop (k + 1) segments))) is)) ∙ read.components)

-- there is none
pub uci-none : (segments : List Segment) (k : ℕ) → drop k segments ≡ [] → uci_from segments ≡ uci_from (drop k segments) → [] ≡ uci_in segments
uci-none segments k none so_far = sym (ap said_by (so_far ∙ ap uci_from none))
