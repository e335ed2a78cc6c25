-- The heads of an acknowledgement: UNB, UNH, UNT and UNZ.
use Rattle.std.proofs.Common.{◌≡◌, ℕ, ◌+◌, Bool, true, false, Option, Some, None, List, [], ◌∷◌, ◌++◌, map, length, ap, ◌∙◌, subst, arith}
use Rattle.std.proofs.lemmas.List.{length-map, map-append}
use Rattle.std.specs.Option.{option_map}
use Rattle.std.specs.List.{cons_option, enumerate_from, filter_map}
use Rattle.edi_tables.specs.declared.tag.Tag.{Tag}
use Rattle.dir_compile.specs.declared.parts.Parts.{Parts}
use Rattle.edi_octets.specs.Decimal.{decimal_in}
use Rattle.envelope_check.specs.Envelope.{envelope_errors_of}
use Rattle.envelope_check.specs.Heads.{Fits, kind_of}
use Rattle.envelope_check.specs.Head.{Head}
use Rattle.envelope_check.specs.declared.head.HeadKind.{HeadKind}
use Rattle.envelope_check.specs.declared.head.HeadKind.TheVariants.{Unb, Unh, Unt, Unz}
use Rattle.envelope_check.specs.declared.head.SegmentMark.{SegmentMark}
use Rattle.envelope_check.proofs.OneMessage.{envelope_free, head_with}
use Rattle.segment_records.specs.Segments.{Segment, value_in}
use Rattle.text_reading.proofs.Each.{Each}
use Rattle.text_reading.proofs.Runs.{HaveTags}
use Rattle.text_reading.proofs.Walk.{Accepts, Go, Spot, grouped_after, spot_after}
use Rattle.text_reading.proofs.Walk.Go.{to_message, to_segment, to_element, to_group}
use Rattle.segment_records.specs.Heads.{head_at, head_of, heads_of, marks_of, name_in, tabled_in}
use Rattle.segment_records.proofs.Headed.{fits_are}

abbrev tag_with : List ℕ → Option Tag
tag_with octets = Some (record { octets = octets })

abbrev IsPlain : Segment → Type 0
IsPlain s = kind_of s.tag ≡ None

plain_tag : (grouped : Bool) (spot : Spot) (tag : List ℕ) → Go grouped spot tag → kind_of (tag_with tag) ≡ None
plain_tag grouped spot tag (to_message is) = ap (λ (t : List ℕ). kind_of (tag_with t)) is
plain_tag grouped spot tag (to_segment some few is) = ap (λ (t : List ℕ). kind_of (tag_with t)) is
plain_tag grouped spot tag (to_element some few is) = ap (λ (t : List ℕ). kind_of (tag_with t)) is
plain_tag grouped spot tag (to_group may is) = ap (λ (t : List ℕ). kind_of (tag_with t)) is

-- segments of a walk are no heads
pub each-plain : (grouped : Bool) (spot : Spot) (tags : List (List ℕ)) (ss : List Segment) → Accepts grouped spot tags → HaveTags ss tags → Each IsPlain ss
each-plain grouped spot [] [] all have = tt
each-plain grouped spot [] (s ∷ ss) all have = absurd have
each-plain grouped spot (t ∷ ts) [] all have = absurd have
each-plain grouped spot (t ∷ ts) (s ∷ ss) all have =
    (ap kind_of have.0 ∙ plain_tag grouped spot t all.0, each-plain (grouped_after grouped spot t all.0) (spot_after grouped spot t all.0) ts ss all.1 have.1)

module _ (dir : Parts) where
  abbrev heads_from : ℕ → List Segment → List Head
  heads_from k ss = filter_map (head_at dir) (enumerate_from k ss)

  head_next : (k : ℕ) (s : Segment) (ss : List Segment) (kind : HeadKind) → kind_of s.tag ≡ Some kind → heads_from k (s ∷ ss) ≡ head_of dir k s kind ∷ heads_from (k + 1) ss
  head_next k s ss kind is = ap (λ (o : Option HeadKind). cons_option (option_map (head_of dir k s) o) (heads_from (k + 1) ss)) is

  plain_next : (k : ℕ) (s : Segment) (ss : List Segment) → IsPlain s → heads_from k (s ∷ ss) ≡ heads_from (k + 1) ss
  plain_next k s ss is = ap (λ (o : Option HeadKind). cons_option (option_map (head_of dir k s) o) (heads_from (k + 1) ss)) is

  plain_front : (k n : ℕ) (front more : List Segment) → k + length front ≡ n → Each IsPlain front → heads_from k (front ++ more) ≡ heads_from n more
  plain_front k n [] more at all = ap (λ (j : ℕ). heads_from j more) (let same : k ≡ n = omega arith in same)
  plain_front k n (s ∷ front) more at all = plain_next k s (front ++ more) all.0 ∙ plain_front (k + 1) n front more (omega arith) all.1

  -- the segments of an acknowledgement, with right counts and references
  pub record IsMessage (b h c : Segment) (front : List Segment) (u z : Segment) (own reference : List ℕ) : Type 0 where
    pub unb : kind_of b.tag ≡ Some Unb
    pub unh : kind_of h.tag ≡ Some Unh
    pub plain : kind_of c.tag ≡ None
    pub plains : Each IsPlain front
    pub unt : kind_of u.tag ≡ Some Unt
    pub unz : kind_of z.tag ≡ Some Unz
    pub opened : value_in b.components 5 1 ≡ own
    pub named : value_in h.components 1 1 ≡ reference
    pub tabled : tabled_in dir h.components Unh ≡ true
    pub closed : value_in u.components 2 1 ≡ reference
    pub counted : decimal_in (value_in u.components 1 1) ≡ Some (length front + 3)
    pub ended : value_in z.components 2 1 ≡ own
    pub one : decimal_in (value_in z.components 1 1) ≡ Some 1

  module _ (b h c : Segment) (front : List Segment) (u z : Segment) (own reference : List ℕ) (is : IsMessage b h c front u z own reference) where
    abbrev pub all_segments : List Segment
    all_segments = b ∷ h ∷ c ∷ (front ++ u ∷ z ∷ [])

    abbrev mark : Segment → SegmentMark
    mark s = record { start = s.start; tag = s.tag }

    abbrev mids : List SegmentMark
    mids = mark c ∷ map mark front

    abbrev known_marks : List SegmentMark
    known_marks = mark b ∷ mark h ∷ (mids ++ mark u ∷ mark z ∷ [])

    abbrev known_heads : List Head
    known_heads =
        head_with 1 b.start Unb own [] (name_in b.components Unb) false
        ∷ head_with 2 h.start Unh reference [] (value_in h.components 2 1) true
        ∷ head_with (length mids + 3) u.start Unt reference (value_in u.components 1 1) [] false
        ∷ head_with (length mids + 4) z.start Unz own (value_in z.components 1 1) [] false
        ∷ []

    marks_are : marks_of all_segments ≡ known_marks
    marks_are = ap (λ (ms : List SegmentMark). mark b ∷ mark h ∷ mark c ∷ ms) (map-append mark front (u ∷ z ∷ []))

    long : length mids ≡ length front + 1
    long = omega (arith, length-map front mark)

    heads_are : heads_of dir all_segments ≡ known_heads
    unfolding heads_of
    heads_are =
        head_next 1 b (h ∷ c ∷ (front ++ u ∷ z ∷ [])) Unb is.unb
        ∙ ap (λ (hs : List Head). head_of dir 1 b Unb ∷ hs)
        (head_next 2 h (c ∷ (front ++ u ∷ z ∷ [])) Unh is.unh
        ∙ ap (λ (hs : List Head). head_of dir 2 h Unh ∷ hs)
        (plain_next 3 c (front ++ u ∷ z ∷ []) is.plain
        ∙ (plain_front 4 (length mids + 3) front (u ∷ z ∷ []) (omega (arith, long)) is.plains
        ∙ (head_next (length mids + 3) u (z ∷ []) Unt is.unt
        ∙ ap (λ (hs : List Head). head_of dir (length mids + 3) u Unt ∷ hs)
        (ap (λ (k : ℕ). heads_from k (z ∷ [])) (let same : length mids + 3 + 1 ≡ length mids + 4 = omega arith in same)
        ∙ head_next (length mids + 4) z [] Unz is.unz)))))
        ∙ λ i.
        head_with 1 b.start Unb (is.opened i) [] (name_in b.components Unb) false
        ∷ head_with 2 h.start Unh (is.named i) [] (value_in h.components 2 1) (is.tabled i)
        ∷ head_with (length mids + 3) u.start Unt (is.closed i) (value_in u.components 1 1) [] false
        ∷ head_with (length mids + 4) z.start Unz (is.ended i) (value_in z.components 1 1) [] false
        ∷ []

    fits : Fits known_heads known_marks
    fits = subst (Fits known_heads) marks_are (subst (λ (hs : List Head). Fits hs (marks_of all_segments)) heads_are (fits_are dir all_segments))

    -- they have no envelope error
    pub message_free : envelope_errors_of (heads_of dir all_segments) (marks_of all_segments) ≡ []
    message_free =
        ap (λ (hs : List Head). envelope_errors_of hs (marks_of all_segments)) heads_are
        ∙ (ap (envelope_errors_of known_heads) marks_are
        ∙ envelope_free (mark b) (mark h) (mark u) (mark z) mids own reference (value_in u.components 1 1) (value_in z.components 1 1) (value_in h.components 2 1) b.start h.start u.start z.start [] (name_in b.components Unb) [] [] [] false false false fits
        (is.counted ∙ ap (λ (n : ℕ). Some n) (let same : length front + 3 ≡ length mids + 2 = omega (arith, long) in same)) is.one)
