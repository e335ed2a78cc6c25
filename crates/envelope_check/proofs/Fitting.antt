-- How heads are made to fit the segments of a text, one segment after the other.
use Rattle.std.proofs.Common.{◌≡◌, ℕ, zero, suc, ◌+◌, ◌<◌, List, [], ◌∷◌, ◌++◌, Option, Some, None, length, map, refl, sym, ap, ◌∙◌, arith, length-append}
use Rattle.std.specs.Prelude.{slice_get}
use Rattle.std.specs.Option.{option_map, option_map_or, option_to_list}
use Rattle.std.specs.List.{range_with_len, filter_map, cons_option}
use Rattle.edi_tables.specs.Extents.{tag_in}
use Rattle.envelope_check.specs.Head.{Head}
use Rattle.envelope_check.specs.declared.head.HeadKind.{HeadKind}
use Rattle.envelope_check.specs.declared.head.SegmentMark.{SegmentMark}
use Rattle.envelope_check.specs.Heads.{tags_of, kind_of, start_in, HeadPlace, head_place_of, place_by, head_place, Fits}

slice_get-front : (marks : List SegmentMark) (mark : SegmentMark) (i : ℕ) → i < length marks → slice_get (marks ++ mark ∷ []) i ≡ slice_get marks i
slice_get-front [] mark i within = absurd (omega arith)
slice_get-front (m ∷ marks) mark zero within = refl
slice_get-front (m ∷ marks) mark (suc i) within = slice_get-front marks mark i (omega arith)

tag_in-front : (marks : List SegmentMark) (mark : SegmentMark) (i : ℕ) → i < length marks → tag_in (tags_of (marks ++ mark ∷ [])) i ≡ tag_in (tags_of marks) i
tag_in-front [] mark i within = absurd (omega arith)
tag_in-front (m ∷ marks) mark zero within = refl
tag_in-front (m ∷ marks) mark (suc i) within = tag_in-front marks mark i (omega arith)

slice_get-last : (marks : List SegmentMark) (mark : SegmentMark) → slice_get (marks ++ mark ∷ []) (length marks) ≡ Some mark
slice_get-last [] mark = refl
slice_get-last (m ∷ marks) mark = slice_get-last marks mark

tag_in-last : (marks : List SegmentMark) (mark : SegmentMark) → tag_in (tags_of (marks ++ mark ∷ [])) (length marks) ≡ mark.tag
tag_in-last [] mark = refl
tag_in-last (m ∷ marks) mark = tag_in-last marks mark

place_same : (k : ℕ) (start first : ℕ) (kind other : Option HeadKind) → start ≡ first → kind ≡ other
    → option_map (λ (h : HeadKind). let p : HeadPlace = record { segment = k; start = start; kind = h } in p) kind ≡ option_map (λ (h : HeadKind). let p : HeadPlace = record { segment = k; start = first; kind = h } in p) other
place_same k start first kind other starts kinds = rw (starts, kinds) refl

place-front : (marks : List SegmentMark) (mark : SegmentMark) (i : ℕ) → i < length marks → head_place (marks ++ mark ∷ []) i ≡ head_place marks i
place-front marks mark i within =
    place_same (i + 1) (start_in (marks ++ mark ∷ []) i) (start_in marks i) _ _ (ap (λ o. option_map_or (λ (m : SegmentMark). m.start) o 0) (slice_get-front marks mark i within))
    (ap kind_of (tag_in-front marks mark i within))

place-last : (marks : List SegmentMark) (mark : SegmentMark) → head_place (marks ++ mark ∷ []) (length marks) ≡ place_by (length marks + 1) mark
place-last marks mark =
    place_same (length marks + 1) (start_in (marks ++ mark ∷ []) (length marks)) mark.start _ _ (ap (λ o. option_map_or (λ (m : SegmentMark). m.start) o 0) (slice_get-last marks mark))
    (ap kind_of (tag_in-last marks mark))

at_last : (p q : Option HeadPlace) → p ≡ q → cons_option p [] ≡ option_to_list q
at_last p None same = rw same refl
at_last p (Some place) same = rw same refl

cons_append : (p : Option HeadPlace) (xs ys : List HeadPlace) → cons_option p (xs ++ ys) ≡ cons_option p xs ++ ys
cons_append None xs ys = refl
cons_append (Some place) xs ys = refl

at_front : (p q : Option HeadPlace) (all xs ys : List HeadPlace) → p ≡ q → all ≡ xs ++ ys → cons_option p all ≡ cons_option q xs ++ ys
at_front p q all xs ys same rest = rw (same, rest) (cons_append q xs ys)

-- the places of n segments from place a on and of one more
places_more : (marks : List SegmentMark) (mark : SegmentMark) (a n : ℕ) → a + n ≡ length marks → filter_map (head_place (marks ++ mark ∷ [])) (range_with_len a (suc n)) ≡ filter_map (head_place marks) (range_with_len a n) ++ option_to_list (place_by (length marks + 1) mark)
places_more marks mark a zero sum = at_last (head_place (marks ++ mark ∷ []) a) _ (ap (head_place (marks ++ mark ∷ [])) (omega arith) ∙ place-last marks mark)
places_more marks mark a (suc n) sum = at_front (head_place (marks ++ mark ∷ []) a) (head_place marks a) _ _ _ (place-front marks mark a (omega arith)) (places_more marks mark (a + 1) n (omega arith))

pub map-append : (xs ys : List Head) → map head_place_of (xs ++ ys) ≡ map head_place_of xs ++ map head_place_of ys
map-append [] ys = refl
map-append (x ∷ xs) ys = ap (λ zs. head_place_of x ∷ zs) (map-append xs ys)

-- no heads fit no segments
pub fits_none : Fits [] []
fits_none = refl

-- one more segment, with its head if it is one
pub fits_more : (heads more : List Head) (marks : List SegmentMark) (mark : SegmentMark) → Fits heads marks → map head_place_of more ≡ map head_place_of heads ++ option_to_list (place_by (length marks + 1) mark) → Fits more (marks ++ mark ∷ [])
fits_more heads more marks mark fits one =
    let longer : length (marks ++ mark ∷ []) ≡ suc (length marks) = omega (arith, length-append marks (mark ∷ [])) in
    one ∙ ap (λ ys. ys ++ option_to_list (place_by (length marks + 1) mark)) fits
    ∙ sym (places_more marks mark 0 (length marks) (omega arith)) ∙ ap (λ n. filter_map (head_place (marks ++ mark ∷ [])) (range_with_len 0 n)) (sym longer)
