-- What the report of a message finds: the errors of the message that it was written for.
use Rattle.std.proofs.Common.{◌≡◌, ℕ, zero, suc, ◌+◌, ◌-◌, ◌^◌, ◌<◌, ◌≤◌, Bool, true, ◌&&◌, cond, Option, Some, List, [], ◌∷◌, ◌++◌, map, length, take, refl, sym, ap, ◌∙◌, inl, inr, subst, arith, append_assoc, append-nil, leb-true}
use Rattle.std.specs.Prelude.{◌==◌, All, filter, min, nat_le}
use Rattle.std.specs.List.{flat_map, range_with_len}
use Rattle.std.proofs.lemmas.Bool.{and_parts, cases_Bool, eqb-true, false≢true, ne_eqb}
use Rattle.std.proofs.lemmas.Grind.{flat_map-append}
use Rattle.std.proofs.lemmas.List.{length-map, map-append, take_all}
use Rattle.std.proofs.lemmas.List.Elements.{filter-append}
use Rattle.error_ledger.specs.Kinds.{is_of_element, is_of_segment}
use Rattle.error_ledger.specs.declared.error.ErrorLine.{ErrorLine}
use Rattle.contrl_segments.specs.Details.{code_told, is_near}
use Rattle.contrl_segments.specs.Written.{Segment}
use Rattle.contrl_segments.specs.declared.summary.MessageHead.{MessageHead}
use Rattle.contrl_segments.specs.declared.summary.Summary.{Summary}
use Rattle.contrl_writer.specs.Levels.{first_error, is_among}
use Rattle.contrl_writer.specs.Report.{blocks_of, details_in, element_errors, errors_of_position, heads_of, message_blocks, positions_of, report, segment_blocks, segment_errors, ucd, ucm, ucs, whole_errors}
use Rattle.contrl_writer.specs.declared.level.Levelled.{Levelled}
use Rattle.text_reading.proofs.Each.{Each, each-all, each-both, each-filter, each-kept, each-more}
use Rattle.text_reading.proofs.Lawful.{IsPlacedLevelled, code_number}
use Rattle.contrl_match.specs.Premises.{IsToldWhole}
use Rattle.contrl_match.specs.Reported.{first_finding, is_part, message_findings, part_finding, site_of}
use Rattle.contrl_match.specs.Spots.{Spot, message_named}
use Rattle.contrl_match.specs.Telling.{Site, finding_at, when_filled}
use Rattle.contrl_match.specs.declared.finding.Finding.{Finding}
use Rattle.contrl_match.specs.declared.finding.Where.TheVariants as level
use Rattle.contrl_match.proofs.Order.{InOrder, by-position, elements-rise, parted, segments-rise, Rising}
use Rattle.contrl_match.proofs.Summed.{IsWholeLevelled}
use Rattle.contrl_match.proofs.Tells.{no_site, past-ucd, past-ucm, past-ucs, spot_past, told-ucd, told-ucm, told-ucs, told_as}

-- segments that are written find this, one after the other, from such a spot on
abbrev pub Tells : Summary → Spot → List Segment → List Finding → Type 0
Tells s spot [] found = found ≡ []
Tells s spot (w ∷ ws) found =
    (here : List Finding) × (more : List Finding) × (told_as s spot w ≡ Some here) × (found ≡ here ++ more) × Tells s (spot_past s spot w) ws more

pub tells-step : (s : Summary) (spot next : Spot) (w : Segment) (ws : List Segment) (here more : List Finding)
    → told_as s spot w ≡ Some here → spot_past s spot w ≡ next → Tells s next ws more → Tells s spot (w ∷ ws) (here ++ more)
tells-step s spot next w ws here more told past then = (here, more, told, refl, subst (λ (n : Spot). Tells s n ws more) (sym past) then)

-- the same found by lists that are put together otherwise
pub tells-assoc : (s : Summary) (spot : Spot) (us ws rest : List Segment) (found later more : List Finding)
    → Tells s spot (us ++ (ws ++ rest)) (found ++ (later ++ more)) → Tells s spot ((us ++ ws) ++ rest) ((found ++ later) ++ more)
tells-assoc s spot us ws rest found later more told =
    subst (λ (vs : List Segment). Tells s spot vs ((found ++ later) ++ more)) (sym (append_assoc us ws rest))
    (subst (λ (fs : List Finding). Tells s spot (us ++ (ws ++ rest)) fs) (sym (append_assoc found later more)) told)

-- the finding of an error of a segment as a whole, and of an element
abbrev pub head_finding : ℕ → Levelled → Finding
head_finding k x = finding_at level.Segment k [] (code_told x.error) no_site

abbrev pub detail_finding : ℕ → Levelled → Finding
detail_finding k x = finding_at level.Segment k [] (code_told x.error) (site_of x.error)

-- a code isn't empty
filled-some : (v : List ℕ) (f : Finding) → 1 ≤ length v → when_filled v f ≡ f ∷ []
filled-some [] f some = absurd (omega arith)
filled-some (x ∷ xs) f some = ap (λ (b : Bool). cond b [] (f ∷ [])) (ne_eqb (length (x ∷ xs)) 0 (λ same. omega arith))

code-filled : (x : Levelled) (f : Finding) → when_filled (code_told x.error) f ≡ f ∷ []
code-filled x f = let number = code_number x.error in filled-some (code_told x.error) f number.some

-- a position of a message, of at most six digits
pub record IsPosition (m : MessageHead) (position : ℕ) : Type 0 where
  pub some : 0 < position
  pub few : position < 10 ^ 6
  pub within : position ≤ m.last + 1 - m.first

-- one segment of a message, with others after it
module _ (s : Summary) (m : MessageHead) (group : Option ℕ) (rest : List Segment) (more : List Finding)
    (then : (next : Spot) → next.group ≡ group → next.message ≡ Some m → Tells s next rest more) where
  details-tell : (k : ℕ) (ys : List Levelled) (spot : Spot) → spot.group ≡ group → spot.message ≡ Some m → spot.segment ≡ Some k
      → Tells s spot (map ucd ys ++ rest) (map (detail_finding k) ys ++ more)
  details-tell k [] spot grouped opened at = then spot grouped opened
  details-tell k (y ∷ ys) spot grouped opened at =
      tells-step s spot spot (ucd y) (map ucd ys ++ rest) (detail_finding k y ∷ []) (map (detail_finding k) ys ++ more)
      (told-ucd s spot k at y) (past-ucd s spot y) (details-tell k ys spot grouped opened at)

  module _ (position : ℕ) (is : IsPosition m position) where
    abbrev here : ℕ
    here = m.first + position - 1

    abbrev at_segment : Spot → Spot
    at_segment spot = record spot { segment = Some here }

    head-tells : (code : List ℕ) (spot : Spot) → spot.message ≡ Some m → (ws : List Segment) (found : List Finding) → Tells s (at_segment spot) ws found
        → Tells s spot (ucs position code ∷ ws) (when_filled code (finding_at level.Segment here [] code no_site) ++ found)
    head-tells code spot opened ws found told =
        tells-step s spot (at_segment spot) (ucs position code) ws (when_filled code (finding_at level.Segment here [] code no_site)) found
        (told-ucs s spot m position opened is.some is.few is.within code) (past-ucs s spot m position opened is.some is.few is.within code) told

    code-tells : (x : Levelled) (spot : Spot) → spot.message ≡ Some m → (ws : List Segment) (found : List Finding) → Tells s (at_segment spot) ws found
        → Tells s spot (ucs position (code_told x.error) ∷ ws) (head_finding here x ∷ found)
    code-tells x spot opened ws found told =
        subst (λ (fs : List Finding). Tells s spot (ucs position (code_told x.error) ∷ ws) (fs ++ found)) (code-filled x (head_finding here x))
        (head-tells (code_told x.error) spot opened ws found told)

    heads-tell : (x : Levelled) (xs ys : List Levelled) (spot : Spot) → spot.group ≡ group → spot.message ≡ Some m
        → Tells s spot (map (λ z. ucs position (code_told z.error)) (x ∷ xs) ++ (map ucd ys ++ rest)) (map (head_finding here) (x ∷ xs) ++ (map (detail_finding here) ys ++ more))
    heads-tell x [] ys spot grouped opened =
        code-tells x spot opened (map ucd ys ++ rest) (map (detail_finding here) ys ++ more) (details-tell here ys (at_segment spot) grouped opened refl)
    heads-tell x (z ∷ zs) ys spot grouped opened =
        code-tells x spot opened (map (λ z. ucs position (code_told z.error)) (z ∷ zs) ++ (map ucd ys ++ rest)) (map (head_finding here) (z ∷ zs) ++ (map (detail_finding here) ys ++ more))
        (heads-tell z zs ys (at_segment spot) grouped opened)

    -- the UCS and UCD of a segment find its errors as a whole, and then those of its elements
    pub position-tells : (xs ys : List Levelled) (spot : Spot) → spot.group ≡ group → spot.message ≡ Some m
        → Tells s spot ((heads_of position xs ys ++ map ucd ys) ++ rest) ((map (head_finding here) xs ++ map (detail_finding here) ys) ++ more)
    position-tells [] [] spot grouped opened = then spot grouped opened
    position-tells [] (y ∷ ys) spot grouped opened =
        head-tells [] spot opened (map ucd (y ∷ ys) ++ rest) (map (detail_finding here) (y ∷ ys) ++ more) (details-tell here (y ∷ ys) (at_segment spot) grouped opened refl)
    position-tells (x ∷ xs) ys spot grouped opened =
        tells-assoc s spot (map (λ z. ucs position (code_told z.error)) (x ∷ xs)) (map ucd ys) rest (map (head_finding here) (x ∷ xs)) (map (detail_finding here) ys) more
        (heads-tell x xs ys spot grouped opened)

-- lists
pub each-all-of : {X : Type 0} (P : X → Type 0) (xs : List X) → All P xs → Each P xs
each-all-of P [] all = tt
each-all-of P (x ∷ xs) all = (all 0 x (omega arith), each-all-of P xs (λ k d within. all (suc k) d (omega arith)))

each-if : {X : Type 0} (P : X → Type 0) (q : X → Bool) (xs : List X) → Each P (filter q xs) → Each (λ x. q x ≡ true → P x) xs
each-if P q [] all = tt
each-if P q (x ∷ xs) all = elim (cases_Bool (q x)) [
  | inl is ↦
      let both : Each P (x ∷ filter q xs) = subst (λ (b : Bool). Each P (cond b (x ∷ filter q xs) (filter q xs))) is all in ((λ same. both.0), each-if P q xs both.1)
  | inr isnt ↦
      let later : Each P (filter q xs) = subst (λ (b : Bool). Each P (cond b (x ∷ filter q xs) (filter q xs))) isnt all in
      ((λ same. absurd (false≢true (sym isnt ∙ same))), each-if P q xs later)
]

-- what holds of all that pass a test holds of those that pass it among fewer
each-fewer : {X : Type 0} (P : X → Type 0) (q r : X → Bool) (xs : List X) → Each P (filter q xs) → Each P (filter q (filter r xs))
each-fewer P q r xs all =
    let ys = filter r xs in
    each-more (λ x. (q x ≡ true) × (q x ≡ true → P x)) P (λ x both. both.1 both.0) (filter q ys)
    (each-both (λ x. q x ≡ true) (λ x. q x ≡ true → P x) (filter q ys) (each-kept q ys)
    (each-filter (λ x. q x ≡ true → P x) q ys (each-filter (λ x. q x ≡ true → P x) r xs (each-if P q xs all))))

all-pass : {X : Type 0} (p : X → Bool) (xs : List X) → Each (λ x. p x ≡ true) xs → filter p xs ≡ xs
all-pass p [] all = refl
all-pass p (x ∷ xs) all = ap (λ (b : Bool). cond b (x ∷ filter p xs) (filter p xs)) all.0 ∙ ap (λ ys. x ∷ ys) (all-pass p xs all.1)

each-same : {X Y : Type 0} (f g : X → Y) (xs : List X) → Each (λ x. f x ≡ g x) xs → map f xs ≡ map g xs
each-same f g [] all = refl
each-same f g (x ∷ xs) all = λ i. all.0 i ∷ each-same f g xs all.1 i

flat-same : {X Y : Type 0} (f g : X → List Y) (xs : List X) → Each (λ x. f x ≡ g x) xs → flat_map f xs ≡ flat_map g xs
flat-same f g [] all = refl
flat-same f g (x ∷ xs) all = λ i. all.0 i ++ flat-same f g xs all.1 i

-- the errors of one segment, reported as they are in order
site-none : (e : ErrorLine) → e.element ≡ 0 → site_of e ≡ no_site
site-none e none = ap (λ (n : ℕ). let site : Bool → Site = λ b. cond b (record { element = e.element; component = e.component }) no_site in site (nat_le 1 n && is_near e)) none

module _ (k : ℕ) (xs : List Levelled) (at : Each (λ x. x.error.segment ≡ k) xs) where
  heads-same : Each IsWholeLevelled xs → map (head_finding k) (segment_errors xs) ≡ map part_finding (segment_errors xs)
  heads-same whole =
      let is_head = λ (x : Levelled). is_of_segment x.error.kind in
      each-same (head_finding k) part_finding (segment_errors xs)
      (each-more (λ (x : Levelled). (is_head x ≡ true) × ((x.error.segment ≡ k) × IsWholeLevelled x)) (λ x. head_finding k x ≡ part_finding x)
      (λ x all. λ i. finding_at level.Segment (sym all.1.0 i) [] (code_told x.error) (sym (site-none x.error (all.1.1 all.0)) i)) (segment_errors xs)
      (each-both (λ (x : Levelled). is_head x ≡ true) (λ (x : Levelled). (x.error.segment ≡ k) × IsWholeLevelled x) (segment_errors xs) (each-kept is_head xs)
      (each-filter (λ (x : Levelled). (x.error.segment ≡ k) × IsWholeLevelled x) is_head xs (each-both (λ (x : Levelled). x.error.segment ≡ k) IsWholeLevelled xs at whole))))

  details-same : map (detail_finding k) (element_errors xs) ≡ map part_finding (element_errors xs)
  details-same =
      let is_detail = λ (x : Levelled). is_of_element x.error.kind in
      each-same (detail_finding k) part_finding (element_errors xs)
      (each-more (λ (x : Levelled). x.error.segment ≡ k) (λ x. detail_finding k x ≡ part_finding x)
      (λ x same. λ i. finding_at level.Segment (sym same i) [] (code_told x.error) (site_of x.error)) (element_errors xs)
      (each-filter (λ (x : Levelled). x.error.segment ≡ k) is_detail xs at))

  parts-here : Rising (λ x. x.error.element) xs → Each IsWholeLevelled xs → Each IsPlacedLevelled xs
      → map (head_finding k) (segment_errors xs) ++ map (detail_finding k) (element_errors xs) ≡ map part_finding (filter is_part xs)
  parts-here up whole placed =
      (λ i. heads-same whole i ++ details-same i)
      ∙ (sym (map-append part_finding (segment_errors xs) (element_errors xs))
      ∙ ap (map part_finding)
      (parted (λ (x : Levelled). x.error.element) (λ x. is_of_segment x.error.kind) (λ x. is_of_element x.error.kind) xs up whole
      (each-more IsPlacedLevelled (λ x. is_of_element x.error.kind ≡ true → 1 ≤ x.error.element) (λ x names is. leb-true 1 x.error.element (names is)) xs placed)))

-- the UCS and UCD of a segment, as blocks
blocks-joined : (h : Segment) (hs details : List Segment) → flat_map (λ block. block) (blocks_of (h ∷ hs) details) ≡ (h ∷ hs) ++ details
blocks-joined h [] details = append-nil (h ∷ details)
blocks-joined h (g ∷ hs) details = ap (λ ws. h ∷ ws) (blocks-joined g hs details)

segment-joined : (position : ℕ) (xs ys : List Levelled) → flat_map (λ block. block) (blocks_of (heads_of position xs ys) (map ucd ys)) ≡ heads_of position xs ys ++ map ucd ys
segment-joined position [] [] = refl
segment-joined position [] (y ∷ ys) = blocks-joined (ucs position []) [] (map ucd (y ∷ ys))
segment-joined position (x ∷ xs) ys = blocks-joined (ucs position (code_told x.error)) (map (λ z. ucs position (code_told z.error)) xs) (map ucd ys)

flat-joined : {X : Type 0} (f : X → List (List Segment)) (xs : List X) → flat_map (λ block. block) (flat_map f xs) ≡ flat_map (λ x. flat_map (λ block. block) (f x)) xs
flat-joined f [] = refl
flat-joined f (x ∷ xs) = flat_map-append (λ block. block) (f x) (flat_map f xs) ∙ ap (λ ws. flat_map (λ block. block) (f x) ++ ws) (flat-joined f xs)

each-between : (a n b c : ℕ) → b ≤ a → a + n ≤ c → Each (λ k. (b ≤ k) × (k < c)) (range_with_len a n)
each-between a zero b c low high = tt
each-between a (suc n) b c low high = ((low, omega arith), each-between (a + 1) n b c (omega arith) (omega arith))

pub positions-good : (m : MessageHead) → Each (IsPosition m) (positions_of m)
positions-good m =
    let n : ℕ = min 999999 (m.last + 1 - m.first) in
    each-more (λ k. (1 ≤ k) × (k < 1 + n)) (IsPosition m)
    (λ k both. let low = both.0 in let high = both.1 in record { some = omega arith; few = omega arith; within = omega arith }) (positions_of m)
    (each-between 1 n 1 (1 + n) (omega arith) (omega arith))

-- errors that are reported of a message: in order, of kinds that are well placed, and all in it
pub record AreOfMessage (m : MessageHead) (es : List Levelled) : Type 0 where
  pub order : InOrder es
  pub placed : Each IsPlacedLevelled es
  pub whole : Each IsWholeLevelled es
  pub within : Each (λ x. is_among m.first m.last x.error.segment ≡ true) es

module _ (m : MessageHead) (es : List Levelled) where
  abbrev errors_here : ℕ → List Levelled
  errors_here position = errors_of_position m position es

  abbrev written_here : ℕ → List Segment
  written_here position = heads_of position (segment_errors (errors_here position)) (element_errors (errors_here position)) ++ map ucd (element_errors (errors_here position))

  abbrev found_here : ℕ → List Finding
  found_here position =
      map (head_finding (m.first + position - 1)) (segment_errors (errors_here position))
      ++ map (detail_finding (m.first + position - 1)) (element_errors (errors_here position))

  positions-tell : (s : Summary) (group : Option ℕ) (ps : List ℕ) (spot : Spot) → Each (IsPosition m) ps → (rest : List Segment) (more : List Finding)
      → ((next : Spot) → next.group ≡ group → next.message ≡ Some m → Tells s next rest more) → spot.group ≡ group → spot.message ≡ Some m
      → Tells s spot (flat_map written_here ps ++ rest) (flat_map found_here ps ++ more)
  positions-tell s group [] spot all rest more then grouped opened = then spot grouped opened
  positions-tell s group (p ∷ ps) spot all rest more then grouped opened =
      tells-assoc s spot (written_here p) (flat_map written_here ps) rest (found_here p) (flat_map found_here ps) more
      (position-tells s m group (flat_map written_here ps ++ rest) (flat_map found_here ps ++ more)
      (λ next in_group in_message. positions-tell s group ps next all.1 rest more then in_group in_message) p all.0 (segment_errors (errors_here p)) (element_errors (errors_here p)) spot grouped opened)

  module _ (told : IsToldWhole m es) where
    details-whole : (position : ℕ) → details_in (element_errors (errors_here position)) ≡ map ucd (element_errors (errors_here position))
    details-whole position =
        let ys = element_errors (errors_here position) in
        let near : Each (λ x. is_near x.error ≡ true) ys =
        each-fewer (λ (x : Levelled). is_near x.error ≡ true) (λ x. is_of_element x.error.kind) (λ x. x.error.segment + 1 == m.first + position) es
        (each-all-of (λ (x : Levelled). is_near x.error ≡ true) (element_errors es) told.near) in
        ap (λ zs. take 99 (map ucd zs)) (all-pass (λ (x : Levelled). is_near x.error) ys near)
        ∙ take_all 99 (map ucd ys) (omega (arith, length-map ys ucd, told.details position))

    segment-whole : (position : ℕ) → flat_map (λ block. block) (segment_blocks position (errors_here position)) ≡ written_here position
    segment-whole position =
        ap (λ ds. flat_map (λ block. block) (blocks_of (heads_of position (segment_errors (errors_here position)) (element_errors (errors_here position))) ds)) (details-whole position)
        ∙ segment-joined position (segment_errors (errors_here position)) (element_errors (errors_here position))

    -- the report leaves nothing out
    report-whole : report m es ≡ ucm m es ∷ flat_map written_here (positions_of m)
    unfolding report
    report-whole =
        ap (λ bs. ucm m es ∷ flat_map (λ block. block) bs) (take_all 999 (message_blocks m es) told.blocks)
        ∙ ap (λ ws. ucm m es ∷ ws)
        (flat-joined (λ position. segment_blocks position (errors_here position)) (positions_of m)
        ∙ flat-same (λ position. flat_map (λ block. block) (segment_blocks position (errors_here position))) written_here (positions_of m)
        (each-all (λ position. flat_map (λ block. block) (segment_blocks position (errors_here position)) ≡ written_here position) segment-whole (positions_of m)))

    module _ (good : AreOfMessage m es) where
      found-at : (position : ℕ) → IsPosition m position → found_here position ≡ map part_finding (filter is_part (errors_here position))
      found-at position is =
          let passes = λ (x : Levelled). x.error.segment + 1 == m.first + position in
          parts-here (m.first + position - 1) (errors_here position)
          (each-more (λ (x : Levelled). passes x ≡ true) (λ x. x.error.segment ≡ m.first + position - 1)
          (λ x same. let e = eqb-true (x.error.segment + 1) (m.first + position) same in omega arith) (errors_here position) (each-kept passes es))
          (elements-rise m position es good.order) (each-filter IsWholeLevelled passes es good.whole) (each-filter IsPlacedLevelled passes es good.placed)

      abbrev parts_of : List Levelled → List Finding
      parts_of xs = map part_finding (filter is_part xs)

      parts-more : (xs ys : List Levelled) → parts_of (xs ++ ys) ≡ parts_of xs ++ parts_of ys
      parts-more xs ys = ap (map part_finding) (filter-append is_part xs ys) ∙ map-append part_finding (filter is_part xs) (filter is_part ys)

      inside : (x : Levelled) → is_among m.first m.last x.error.segment ≡ true → (m.first ≤ x.error.segment) × (x.error.segment ≤ m.last)
      inside x is =
          let parts = and_parts (nat_le m.first x.error.segment) (nat_le x.error.segment m.last) is in
          (leb-true m.first x.error.segment parts.0, leb-true x.error.segment m.last parts.1)

      least : Each (λ x. m.first + 1 ≤ x.error.segment + 1) es
      least =
          each-more (λ (x : Levelled). is_among m.first m.last x.error.segment ≡ true) (λ x. m.first + 1 ≤ x.error.segment + 1)
          (λ x is. let low = (inside x is).0 in omega arith) es good.within

      most : Each (λ x. x.error.segment + 1 < m.first + 1 + min 999999 (m.last + 1 - m.first)) es
      most =
          each-more (λ (x : Levelled). (is_among m.first m.last x.error.segment ≡ true) × (x.error.segment + 1 ≤ m.first + 999999)) (λ x. x.error.segment + 1 < m.first + 1 + min 999999 (m.last + 1 - m.first))
          (λ x both. let low = (inside x both.0).0 in let high = (inside x both.0).1 in let few = both.1 in omega arith) es
          (each-both (λ (x : Levelled). is_among m.first m.last x.error.segment ≡ true) (λ x. x.error.segment + 1 ≤ m.first + 999999) es good.within
          (each-all-of (λ (x : Levelled). x.error.segment + 1 ≤ m.first + 999999) es told.positions))

      -- what is found position by position is all of it
      found-whole : flat_map found_here (positions_of m) ≡ parts_of es
      found-whole =
          flat-same found_here (λ position. parts_of (errors_here position)) (positions_of m)
          (each-more (IsPosition m) (λ position. found_here position ≡ parts_of (errors_here position)) found-at (positions_of m) (positions-good m))
          ∙ by-position (λ (x : Levelled). x.error.segment) parts_of refl parts-more m.first 1 (min 999999 (m.last + 1 - m.first)) es
          (segments-rise es good.order) least most

      -- the report of a message that is found again finds all errors that it was written for
      pub report-tells : (s : Summary) (spot : Spot) → message_named s.messages spot.group m.reference ≡ Some m → (rest : List Segment) (more : List Finding)
          → ((next : Spot) → next.group ≡ spot.group → Tells s next rest more) → Tells s spot (report m es ++ rest) (message_findings m es ++ more)
      report-tells s spot again rest more then =
          let first : List Finding = first_finding level.Message m.first (first_error (whole_errors es)) in
          let next : Spot = record spot { message = Some m } in
          let below : Tells s next (flat_map written_here (positions_of m) ++ rest) (parts_of es ++ more) =
          subst (λ (fs : List Finding). Tells s next (flat_map written_here (positions_of m) ++ rest) (fs ++ more)) found-whole
          (positions-tell s spot.group (positions_of m) next (positions-good m) rest more (λ n in_group in_message. then n in_group) refl refl) in
          subst (λ (ws : List Segment). Tells s spot (ws ++ rest) (message_findings m es ++ more)) (sym report-whole)
          (subst (λ (fs : List Finding). Tells s spot (ucm m es ∷ (flat_map written_here (positions_of m) ++ rest)) fs) (sym (append_assoc first (parts_of es) more))
          (tells-step s spot next (ucm m es) (flat_map written_here (positions_of m) ++ rest) first (parts_of es ++ more) (told-ucm s spot m again es) (past-ucm s spot m again es) below))
