-- What the segments of an acknowledgement find in the text that they were written for, one kind at a time.
use Rattle.std.proofs.Common.{◌≡◌, ℕ, ◌+◌, ◌-◌, ◌^◌, ◌<◌, ◌≤◌, Bool, true, false, ◌&&◌, cond, Option, Some, None, List, [], ◌∷◌, get_or, length, refl, sym, ap, subst, ◌∙◌, inl, inr, arith}
use Rattle.std.specs.Prelude.{◌==◌, nat_le, decimal}
use Rattle.std.specs.Option.{option_and_then, option_map}
use Rattle.std.proofs.lemmas.Bool.{and_parts, cases_Bool, le-leb, leb-false, leb-true, ne_eqb}
use Rattle.edi_tables.specs.Octets.{Octets}
use Rattle.edi_tables.specs.declared.tag.Tag.{Tag}
use Rattle.error_ledger.specs.declared.error.ErrorLine.{ErrorLine}
use Rattle.contrl_segments.specs.Details.{code_told, component_told, details_told, element_told, has_position, is_near}
use Rattle.contrl_segments.specs.ReadBack.{components_read}
use Rattle.contrl_segments.specs.Service.{ucf, uci, unb, unh, unt, unz}
use Rattle.contrl_segments.specs.Written.{Element, Segment, is_empty_value}
use Rattle.contrl_segments.specs.declared.stamp.Stamp.{Stamp}
use Rattle.contrl_segments.specs.declared.summary.GroupHead.{GroupHead}
use Rattle.contrl_segments.specs.declared.summary.MessageHead.{MessageHead}
use Rattle.contrl_segments.specs.declared.summary.Party.{Party}
use Rattle.contrl_segments.specs.declared.summary.Summary.{Summary}
use Rattle.contrl_writer.specs.Levels.{first_error}
use Rattle.contrl_writer.specs.Report.{ucd, ucm, ucs, whole_errors}
use Rattle.contrl_writer.specs.declared.level.Levelled.{Levelled}
use Rattle.segment_records.specs.Segments.{value_in}
use Rattle.text_reading.proofs.Back.{value-back}
use Rattle.text_reading.proofs.Lawful.{code_number}
use Rattle.text_reading.proofs.Values.{decimal_back, decimal_number}
use Rattle.contrl_match.specs.Passes.{spot_after}
use Rattle.contrl_match.specs.Reported.{first_finding, site_of}
use Rattle.contrl_match.specs.Spots.{Spot, group_named, message_named, number_named, segment_placed, segment_with}
use Rattle.contrl_match.specs.Telling.{Site, Values, answer_told, detail_told, finding_at, number_or_none, position_told, told_with, when_filled}
use Rattle.contrl_match.specs.declared.finding.Finding.{Finding}
use Rattle.contrl_match.specs.declared.finding.Where.{Where}
use Rattle.contrl_match.specs.declared.finding.Where.TheVariants as level

-- the tag of a segment that is written
abbrev pub written_tag : Segment → Option Tag
written_tag w = Some (record { octets = w.tag })

-- what a segment that is written finds from such a spot
abbrev pub told_as : Summary → Spot → Segment → Option (List Finding)
told_as s spot w = told_with s spot (written_tag w) (value_in (components_read w))

-- what the next is about, after one that is written
abbrev pub spot_past : Summary → Spot → Segment → Spot
spot_past s spot w = spot_after s spot (written_tag w) (value_in (components_read w))

-- the place that 0098 and 0104 name
abbrev pub site_from : Octets → Octets → Option Site
site_from element component =
    option_and_then (λ position. option_map (λ c. record { element = position - 1; component = c }) (number_or_none component))
    (number_or_none element)

-- no place in a segment
abbrev pub no_site : Site
no_site = record { element = 0; component = 0 }

-- a number that isn't zero is read back
decimal_some : (n : ℕ) → n < 10 ^ 6 → is_empty_value (decimal n) ≡ false
decimal_some n few =
    let is = decimal_number 6 n (omega arith) few (omega (arith, few)) in
    let some : 1 ≤ length (decimal n) = is.some in
    ne_eqb (length (decimal n)) 0 (λ none. omega arith)

abbrev not_zero : Option ℕ → Option ℕ
not_zero o = elim o [ None ↦ None | Some n ↦ cond (n == 0) None (Some n) ]

number_named-decimal : (n : ℕ) → 0 < n → n < 10 ^ 6 → number_named (decimal n) ≡ Some n
number_named-decimal n some few =
    ap not_zero (decimal_back n few) ∙ ap (λ (b : Bool). cond b None (Some n)) (ne_eqb n 0 (λ none. omega arith))

number_or_none-decimal : (n : ℕ) → 0 < n → n < 10 ^ 6 → number_or_none (decimal n) ≡ Some n
number_or_none-decimal n some few =
    ap (λ (b : Bool). cond b (Some 0) (number_named (decimal n))) (decimal_some n few) ∙ number_named-decimal n some few

-- S011 names the place that it was written for
abbrev IsSiteBack : ErrorLine → Bool → Type 0
IsSiteBack e b =
    site_from (cond b (decimal (e.element + 1)) []) (cond (b && nat_le 1 e.component) (decimal e.component) [])
    ≡ Some (cond b (record { element = e.element; component = e.component }) no_site)

component-back : (n : ℕ) → n < 10 ^ 6 → number_or_none (cond (nat_le 1 n) (decimal n) []) ≡ Some n
component-back n few = elim (cases_Bool (nat_le 1 n)) [
  | inl some ↦ ap (λ (b : Bool). number_or_none (cond b (decimal n) [])) some ∙ number_or_none-decimal n (leb-true 1 n some) few
  | inr none ↦
      let zero_is : n < 1 = leb-false 1 n none in
      let same : 0 ≡ n = omega arith in
      ap (λ (b : Bool). number_or_none (cond b (decimal n) [])) none ∙ ap (λ (k : ℕ). Some k) same
]

site-near : (e : ErrorLine) → has_position e ≡ true → IsSiteBack e true
site-near e is =
    let near = and_parts (nat_le e.element 998) (nat_le e.component 999) (and_parts (nat_le 1 e.element) (is_near e) is).1 in
    let element_few : e.element ≤ 998 = leb-true e.element 998 near.0 in
    let component_few : e.component ≤ 999 = leb-true e.component 999 near.1 in
    let component : List ℕ = cond (nat_le 1 e.component) (decimal e.component) [] in
    let place : ℕ → ℕ → Site = λ n c. record { element = n; component = c } in
    let same : e.element + 1 - 1 ≡ e.element = omega arith in
    ap (λ (o : Option ℕ). option_and_then (λ position. option_map (place (position - 1)) (number_or_none component)) o)
    (number_or_none-decimal (e.element + 1) (omega arith) (omega arith))
    ∙ (ap (λ (o : Option ℕ). option_map (place (e.element + 1 - 1)) o) (component-back e.component (omega arith))
    ∙ ap (λ (n : ℕ). Some (place n e.component)) same)

pub site-back : (e : ErrorLine) → site_from (element_told e) (component_told e) ≡ Some (site_of e)
site-back e = elim (cases_Bool (has_position e)) [
  | inl is ↦ subst (IsSiteBack e) (sym is) (site-near e is)
  | inr none ↦ subst (IsSiteBack e) (sym none) refl
]

-- what is found by 0085, 0013 and S011 as they were written
code_some : (e : ErrorLine) → is_empty_value (code_told e) ≡ false
code_some e =
    let is = code_number e in
    let some : 1 ≤ length (code_told e) = is.some in
    ne_eqb (length (code_told e)) 0 (λ none. omega arith)

-- the value of a component, from 0, of one of these elements
abbrev detail_at : Option ErrorLine → ℕ → ℕ → Octets
detail_at error i j = get_or (get_or (details_told error) i []) j []

abbrev told_by : Where → ℕ → Octets → Octets → Octets → Octets → Option (List Finding)
told_by where_at segment code tag element component =
    option_map (λ site. when_filled code (finding_at where_at segment tag code site)) (site_from element component)

details-back : (where_at : Where) (segment : ℕ) (error : Option ErrorLine)
    → told_by where_at segment (detail_at error 0 0) (detail_at error 1 0) (detail_at error 2 0) (detail_at error 2 1) ≡ Some (first_finding where_at segment error)
details-back where_at segment None = refl
details-back where_at segment (Some e) =
    let found : Site → Finding = λ site. finding_at where_at segment (detail_at (Some e) 1 0) (code_told e) site in
    ap (λ (o : Option Site). option_map (λ site. when_filled (code_told e) (found site)) o) (site-back e)
    ∙ ap (λ (b : Bool). Some (cond b [] (found (site_of e) ∷ []))) (code_some e)

answer-back : (where_at : Where) (element segment : ℕ) (values : Values) (error : Option ErrorLine)
    → values element 1 ≡ detail_at error 0 0 → values (element + 1) 1 ≡ detail_at error 1 0
    → values (element + 2) 1 ≡ detail_at error 2 0 → values (element + 2) 2 ≡ detail_at error 2 1
    → answer_told where_at element segment values ≡ Some (first_finding where_at segment error)
answer-back where_at element segment values error code tag position component =
    ap (λ (v : Octets). told_by where_at segment v (values (element + 1) 1) (values (element + 2) 1) (values (element + 2) 2)) code
    ∙ (ap (λ (v : Octets). told_by where_at segment (detail_at error 0 0) v (values (element + 2) 1) (values (element + 2) 2)) tag
    ∙ (ap (λ (v : Octets). told_by where_at segment (detail_at error 0 0) (detail_at error 1 0) v (values (element + 2) 2)) position
    ∙ (ap (λ (v : Octets). told_by where_at segment (detail_at error 0 0) (detail_at error 1 0) (detail_at error 2 0) v) component
    ∙ details-back where_at segment error)))

module _ (s : Summary) (spot : Spot) where
  -- UCI
  pub told-uci : (sender recipient : Party) (reference action : Octets) (error : Option ErrorLine)
      → told_as s spot (uci sender recipient reference action error) ≡ Some (first_finding level.Interchange 0 error)
  told-uci sender recipient reference action error =
      let w : Segment = uci sender recipient reference action error in
      answer-back level.Interchange 5 0 (value_in (components_read w)) error
      (value-back w 5 1 4 0 refl refl) (value-back w 6 1 5 0 refl refl) (value-back w 7 1 6 0 refl refl) (value-back w 7 2 6 1 refl refl)

  pub past-uci : (sender recipient : Party) (reference action : Octets) (error : Option ErrorLine)
      → spot_past s spot (uci sender recipient reference action error) ≡ spot
  past-uci sender recipient reference action error = refl

  -- UCF
  module _ (i : ℕ) (g : GroupHead) (again : group_named s.groups g.reference ≡ Some (i, g)) where
    group-back : (action : Octets) (error : Option ErrorLine) → group_named s.groups (value_in (components_read (ucf g action error)) 1 1) ≡ Some (i, g)
    group-back action error = ap (group_named s.groups) (value-back (ucf g action error) 1 1 0 0 refl refl) ∙ again

    pub told-ucf : (action : Octets) (error : Option ErrorLine)
        → told_as s spot (ucf g action error) ≡ Some (first_finding level.Group g.first error)
    told-ucf action error =
        let w : Segment = ucf g action error in
        let values : Values = value_in (components_read w) in
        ap (λ (o : Option (ℕ × GroupHead)). option_and_then (λ p. answer_told level.Group 5 p.1.first values) o) (group-back action error)
        ∙ answer-back level.Group 5 g.first values error
        (value-back w 5 1 4 0 refl refl) (value-back w 6 1 5 0 refl refl) (value-back w 7 1 6 0 refl refl) (value-back w 7 2 6 1 refl refl)

    pub past-ucf : (action : Octets) (error : Option ErrorLine)
        → spot_past s spot (ucf g action error) ≡ record spot { group = Some i }
    past-ucf action error =
        ap (λ (o : Option (ℕ × GroupHead)). let next : Spot = record spot { group = option_map (λ p. p.0) o } in next) (group-back action error)

  -- UCM
  module _ (m : MessageHead) (again : message_named s.messages spot.group m.reference ≡ Some m) where
    message-back : (es : List Levelled) → message_named s.messages spot.group (value_in (components_read (ucm m es)) 1 1) ≡ Some m
    message-back es = ap (message_named s.messages spot.group) (value-back (ucm m es) 1 1 0 0 refl refl) ∙ again

    pub told-ucm : (es : List Levelled)
        → told_as s spot (ucm m es) ≡ Some (first_finding level.Message m.first (first_error (whole_errors es)))
    told-ucm es =
        let w : Segment = ucm m es in
        let values : Values = value_in (components_read w) in
        ap (λ (o : Option MessageHead). option_and_then (λ n. answer_told level.Message 4 n.first values) o) (message-back es)
        ∙ answer-back level.Message 4 m.first values (first_error (whole_errors es))
        (value-back w 4 1 3 0 refl refl) (value-back w 5 1 4 0 refl refl) (value-back w 6 1 5 0 refl refl) (value-back w 6 2 5 1 refl refl)

    pub past-ucm : (es : List Levelled) → spot_past s spot (ucm m es) ≡ record spot { message = Some m }
    past-ucm es = ap (λ (o : Option MessageHead). let next : Spot = record spot { message = o } in next) (message-back es)

  -- UCS
  module _ (m : MessageHead) (position : ℕ) (here : spot.message ≡ Some m) (some : 0 < position) (few : position < 10 ^ 6)
      (within : position ≤ m.last + 1 - m.first) where
    segment-back : (code : Octets)
        → option_and_then (segment_placed (value_in (components_read (ucs position code)) 1 1)) spot.message ≡ Some (m.first + position - 1)
    segment-back code =
        ap (λ (v : Octets). option_and_then (segment_placed v) spot.message) (value-back (ucs position code) 1 1 0 0 refl refl)
        ∙ (ap (λ (o : Option MessageHead). option_and_then (segment_placed (decimal position)) o) here
        ∙ (ap (λ (o : Option ℕ). option_and_then (segment_with m) o) (number_named-decimal position some few)
        ∙ ap (λ (b : Bool). cond b (Some (m.first + position - 1)) None) (le-leb position (m.last + 1 - m.first) within)))

    pub told-ucs : (code : Octets)
        → told_as s spot (ucs position code) ≡ Some (when_filled code (finding_at level.Segment (m.first + position - 1) [] code no_site))
    told-ucs code =
        let w : Segment = ucs position code in
        let k : ℕ = m.first + position - 1 in
        ap (λ (o : Option ℕ). option_map (position_told (value_in (components_read w))) o) (segment-back code)
        ∙ ap (λ (v : Octets). Some (when_filled v (finding_at level.Segment k [] v no_site))) (value-back w 2 1 1 0 refl refl)

    pub past-ucs : (code : Octets) → spot_past s spot (ucs position code) ≡ record spot { segment = Some (m.first + position - 1) }
    past-ucs code = ap (λ (o : Option ℕ). let next : Spot = record spot { segment = o } in next) (segment-back code)

  -- UCD
  pub told-ucd : (k : ℕ) → spot.segment ≡ Some k → (x : Levelled)
      → told_as s spot (ucd x) ≡ Some (finding_at level.Segment k [] (code_told x.error) (site_of x.error) ∷ [])
  told-ucd k here x =
      let w : Segment = ucd x in
      let values : Values = value_in (components_read w) in
      let found : Octets → Site → List Finding = λ code site. finding_at level.Segment k [] code site ∷ [] in
      ap (λ (o : Option ℕ). option_and_then (detail_told values) o) here
      ∙ (ap (λ (v : Octets). option_map (found (values 1 1)) (site_from v (values 2 2))) (value-back w 2 1 1 0 refl refl)
      ∙ (ap (λ (v : Octets). option_map (found (values 1 1)) (site_from (element_told x.error) v)) (value-back w 2 2 1 1 refl refl)
      ∙ (ap (λ (o : Option Site). option_map (found (values 1 1)) o) (site-back x.error)
      ∙ ap (λ (v : Octets). Some (found v (site_of x.error))) (value-back w 1 1 0 0 refl refl))))

  pub past-ucd : (x : Levelled) → spot_past s spot (ucd x) ≡ spot
  past-ucd x = refl

  -- the segments round them find nothing
  pub told-unb : (syntax_is : Element) (sender recipient : Party) (stamp : Stamp) (reference : Octets)
      → told_as s spot (unb syntax_is sender recipient stamp reference) ≡ Some []
  told-unb syntax_is sender recipient stamp reference = refl

  pub past-unb : (syntax_is : Element) (sender recipient : Party) (stamp : Stamp) (reference : Octets)
      → spot_past s spot (unb syntax_is sender recipient stamp reference) ≡ spot
  past-unb syntax_is sender recipient stamp reference = refl

  pub told-unh : told_as s spot unh ≡ Some []
  told-unh = refl

  pub past-unh : spot_past s spot unh ≡ spot
  past-unh = refl

  pub told-unt : (count : ℕ) → told_as s spot (unt count) ≡ Some []
  told-unt count = refl

  pub past-unt : (count : ℕ) → spot_past s spot (unt count) ≡ spot
  past-unt count = refl

  pub told-unz : (reference : Octets) → told_as s spot (unz reference) ≡ Some []
  told-unz reference = refl

  pub past-unz : (reference : Octets) → spot_past s spot (unz reference) ≡ spot
  past-unz reference = refl
