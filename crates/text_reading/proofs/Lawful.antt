-- The segments of an acknowledgement are lawful.
use Rattle.std.proofs.Common.{◌≡◌, ℕ, ◌+◌, ◌^◌, ◌<◌, ◌≤◌, Bool, true, false, ◌&&◌, ◌||◌, cond, eqb, Option, Some, None, List, [], ◌∷◌, length, refl, sym, ap, inl, inr, subst, arith, leb-true, lit<}
use Rattle.std.specs.Prelude.{codes, decimal, nat_le, unwrap_or}
use Rattle.std.specs.List.{list_all, list_any}
use Rattle.std.specs.Str.{all_ascii_digits, bytes_eq}
use Rattle.std.proofs.lemmas.Bool.{and_parts, cases_Bool, cond_both, eqb-true, false≢true, or_cases}
use Rattle.std.proofs.lemmas.Slice.Eq.{bytes_eq-Decides}
use Rattle.edi_tables.specs.Tag.{is_tag_octet_of}
use Rattle.edi_tables.specs.declared.element.Class.TheVariants.{N, An}
use Rattle.edi_tables.specs.declared.segment.ItemDef.{ItemDef}
use Rattle.edi_tables.specs.declared.tag.Tag.{Tag}
use Rattle.edi_octets.specs.Profile.{has_digits}
use Rattle.error_ledger.specs.Kinds.{code_of, is_of_element}
use Rattle.error_ledger.specs.declared.error.ErrorLine.{ErrorLine}
use Rattle.error_ledger.specs.declared.kind.Kind.{Kind}
use Rattle.error_ledger.specs.declared.kind.Kind.TheVariants.{BadUna, NoUnz, NoUne}
use Rattle.service_tables.specs.ServiceTables as tables
use Rattle.service_tables.specs.ServiceTables.{C, service_items_of, service_parts_of}
use Rattle.seg_lexer.specs.declared.context.Context.{Context}
use Rattle.seg_lexer.specs.declared.context.Level.{Level}
use Rattle.element_check.specs.Local.{has_octet}
use Rattle.contrl_segments.specs.Service.{acknowledged, answered_version, group_party, interchange_party, rejected, ucf, syntax_identifier, uci, unb, unh, unt, unz}
use Rattle.contrl_segments.specs.Details.{code_told, component_told, details_told, element_told, envelope_tag, has_position, is_envelope_tag, is_near, position_of, tag_told}
use Rattle.contrl_writer.specs.Levels.{first_error}
use Rattle.contrl_writer.specs.Report.{identifier_of, ucd, ucm, ucs, whole_errors}
use Rattle.contrl_segments.specs.Stamp.{is_reference_of}
use Rattle.contrl_writer.specs.declared.level.Levelled.{Levelled}
use Rattle.contrl_segments.specs.declared.stamp.Stamp.{Stamp}
use Rattle.contrl_segments.specs.declared.summary.GroupHead.{GroupHead}
use Rattle.contrl_segments.specs.declared.summary.MessageHead.{MessageHead}
use Rattle.contrl_segments.specs.declared.summary.Party.{Party}
use Rattle.text_reading.proofs.Each.{Each}
use Rattle.text_reading.proofs.Items.{AreGoodElements, IsGoodComposite, IsGoodValue, IsLawful}
use Rattle.text_reading.proofs.Values.{IsNumber, context_with, decimal_number, empty_good, exactly, level_good, number_an, number_good, octets_good, up_to}

-- a party of an interchange, and of a functional group, whose values are good
pub record IsGoodParty (context : Context) (p : Party) : Type 0 where
  pub id : IsGoodValue context true (up_to An 35) p.id
  pub qualifier : IsGoodValue context false (up_to An 4) p.qualifier
  pub route : IsGoodValue context false (up_to An 14) p.route

pub record IsGoodGroupParty (context : Context) (p : Party) : Type 0 where
  pub id : IsGoodValue context true (up_to An 35) p.id
  pub qualifier : IsGoodValue context false (up_to An 4) p.qualifier

-- a functional group, and a message, whose values are good
pub record IsGoodGroup (context : Context) (g : GroupHead) : Type 0 where
  pub reference : IsGoodValue context true (up_to An 14) g.reference
  pub sender : IsGoodGroupParty context g.sender
  pub recipient : IsGoodGroupParty context g.recipient

pub record IsGoodMessage (context : Context) (m : MessageHead) : Type 0 where
  pub reference : IsGoodValue context true (up_to An 14) m.reference
  pub kind : IsGoodValue context true (up_to An 6) m.kind
  pub version : IsGoodValue context true (up_to An 3) m.version
  pub release : IsGoodValue context true (up_to An 3) m.release
  pub agency : IsGoodValue context true (up_to An 2) m.agency
  pub association : IsGoodValue context false (up_to An 6) m.association

-- an error of an element names it
abbrev pub IsPlaced : ErrorLine → Type 0
IsPlaced e = is_of_element e.kind ≡ true → nat_le 1 e.element ≡ true

abbrev pub IsPlacedLevelled : Levelled → Type 0
IsPlacedLevelled x = IsPlaced x.error

-- the last three items of UCI, UCF and UCM
abbrev detail_items : List ItemDef
detail_items = tables.alone (codes "0085") An (tables.up_to 3) C ∷ tables.alone (codes "0013") An (tables.exactly 3) C ∷ tables.composite (codes "S011") C ∷ []

no_more : (n m : ℕ) → false ≡ true → n ≤ m
no_more n m never = absurd (false≢true never)

-- codes have two digits
code_few : (kind : Kind) → code_of kind < 100
unfolding code_of
code_few BadUna = lit< tt
code_few _ = lit< tt

pub code_number : (e : ErrorLine) → IsNumber 3 (code_told e)
code_number e = let few = code_few e.kind in decimal_number 3 (code_of e.kind) (omega arith) (omega arith) (omega arith)

-- a tag that is given has three octets
record IsThree (tag : List ℕ) : Type 0 where
  octets : list_all is_tag_octet_of tag ≡ true
  three : length tag ≡ 3

named : (P : List ℕ → Type 0) (tag : List ℕ) (names : List (List ℕ)) → Each P names → list_any (bytes_eq tag) names ≡ true → P tag
named P tag [] all is = absurd (false≢true is)
named P tag (n ∷ ns) all is = elim (or_cases (bytes_eq tag n) (list_any (bytes_eq tag) ns) is) [
  | inl here ↦ subst P (sym ((bytes_eq-Decides tag n).0 here)) all.0
  | inr later ↦ named P tag ns all.1 later
]

envelope_three : (tag : List ℕ) → is_envelope_tag tag ≡ true → IsThree tag
envelope_three tag is = named IsThree tag (codes "UNB" ∷ codes "UNG" ∷ codes "UNH" ∷ codes "UNT" ∷ codes "UNE" ∷ codes "UNZ" ∷ []) (
  record { octets = refl; three = refl },
  (record { octets = refl; three = refl }, (record { octets = refl; three = refl }, (record { octets = refl; three = refl }, (record { octets = refl; three = refl }, (record { octets = refl; three = refl }, tt))))),
) is

module _ (context : Context) where
  three_good : (tag : List ℕ) → IsThree tag → IsGoodValue context false (exactly An 3) tag
  three_good tag is = octets_good context false true 3 tag is.octets (omega (arith, is.three)) (omega (arith, is.three)) (λ need. omega (arith, is.three))

  envelope_good : (tag : Option Tag) → IsGoodValue context false (exactly An 3) (envelope_tag tag)
  envelope_good None = empty_good context (exactly An 3)
  envelope_good (Some tag) = elim (cases_Bool (is_envelope_tag tag.octets)) [
    | inl is ↦
        subst (λ (b : Bool). IsGoodValue context false (exactly An 3) (cond b tag.octets [])) (sym is) (three_good tag.octets (envelope_three tag.octets is))
    | inr is ↦ subst (λ (b : Bool). IsGoodValue context false (exactly An 3) (cond b tag.octets [])) (sym is) (empty_good context (exactly An 3))
  ]

  tag_good : (kind : Kind) (tag : Option Tag) → IsGoodValue context false (exactly An 3) (tag_told kind tag)
  tag_good BadUna tag = three_good (codes "UNA") (record { octets = refl; three = refl })
  tag_good NoUnz tag = three_good (codes "UNZ") (record { octets = refl; three = refl })
  tag_good NoUne tag = three_good (codes "UNE") (record { octets = refl; three = refl })
  tag_good _ tag = envelope_good tag

  -- the place of an error
  near_bounds : (e : ErrorLine) → is_near e ≡ true → (e.element ≤ 998) × (e.component ≤ 999)
  near_bounds e is = let parts = and_parts (nat_le e.element 998) (nat_le e.component 999) is in (leb-true e.element 998 parts.0, leb-true e.component 999 parts.1)

  element_number : (e : ErrorLine) → has_position e ≡ true → IsNumber 3 (element_told e)
  element_number e is =
      let near = near_bounds e (and_parts (nat_le 1 e.element) (is_near e) is).1 in
      subst (λ (b : Bool). IsNumber 3 (cond b (decimal (e.element + 1)) [])) (sym is)
      (decimal_number 3 (e.element + 1) (omega arith) (omega (arith, near.0)) (omega (arith, near.0)))

  component_good : (e : ErrorLine) (b : Bool) → e.component ≤ 999 → IsGoodValue context false (up_to N 3) (cond b (decimal e.component) [])
  component_good e false few = empty_good context (up_to N 3)
  component_good e true few =
      number_good context false false 3 (decimal e.component) (decimal_number 3 e.component (omega arith) (omega (arith, few)) (omega (arith, few))) (no_more 3 (length (decimal e.component)))

  position_told : (must : Bool) (e : ErrorLine) → has_position e ≡ true → IsGoodComposite context must (unwrap_or (service_parts_of context.version (codes "S011")) []) (position_of e)
  unfolding service_parts_of
  position_told must e is =
      let near = near_bounds e (and_parts (nat_le 1 e.element) (is_near e) is).1 in
      let element : IsGoodValue context true (up_to N 3) (element_told e) = number_good context true false 3 (element_told e) (element_number e is) (no_more 3 (length (element_told e))) in
      inl (
        ap (λ (b : Bool). b || list_any has_octet (component_told e ∷ [])) (element.filled refl),
        (element, (component_good e (has_position e && nat_le 1 e.component) near.1, tt)),
      )

  position_good : (e : ErrorLine) → IsGoodComposite context false (unwrap_or (service_parts_of context.version (codes "S011")) []) (position_of e)
  position_good e = elim (cases_Bool (has_position e)) [
    | inl is ↦ position_told false e is
    | inr is ↦
        inr (refl, ap (λ (b : Bool). list_any has_octet (cond b (decimal (e.element + 1)) [] ∷ cond (b && nat_le 1 e.component) (decimal e.component) [] ∷ [])) is)
  ]

  details_good : (error : Option ErrorLine) → AreGoodElements context detail_items (details_told error)
  details_good None = (refl, (refl, (refl, tt)))
  details_good (Some e) = (number_an context false 3 (code_told e) (code_number e), (tag_good e.kind e.tag, (position_good e, tt)))

  -- the action of an answer
  pub rejected_good : IsGoodValue context true (up_to An 3) rejected
  rejected_good = octets_good context true false 3 rejected refl (omega arith) (omega arith) (no_more 3 1)

  pub acknowledged_good : IsGoodValue context true (up_to An 3) acknowledged
  acknowledged_good = octets_good context true false 3 acknowledged refl (omega arith) (omega arith) (no_more 3 1)

  -- parties
  sender_good : (p : Party) → IsGoodParty context p → IsGoodComposite context true (unwrap_or (service_parts_of context.version (codes "S002")) []) (interchange_party p)
  unfolding service_parts_of
  sender_good p good =
      inl (ap (λ (b : Bool). b || list_any has_octet (p.qualifier ∷ p.route ∷ [])) (good.id.filled refl), (good.id, (good.qualifier, (good.route, tt))))

  recipient_good : (p : Party) → IsGoodParty context p → IsGoodComposite context true (unwrap_or (service_parts_of context.version (codes "S003")) []) (interchange_party p)
  unfolding service_parts_of
  recipient_good p good =
      inl (ap (λ (b : Bool). b || list_any has_octet (p.qualifier ∷ p.route ∷ [])) (good.id.filled refl), (good.id, (good.qualifier, (good.route, tt))))

  group_sender_good : (p : Party) → IsGoodGroupParty context p → IsGoodComposite context true (unwrap_or (service_parts_of context.version (codes "S006")) []) (group_party p)
  unfolding service_parts_of
  group_sender_good p good = inl (ap (λ (b : Bool). b || list_any has_octet (p.qualifier ∷ [])) (good.id.filled refl), (good.id, (good.qualifier, tt)))

  group_recipient_good : (p : Party) → IsGoodGroupParty context p → IsGoodComposite context true (unwrap_or (service_parts_of context.version (codes "S007")) []) (group_party p)
  unfolding service_parts_of
  group_recipient_good p good = inl (ap (λ (b : Bool). b || list_any has_octet (p.qualifier ∷ [])) (good.id.filled refl), (good.id, (good.qualifier, tt)))

  identifier_good : (m : MessageHead) → IsGoodMessage context m → IsGoodComposite context true (unwrap_or (service_parts_of context.version (codes "S009")) []) (identifier_of m)
  unfolding service_parts_of
  identifier_good m good = inl (
    ap (λ (b : Bool). b || list_any has_octet (m.version ∷ m.release ∷ m.agency ∷ m.association ∷ [])) (good.kind.filled refl),
    (good.kind, (good.version, (good.release, (good.agency, (good.association, tt))))),
  )

  abbrev items_at : List ℕ → List ItemDef
  items_at tag = unwrap_or (service_items_of tag) []

  -- the segments
  pub uci_lawful : (sender recipient : Party) (reference action : List ℕ) (error : Option ErrorLine) → IsGoodParty context sender → IsGoodParty context recipient
      → IsGoodValue context true (up_to An 14) reference → IsGoodValue context true (up_to An 3) action → IsLawful context (uci sender recipient reference action error)
  unfolding service_items_of
  uci_lawful sender recipient reference action error one two ref act = record {
    tag = refl;
    items = items_at (codes "UCI");
    known = refl;
    single = refl;
    good = (ref, (sender_good sender one, (recipient_good recipient two, (act, details_good error))));
  }

  pub ucf_lawful : (g : GroupHead) (action : List ℕ) (error : Option ErrorLine) → IsGoodGroup context g → IsGoodValue context true (up_to An 3) action → IsLawful context (ucf g action error)
  unfolding service_items_of
  ucf_lawful g action error good act = record {
    tag = refl;
    items = items_at (codes "UCF");
    known = refl;
    single = refl;
    good = (good.reference, (group_sender_good g.sender good.sender, (group_recipient_good g.recipient good.recipient, (act, details_good error))));
  }

  pub ucm_lawful : (m : MessageHead) (errors : List Levelled) → IsGoodMessage context m → IsLawful context (ucm m errors)
  unfolding service_items_of
  ucm_lawful m errors good = record {
    tag = refl;
    items = items_at (codes "UCM");
    known = refl;
    single = refl;
    good = (good.reference, (identifier_good m good, (rejected_good, details_good (first_error (whole_errors errors)))));
  }

  pub ucs_lawful : (position : ℕ) (code : List ℕ) → position < 10 ^ 6 → IsGoodValue context false (up_to An 3) code → IsLawful context (ucs position code)
  unfolding service_items_of
  ucs_lawful position code few good = record {
    tag = refl;
    items = items_at (codes "UCS");
    known = refl;
    single = refl;
    good = (number_good context true false 6 (decimal position) (decimal_number 6 position (omega arith) few (omega (arith, few))) (no_more 6 (length (decimal position))), (good, tt));
  }

  pub ucd_lawful : (x : Levelled) → has_position x.error ≡ true → IsLawful context (ucd x)
  unfolding service_items_of
  ucd_lawful x is = record {
    tag = refl;
    items = items_at (codes "UCD");
    known = refl;
    single = refl;
    good = (number_an context true 3 (code_told x.error) (code_number x.error), (position_told true x.error is, tt));
  }

  one_good : (must : Bool) (max : ℕ) → 1 ≤ max → IsGoodValue context must (up_to An max) (codes "1")
  one_good must max some = octets_good context must false max (codes "1") refl (omega arith) (omega arith) (no_more max 1)

  pub unh_lawful : IsLawful context unh
  unfolding service_items_of service_parts_of
  unh_lawful = record {
    tag = refl;
    items = items_at (codes "UNH");
    known = refl;
    single = refl;
    good = (
      one_good true 14 (omega arith),
      (
        inl (
          refl,
          (
            octets_good context true false 6 (codes "CONTRL") refl (omega arith) (omega arith) (no_more 6 6),
            (
              octets_good context true false 3 (codes "D") refl (omega arith) (omega arith) (no_more 3 1),
              (
                octets_good context true false 3 (codes "3") refl (omega arith) (omega arith) (no_more 3 1),
                (octets_good context true false 2 (codes "UN") refl (omega arith) (omega arith) (no_more 2 2), (refl, tt)),
              ),
            ),
          ),
        ),
        (refl, (refl, tt)),
      ),
    );
  }

  pub unt_lawful : (count : ℕ) → count < 10 ^ 6 → IsLawful context (unt count)
  unfolding service_items_of
  unt_lawful count few = record {
    tag = refl;
    items = items_at (codes "UNT");
    known = refl;
    single = refl;
    good = (
      number_good context true false 6 (decimal count) (decimal_number 6 count (omega arith) few (omega (arith, few))) (no_more 6 (length (decimal count))),
      (one_good true 14 (omega arith), tt),
    );
  }

  pub unz_lawful : (own : List ℕ) → IsGoodValue context true (up_to An 14) own → IsLawful context (unz own)
  unfolding service_items_of
  unz_lawful own good = record {
    tag = refl;
    items = items_at (codes "UNZ");
    known = refl;
    single = refl;
    good = (number_good context true false 6 (codes "1") (record { digits = refl; some = omega arith; few = omega arith }) (no_more 6 1), (good, tt));
  }

-- UNB
stamp_number : (n : ℕ) (v : List ℕ) → has_digits n v ≡ true → 1 ≤ n → IsNumber n v
stamp_number n v is some =
    let parts = and_parts (eqb (length v) n) (all_ascii_digits v) is in
    let long : length v ≡ n = eqb-true (length v) n parts.0 in
    record { digits = parts.1; some = omega arith; few = omega arith }

stamp_long : (n : ℕ) (v : List ℕ) → has_digits n v ≡ true → n ≤ length v
stamp_long n v is = omega (arith, eqb-true (length v) n (and_parts (eqb (length v) n) (all_ascii_digits v) is).0)

pub reference_good : (context : Context) (own : List ℕ) → is_reference_of own ≡ true → IsGoodValue context true (up_to An 14) own
reference_good context own is =
    let parts = and_parts (nat_le 1 (length own) && nat_le (length own) 14) (list_all is_tag_octet_of own) is in
    let bounds = and_parts (nat_le 1 (length own)) (nat_le (length own) 14) parts.0 in
    octets_good context true false 14 own parts.1 (leb-true 1 (length own) bounds.0) (leb-true (length own) 14 bounds.1) (no_more 14 (length own))

-- the version that an answer is written in has one digit
answered_small : (version : ℕ) → version < 10 → answered_version version < 10
answered_small version small = cond_both (eqb version 4) 3 version (λ (n : ℕ). n < 10) (λ is. omega arith) (λ is. small)

module _ (level : Level) (read_version version : ℕ) where
  abbrev own_context : Context
  own_context = context_with level read_version

  -- a date has six digits, so it is that of a version before 4
  pub unb_lawful : (sender recipient : Party) (stamp : Stamp) (own : List ℕ) → version < 10 → eqb read_version 4 ≡ false → IsGoodParty own_context sender → IsGoodParty own_context recipient
      → has_digits 6 stamp.date ≡ true → has_digits 4 stamp.time ≡ true → is_reference_of own ≡ true → IsLawful own_context (unb (syntax_identifier level version) sender recipient stamp own)
  unfolding service_items_of service_parts_of
  unb_lawful sender recipient stamp own small before one two date time is =
      let level_is = level_good level read_version in
      let version_is : IsGoodValue own_context true (exactly N 1) (decimal (answered_version version)) =
      let few = answered_small version small in
      let number = decimal_number 1 (answered_version version) (omega arith) (omega (arith, few)) (omega (arith, few)) in
      number_good own_context true true 1 (decimal (answered_version version)) number (λ need. number.some) in
      let six_is : IsGoodValue own_context true (exactly N 6) stamp.date = number_good own_context true true 6 stamp.date (stamp_number 6 stamp.date date (omega arith)) (λ need. stamp_long 6 stamp.date date) in
      let date_is : IsGoodValue own_context true (exactly N (cond (eqb read_version 4) 8 6)) stamp.date =
      subst (λ (b : Bool). IsGoodValue own_context true (exactly N (cond b 8 6)) stamp.date) (sym before) six_is in
      let time_is : IsGoodValue own_context true (exactly N 4) stamp.time = number_good own_context true true 4 stamp.time (stamp_number 4 stamp.time time (omega arith)) (λ need. stamp_long 4 stamp.time time) in
      record {
        tag = refl;
        items = items_at own_context (codes "UNB");
        known = refl;
        single = refl;
        good = (
          inl (ap (λ (b : Bool). b || list_any has_octet (decimal (answered_version version) ∷ [])) (level_is.filled refl), (level_is, (version_is, tt))),
          (
            sender_good own_context recipient two,
            (
              recipient_good own_context sender one,
              (
                inl (ap (λ (b : Bool). b || list_any has_octet (stamp.time ∷ [])) (date_is.filled refl), (date_is, (time_is, tt))),
                (reference_good own_context own is, (refl, (refl, (refl, (refl, (refl, (refl, tt))))))),
              ),
            ),
          ),
        );
      }
