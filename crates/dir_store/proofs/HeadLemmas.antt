-- The definitions that have a head and members: what is spelled is read, and what is read is spelled and is good.
use Rattle.std.proofs.Common.{◌≡◌, ◌^◌, ◌<◌, ℕ, Bool, true, false, not, ◌&&◌, eqb, leb, le-leb, cond, List, [], ◌∷◌, ◌++◌, length, get_or, Option, Some, None, refl, ap, subst, arith}
use Rattle.std.specs.Prelude.{is_some, codes, slice_index}
use Rattle.std.specs.List.{list_all, flat_map}
use Rattle.std.specs.Str.{bytes_eq}
use borrow.Author.Tests.{leb-true}
use Rattle.std.proofs.lemmas.Bool.{and_parts}
use Rattle.std.proofs.lemmas.List.{get_or_default}
use Rattle.std.proofs.lemmas.List.Sums.{list_all-from_AllPass}
use Rattle.edi_tables.specs.declared.element.CodeList.{CodeList}
use Rattle.edi_tables.specs.declared.element.CompositeDef.{CompositeDef}
use Rattle.edi_tables.specs.declared.element.PartDef.{PartDef}
use Rattle.edi_tables.specs.declared.segment.ItemDef.{ItemDef}
use Rattle.edi_tables.specs.declared.segment.SegmentDef.{SegmentDef}
use Rattle.edi_tables.specs.declared.segment.TableRow.{TableRow}
use Rattle.edi_tables.specs.declared.segment.MessageDef.{MessageDef}
use Rattle.edi_tables.specs.Forms.{is_element_code, is_composite_code, is_message_name, is_code_value, is_count_formed, is_element_formed, is_list_formed, is_part_formed, is_composite_formed, reps_of, is_item_formed, is_segment_formed, is_row_formed, is_message_formed}
use Rattle.edi_tables.specs.Rows.{when, table_faults}
use Rattle.edi_tables.specs.Tag.{is_tag_of, is_tag_octet_of, is_capital}
use Rattle.edi_tables.proofs.Faults.{few_rows}
use Rattle.edi_tables.proofs.Lawful.{row_at, keeps, max_row, two_rows}
use Rattle.dir_compile.specs.declared.parts.Parts.{Parts}
use Rattle.dir_compile.specs.Stop.{fault_with}
use Rattle.dir_compile.specs.declared.stop.CompileKind.TheVariants.{UnknownElement, Reserved, BadTable}
use Rattle.dir_compile.specs.Compile.{element_name, list_name, composite_name, segment_name, message_name, value_name, named_in, is_service_tag, part_faults, list_fault, composite_fault, item_faults, segment_fault, row_faults, message_fault}
use Rattle.edi_tables.specs.Filled.{is_filled}
use Rattle.dir_store.specs.declared.version.StoreVersion.{StoreVersion}
use Rattle.dir_store.specs.Rules.{is_between, comes_after}
use Rattle.dir_store.specs.Spelling.{value_text, part_text, item_text, row_text, list_text, composite_text, segment_text, message_text}
use Rattle.dir_store.specs.Store.{value_at, list_of, list_at, part_at, composite_of, composite_at, item_at, segment_of, segment_at, row_at as row_read, message_of, message_at}
use Rattle.dir_store.proofs.LineLemmas.{some-is, and-both, and-three, and-four, IsPlain}
use Rattle.dir_store.proofs.NumberLemmas.{tag-octets-plain}
use Rattle.dir_store.proofs.SeveralLemmas.{Each, IsSpelled, IsListed, headed-spelled}
use Rattle.dir_store.proofs.KindLemmas.{element-plain, unbroken, unbroken-again, unbroken-not, not-broken, IsValue, value-spelled, IsPart, part-spelled}
use Rattle.dir_store.proofs.EntryLemmas.{all-good, none-good, each-both, each-passes, each-faultless, each-weaker, nil-left, nil-right, nil-both, Rises, tag-plain, composite-code, HasReps, IsItem, item-spelled, IsRow, row-spelled}

-- three tests, and four
three : (a b c : Bool) → (a && b && c) ≡ true → (a ≡ true) × (b ≡ true) × (c ≡ true)
three a b c is =
    let two = and_parts (a && b) c is in
    let one = and_parts a b two.0 in
    (one.0, one.1, two.1)

four : (a b c d : Bool) → (a && b && c && d) ≡ true → (a ≡ true) × (b ≡ true) × (c ≡ true) × (d ≡ true)
four a b c d is =
    let rest = and_parts (a && b && c) d is in
    let first = three a b c rest.0 in
    (first.0, first.1, first.2, rest.1)

count-few : (n : ℕ) → is_count_formed n ≡ true → n < 10 ^ 19
count-few n is = omega (arith, leb-true n 99 (and_parts (leb 1 n) (leb n 99) is).1)

module _ (parts : Parts) where
  -- ---- code lists

  pub record IsList (before : Option CodeList) (list : CodeList) : Type 0 where
    pub formed : is_list_formed list ≡ true
    pub faultless : list_fault parts list ≡ []
    pub codes : Each (Rises value_name) None list.values
    pub few : length list.values < 10 ^ 19
    pub after : Rises list_name before list

  abbrev list_test : Option CodeList → List ℕ × ℕ → Bool
  list_test before h = is_element_code h.0 && is_some (named_in element_name parts.elements h.0) && comes_after list_name before h.0

  list-takes : (before : Option CodeList) (name : List ℕ) (values : List (List ℕ)) (list : CodeList) → IsListed (list_test before) IsValue name values → list_of name values ≡ Some list → IsList before list × (name ≡ list.element.octets) × (values ≡ list.values)
  list-takes before name values list is made =
      let one : CodeList = record { element = record { octets = name }; values = values } in
      let same : one ≡ list = some-is one list made in
      let tests = three (is_element_code name) (is_some (named_in element_name parts.elements name)) (comes_after list_name before name) is.head in
      let formed : list_all is_code_value values ≡ true = all-good IsValue is_code_value (λ b x good. good.formed) None values is.good in
      let good : IsList before one = record {
        formed = and-both (is_element_code name) (list_all is_code_value values) tests.0 formed;
        faultless = unbroken-again (is_some (named_in element_name parts.elements name)) (fault_with UnknownElement name) tests.1;
        codes = each-weaker IsValue (Rises value_name) (λ b x good. good.after) None values is.good;
        few = is.few;
        after = tests.2;
      } in
      subst (λ (l : CodeList). IsList before l × (name ≡ l.element.octets) × (values ≡ l.values)) same (good, refl, refl)

  list-again : (before : Option CodeList) (list : CodeList) → IsList before list → IsListed (list_test before) IsValue list.element.octets list.values × IsPlain list.element.octets × (list_of list.element.octets list.values ≡ Some list)
  list-again before list good =
      let forms = and_parts (is_element_code list.element.octets) (list_all is_code_value list.values) good.formed in
      let known = unbroken (is_some (named_in element_name parts.elements list.element.octets)) (fault_with UnknownElement list.element.octets) good.faultless in (
        record {
          head = and-three (is_element_code list.element.octets) (is_some (named_in element_name parts.elements list.element.octets)) (comes_after list_name before list.element.octets) forms.0 known good.after;
          few = good.few;
          good = each-both _ _ IsValue (λ b x formed after. record { formed = formed; after = after }) None list.values (each-passes is_code_value None list.values forms.1) good.codes;
        },
        element-plain list.element.octets forms.0,
        refl,
      )

  pub list-spelled : IsSpelled (list_at parts.elements) list_text IsList
  unfolding list_at
  list-spelled = headed-spelled list_test value_at value_text IsValue value-spelled list_of (λ list. list.element.octets) (λ list. list.values) IsList list-takes list-again

  -- ---- messages

  pub record IsMessage (before : Option MessageDef) (message : MessageDef) : Type 0 where
    pub formed : is_message_formed message ≡ true
    pub faultless : message_fault parts message ≡ []
    pub after : Rises message_name before message

  abbrev message_test : Option MessageDef → List ℕ × ℕ → Bool
  message_test before h = is_message_name h.0 && is_between 2 2000 h.1 && not (bytes_eq h.0 (codes "CONTRL")) && comes_after message_name before h.0

  message-takes : (before : Option MessageDef) (name : List ℕ) (rows : List TableRow) (message : MessageDef) → IsListed (message_test before) (λ b row. IsRow parts row) name rows → message_of name rows ≡ Some message → IsMessage before message × (name ≡ message.name) × (rows ≡ message.rows)
  message-takes before name rows message is made = by (is_filled (table_faults rows)) refl made
    where
      tests : (is_message_name name ≡ true) × (is_between 2 2000 (length rows) ≡ true) × (not (bytes_eq name (codes "CONTRL")) ≡ true) × (comes_after message_name before name ≡ true)
      tests = four (is_message_name name) (is_between 2 2000 (length rows)) (not (bytes_eq name (codes "CONTRL"))) (comes_after message_name before name) is.head

      one : MessageDef
      one = record { name = name; rows = rows }

      by : (faulty : Bool) → is_filled (table_faults rows) ≡ faulty → cond faulty None (Some one) ≡ Some message → IsMessage before message × (name ≡ message.name) × (rows ≡ message.rows)
      by true filled found = absurd cc
      by false filled found =
          let same : one ≡ message = some-is one message found in
          let formed : list_all is_row_formed rows ≡ true = all-good (λ b row. IsRow parts row) is_row_formed (λ b x good. good.formed) None rows is.good in
          let known : flat_map (row_faults parts) rows ≡ [] = none-good (λ b row. IsRow parts row) (row_faults parts) (λ b x good. good.faultless) None rows is.good in
          let good : IsMessage before one = record {
            formed = and-both (is_message_name name) (list_all is_row_formed rows) tests.0 formed;
            faultless = nil-both (when (bytes_eq name (codes "CONTRL")) (fault_with Reserved name) ++ flat_map (row_faults parts) rows) (when (is_filled (table_faults rows)) (fault_with BadTable name))
                (nil-both (when (bytes_eq name (codes "CONTRL")) (fault_with Reserved name)) (flat_map (row_faults parts) rows) (unbroken-not (bytes_eq name (codes "CONTRL")) (fault_with Reserved name) tests.2) known) (ap (λ b. when b (fault_with BadTable name)) filled);
            after = tests.3;
          } in
          subst (λ (m : MessageDef). IsMessage before m × (name ≡ m.name) × (rows ≡ m.rows)) same (good, refl, refl)

  unfilled : {F : Type 0} (xs : List F) → not (is_filled xs) ≡ true → xs ≡ []
  unfilled [] is = refl
  unfilled (x ∷ xs) is = absurd cc

  -- the rows of a segment table are in range
  row-in-range : (rows : List TableRow) → table_faults rows ≡ [] → list_all (λ row. is_between 0 16 row.depth && is_between 1 999999 row.max) rows ≡ true
  row-in-range rows none =
      list_all-from_AllPass (λ row. is_between 0 16 row.depth && is_between 1 999999 row.max) rows (λ k d lt.
      let there : row_at rows k ≡ get_or rows k d = get_or_default rows k _ d lt in
      let deep = (keeps rows none k lt).deep in
      let max = max_row rows none k lt in
      subst (λ (row : TableRow). (is_between 0 16 row.depth && is_between 1 999999 row.max) ≡ true) there
      (and-both (is_between 0 16 (row_at rows k).depth) (is_between 1 999999 (row_at rows k).max)
      (and-both (leb 0 (row_at rows k).depth) (leb (row_at rows k).depth 16) (le-leb 0 (row_at rows k).depth (omega arith)) (le-leb (row_at rows k).depth 16 deep))
      (and-both (leb 1 (row_at rows k).max) (leb (row_at rows k).max 999999) (le-leb 1 (row_at rows k).max max.0) (le-leb (row_at rows k).max 999999 max.1))))

  message-again : (before : Option MessageDef) (message : MessageDef) → IsMessage before message → IsListed (message_test before) (λ b row. IsRow parts row) message.name message.rows × IsPlain message.name × (message_of message.name message.rows ≡ Some message)
  message-again before message good =
      let name = message.name in
      let rows = message.rows in
      let forms = and_parts (is_message_name name) (list_all is_row_formed rows) good.formed in
      let reserved = when (bytes_eq name (codes "CONTRL")) (fault_with Reserved name) in
      let unknown = flat_map (row_faults parts) rows in
      let bad = when (is_filled (table_faults rows)) (fault_with BadTable name) in
      let front = nil-left (reserved ++ unknown) bad good.faultless in
      let other = not-broken (bytes_eq name (codes "CONTRL")) (fault_with Reserved name) (nil-left reserved unknown front) in
      let known = nil-right reserved unknown front in
      let sound = not-broken (is_filled (table_faults rows)) (fault_with BadTable name) (nil-right (reserved ++ unknown) bad good.faultless) in
      let none : table_faults rows ≡ [] = unfilled (table_faults rows) sound in
      let two = two_rows rows none in
      let few = few_rows rows none in
      let range = each-passes _ None rows (row-in-range rows none) in
      let named = and_parts (eqb (length name) 6 && is_capital (slice_index name 0)) (list_all is_tag_octet_of name) forms.0 in (
        record {
          head = and-four (is_message_name name) (is_between 2 2000 (length rows)) (not (bytes_eq name (codes "CONTRL"))) (comes_after message_name before name) forms.0 (and-both (leb 2 (length rows)) (leb (length rows) 2000) (le-leb 2 (length rows) two) (le-leb (length rows) 2000 few)) other good.after;
          few = omega (arith, few);
          good = each-both _ _ _ (λ b row p q. record { formed = p.0; faultless = p.1; depth = (and_parts (is_between 0 16 row.depth) (is_between 1 999999 row.max) q).0; max = (and_parts (is_between 0 16 row.depth) (is_between 1 999999 row.max) q).1 }) None rows
              (each-both _ _ (λ b row. (is_row_formed row ≡ true) × (row_faults parts row ≡ [])) (λ b row formed faultless. (formed, faultless)) None rows (each-passes is_row_formed None rows forms.1) (each-faultless (row_faults parts) None rows known)) range;
        },
        tag-octets-plain name named.1,
        rw none refl,
      )

  pub message-spelled : IsSpelled (message_at parts.segments) message_text IsMessage
  unfolding message_at
  message-spelled = headed-spelled message_test (row_read parts.segments) row_text (λ b row. IsRow parts row) (row-spelled parts) message_of (λ message. message.name) (λ message. message.rows) IsMessage message-takes message-again

  module _ (formed_elements : list_all is_element_formed parts.elements ≡ true) where
    -- ---- composites

    pub record IsComposite (before : Option CompositeDef) (composite : CompositeDef) : Type 0 where
      pub formed : is_composite_formed composite ≡ true
      pub faultless : composite_fault parts composite ≡ []
      pub after : Rises composite_name before composite

    abbrev composite_test : Option CompositeDef → List ℕ × ℕ → Bool
    composite_test before h = is_composite_code h.0 && is_count_formed h.1 && comes_after composite_name before h.0

    composite-takes : (before : Option CompositeDef) (name : List ℕ) (members : List PartDef) (composite : CompositeDef) → IsListed (composite_test before) (λ b part. IsPart parts formed_elements part) name members → composite_of name members ≡ Some composite → IsComposite before composite × (name ≡ composite.code.octets) × (members ≡ composite.parts)
    composite-takes before name members composite is made =
        let one : CompositeDef = record { code = record { octets = name }; parts = members } in
        let same : one ≡ composite = some-is one composite made in
        let tests = three (is_composite_code name) (is_count_formed (length members)) (comes_after composite_name before name) is.head in
        let formed : list_all is_part_formed members ≡ true = all-good (λ b part. IsPart parts formed_elements part) is_part_formed (λ b x good. good.formed) None members is.good in
        let good : IsComposite before one = record {
          formed = and-three (is_composite_code name) (is_count_formed (length members)) (list_all is_part_formed members) tests.0 tests.1 formed;
          faultless = none-good (λ b part. IsPart parts formed_elements part) (part_faults parts) (λ b x good. good.faultless) None members is.good;
          after = tests.2;
        } in
        subst (λ (c : CompositeDef). IsComposite before c × (name ≡ c.code.octets) × (members ≡ c.parts)) same (good, refl, refl)

    composite-again : (before : Option CompositeDef) (composite : CompositeDef) → IsComposite before composite → IsListed (composite_test before) (λ b part. IsPart parts formed_elements part) composite.code.octets composite.parts × IsPlain composite.code.octets × (composite_of composite.code.octets composite.parts ≡ Some composite)
    composite-again before composite good =
        let code = composite.code.octets in
        let forms = three (is_composite_code code) (is_count_formed (length composite.parts)) (list_all is_part_formed composite.parts) good.formed in (
          record {
            head = and-three (is_composite_code code) (is_count_formed (length composite.parts)) (comes_after composite_name before code) forms.0 forms.1 good.after;
            few = count-few (length composite.parts) forms.1;
            good = each-both _ _ _ (λ b part formed faultless. record { formed = formed; faultless = faultless }) None composite.parts (each-passes is_part_formed None composite.parts forms.2) (each-faultless (part_faults parts) None composite.parts good.faultless);
          },
          (composite-code composite.code.octets forms.0).plain,
          refl,
        )

    pub composite-spelled : IsSpelled (composite_at parts.elements) composite_text IsComposite
    unfolding composite_at
    composite-spelled = headed-spelled composite_test (part_at parts.elements) part_text (λ b part. IsPart parts formed_elements part) (part-spelled parts formed_elements) composite_of (λ composite. composite.code.octets) (λ composite. composite.parts) IsComposite composite-takes composite-again

    -- ---- segments

    module _ (version : StoreVersion) where
      pub record IsSegment (before : Option SegmentDef) (segment : SegmentDef) : Type 0 where
        pub formed : is_segment_formed segment ≡ true
        pub faultless : segment_fault parts segment ≡ []
        pub after : Rises segment_name before segment
        pub has : Each (λ b item. HasReps version (reps_of item)) None segment.items

      abbrev segment_test : Option SegmentDef → List ℕ × ℕ → Bool
      segment_test before h = is_tag_of h.0 && is_count_formed h.1 && not (is_service_tag h.0) && comes_after segment_name before h.0

      segment-takes : (before : Option SegmentDef) (name : List ℕ) (items : List ItemDef) (segment : SegmentDef) → IsListed (segment_test before) (λ b item. IsItem parts version item) name items → segment_of name items ≡ Some segment → IsSegment before segment × (name ≡ segment.tag.octets) × (items ≡ segment.items)
      segment-takes before name items segment is made =
          let one : SegmentDef = record { tag = record { octets = name }; items = items } in
          let same : one ≡ segment = some-is one segment made in
          let tests = four (is_tag_of name) (is_count_formed (length items)) (not (is_service_tag name)) (comes_after segment_name before name) is.head in
          let formed : list_all is_item_formed items ≡ true = all-good (λ b item. IsItem parts version item) is_item_formed (λ b x good. good.formed) None items is.good in
          let known : flat_map (item_faults parts) items ≡ [] = none-good (λ b item. IsItem parts version item) (item_faults parts) (λ b x good. good.faultless) None items is.good in
          let good : IsSegment before one = record {
            formed = and-three (is_tag_of name) (is_count_formed (length items)) (list_all is_item_formed items) tests.0 tests.1 formed;
            faultless = nil-both (when (is_service_tag name) (fault_with Reserved name)) (flat_map (item_faults parts) items) (unbroken-not (is_service_tag name) (fault_with Reserved name) tests.2) known;
            after = tests.3;
            has = each-weaker (λ b item. IsItem parts version item) (λ b item. HasReps version (reps_of item)) (λ b x good. good.has) None items is.good;
          } in
          subst (λ (s : SegmentDef). IsSegment before s × (name ≡ s.tag.octets) × (items ≡ s.items)) same (good, refl, refl)

      segment-again : (before : Option SegmentDef) (segment : SegmentDef) → IsSegment before segment → IsListed (segment_test before) (λ b item. IsItem parts version item) segment.tag.octets segment.items × IsPlain segment.tag.octets × (segment_of segment.tag.octets segment.items ≡ Some segment)
      segment-again before segment good =
          let tag = segment.tag.octets in
          let items = segment.items in
          let forms = three (is_tag_of tag) (is_count_formed (length items)) (list_all is_item_formed items) good.formed in
          let reserved = when (is_service_tag tag) (fault_with Reserved tag) in
          let other = not-broken (is_service_tag tag) (fault_with Reserved tag) (nil-left reserved (flat_map (item_faults parts) items) good.faultless) in
          let known = nil-right reserved (flat_map (item_faults parts) items) good.faultless in (
            record {
              head = and-four (is_tag_of tag) (is_count_formed (length items)) (not (is_service_tag tag)) (comes_after segment_name before tag) forms.0 forms.1 other good.after;
              few = count-few (length segment.items) forms.1;
              good = each-both _ _ _ (λ b item p has. record { formed = p.0; faultless = p.1; has = has }) None segment.items
                  (each-both _ _ (λ b item. (is_item_formed item ≡ true) × (item_faults parts item ≡ [])) (λ b item formed faultless. (formed, faultless)) None segment.items (each-passes is_item_formed None segment.items forms.2) (each-faultless (item_faults parts) None segment.items known)) good.has;
            },
            tag-plain segment.tag.octets forms.0,
            refl,
          )

      pub segment-spelled : IsSpelled (segment_at version parts.elements parts.composites) (segment_text version) IsSegment
      unfolding segment_at
      segment-spelled = headed-spelled segment_test (item_at version parts.elements parts.composites) (item_text version) (λ b item. IsItem parts version item) (item-spelled parts version formed_elements) segment_of (λ segment. segment.tag.octets) (λ segment. segment.items) IsSegment segment-takes segment-again
