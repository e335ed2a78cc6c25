-- A directory that a guide narrows is a directory.
use Rattle.std.proofs.Common.{◌≡◌, ℕ, ◌<◌, true, not, ◌&&◌, List, [], Option, Some, None, is_some, refl, sym, ap, subst, ◌∙◌}
use Rattle.std.specs.Prelude.{All}
use Rattle.std.specs.List.{AllZip, flat_map}
use Rattle.std.proofs.lemmas.Bool.{and_from, and_parts}
use Rattle.std.proofs.lemmas.List.{length-map}
use Rattle.std.proofs.lemmas.List.Elements.{length_all_zip}
use Rattle.std.proofs.lemmas.Slice.Eq.{bytes_eq-Decides}
use Rattle.edi_tables.specs.declared.element.CodeList.{CodeList}
use Rattle.edi_tables.specs.declared.element.CompositeDef.{CompositeDef}
use Rattle.edi_tables.specs.declared.element.ElementDef.{ElementDef}
use Rattle.edi_tables.specs.declared.segment.ItemDef.{ItemDef}
use Rattle.edi_tables.specs.declared.segment.ItemDef.TheVariants.{Alone, Composite}
use Rattle.edi_tables.specs.declared.segment.MessageDef.{MessageDef}
use Rattle.edi_tables.specs.declared.segment.SegmentDef.{SegmentDef}
use Rattle.edi_tables.specs.declared.tag.Tag.{Tag}
use Rattle.edi_tables.specs.Ascending.{IsAscendingBy}
use Rattle.edi_tables.specs.Filled.{is_filled}
use Rattle.edi_tables.specs.Forms.{is_composite_formed, is_count_formed, is_element_formed, is_item_formed, is_list_formed, is_message_formed, is_part_formed, is_row_formed, is_segment_formed}
use Rattle.edi_tables.specs.Rows.{nodes_of, table_faults, when}
use Rattle.edi_tables.specs.Tag.{is_tag_of}
use Rattle.dir_compile.specs.declared.parts.Parts.{Parts}
use Rattle.dir_compile.specs.declared.stop.CompileKind.TheVariants.{BadTable, UnknownComposite, UnknownElement, UnknownSegment}
use Rattle.dir_compile.specs.Compile.{composite_fault, composite_name, element_name, is_service_tag, item_faults, list_fault, list_name, message_fault, message_name, named_in, part_faults, row_faults, segment_fault, segment_name, tag_faults, twice_in, value_name}
use Rattle.dir_compile.specs.Directory.{IsDirectory}
use Rattle.dir_compile.specs.Forms.{HasForms}
use Rattle.dir_compile.specs.Ordered.{IsInOrder}
use Rattle.dir_compile.specs.Stop.{fault_with}
use Rattle.dir_compile.proofs.Apart.{apart-from-none, named-found, none-from-apart}
use Rattle.dir_compile.proofs.AscendingLemmas.{Has, IsAscending, all-from-members, apart-from-ascending, pairs-from-ascending}
use Rattle.dir_compile.proofs.Faults.{nil-both, nil-left, nil-right}
use Rattle.dir_compile.proofs.Groups.{IsFaultFree, IsTwiceFree, fault-free, free-compile}
use Rattle.dir_compile.proofs.Lawful.{Has-map}
use Rattle.dir_compile.proofs.Making.{tables-free}
use Rattle.dir_compile.proofs.Members.{none-all, none-at}
use Rattle.guide_overlay.specs.declared.line.Topic.TheVariants.{OfTable, OfSegment, OfComposite}
use Rattle.guide_overlay.specs.Rows.{IsNarrower, TableChange, narrowed_rows}
use Rattle.guide_overlay.specs.Guide.{Section, changes_in, details_for, list_left, narrowed, narrowed_composite, narrowed_message, narrowed_segment}
use Rattle.guide_overlay.specs.Narrowing.{AreNarrowing}
use Rattle.guide_overlay.proofs.AlongLemmas.{all_has, all_pass, ascending_changed, has_made, made_ascending, none_along, pass_along, passes_at, some_changed, twice_changed, zip_weaker}
use Rattle.guide_overlay.proofs.DetailsNarrow.{IsItemKept, IsPartKept, changes_narrow, details_narrow, items_kept, parts_kept}
use Rattle.guide_overlay.proofs.LeftLawful.{left_lawful}
use Rattle.guide_overlay.proofs.LeftRows.{narrowed_all}
use Rattle.guide_overlay.proofs.ListsLeft.{IsListLeft, list_is}

module _ (dir : Parts) (sections : List Section) (directory : IsDirectory dir) (narrowing : AreNarrowing dir sections) where
  abbrev parts : Parts
  parts = narrowed sections dir

  free : IsFaultFree dir
  free = fault-free dir directory.faultless

  -- what the directory has under the name of something that it has
  found_itself : {A : Type 0} (name : A → List ℕ) (xs : List A) → twice_in name xs ≡ [] → (x : A) → Has xs x → named_in name xs (name x) ≡ Some x
  found_itself name xs none x has =
      named-found name (name x) xs x (apart-from-none name xs none) has ((bytes_eq-Decides (name x) (name x)).1 refl)

  -- composites
  pub parts_along : (c : CompositeDef) → Has dir.composites c → AllZip (IsPartKept dir) c.parts (narrowed_composite sections c).parts
  parts_along c has =
      parts_kept dir (composite_name c) c (found_itself composite_name dir.composites free.twice.composites c has)
      (details_for sections OfComposite (composite_name c)) (details_narrow dir OfComposite (composite_name c) sections narrowing.each)

  composite_formed : (c : CompositeDef) → Has dir.composites c → is_composite_formed (narrowed_composite sections c) ≡ true
  composite_formed c has =
      let along = parts_along c has in
      let whole = and_parts _ _ (passes_at is_composite_formed dir.composites directory.forms.composites c has) in
      let front = and_parts _ _ whole.0 in
      and_from _ _
      (and_from _ _ front.0 (ap is_count_formed (sym (length_all_zip (IsPartKept dir) c.parts (narrowed_composite sections c).parts along)) ∙ front.1))
      (pass_along is_part_formed c.parts (narrowed_composite sections c).parts
      (zip_weaker (IsPartKept dir) (λ x y. is_part_formed x ≡ true → is_part_formed y ≡ true) (λ x y kept. kept.formed) c.parts (narrowed_composite sections c).parts along) whole.1)

  composite_free : (c : CompositeDef) → Has dir.composites c → composite_fault parts (narrowed_composite sections c) ≡ []
  composite_free c has =
      none_along (part_faults dir) (part_faults dir) c.parts (narrowed_composite sections c).parts
      (zip_weaker (IsPartKept dir) (λ x y. part_faults dir x ≡ [] → part_faults dir y ≡ []) (λ x y kept. kept.free) c.parts (narrowed_composite sections c).parts (parts_along c has))
      (none-at (composite_fault dir) dir.composites free.composites c has)

  -- segments
  pub items_along : (s : SegmentDef) → Has dir.segments s → AllZip (IsItemKept dir) s.items (narrowed_segment sections s).items
  items_along s has =
      items_kept dir (segment_name s) s (found_itself segment_name dir.segments free.twice.segments s has)
      (details_for sections OfSegment (segment_name s)) (details_narrow dir OfSegment (segment_name s) sections narrowing.each)

  segment_formed : (s : SegmentDef) → Has dir.segments s → is_segment_formed (narrowed_segment sections s) ≡ true
  segment_formed s has =
      let along = items_along s has in
      let whole = and_parts _ _ (passes_at is_segment_formed dir.segments directory.forms.segments s has) in
      let front = and_parts _ _ whole.0 in
      and_from _ _
      (and_from _ _ front.0 (ap is_count_formed (sym (length_all_zip (IsItemKept dir) s.items (narrowed_segment sections s).items along)) ∙ front.1))
      (pass_along is_item_formed s.items (narrowed_segment sections s).items
      (zip_weaker (IsItemKept dir) (λ x y. is_item_formed x ≡ true → is_item_formed y ≡ true) (λ x y kept. kept.formed) s.items (narrowed_segment sections s).items along) whole.1)

  item_free : (item : ItemDef) → item_faults dir item ≡ [] → item_faults parts item ≡ []
  item_free (Alone part reps) none = none
  item_free (Composite code must reps) none =
      ap (λ b. when (not b) (fault_with UnknownComposite code.octets)) (some_changed composite_name (narrowed_composite sections) (λ c. refl) code.octets dir.composites) ∙ none

  segment_free : (s : SegmentDef) → Has dir.segments s → segment_fault parts (narrowed_segment sections s) ≡ []
  segment_free s has =
      let none = none-at (segment_fault dir) dir.segments free.segments s has in
      nil-both _ _ (nil-left _ (flat_map (item_faults dir) s.items) none)
      (none_along (item_faults dir) (item_faults parts) s.items (narrowed_segment sections s).items
      (zip_weaker (IsItemKept dir) (λ x y. item_faults dir x ≡ [] → item_faults parts y ≡ []) (λ x y kept clean. item_free y (kept.free clean)) s.items (narrowed_segment sections s).items (items_along s has))
      (nil-right _ (flat_map (item_faults dir) s.items) none))

  -- messages
  abbrev pub lines_for : MessageDef → TableChange
  lines_for m = changes_in (details_for sections OfTable m.name)

  pub table_lawful : (m : MessageDef) → Has dir.messages m → table_faults m.rows ≡ []
  table_lawful m has = all_has (λ m. table_faults m.rows ≡ []) dir.messages m (tables-free dir free.messages) has

  pub lines_narrower : (m : MessageDef) → Has dir.messages m → All (IsNarrower (nodes_of m.rows)) (lines_for m)
  lines_narrower m has =
      changes_narrow dir m.name m (found_itself message_name dir.messages free.twice.messages m has)
      (details_for sections OfTable m.name) (details_narrow dir OfTable m.name sections narrowing.each)

  message_formed : (m : MessageDef) → Has dir.messages m → is_message_formed (narrowed_message sections m) ≡ true
  message_formed m has =
      let whole = and_parts _ _ (passes_at is_message_formed dir.messages directory.forms.messages m has) in
      let rows = narrowed_all m.rows (lines_for m) (lines_narrower m has) (λ row. is_row_formed row ≡ true)
      (λ before after changed is. ap (λ (tag : Option Tag). elim tag [ None ↦ true | Some t ↦ is_tag_of t.octets ]) changed.tag ∙ is)
      (all-from-members (λ row. is_row_formed row ≡ true) m.rows (passes_at is_row_formed m.rows whole.1)) in
      and_from _ _ whole.0 (all_pass is_row_formed (narrowed_rows (lines_for m) m.rows) (λ row there. all_has (λ row. is_row_formed row ≡ true) (narrowed_rows (lines_for m) m.rows) row rows there))

  tag_free : (tag : Option Tag) → tag_faults dir tag ≡ [] → tag_faults parts tag ≡ []
  tag_free None none = refl
  tag_free (Some tag) none =
      ap (λ b. when (not b && not (is_service_tag tag.octets)) (fault_with UnknownSegment tag.octets)) (some_changed segment_name (narrowed_segment sections) (λ s. refl) tag.octets dir.segments) ∙ none

  message_free : (m : MessageDef) → Has dir.messages m → message_fault parts (narrowed_message sections m) ≡ []
  message_free m has =
      let none = none-at (message_fault dir) dir.messages free.messages m has in
      let front = nil-left _ (when (is_filled (table_faults m.rows)) (fault_with BadTable (message_name m))) none in
      let rows = narrowed_all m.rows (lines_for m) (lines_narrower m has) (λ row. tag_faults dir row.tag ≡ [])
      (λ before after changed clean. ap (tag_faults dir) changed.tag ∙ clean)
      (all-from-members (λ row. tag_faults dir row.tag ≡ []) m.rows (none-at (row_faults dir) m.rows (nil-right _ (flat_map (row_faults dir) m.rows) front))) in
      nil-both _ _
      (nil-both _ _ (nil-left _ (flat_map (row_faults dir) m.rows) front)
      (none-all (row_faults parts) (narrowed_rows (lines_for m) m.rows) (λ row there. tag_free row.tag (all_has (λ row. tag_faults dir row.tag ≡ []) (narrowed_rows (lines_for m) m.rows) row rows there))))
      (ap (λ faults. when (is_filled faults) (fault_with BadTable (message_name m))) (left_lawful m.rows (lines_for m) (table_lawful m has) (lines_narrower m has)))

  -- code lists
  left : (list : CodeList) → Has parts.lists list → (element : ElementDef) × Has dir.elements element × IsListLeft element list
  left list has =
      let from = has_made (list_left sections dir) dir.elements list has in
      (from.0, from.1, list_is dir directory sections narrowing.each from.0 list from.2)

  lists_ascending : IsAscending list_name parts.lists
  lists_ascending =
      made_ascending (list_left sections dir) element_name list_name
      (λ element list is. (list_is dir directory sections narrowing.each element list is).named) dir.elements directory.ordered.elements

  list_formed : (list : CodeList) → Has parts.lists list → is_list_formed list ≡ true
  list_formed list has =
      let from = left list has in
      from.2.formed (and_parts _ _ (passes_at is_element_formed dir.elements directory.forms.elements from.0 from.1)).0

  list_free : (list : CodeList) → Has parts.lists list → list_fault parts list ≡ []
  list_free list has =
      let from = left list has in
      ap (λ n. when (not (is_some (named_in element_name dir.elements n))) (fault_with UnknownElement n)) from.2.named
      ∙ ap (λ found. when (not (is_some found)) (fault_with UnknownElement (element_name from.0))) (found_itself element_name dir.elements free.twice.elements from.0 from.1)

  narrowed_forms : HasForms parts
  narrowed_forms = record {
    version = directory.forms.version;
    release = directory.forms.release;
    agency = directory.forms.agency;
    elements = directory.forms.elements;
    lists = all_pass is_list_formed parts.lists list_formed;
    composites = all_pass is_composite_formed parts.composites (λ c has.
        let from = Has-map (narrowed_composite sections) dir.composites c has in ap is_composite_formed from.2 ∙ composite_formed from.0 from.1);
    segments = all_pass is_segment_formed parts.segments (λ s has.
        let from = Has-map (narrowed_segment sections) dir.segments s has in ap is_segment_formed from.2 ∙ segment_formed from.0 from.1);
    messages = all_pass is_message_formed parts.messages (λ m has.
        let from = Has-map (narrowed_message sections) dir.messages m has in ap is_message_formed from.2 ∙ message_formed from.0 from.1);
  }

  narrowed_once : IsTwiceFree parts
  narrowed_once = record {
    elements = free.twice.elements;
    lists = none-from-apart list_name parts.lists (apart-from-ascending list_name parts.lists lists_ascending);
    listed = none-all (λ list. twice_in value_name list.values) parts.lists (λ list has. (left list has).2.once);
    composites = twice_changed composite_name (narrowed_composite sections) (λ c. refl) dir.composites free.twice.composites;
    segments = twice_changed segment_name (narrowed_segment sections) (λ s. refl) dir.segments free.twice.segments;
    messages = twice_changed message_name (narrowed_message sections) (λ m. refl) dir.messages free.twice.messages;
  }

  narrowed_free : IsFaultFree parts
  narrowed_free = record {
    twice = narrowed_once;
    lists = none-all (list_fault parts) parts.lists list_free;
    composites = none-all (composite_fault parts) parts.composites (λ c has.
        let from = Has-map (narrowed_composite sections) dir.composites c has in ap (composite_fault parts) from.2 ∙ composite_free from.0 from.1);
    segments = none-all (segment_fault parts) parts.segments (λ s has.
        let from = Has-map (narrowed_segment sections) dir.segments s has in ap (segment_fault parts) from.2 ∙ segment_free from.0 from.1);
    messages = none-all (message_fault parts) parts.messages (λ m has.
        let from = Has-map (narrowed_message sections) dir.messages m has in ap (message_fault parts) from.2 ∙ message_free from.0 from.1);
  }

  narrowed_order : IsInOrder parts
  narrowed_order = record {
    elements = directory.ordered.elements;
    lists = pairs-from-ascending list_name parts.lists lists_ascending;
    codes = all-from-members (λ list. IsAscendingBy value_name list.values) parts.lists (λ list has. (left list has).2.order);
    composites = ascending_changed composite_name (narrowed_composite sections) (λ c. refl) dir.composites directory.ordered.composites;
    segments = ascending_changed segment_name (narrowed_segment sections) (λ s. refl) dir.segments directory.ordered.segments;
    messages = ascending_changed message_name (narrowed_message sections) (λ m. refl) dir.messages directory.ordered.messages;
  }

  -- the parts that sections without a fault make of a directory are a directory
  pub narrowed_lawful : IsDirectory (narrowed sections dir)
  narrowed_lawful = record {
    few = subst (λ (n : ℕ). n < 4000000000) (sym (length-map dir.messages (narrowed_message sections))) directory.few;
    forms = narrowed_forms;
    faultless = free-compile parts narrowed_free;
    ordered = narrowed_order;
  }
