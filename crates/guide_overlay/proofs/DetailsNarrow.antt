-- What the details that a guide without a fault has for something of a directory say of it.
use Rattle.std.proofs.Common.{◌≡◌, ℕ, ◌+◌, ◌-◌, ◌<◌, ◌≤◌, Bool, true, false, List, [], ◌∷◌, length, map, Option, Some, None, refl, sym, ap, subst, ◌∙◌, arith}
use Rattle.std.specs.Prelude.{All, find, option_and_then, slice_get, ◌==◌, nat_le, nat_lt, if◌then◌else◌}
use Rattle.std.specs.List.{AllZip, enumerate_from}
use Rattle.std.proofs.lemmas.Bool.{and_from, and_parts, cond_both, eqb-true, false≢true, le-leb, leb-true, ltb-true, ne_eqb, not-false, not-true}
use Rattle.std.proofs.lemmas.List.Elements.{All-cons, All-head, All-nil, All-tail}
use Rattle.std.proofs.lemmas.Option.{same_Some, slice_get_within}
use Rattle.std.proofs.lemmas.Slice.Eq.{bytes_eq-Decides}
use Rattle.edi_tables.specs.declared.element.CompositeDef.{CompositeDef}
use Rattle.edi_tables.specs.declared.element.ElementDef.{ElementDef}
use Rattle.edi_tables.specs.declared.element.PartDef.{PartDef}
use Rattle.edi_tables.specs.declared.segment.ItemDef.{ItemDef}
use Rattle.edi_tables.specs.declared.segment.ItemDef.TheVariants.{Alone, Composite}
use Rattle.edi_tables.specs.declared.segment.MessageDef.{MessageDef}
use Rattle.edi_tables.specs.declared.segment.SegmentDef.{SegmentDef}
use Rattle.edi_tables.specs.declared.segment.TableRow.{TableRow}
use Rattle.edi_tables.specs.Forms.{is_composite_code, is_item_formed, is_part_formed, is_reps_formed}
use Rattle.edi_tables.specs.Rows.{nodes_of}
use Rattle.edi_tables.specs.Walk.{is_must_at, max_at}
use Rattle.edi_tables.proofs.Lawful.{at_row, row_at}
use Rattle.edi_tables.proofs.Made.{is_must_at-nodes_of, max_at-nodes_of}
use Rattle.dir_compile.specs.declared.parts.Parts.{Parts}
use Rattle.dir_compile.specs.Compile.{composite_name, item_faults, message_name, named_in, part_against, part_faults, segment_name}
use Rattle.dir_compile.proofs.Faults.{when-nil}
use Rattle.guide_overlay.specs.declared.line.Topic.{Topic}
use Rattle.guide_overlay.specs.declared.line.Topic.TheVariants.{OfTable, OfSegment, OfComposite}
use Rattle.guide_overlay.specs.Rows.{IsNarrower, NodeChange}
use Rattle.guide_overlay.specs.Rows.NodeChange.{Drop, Keep}
use Rattle.guide_overlay.specs.Guide.{Detail, Section, base_kinds, changes_in, details_for, is_item, is_item_narrower, is_no_greater, is_no_weaker, is_part, is_row_narrower, is_section_of, item_by_line, kinds_against, member_of, narrowed_item, narrowed_part, part_by_line}
use Rattle.guide_overlay.specs.Guide.Detail.{Node, Item, Part, Value}
use Rattle.guide_overlay.specs.Narrowing.{IsNarrowing, IsNarrowingDetail}
use Rattle.guide_overlay.specs.Stricter.{IsStricterItem, IsStricterPart}
use Rattle.guide_overlay.proofs.NarrowedMembers.{along_numbered, item_itself, part_itself}
use Rattle.guide_overlay.proofs.SectionsNarrow.{same_topic}

-- statuses and counts
no_weaker : (base must : Bool) → is_no_weaker base must ≡ true → base ≡ true → must ≡ true
no_weaker true must holds is = holds
no_weaker false must holds is = absurd (false≢true is)

no_greater : (base most : ℕ) → is_no_greater base most ≡ true → (0 < most) × (most ≤ base)
no_greater base most holds =
    let parts = and_parts (nat_lt 0 most) (nat_le most base) holds in
    (ltb-true 0 most parts.0, leb-true most base parts.1)

-- what a number names is there, and is narrowed
against_none : {A : Type 0} (is_narrower : A → Bool) (found : Option A) → kinds_against is_narrower found ≡ [] → (x : A) × (found ≡ Some x) × (is_narrower x ≡ true)
against_none is_narrower None none = absurd cc
against_none is_narrower (Some x) none = (x, refl, not-false (is_narrower x) (when-nil _ _ none))

against_at : {A : Type 0} (is_narrower : A → Bool) (found : Option A) (x : A) → found ≡ Some x → kinds_against is_narrower found ≡ [] → is_narrower x ≡ true
against_at is_narrower found x is none =
    let there = against_none is_narrower found none in
    ap is_narrower (same_Some x there.0 (sym is ∙ there.1)) ∙ there.2

module _ (dir : Parts) (topic : Topic) (name : List ℕ) where
  -- a section that is found is of that topic and that name
  abbrev pub IsFor : Option Section → Type 0
  IsFor None = Unit {0}
  IsFor (Some section) = (section.topic ≡ topic) × (section.name ≡ name) × IsNarrowing dir section

  pub found_for : (sections : List Section) → All (IsNarrowing dir) sections → IsFor (find (is_section_of topic name) sections)
  found_for [] each = tt
  found_for (s ∷ sections) each =
      cond_both (is_section_of topic name s) (Some s) (find (is_section_of topic name) sections) IsFor
      (λ is. let parts = and_parts _ _ is in
      (same_topic s.topic topic parts.0, (bytes_eq-Decides s.name name).0 parts.1, All-head (IsNarrowing dir) s sections each))
      (λ other. found_for sections (All-tail (IsNarrowing dir) s sections each))

  pub section_details : (section : Section) → IsFor (Some section) → All (IsNarrowingDetail dir topic name) section.details
  section_details section is =
      subst (λ (n : List ℕ). All (IsNarrowingDetail dir topic n) section.details) is.1
      (subst (λ (t : Topic). All (IsNarrowingDetail dir t section.name) section.details) is.0 is.2.details)

  found_details : (found : Option Section) → IsFor found
      → All (IsNarrowingDetail dir topic name) (elim found [ None ↦ [] | Some section ↦ section.details ])
  found_details None is = All-nil (IsNarrowingDetail dir topic name)
  found_details (Some section) is = section_details section is

  pub details_narrow : (sections : List Section) → All (IsNarrowing dir) sections → All (IsNarrowingDetail dir topic name) (details_for sections topic name)
  details_narrow sections each = found_details (find (is_section_of topic name) sections) (found_for sections each)

-- the lines of a table are narrower
module _ (dir : Parts) (name : List ℕ) (message : MessageDef) (found : named_in message_name dir.messages name ≡ Some message) where
  row_narrower : (i : ℕ) (change : NodeChange) (row : TableRow) → is_must_at (nodes_of message.rows) i ≡ row.must → max_at (nodes_of message.rows) i ≡ row.max
      → is_row_narrower change row ≡ true → IsNarrower (nodes_of message.rows) (i, change)
  row_narrower i Drop row must max narrower = must ∙ not-true row.must narrower
  row_narrower i (Keep status most) row must max narrower =
      let parts = and_parts _ _ narrower in
      let count = no_greater row.max most parts.1 in
      (λ is. no_weaker row.must status parts.0 (sym must ∙ is), count.0, omega (arith, count.1, max))

  node_narrower : (i : ℕ) (change : NodeChange) → base_kinds dir name (Node i change) ≡ [] → IsNarrower (nodes_of message.rows) (i, change)
  node_narrower i change none =
      let there = against_none (is_row_narrower change) (slice_get message.rows i)
      (ap (λ (o : Option MessageDef). kinds_against (is_row_narrower change) (option_and_then (λ m. slice_get m.rows i) o)) (sym found) ∙ none) in
      let within : i < length message.rows = slice_get_within message.rows i there.0 there.1 in
      let same : row_at message.rows i ≡ there.0 = same_Some (row_at message.rows i) there.0 (sym (at_row message.rows i within) ∙ there.1) in
      row_narrower i change there.0 (is_must_at-nodes_of message.rows i within ∙ ap (λ (r : TableRow). r.must) same)
      (max_at-nodes_of message.rows i within ∙ ap (λ (r : TableRow). r.max) same) there.2

  pub changes_narrow : (details : List Detail) → All (IsNarrowingDetail dir OfTable name) details → All (IsNarrower (nodes_of message.rows)) (changes_in details)
  changes_narrow [] all = All-nil (IsNarrower (nodes_of message.rows))
  changes_narrow (Node i change ∷ details) all =
      All-cons (IsNarrower (nodes_of message.rows)) (i, change) (changes_in details)
      (node_narrower i change (All-head (IsNarrowingDetail dir OfTable name) (Node i change) details all).narrower)
      (changes_narrow details (All-tail (IsNarrowingDetail dir OfTable name) (Node i change) details all))
  changes_narrow (Item i must reps ∷ details) all = changes_narrow details (All-tail (IsNarrowingDetail dir OfTable name) (Item i must reps) details all)
  changes_narrow (Part i must ∷ details) all = changes_narrow details (All-tail (IsNarrowingDetail dir OfTable name) (Part i must) details all)
  changes_narrow (Value value ∷ details) all = changes_narrow details (All-tail (IsNarrowingDetail dir OfTable name) (Value value) details all)

-- the member of a number from 1
numbered : {A : Type 0} (members : List A) (j : ℕ) → member_of members (1 + j) ≡ slice_get members j
numbered members j =
    let back : 1 + j - 1 ≡ j = omega arith in
    ap (λ b. if b then None else slice_get members (1 + j - 1)) (ne_eqb (1 + j) 0 (λ none. omega arith)) ∙ ap (slice_get members) back

-- what a part keeps that a line narrows
pub record IsPartKept (dir : Parts) (before after : PartDef) : Type 0 where
  pub strict : IsStricterPart before after
  pub formed : is_part_formed before ≡ true → is_part_formed after ≡ true
  pub free : part_faults dir before ≡ [] → part_faults dir after ≡ []

part_same : (dir : Parts) (part : PartDef) → IsPartKept dir part part
part_same dir part = record { strict = part_itself part; formed = λ is. is; free = λ none. none }

against_same : (part : PartDef) (must : Bool) (found : Option ElementDef) → part_against (record part { must = must }) found ≡ part_against part found
against_same part must None = refl
against_same part must (Some element) = refl

part_with : (dir : Parts) (part : PartDef) (must : Bool) → (part.must ≡ true → must ≡ true) → IsPartKept dir part (record part { must = must })
part_with dir part must holds = record {
  strict = record { code = refl; repr = refl; must = holds };
  formed = λ is. is;
  free = λ none. against_same part must _ ∙ none;
}

abbrev PartSays : PartDef → Option Detail → Type 0
PartSays part None = Unit {0}
PartSays part (Some (Part i must)) = is_no_weaker part.must must ≡ true
PartSays part (Some (Node i change)) = Unit {0}
PartSays part (Some (Item i must reps)) = Unit {0}
PartSays part (Some (Value value)) = Unit {0}

part_kept : (dir : Parts) (part : PartDef) (found : Option Detail) → PartSays part found → IsPartKept dir part (part_by_line part found)
part_kept dir part None says = part_same dir part
part_kept dir part (Some (Part i must)) says = part_with dir part must (no_weaker part.must must says)
part_kept dir part (Some (Node i change)) says = part_same dir part
part_kept dir part (Some (Item i must reps)) says = part_same dir part
part_kept dir part (Some (Value value)) says = part_same dir part

module _ (dir : Parts) (name : List ℕ) (composite : CompositeDef) (found : named_in composite_name dir.composites name ≡ Some composite) where
  part_says : (j : ℕ) (part : PartDef) → slice_get composite.parts j ≡ Some part → (details : List Detail) → All (IsNarrowingDetail dir OfComposite name) details
      → PartSays part (find (is_part (1 + j)) details)
  part_says j part at [] all = tt
  part_says j part at (Part i must ∷ details) all =
      cond_both (i == 1 + j) (Some (Part i must)) (find (is_part (1 + j)) details) (PartSays part)
      (λ same.
      let here : member_of composite.parts i ≡ Some part = ap (member_of composite.parts) (eqb-true i (1 + j) same) ∙ numbered composite.parts j ∙ at in
      against_at (λ p. is_no_weaker p.must must) _ part (ap (option_and_then (λ c. member_of c.parts i)) found ∙ here)
      (All-head (IsNarrowingDetail dir OfComposite name) (Part i must) details all).narrower)
      (λ other. part_says j part at details (All-tail (IsNarrowingDetail dir OfComposite name) (Part i must) details all))
  part_says j part at (Node i change ∷ details) all = part_says j part at details (All-tail (IsNarrowingDetail dir OfComposite name) (Node i change) details all)
  part_says j part at (Item i must reps ∷ details) all = part_says j part at details (All-tail (IsNarrowingDetail dir OfComposite name) (Item i must reps) details all)
  part_says j part at (Value value ∷ details) all = part_says j part at details (All-tail (IsNarrowingDetail dir OfComposite name) (Value value) details all)

  pub parts_kept : (details : List Detail) → All (IsNarrowingDetail dir OfComposite name) details
      → AllZip (IsPartKept dir) composite.parts (map (narrowed_part details) (enumerate_from 1 composite.parts))
  parts_kept details all =
      along_numbered (IsPartKept dir) (narrowed_part details) 1 composite.parts
      (λ j part at. part_kept dir part (find (is_part (1 + j)) details) (part_says j part at details all))

-- what an item keeps that a line narrows
pub record IsItemKept (dir : Parts) (before after : ItemDef) : Type 0 where
  pub strict : IsStricterItem before after
  pub formed : is_item_formed before ≡ true → is_item_formed after ≡ true
  pub free : item_faults dir before ≡ [] → item_faults dir after ≡ []

item_same : (dir : Parts) (item : ItemDef) → IsItemKept dir item item
item_same dir item = record { strict = item_itself item; formed = λ is. is; free = λ none. none }

reps_formed : (most reps : ℕ) → (0 < reps) × (reps ≤ most) → is_reps_formed most ≡ true → is_reps_formed reps ≡ true
reps_formed most reps bounds is =
    let parts = and_parts (nat_le 1 most) (nat_le most 99) is in
    and_from (nat_le 1 reps) (nat_le reps 99) (le-leb 1 reps (omega (arith, bounds.0))) (le-leb reps 99 (omega (arith, bounds.1, leb-true most 99 parts.1)))

item_with_kept : (dir : Parts) (must : Bool) (reps : ℕ) (item : ItemDef) (i : ℕ) → is_item_narrower must reps item ≡ true → IsItemKept dir item (item_by_line item (Some (Item i must reps)))
item_with_kept dir must reps (Alone part most) i narrower =
    let parts = and_parts _ _ narrower in
    let bounds = no_greater most reps parts.1 in
    let kept = part_with dir part must (no_weaker part.must must parts.0) in
    record {
      strict = (kept.strict, bounds.1);
      formed = λ is. let both = and_parts (is_part_formed part) (is_reps_formed most) is in
          and_from (is_part_formed part) (is_reps_formed reps) both.0 (reps_formed most reps bounds both.1);
      free = kept.free;
    }
item_with_kept dir must reps (Composite code old most) i narrower =
    let parts = and_parts _ _ narrower in
    let bounds = no_greater most reps parts.1 in
    record {
      strict = (refl, no_weaker old must parts.0, bounds.1);
      formed = λ is. let both = and_parts (is_composite_code code.octets) (is_reps_formed most) is in
          and_from (is_composite_code code.octets) (is_reps_formed reps) both.0 (reps_formed most reps bounds both.1);
      free = λ none. none;
    }

abbrev pub ItemSays : ItemDef → Option Detail → Type 0
ItemSays item None = Unit {0}
ItemSays item (Some (Item i must reps)) = is_item_narrower must reps item ≡ true
ItemSays item (Some (Node i change)) = Unit {0}
ItemSays item (Some (Part i must)) = Unit {0}
ItemSays item (Some (Value value)) = Unit {0}

item_kept : (dir : Parts) (item : ItemDef) (found : Option Detail) → ItemSays item found → IsItemKept dir item (item_by_line item found)
item_kept dir item None says = item_same dir item
item_kept dir item (Some (Item i must reps)) says = item_with_kept dir must reps item i says
item_kept dir item (Some (Node i change)) says = item_same dir item
item_kept dir item (Some (Part i must)) says = item_same dir item
item_kept dir item (Some (Value value)) says = item_same dir item

module _ (dir : Parts) (name : List ℕ) (segment : SegmentDef) (found : named_in segment_name dir.segments name ≡ Some segment) where
  pub item_says : (j : ℕ) (item : ItemDef) → slice_get segment.items j ≡ Some item → (details : List Detail) → All (IsNarrowingDetail dir OfSegment name) details
      → ItemSays item (find (is_item (1 + j)) details)
  item_says j item at [] all = tt
  item_says j item at (Item i must reps ∷ details) all =
      cond_both (i == 1 + j) (Some (Item i must reps)) (find (is_item (1 + j)) details) (ItemSays item)
      (λ same.
      let here : member_of segment.items i ≡ Some item = ap (member_of segment.items) (eqb-true i (1 + j) same) ∙ numbered segment.items j ∙ at in
      against_at (is_item_narrower must reps) _ item (ap (option_and_then (λ s. member_of s.items i)) found ∙ here)
      (All-head (IsNarrowingDetail dir OfSegment name) (Item i must reps) details all).narrower)
      (λ other. item_says j item at details (All-tail (IsNarrowingDetail dir OfSegment name) (Item i must reps) details all))
  item_says j item at (Node i change ∷ details) all = item_says j item at details (All-tail (IsNarrowingDetail dir OfSegment name) (Node i change) details all)
  item_says j item at (Part i must ∷ details) all = item_says j item at details (All-tail (IsNarrowingDetail dir OfSegment name) (Part i must) details all)
  item_says j item at (Value value ∷ details) all = item_says j item at details (All-tail (IsNarrowingDetail dir OfSegment name) (Value value) details all)

  pub items_kept : (details : List Detail) → All (IsNarrowingDetail dir OfSegment name) details
      → AllZip (IsItemKept dir) segment.items (map (narrowed_item details) (enumerate_from 1 segment.items))
  items_kept details all =
      along_numbered (IsItemKept dir) (narrowed_item details) 1 segment.items
      (λ j item at. item_kept dir item (find (is_item (1 + j)) details) (item_says j item at details all))
