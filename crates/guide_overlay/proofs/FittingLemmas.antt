-- The details that a guide without a fault has for something of a directory fit it: no count is greater, and no two are
-- of one node.
use Rattle.std.proofs.Common.{◌≡◌, ℕ, ◌<◌, true, false, List, [], ◌∷◌, length, Option, Some, None, get_or, refl, sym, ap, subst, ◌∙◌, arith}
use Rattle.std.specs.Prelude.{All, AllPairs, find, nat_le, nat_lt, slice_get, ◌==◌}
use Rattle.std.specs.Option.{option_map}
use Rattle.std.specs.Str.{bytes_eq}
use Rattle.std.proofs.lemmas.Bool.{and_parts, cond_both, eqb-true, leb-true}
use Rattle.std.proofs.lemmas.List.Elements.{All-head, All-tail}
use Rattle.std.proofs.lemmas.Option.{same_Some, slice_get_within}
use Rattle.std.proofs.lemmas.Slice.Eq.{bytes_eq-Decides}
use Rattle.edi_tables.specs.Forms.{reps_of}
use Rattle.edi_tables.specs.Rows.{nodes_of}
use Rattle.edi_tables.specs.Walk.{max_at}
use Rattle.edi_tables.specs.declared.segment.ItemDef.{ItemDef}
use Rattle.edi_tables.specs.declared.segment.MessageDef.{MessageDef}
use Rattle.edi_tables.specs.declared.segment.SegmentDef.{SegmentDef}
use Rattle.edi_tables.specs.declared.segment.TableRow.{TableRow}
use Rattle.edi_tables.proofs.Lawful.{at_row, row_at}
use Rattle.edi_tables.proofs.Made.{max_at-nodes_of}
use Rattle.dir_compile.specs.declared.parts.Parts.{Parts}
use Rattle.dir_compile.specs.Compile.{message_name, segment_name, twice_in, value_name}
use Rattle.dir_compile.specs.Directory.{IsDirectory}
use Rattle.dir_compile.proofs.Apart.{apart-from-none, named-found, none-from-apart}
use Rattle.dir_compile.proofs.AscendingLemmas.{has-at}
use Rattle.dir_compile.proofs.Groups.{fault-free}
use Rattle.guide_overlay.specs.declared.line.Topic.{Topic}
use Rattle.guide_overlay.specs.declared.line.Topic.TheVariants.{OfTable, OfSegment}
use Rattle.guide_overlay.specs.Fitting.{AreItemsFitting, AreRowsFitting, IsItemWithin, IsRowWithin, is_node}
use Rattle.guide_overlay.specs.Guide.{Detail, Section, changes_in, details_for, is_item_must, is_no_greater, is_no_weaker, is_same_detail, is_section_of, values_in}
use Rattle.guide_overlay.specs.Guide.Detail.{Node, Item, Part, Value}
use Rattle.guide_overlay.specs.Narrowing.{AreNarrowing}
use Rattle.guide_overlay.specs.Rows.{IsNarrower}
use Rattle.guide_overlay.specs.Rows.NodeChange.{Drop, Keep}
use Rattle.guide_overlay.proofs.DetailsNarrow.{IsFor, ItemSays, changes_narrow, details_narrow, found_for, item_says}
use Rattle.guide_overlay.proofs.ListsLeft.{values_apart}

-- a count of a narrower line is no greater than the row's
row_within : (rows : List TableRow) (i : ℕ) (row : TableRow) → slice_get rows i ≡ Some row → (details : List Detail)
    → All (IsNarrower (nodes_of rows)) (changes_in details) → IsRowWithin row (find (is_node i) details)
row_within rows i row at [] all = tt
row_within rows i row at (Node k Drop ∷ details) all =
    cond_both (k == i) (Some (Node k Drop)) (find (is_node i) details) (IsRowWithin row)
    (λ same. tt)
    (λ other. row_within rows i row at details (All-tail (IsNarrower (nodes_of rows)) (k, Drop) (changes_in details) all))
row_within rows i row at (Node k (Keep must max) ∷ details) all =
    cond_both (k == i) (Some (Node k (Keep must max))) (find (is_node i) details) (IsRowWithin row)
    (λ same.
    let within = slice_get_within rows i row at in
    let high = (All-head (IsNarrower (nodes_of rows)) (k, Keep must max) (changes_in details) all).2 in
    let here : max_at (nodes_of rows) k ≡ max_at (nodes_of rows) i = ap (max_at (nodes_of rows)) (eqb-true k i same) in
    let read = max_at-nodes_of rows i within in
    let is : (row_at rows i).max ≡ row.max = ap (λ (r : TableRow). r.max) (same_Some (row_at rows i) row (sym (at_row rows i within) ∙ at)) in
    omega (arith, high, here, read, is))
    (λ other. row_within rows i row at details (All-tail (IsNarrower (nodes_of rows)) (k, Keep must max) (changes_in details) all))
row_within rows i row at (Item k must reps ∷ details) all = row_within rows i row at details all
row_within rows i row at (Part k must ∷ details) all = row_within rows i row at details all
row_within rows i row at (Value value ∷ details) all = row_within rows i row at details all

-- nor is that of an item
item_within : (item : ItemDef) (found : Option Detail) → ItemSays item found → IsItemWithin item found
item_within item None says = tt
item_within item (Some (Item i must reps)) says =
    let counts = and_parts (is_no_weaker (is_item_must item) must) (is_no_greater (reps_of item) reps) says in
    leb-true reps (reps_of item) (and_parts (nat_lt 0 reps) (nat_le reps (reps_of item)) counts.1).1
item_within item (Some (Node i change)) says = tt
item_within item (Some (Part i must)) says = tt
item_within item (Some (Value value)) says = tt

-- no value of details that differ occurs twice
pub values_once : (details : List Detail) → AllPairs (λ earlier later. is_same_detail later earlier ≡ false) details → twice_in value_name (values_in details) ≡ []
values_once details apart = none-from-apart value_name (values_in details) (values_apart details apart)

same_name : (name : List ℕ) → bytes_eq name name ≡ true
same_name name = (bytes_eq-Decides name name).1 refl

module _ (dir : Parts) (sections : List Section) (narrowing : AreNarrowing dir sections) where
  -- the details of what was found are of different nodes, items, parts and values
  found_apart : (topic : Topic) (name : List ℕ) (section : Section) → find (is_section_of topic name) sections ≡ Some section
      → AllPairs (λ earlier later. is_same_detail later earlier ≡ false) section.details
  found_apart topic name section is = (subst (IsFor dir topic name) is (found_for dir topic name sections narrowing.each)).2.apart

  pub told_apart : (topic : Topic) (name : List ℕ) (details : List Detail) → Some details ≡ option_map (λ section. section.details) (find (is_section_of topic name) sections)
      → AllPairs (λ earlier later. is_same_detail later earlier ≡ false) details
  told_apart topic name details is = by (find (is_section_of topic name) sections) refl is
    where
      by : (found : Option Section) → find (is_section_of topic name) sections ≡ found → Some details ≡ option_map (λ s. s.details) found
          → AllPairs (λ earlier later. is_same_detail later earlier ≡ false) details
      by None here told = absurd cc
      by (Some section) here told =
          let same : section.details ≡ details = cc in
          subst (λ (ds : List Detail). AllPairs (λ earlier later. is_same_detail later earlier ≡ false) ds) same (found_apart topic name section here)

  details_apart : (topic : Topic) (name : List ℕ) → AllPairs (λ earlier later. is_same_detail later earlier ≡ false) (details_for sections topic name)
  details_apart topic name = by (find (is_section_of topic name) sections) (found_for dir topic name sections narrowing.each)
    where
      by : (found : Option Section) → IsFor dir topic name found
          → AllPairs (λ earlier later. is_same_detail later earlier ≡ false) (elim found as (λ _. List Detail) [ None ↦ [] | Some section ↦ section.details ])
      by None is = λ i j d less within. absurd (omega (arith, within))
      by (Some section) is = is.2.apart

  module _ (directory : IsDirectory dir) where
    pub rows_fit : (i : ℕ) (message : MessageDef) → i < length dir.messages → message ≡ get_or dir.messages i message
        → AreRowsFitting message.rows (details_for sections OfTable (message_name message))
    rows_fit i message within at =
        let name = message_name message in
        let once = apart-from-none message_name dir.messages (fault-free dir directory.faultless).twice.messages in
        let found = named-found message_name name dir.messages message once (has-at dir.messages message i within (sym at)) (same_name name) in
        record {
          within = λ k row here. row_within message.rows k row here (details_for sections OfTable name)
              (changes_narrow dir name message found (details_for sections OfTable name) (details_narrow dir OfTable name sections narrowing.each));
          apart = details_apart OfTable name;
        }

    pub items_fit : (i : ℕ) (segment : SegmentDef) → i < length dir.segments → segment ≡ get_or dir.segments i segment
        → AreItemsFitting segment.items (details_for sections OfSegment (segment_name segment))
    items_fit i segment within at j item here =
        let name = segment_name segment in
        let once = apart-from-none segment_name dir.segments (fault-free dir directory.faultless).twice.segments in
        let found = named-found segment_name name dir.segments segment once (has-at dir.segments segment i within (sym at)) (same_name name) in
        item_within item _ (item_says dir name segment found j item here (details_for sections OfSegment name) (details_narrow dir OfSegment name sections narrowing.each))
