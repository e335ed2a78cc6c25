-- Parts without fault, put in order, have none either.
use Rattle.std.proofs.Common.{◌≡◌, ℕ, inl, inr, true, not, ◌&&◌, List, [], ◌∷◌, ◌++◌, Option, Some, None, map, is_some, sym, ap, ◌∙◌, refl, subst, codes}
use Rattle.std.specs.List.{flat_map}
use Rattle.std.specs.Str.{bytes_eq}
use Rattle.edi_tables.specs.Rows.{when, table_faults}
use Rattle.edi_tables.specs.declared.element.CodeList.{CodeList}
use Rattle.edi_tables.specs.declared.element.PartDef.{PartDef}
use Rattle.edi_tables.specs.declared.segment.ItemDef.{ItemDef}
use Rattle.edi_tables.specs.declared.segment.ItemDef.TheVariants.{Alone, Composite}
use Rattle.edi_tables.specs.declared.tag.Tag.{Tag}
use Rattle.dir_compile.specs.declared.parts.Parts.{Parts}
use Rattle.dir_compile.specs.declared.stop.CompileKind.TheVariants.{UnknownElement, UnknownComposite, UnknownSegment, Reserved, BadTable}
use Rattle.edi_tables.specs.Ascending.{is_before}
use Rattle.dir_compile.specs.InOrder.{ascending_by, ordered_list, ordered_parts}
use Rattle.dir_compile.specs.Ordered.{IsInOrder}
use Rattle.dir_compile.specs.Compile.{twice_in, named_in, list_fault, list_faults, part_against, part_faults, composite_fault, composite_faults, item_faults, segment_fault, segment_faults, tag_faults, message_fault, message_faults, is_service_tag, compile_faults, value_name, element_name, list_name, composite_name, segment_name, message_name}
use Rattle.edi_tables.specs.Filled.{is_filled}
use Rattle.dir_compile.specs.Stop.{fault_with}
use Rattle.dir_compile.proofs.AscendingLemmas.{Has, IsAscending, IsApart, same-ascending_by, ascending_by-ascending, apart-from-ascending, pairs-from-ascending, all-from-members}
use Rattle.dir_compile.proofs.Apart.{apart-from-none, none-from-apart, named-same}
use Rattle.dir_compile.proofs.Members.{none-at, none-all, none-same}
use Rattle.dir_compile.proofs.Groups.{IsTwiceFree, IsFaultFree, free-compile}

-- a member of a mapped list
pub Has-map : {A B : Type 0} (f : A → B) (xs : List A) (z : B) → Has (map f xs) z → (x : A) × Has xs x × (z ≡ f x)
Has-map f [] z h = absurd h
Has-map f (x ∷ xs) z (inl e) = (x, inl refl, e)
Has-map f (x ∷ xs) z (inr h) = let m = Has-map f xs z h in (m.0, inr m.1, m.2)

-- a map that keeps names keeps the order
map-ascending : {A : Type 0} (name : A → List ℕ) (f : A → A) → ((x : A) → name (f x) ≡ name x) → (xs : List A) → IsAscending name xs → IsAscending name (map f xs)
map-ascending name f keeps [] p = tt
map-ascending name f keeps (x ∷ xs) p = (
  λ z h. let m = Has-map f xs z h in
      subst (λ n. is_before n (name z) ≡ true) (sym (keeps x)) (subst (λ n. is_before (name x) n ≡ true) (sym (ap name m.2 ∙ keeps m.0)) (p.0 m.0 m.1)),
  map-ascending name f keeps xs p.1,
)

module _ (parts : Parts) (free : IsFaultFree parts) where
  apart-elements : IsApart element_name parts.elements
  apart-elements = apart-from-none element_name parts.elements free.twice.elements

  apart-lists : IsApart list_name parts.lists
  apart-lists = apart-from-none list_name parts.lists free.twice.lists

  apart-composites : IsApart composite_name parts.composites
  apart-composites = apart-from-none composite_name parts.composites free.twice.composites

  apart-segments : IsApart segment_name parts.segments
  apart-segments = apart-from-none segment_name parts.segments free.twice.segments

  apart-messages : IsApart message_name parts.messages
  apart-messages = apart-from-none message_name parts.messages free.twice.messages

  -- each group in order
  ascending-elements : IsAscending element_name (ascending_by element_name parts.elements)
  ascending-elements = ascending_by-ascending element_name parts.elements apart-elements

  ascending-lists : IsAscending list_name (map ordered_list (ascending_by list_name parts.lists))
  ascending-lists = map-ascending list_name ordered_list (λ x. refl) _ (ascending_by-ascending list_name parts.lists apart-lists)

  ascending-composites : IsAscending composite_name (ascending_by composite_name parts.composites)
  ascending-composites = ascending_by-ascending composite_name parts.composites apart-composites

  ascending-segments : IsAscending segment_name (ascending_by segment_name parts.segments)
  ascending-segments = ascending_by-ascending segment_name parts.segments apart-segments

  ascending-messages : IsAscending message_name (ascending_by message_name parts.messages)
  ascending-messages = ascending_by-ascending message_name parts.messages apart-messages

  -- the codes of a list of the ordered parts
  ascending-codes : (list : CodeList) → Has (map ordered_list (ascending_by list_name parts.lists)) list → IsAscending value_name list.values
  ascending-codes list h =
      let m = Has-map ordered_list (ascending_by list_name parts.lists) list h in
      let given = none-at (λ l. twice_in value_name l.values) parts.lists free.twice.listed m.0 ((same-ascending_by list_name parts.lists).back m.0 m.1) in
      subst (λ l. IsAscending value_name l.values) (sym m.2) (ascending_by-ascending value_name m.0.values (apart-from-none value_name m.0.values given))

  -- nothing occurs twice in the ordered parts
  ordered-twice : IsTwiceFree (ordered_parts parts)
  unfolding ordered_parts
  ordered-twice = record {
    elements = none-from-apart element_name _ (apart-from-ascending element_name _ ascending-elements);
    lists = none-from-apart list_name _ (apart-from-ascending list_name _ ascending-lists);
    listed = none-all _ _ (λ list h. none-from-apart value_name _ (apart-from-ascending value_name _ (ascending-codes list h)));
    composites = none-from-apart composite_name _ (apart-from-ascending composite_name _ ascending-composites);
    segments = none-from-apart segment_name _ (apart-from-ascending segment_name _ ascending-segments);
    messages = none-from-apart message_name _ (apart-from-ascending message_name _ ascending-messages);
  }

  -- the same definitions are found
  same-element : (wanted : List ℕ) → named_in element_name (ordered_parts parts).elements wanted ≡ named_in element_name parts.elements wanted
  unfolding ordered_parts
  same-element wanted = named-same element_name wanted parts.elements _ apart-elements (apart-from-ascending element_name _ ascending-elements) (same-ascending_by element_name parts.elements)

  same-composite : (wanted : List ℕ) → named_in composite_name (ordered_parts parts).composites wanted ≡ named_in composite_name parts.composites wanted
  unfolding ordered_parts
  same-composite wanted = named-same composite_name wanted parts.composites _ apart-composites (apart-from-ascending composite_name _ ascending-composites) (same-ascending_by composite_name parts.composites)

  same-segment : (wanted : List ℕ) → named_in segment_name (ordered_parts parts).segments wanted ≡ named_in segment_name parts.segments wanted
  unfolding ordered_parts
  same-segment wanted = named-same segment_name wanted parts.segments _ apart-segments (apart-from-ascending segment_name _ ascending-segments) (same-ascending_by segment_name parts.segments)

  -- so each definition has the same faults
  same-part : (part : PartDef) → part_faults (ordered_parts parts) part ≡ part_faults parts part
  same-part part = ap (part_against part) (same-element part.code.octets)

  same-item : (item : ItemDef) → item_faults (ordered_parts parts) item ≡ item_faults parts item
  same-item (Alone part reps) = same-part part
  same-item (Composite code must reps) = ap (λ o. when (not (is_some o)) (fault_with UnknownComposite code.octets)) (same-composite code.octets)

  same-tag : (tag : Option Tag) → tag_faults (ordered_parts parts) tag ≡ tag_faults parts tag
  same-tag None = refl
  same-tag (Some tag) = ap (λ o. when (not (is_some o) && not (is_service_tag tag.octets)) (fault_with UnknownSegment tag.octets)) (same-segment tag.octets)

  ordered-lists : list_faults (ordered_parts parts) ≡ []
  unfolding ordered_parts
  ordered-lists = none-all _ _ (λ list h.
      let m = Has-map ordered_list (ascending_by list_name parts.lists) list h in
      let given = none-at (list_fault parts) parts.lists free.lists m.0 ((same-ascending_by list_name parts.lists).back m.0 m.1) in
      ap (list_fault (ordered_parts parts)) m.2 ∙ ap (λ o. when (not (is_some o)) (fault_with UnknownElement (list_name m.0))) (same-element (list_name m.0)) ∙ given)

  ordered-composites : composite_faults (ordered_parts parts) ≡ []
  unfolding ordered_parts
  ordered-composites =
      (λ i. flat_map (λ composite. flat_map (λ part. same-part part i) composite.parts) (ascending_by composite_name parts.composites))
      ∙ none-same (composite_fault parts) parts.composites _ (same-ascending_by composite_name parts.composites) free.composites

  ordered-segments : segment_faults (ordered_parts parts) ≡ []
  unfolding ordered_parts
  ordered-segments =
      (λ i. flat_map (λ segment. when (is_service_tag (segment_name segment)) (fault_with Reserved (segment_name segment)) ++ flat_map (λ item. same-item item i) segment.items) (ascending_by segment_name parts.segments))
      ∙ none-same (segment_fault parts) parts.segments _ (same-ascending_by segment_name parts.segments) free.segments

  ordered-messages : message_faults (ordered_parts parts) ≡ []
  unfolding ordered_parts
  ordered-messages =
      (λ i. flat_map (λ message. when (bytes_eq (message_name message) (codes "CONTRL")) (fault_with Reserved (message_name message)) ++ flat_map (λ row. same-tag row.tag i) message.rows ++ when (is_filled (table_faults message.rows)) (fault_with BadTable (message_name message))) (ascending_by message_name parts.messages))
      ∙ none-same (message_fault parts) parts.messages _ (same-ascending_by message_name parts.messages) free.messages

  -- the ordered parts are in order
  pub ordered-in-order : IsInOrder (ordered_parts parts)
  unfolding ordered_parts
  ordered-in-order = record {
    elements = pairs-from-ascending element_name _ ascending-elements;
    lists = pairs-from-ascending list_name _ ascending-lists;
    codes = all-from-members _ _ (λ list h. pairs-from-ascending value_name list.values (ascending-codes list h));
    composites = pairs-from-ascending composite_name _ ascending-composites;
    segments = pairs-from-ascending segment_name _ ascending-segments;
    messages = pairs-from-ascending message_name _ ascending-messages;
  }

  -- and have no fault
  pub ordered-faultless : compile_faults (ordered_parts parts) ≡ []
  ordered-faultless = free-compile (ordered_parts parts) (record {
    twice = ordered-twice;
    lists = ordered-lists;
    composites = ordered-composites;
    segments = ordered-segments;
    messages = ordered-messages;
  })
