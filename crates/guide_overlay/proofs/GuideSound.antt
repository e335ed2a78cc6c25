-- A guide narrows a directory to a directory, and a text without an error by that one has none by its base, where the
-- base's tables that it uses list no collision.
use Rattle.std.proofs.Common.{◌≡◌, ℕ, true, List, [], ◌∷◌, Ok, map, is_some, refl, sym, ap, subst}
use Rattle.std.specs.List.{AllZip}
use Rattle.std.proofs.lemmas.Bool.{not-false}
use Rattle.std.proofs.lemmas.Slice.Eq.{bytes_eq-Decides}
use Rattle.edi_octets.specs.Lines.{lines_of}
use Rattle.edi_tables.specs.Rows.{nodes_of}
use Rattle.edi_tables.specs.First.{unless_faulty}
use Rattle.edi_tables.specs.declared.segment.MessageDef.{MessageDef}
use Rattle.dir_compile.specs.declared.parts.Parts.{Parts}
use Rattle.dir_compile.specs.Compile.{composite_name, element_name, list_fault, list_name, named_in, segment_name}
use Rattle.dir_compile.specs.Directory.{IsDirectory, contrl_name, message_table}
use Rattle.dir_compile.proofs.Apart.{named-is}
use Rattle.dir_compile.proofs.AscendingLemmas.{Has-from-Contains}
use Rattle.dir_compile.proofs.Faults.{when-nil}
use Rattle.dir_compile.proofs.Groups.{fault-free}
use Rattle.dir_compile.proofs.Members.{none-at}
use Rattle.text_reading.specs.Errors.{errors_of}
use Rattle.guide_overlay.specs.Guide.{Section, guide_faults, list_left, narrow_of, narrowed, narrowed_composite, narrowed_message, narrowed_segment, sections_in}
use Rattle.guide_overlay.specs.Narrowed.{HasNoCollision, IsNarrowed}
use Rattle.guide_overlay.specs.Narrowing.{AreNarrowing}
use Rattle.guide_overlay.specs.Rows.{base_node}
use Rattle.guide_overlay.specs.Stricter.{IsStricterComposite, IsStricterItem, IsStricterList, IsStricterPart, IsStricterSegment}
use Rattle.guide_overlay.proofs.AlongLemmas.{zip_weaker}
use Rattle.guide_overlay.proofs.DetailsNarrow.{IsItemKept, IsPartKept}
use Rattle.guide_overlay.proofs.ListsLeft.{list_is, list_strict, some_there}
use Rattle.guide_overlay.proofs.NarrowedLawful.{items_along, lines_for, lines_narrower, narrowed_lawful, parts_along, table_lawful}
use Rattle.guide_overlay.proofs.NarrowedMembers.{NarrowsMessage, along_made, lists_made, named_along, tables_along}
use Rattle.guide_overlay.proofs.RowsNarrow.{rows_narrow}
use Rattle.guide_overlay.proofs.SectionsNarrow.{sections_narrow}
use Rattle.guide_overlay.proofs.TextsSound.{sound}

-- the value where nothing is at fault
faultless : {F A : Type 0} (faults : List F) (value found : A) → unless_faulty faults value ≡ Ok found → (found ≡ value) × (faults ≡ [])
faultless [] value found is = (let same : found ≡ value = cc in same, refl)
faultless (fault ∷ faults) value found is = absurd cc

module _ (dir : Parts) (sections : List Section) (directory : IsDirectory dir) (narrowing : AreNarrowing dir sections) where
  names_same : (messages : List MessageDef) → map (message_table (narrowed sections dir)) (map (narrowed_message sections) messages) ≡ map (message_table dir) messages
  names_same [] = refl
  names_same (m ∷ messages) = ap (λ more. message_table dir m ∷ more) (names_same messages)

  messages_along : AllZip NarrowsMessage dir.messages (map (narrowed_message sections) dir.messages)
  messages_along =
      along_made NarrowsMessage (narrowed_message sections) dir.messages (λ m found.
      let has = Has-from-Contains dir.messages m found in (
        base_node (nodes_of m.rows) (lines_for dir sections directory narrowing m),
        rows_narrow m.rows (lines_for dir sections directory narrowing m) (table_lawful dir sections directory narrowing m has) (lines_narrower dir sections directory narrowing m has),
      ))

  composites_strict : AllZip (λ x y. (composite_name y ≡ composite_name x) × IsStricterComposite x y) dir.composites (map (narrowed_composite sections) dir.composites)
  composites_strict =
      along_made (λ x y. (composite_name y ≡ composite_name x) × IsStricterComposite x y) (narrowed_composite sections) dir.composites (λ c found. (
        refl,
        zip_weaker (IsPartKept dir) IsStricterPart (λ x y kept. kept.strict) c.parts (narrowed_composite sections c).parts
            (parts_along dir sections directory narrowing c (Has-from-Contains dir.composites c found)),
      ))

  segments_strict : AllZip (λ x y. (segment_name y ≡ segment_name x) × IsStricterSegment x y) dir.segments (map (narrowed_segment sections) dir.segments)
  segments_strict =
      along_made (λ x y. (segment_name y ≡ segment_name x) × IsStricterSegment x y) (narrowed_segment sections) dir.segments (λ s found. (
        refl,
        zip_weaker (IsItemKept dir) IsStricterItem (λ x y kept. kept.strict) s.items (narrowed_segment sections s).items
            (items_along dir sections directory narrowing s (Has-from-Contains dir.segments s found)),
      ))

  -- each list is of an element of the directory
  element_there : (name : List ℕ) → is_some (named_in list_name dir.lists name) ≡ true → is_some (named_in element_name dir.elements name) ≡ true
  element_there name some =
      let found = some_there (named_in list_name dir.lists name) some in
      let is = named-is list_name name dir.lists found.0 found.1 in
      let none = none-at (list_fault dir) dir.lists (fault-free dir directory.faultless).lists found.0 is.0 in
      subst (λ (n : List ℕ). is_some (named_in element_name dir.elements n) ≡ true) ((bytes_eq-Decides (list_name found.0) name).0 is.1) (not-false _ (when-nil _ _ none))

  lists_strict : (name : List ℕ) → IsStricterList (named_in list_name dir.lists name) (named_in list_name (narrowed sections dir).lists name)
  lists_strict name =
      lists_made dir.lists (list_left sections dir) element_name
      (λ element list is. (list_is dir directory sections narrowing.each element list is).named) name
      (λ element same. subst (λ (n : List ℕ). IsStricterList (named_in list_name dir.lists n) (list_left sections dir element))
      ((bytes_eq-Decides (element_name element) name).0 same) (list_strict dir directory sections narrowing.each element))
      dir.elements (element_there name)

  -- what sections without a fault make of a directory narrows it
  pub narrowed_is : IsNarrowed dir (narrowed sections dir)
  narrowed_is = record {
    from = directory;
    directory = narrowed_lawful dir sections directory narrowing;
    names = ap (λ more. contrl_name ∷ more) (names_same dir.messages);
    tables = tables_along dir (narrowed sections dir) messages_along;
    strict = record {
      composites = named_along composite_name IsStricterComposite dir.composites (map (narrowed_composite sections) dir.composites) composites_strict;
      segments = named_along segment_name IsStricterSegment dir.segments (map (narrowed_segment sections) dir.segments) segments_strict;
      lists = lists_strict;
    };
  }

  -- what is found of a text by it
  pub sound_of_sections : (text : List ℕ) → errors_of (narrowed sections dir) text ≡ [] → HasNoCollision dir text → errors_of dir text ≡ []
  sound_of_sections = sound dir (narrowed sections dir) narrowed_is

module _ (dir parts : Parts) (file : List ℕ) (is : narrow_of dir file ≡ Ok parts) where
  -- the parts that a guide gives are made by its sections, which have no fault
  pub parts_of_guide : (parts ≡ narrowed (sections_in (lines_of file)) dir) × AreNarrowing dir (sections_in (lines_of file))
  unfolding narrow_of
  parts_of_guide =
      let found = faultless (guide_faults dir (lines_of file)) (narrowed (sections_in (lines_of file)) dir) parts is in
      (found.0, sections_narrow dir (lines_of file) found.1)

  module _ (directory : IsDirectory dir) where
    pub lawful_of_guide : IsDirectory parts
    lawful_of_guide = subst IsDirectory (sym parts_of_guide.0) (narrowed_lawful dir (sections_in (lines_of file)) directory parts_of_guide.1)

    pub narrowed_of_guide : IsNarrowed dir parts
    narrowed_of_guide = subst (IsNarrowed dir) (sym parts_of_guide.0) (narrowed_is dir (sections_in (lines_of file)) directory parts_of_guide.1)

    pub sound_of_guide : (text : List ℕ) → errors_of parts text ≡ [] → HasNoCollision dir text → errors_of dir text ≡ []
    sound_of_guide = sound dir parts narrowed_of_guide
