-- The code lists that a guide leaves: their names, forms and order, and that they have no value that the base's lack.
use Rattle.std.proofs.Common.{◌≡◌, ℕ, suc, true, false, List, [], ◌∷◌, Option, Some, None, is_some, inl, inr, refl, sym, ap, subst, ◌∙◌, arith}
use Rattle.std.specs.Prelude.{All, AllPairs, Contains, find}
use Rattle.std.specs.List.{list_all}
use Rattle.std.specs.Str.{bytes_eq}
use Rattle.std.proofs.lemmas.Bool.{and_from, false≢true, not-false}
use Rattle.std.proofs.lemmas.List.Elements.{All-cons, All-head, All-nil, All-tail}
use Rattle.std.proofs.lemmas.Option.{same_Some}
use Rattle.std.proofs.lemmas.Slice.Eq.{bytes_eq-Decides}
use Rattle.edi_octets.proofs.EarlierNameLemmas.{bytes_eq-flip}
use Rattle.edi_tables.specs.Ascending.{IsAscendingBy}
use Rattle.edi_tables.specs.Forms.{is_code_value, is_element_code, is_list_formed}
use Rattle.edi_tables.specs.declared.element.CodeList.{CodeList}
use Rattle.edi_tables.specs.declared.element.ElementDef.{ElementDef}
use Rattle.dir_compile.specs.declared.parts.Parts.{Parts}
use Rattle.dir_compile.specs.Compile.{element_name, list_name, named_in, twice_in, value_name}
use Rattle.dir_compile.specs.Directory.{IsDirectory}
use Rattle.dir_compile.specs.InOrder.{ascending_by}
use Rattle.dir_compile.proofs.Apart.{named-is, none-from-apart}
use Rattle.dir_compile.proofs.AscendingLemmas.{Contains-from-Has, Has, IsApart, all-from-members, apart-from-ascending, ascending_by-ascending, pairs-from-ascending, same-ascending_by}
use Rattle.dir_compile.proofs.Faults.{when-nil}
use Rattle.dir_compile.proofs.Groups.{fault-free}
use Rattle.dir_compile.proofs.Members.{none-at}
use Rattle.guide_overlay.specs.declared.line.Topic.{Topic}
use Rattle.guide_overlay.specs.declared.line.Topic.TheVariants.{OfCodes}
use Rattle.guide_overlay.specs.Guide.{Detail, Section, is_same_detail, is_section_of, list_left, value_kinds, values_in}
use Rattle.guide_overlay.specs.Guide.Detail.{Node, Item, Part, Value}
use Rattle.guide_overlay.specs.Narrowing.{IsNarrowing, IsNarrowingDetail}
use Rattle.guide_overlay.specs.Stricter.{IsStricterList}
use Rattle.guide_overlay.proofs.AlongLemmas.{all_has, all_pass, passes_at}
use Rattle.guide_overlay.proofs.DetailsNarrow.{IsFor, found_for, section_details}
use Rattle.guide_overlay.proofs.NarrowedMembers.{list_itself}

-- what there is
pub some_there : {A : Type 0} (found : Option A) → is_some found ≡ true → (x : A) × (found ≡ Some x)
some_there None some = absurd (false≢true some)
some_there (Some x) some = (x, refl)

-- a value that is found is a member
value_there : (values : List (List ℕ)) (value : List ℕ) → is_some (named_in value_name values value) ≡ true → Contains values value
value_there values value some =
    let found = some_there (named_in value_name values value) some in
    let is = named-is value_name value values found.0 found.1 in
    subst (Contains values) ((bytes_eq-Decides found.0 value).0 is.1) (Contains-from-Has values found.0 is.0)

-- the values that are kept differ, where their lines do
values_differ : (value : List ℕ) (details : List Detail) → All (λ d. is_same_detail d (Value value) ≡ false) details → (other : List ℕ) → Has (values_in details) other
    → bytes_eq value other ≡ false
values_differ value [] all other has = absurd has
values_differ value (Node i change ∷ details) all other has = values_differ value details (All-tail (λ d. is_same_detail d (Value value) ≡ false) (Node i change) details all) other has
values_differ value (Item i must reps ∷ details) all other has = values_differ value details (All-tail (λ d. is_same_detail d (Value value) ≡ false) (Item i must reps) details all) other has
values_differ value (Part i must ∷ details) all other has = values_differ value details (All-tail (λ d. is_same_detail d (Value value) ≡ false) (Part i must) details all) other has
values_differ value (Value w ∷ details) all other (inl is) =
    bytes_eq-flip value other ∙ ap (λ (v : List ℕ). bytes_eq v value) is ∙ All-head (λ d. is_same_detail d (Value value) ≡ false) (Value w) details all
values_differ value (Value w ∷ details) all other (inr has) = values_differ value details (All-tail (λ d. is_same_detail d (Value value) ≡ false) (Value w) details all) other has

pairs_tail : (d : Detail) (details : List Detail) → AllPairs (λ earlier later. is_same_detail later earlier ≡ false) (d ∷ details)
    → AllPairs (λ earlier later. is_same_detail later earlier ≡ false) details
pairs_tail d details pairs i j e less within = pairs (suc i) (suc j) e (omega arith) (omega arith)

pairs_head : (d : Detail) (details : List Detail) → AllPairs (λ earlier later. is_same_detail later earlier ≡ false) (d ∷ details)
    → All (λ later. is_same_detail later d ≡ false) details
pairs_head d details pairs k e within = pairs 0 (suc k) e (omega arith) (omega arith)

pub values_apart : (details : List Detail) → AllPairs (λ earlier later. is_same_detail later earlier ≡ false) details → IsApart value_name (values_in details)
values_apart [] pairs = tt
values_apart (Node i change ∷ details) pairs = values_apart details (pairs_tail (Node i change) details pairs)
values_apart (Item i must reps ∷ details) pairs = values_apart details (pairs_tail (Item i must reps) details pairs)
values_apart (Part i must ∷ details) pairs = values_apart details (pairs_tail (Part i must) details pairs)
values_apart (Value value ∷ details) pairs =
    (values_differ value details (pairs_head (Value value) details pairs), values_apart details (pairs_tail (Value value) details pairs))

module _ (dir : Parts) (topic : Topic) (name : List ℕ) where
  -- they have their form
  values_formed : (details : List Detail) → All (IsNarrowingDetail dir topic name) details → list_all is_code_value (values_in details) ≡ true
  values_formed [] all = refl
  values_formed (Node i change ∷ details) all = values_formed details (All-tail (IsNarrowingDetail dir topic name) (Node i change) details all)
  values_formed (Item i must reps ∷ details) all = values_formed details (All-tail (IsNarrowingDetail dir topic name) (Item i must reps) details all)
  values_formed (Part i must ∷ details) all = values_formed details (All-tail (IsNarrowingDetail dir topic name) (Part i must) details all)
  values_formed (Value value ∷ details) all =
      and_from (is_code_value value) (list_all is_code_value (values_in details)) (All-head (IsNarrowingDetail dir topic name) (Value value) details all).formed
      (values_formed details (All-tail (IsNarrowingDetail dir topic name) (Value value) details all))

  -- and are values of the base's list
  values_there : (base : CodeList) → named_in list_name dir.lists name ≡ Some base → (details : List Detail) → All (IsNarrowingDetail dir topic name) details
      → All (Contains base.values) (values_in details)
  values_there base found [] all = All-nil (Contains base.values)
  values_there base found (Node i change ∷ details) all = values_there base found details (All-tail (IsNarrowingDetail dir topic name) (Node i change) details all)
  values_there base found (Item i must reps ∷ details) all = values_there base found details (All-tail (IsNarrowingDetail dir topic name) (Item i must reps) details all)
  values_there base found (Part i must ∷ details) all = values_there base found details (All-tail (IsNarrowingDetail dir topic name) (Part i must) details all)
  values_there base found (Value value ∷ details) all =
      let none = ap (value_kinds value) (sym found) ∙ (All-head (IsNarrowingDetail dir topic name) (Value value) details all).narrower in
      All-cons (Contains base.values) value (values_in details)
      (value_there base.values value (not-false _ (when-nil _ _ none)))
      (values_there base found details (All-tail (IsNarrowingDetail dir topic name) (Value value) details all))

-- what a list is that a guide leaves for an element
pub record IsListLeft (element : ElementDef) (list : CodeList) : Type 0 where
  pub named : list_name list ≡ element_name element
  pub formed : is_element_code (element_name element) ≡ true → is_list_formed list ≡ true
  pub once : twice_in value_name list.values ≡ []
  pub order : IsAscendingBy value_name list.values

-- the list that is made where a section was found, and the base's where none was
abbrev list_by : Parts → ElementDef → Option Section → Option CodeList
list_by dir element None = named_in list_name dir.lists (element_name element)
list_by dir element (Some section) = Some (record { element = element.code; values = ascending_by value_name (values_in section.details) })

module _ (dir : Parts) (directory : IsDirectory dir) where
  base_list : (element : ElementDef) (list : CodeList) → named_in list_name dir.lists (element_name element) ≡ Some list → IsListLeft element list
  base_list element list found =
      let is = named-is list_name (element_name element) dir.lists list found in
      record {
        named = (bytes_eq-Decides (list_name list) (element_name element)).0 is.1;
        formed = λ code. passes_at is_list_formed dir.lists directory.forms.lists list is.0;
        once = none-at (λ l. twice_in value_name l.values) dir.lists (fault-free dir directory.faultless).twice.listed list is.0;
        order = all_has (λ l. IsAscendingBy value_name l.values) dir.lists list directory.ordered.codes is.0;
      }

  section_list : (element : ElementDef) (section : Section) → IsFor dir OfCodes (element_name element) (Some section)
      → IsListLeft element (record { element = element.code; values = ascending_by value_name (values_in section.details) })
  section_list element section is =
      let apart = values_apart section.details is.2.apart in
      let order = ascending_by-ascending value_name (values_in section.details) apart in
      let formed = values_formed dir OfCodes (element_name element) section.details (section_details dir OfCodes (element_name element) section is) in
      record {
        named = refl;
        formed = λ code. and_from (is_element_code (element_name element)) _ code (all_pass is_code_value (ascending_by value_name (values_in section.details))
            (λ value has. passes_at is_code_value (values_in section.details) formed value ((same-ascending_by value_name (values_in section.details)).back value has)));
        once = none-from-apart value_name _ (apart-from-ascending value_name _ order);
        order = pairs-from-ascending value_name _ order;
      }

  left_by : (element : ElementDef) (found : Option Section) → IsFor dir OfCodes (element_name element) found → (list : CodeList) → list_by dir element found ≡ Some list
      → IsListLeft element list
  left_by element None is list left = base_list element list left
  left_by element (Some section) is list left = subst (IsListLeft element) (same_Some _ list left) (section_list element section is)

  section_strict : (element : ElementDef) (section : Section) → IsFor dir OfCodes (element_name element) (Some section)
      → (base : Option CodeList) → named_in list_name dir.lists (element_name element) ≡ base
      → IsStricterList base (Some (record { element = element.code; values = ascending_by value_name (values_in section.details) }))
  section_strict element section is None found = tt
  section_strict element section is (Some base) found =
      let there = values_there dir OfCodes (element_name element) base found section.details (section_details dir OfCodes (element_name element) section is) in
      all-from-members (Contains base.values) (ascending_by value_name (values_in section.details))
      (λ value has. all_has (Contains base.values) (values_in section.details) value there ((same-ascending_by value_name (values_in section.details)).back value has))

  strict_by : (element : ElementDef) (found : Option Section) → IsFor dir OfCodes (element_name element) found
      → IsStricterList (named_in list_name dir.lists (element_name element)) (list_by dir element found)
  strict_by element None is = list_itself (named_in list_name dir.lists (element_name element))
  strict_by element (Some section) is = section_strict element section is (named_in list_name dir.lists (element_name element)) refl

  module _ (sections : List Section) (each : All (IsNarrowing dir) sections) where
    pub list_is : (element : ElementDef) (list : CodeList) → list_left sections dir element ≡ Some list → IsListLeft element list
    list_is element list left =
        left_by element (find (is_section_of OfCodes (element_name element)) sections) (found_for dir OfCodes (element_name element) sections each) list left

    pub list_strict : (element : ElementDef) → IsStricterList (named_in list_name dir.lists (element_name element)) (list_left sections dir element)
    list_strict element =
        strict_by element (find (is_section_of OfCodes (element_name element)) sections) (found_for dir OfCodes (element_name element) sections each)
