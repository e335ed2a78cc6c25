-- Parts in ascending order of names.
use Rattle.std.specs.Prelude.{◌≡◌, List, [], ◌∷◌, All, IsPermutation}
use Rattle.edi_tables.specs.Octets.{Octets}
use Rattle.edi_tables.specs.declared.element.CodeList.{CodeList}
use Rattle.dir_compile.specs.declared.parts.Parts.{Parts}
use Rattle.edi_tables.specs.Ascending.{IsAscendingBy}
use Rattle.dir_compile.specs.Compile.{element_name, list_name, composite_name, segment_name, message_name, value_name}

-- the same members, each as often, in strictly ascending octet order of their names
pub record IsAscendingOf {A : Type 0} (name : A → Octets) (given ordered : List A) : Type 0 where
  pub same : IsPermutation given ordered
  pub ascending : IsAscendingBy name ordered

-- the code list of the same element, with its codes in ascending order
pub record IsCodesOrdered (given ordered : CodeList) : Type 0 where
  pub element : ordered.element ≡ given.element
  pub values : IsAscendingOf value_name given.values ordered.values

-- the same code lists one by one, each with its codes in ascending order
abbrev pub AreCodesOrdered : List CodeList → List CodeList → Type 0
AreCodesOrdered [] [] = Unit {0}
AreCodesOrdered [] (list ∷ lists) = ⊥
AreCodesOrdered (list ∷ lists) [] = ⊥
AreCodesOrdered (given ∷ more) (ordered ∷ lists) = IsCodesOrdered given ordered × AreCodesOrdered more lists

-- the code lists in ascending order of their elements, and the codes of each in ascending order too
pub record AreListsOrdered (given ordered : List CodeList) : Type 0 where
  pub lists : List CodeList
  pub ascending : IsAscendingOf list_name given lists
  pub codes : AreCodesOrdered lists ordered

-- the same parts in order: elements, code lists, the codes of each list, composites, segments and messages
pub record IsOrdered (given ordered : Parts) : Type 0 where
  pub version : ordered.version ≡ given.version
  pub release : ordered.release ≡ given.release
  pub agency : ordered.agency ≡ given.agency
  pub elements : IsAscendingOf element_name given.elements ordered.elements
  pub lists : AreListsOrdered given.lists ordered.lists
  pub composites : IsAscendingOf composite_name given.composites ordered.composites
  pub segments : IsAscendingOf segment_name given.segments ordered.segments
  pub messages : IsAscendingOf message_name given.messages ordered.messages

-- parts that are in order already
pub record IsInOrder (parts : Parts) : Type 0 where
  pub elements : IsAscendingBy element_name parts.elements
  pub lists : IsAscendingBy list_name parts.lists
  pub codes : All (λ list. IsAscendingBy value_name list.values) parts.lists
  pub composites : IsAscendingBy composite_name parts.composites
  pub segments : IsAscendingBy segment_name parts.segments
  pub messages : IsAscendingBy message_name parts.messages
