-- When a directory says no less of segments than another: of their elements, of composites and of code lists.
use Rattle.std.specs.Prelude.{◌≡◌, ◌≤◌, ⊤, true, Option, Some, None, All, Contains}
use Rattle.std.specs.List.{AllZip}
use Rattle.edi_tables.specs.Octets.{Octets}
use Rattle.edi_tables.specs.declared.element.CodeList.{CodeList}
use Rattle.edi_tables.specs.declared.element.CompositeDef.{CompositeDef}
use Rattle.edi_tables.specs.declared.element.PartDef.{PartDef}
use Rattle.edi_tables.specs.declared.segment.ItemDef.{ItemDef}
use Rattle.edi_tables.specs.declared.segment.ItemDef.TheVariants.{Alone, Composite}
use Rattle.edi_tables.specs.declared.segment.SegmentDef.{SegmentDef}
use Rattle.dir_compile.specs.declared.parts.Parts.{Parts}
use Rattle.dir_compile.specs.Compile.{composite_name, list_name, named_in, segment_name}

-- both are none, or both are there and are related
abbrev pub BothOr : {A : Type 0} → (A → A → Type 0) → Option A → Option A → Type 0
BothOr R None None = ⊤
BothOr R None (Some y) = ⊥
BothOr R (Some x) None = ⊥
BothOr R (Some x) (Some y) = R x y

-- the same data element with the same representation, and mandatory where the base's is
pub record IsStricterPart (base part : PartDef) : Type 0 where
  pub code : part.code ≡ base.code
  pub repr : part.repr ≡ base.repr
  pub must : base.must ≡ true → part.must ≡ true

-- a composite with the same components
abbrev pub IsStricterComposite : CompositeDef → CompositeDef → Type 0
IsStricterComposite base composite = AllZip IsStricterPart base.parts composite.parts

-- the same stand-alone data element, or the same composite, mandatory where the base's is, and repeated no more often
abbrev pub IsStricterItem : ItemDef → ItemDef → Type 0
IsStricterItem (Alone base most) (Alone part reps) = IsStricterPart base part × (reps ≤ most)
IsStricterItem (Alone base most) (Composite code must reps) = ⊥
IsStricterItem (Composite base must most) (Alone part reps) = ⊥
IsStricterItem (Composite base must most) (Composite code status reps) =
    (code ≡ base) × (must ≡ true → status ≡ true) × (reps ≤ most)

-- a segment with the same elements
abbrev pub IsStricterSegment : SegmentDef → SegmentDef → Type 0
IsStricterSegment base segment = AllZip IsStricterItem base.items segment.items

-- where the base has a code list there is one, and each of its values is a value of the base's
abbrev pub IsStricterList : Option CodeList → Option CodeList → Type 0
IsStricterList None found = ⊤
IsStricterList (Some base) None = ⊥
IsStricterList (Some base) (Some list) = All (Contains base.values) list.values

-- the same composites, segments and code lists by their names, none of which says less; there may be more code lists
pub record IsStricter (base parts : Parts) : Type 0 where
  pub composites : (code : Octets) → BothOr IsStricterComposite
      (named_in composite_name base.composites code) (named_in composite_name parts.composites code)
  pub segments : (tag : Octets) → BothOr IsStricterSegment
      (named_in segment_name base.segments tag) (named_in segment_name parts.segments tag)
  pub lists : (element : Octets) → IsStricterList
      (named_in list_name base.lists element) (named_in list_name parts.lists element)
