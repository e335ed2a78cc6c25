-- For bodies and their invariants: the errors of a segment as one way through its components finds them.
use Rattle.std.specs.Prelude.{ℕ, ◌+◌, ◌≡◌, ◌≤◌, ⊤, Bool, false, ◌&&◌, ◌==◌, nat_le, nat_lt, List, [], ◌∷◌, ◌++◌, map, filter, Option, Some, None, if◌then◌else◌}
use Rattle.std.specs.List.{flat_map, list_any, range_with_len}
use Rattle.dir_compile.specs.Directory.{Directory}
use Rattle.edi_tables.specs.Octets.{Octets}
use Rattle.edi_octets.specs.declared.octets.Octets.{Ghosts}
use Rattle.edi_tables.specs.Forms.{reps_of}
use Rattle.edi_tables.specs.Rows.{when}
use Rattle.edi_tables.specs.declared.element.CodeList.{CodeList}
use Rattle.edi_tables.specs.declared.element.PartDef.{PartDef}
use Rattle.edi_tables.specs.declared.segment.ItemDef.{ItemDef}
use Rattle.edi_tables.specs.declared.segment.ItemDef.TheVariants.{Alone, Composite}
use Rattle.error_ledger.specs.declared.kind.Kind.{Kind}
use Rattle.error_ledger.specs.declared.kind.Kind.TheVariants.{BadTag, UnknownSegment, TooManyElements, TooManyComponents, Missing}
use Rattle.seg_lexer.specs.Fields.{Component, unplaced}
use Rattle.seg_lexer.specs.Left.{components_left, placed_in}
use Rattle.seg_lexer.specs.declared.components.Component.{Component as ReadComponent}
use Rattle.seg_lexer.specs.declared.context.Context.{Context}
use Rattle.element_check.specs.Local.{component_count, element_errors, error_at, has_octet, is_broken_at, is_broken_whole, is_list_named, is_used, repetitions_of}
use Rattle.element_check.specs.Rules.{SegmentRules, list_of, parts_of, rules_of}
use Rattle.element_check.specs.Value.{test_results, value_kinds}
use Rattle.element_check.specs.declared.error.LocalError.{LocalError}
use Rattle.element_check.specs.declared.values.Ahead.{Ahead}

-- the values of the components at the front that belong to an element
abbrev pub front_values : ℕ → List Component → List Octets
front_values element [] = []
front_values element (x ∷ xs) = if x.element == element then x.octets ∷ front_values element xs else []

-- the components after those
abbrev pub after_front : ℕ → List Component → List Component
after_front element [] = []
after_front element (x ∷ xs) = if x.element == element then after_front element xs else x ∷ xs

-- a component belongs to a repetition of an element
abbrev pub is_of : ℕ → ℕ → Component → Bool
is_of element repetition x = x.element == element && x.repetition == repetition

-- the values of the components at the front that belong to a repetition of an element
abbrev pub front_run : ℕ → ℕ → List Component → List Octets
front_run element repetition [] = []
front_run element repetition (x ∷ xs) =
    if is_of element repetition x then x.octets ∷ front_run element repetition xs else []

-- the components after those
abbrev pub after_run : ℕ → ℕ → List Component → List Component
after_run element repetition [] = []
after_run element repetition (x ∷ xs) = if is_of element repetition x then after_run element repetition xs else x ∷ xs

-- the first component, if there is one, belongs to an element
abbrev pub is_next : ℕ → List Component → Bool
is_next element [] = false
is_next element (x ∷ xs) = x.element == element

-- the first component, if there is one, belongs to this repetition or to another element
abbrev pub IsAtRepetition : ℕ → ℕ → List Component → Type 0
IsAtRepetition element repetition [] = ⊤
IsAtRepetition element repetition (x ∷ xs) = x.element ≡ element → x.repetition ≡ repetition

-- components come in order of their elements, and within an element of its repetitions, from this one on
abbrev pub AreOrdered : ℕ → ℕ → List Component → Type 0
AreOrdered element repetition [] = ⊤
AreOrdered element repetition (x ∷ xs) =
    (element ≤ x.element) × (x.element ≡ element → repetition ≤ x.repetition) × AreOrdered x.element x.repetition xs

-- a component that was read
abbrev pub seen : {O : Type 0} {o : Ghosts O} → ReadComponent O o → Component
seen c = unplaced (placed_in c)

-- these components, after one that was read before them
abbrev pub after_read : {O : Type 0} {o : Ghosts O} → Option (ReadComponent O o) → List Component → List Component
after_read None xs = xs
after_read (Some c) xs = seen c ∷ xs

-- the components that are left
unfoldable pub components_ahead : {O : Type 0} {o : Ghosts O} → Ahead O o → List Component
components_ahead a = after_read a.read (components_left a.rest)

-- the values that are left of the repetition of an element that is read
unfoldable pub values_left : {O : Type 0} {o : Ghosts O} → ℕ → Ahead O o → List Octets
values_left element a = front_run element a.repetition (components_ahead a)

-- the components after those
unfoldable pub after_left : {O : Type 0} {o : Ghosts O} → ℕ → Ahead O o → List Component
after_left element a = after_run element a.repetition (components_ahead a)

-- the first value, or an empty one
abbrev pub first_value : List Octets → Octets
first_value [] = []
first_value (v ∷ vs) = v

-- the first of these values has an octet
abbrev pub is_first_filled : List Octets → Bool
is_first_filled values = has_octet (first_value values)

-- the values after the first
abbrev pub later_values : List Octets → List Octets
later_values [] = []
later_values (v ∷ vs) = vs

-- the errors of a component: one of each kind whose test fails
abbrev pub told_errors : ℕ → ℕ → List (Kind × Bool) → List LocalError
told_errors element component [] = []
told_errors element component (p ∷ ps) = when p.1 (error_at element component p.0) ++ told_errors element component ps

-- what the parts of an element are checked by: the rules of its segment, and whether its composite itself names the
-- list that its codes are from
pub record PartRules : Type 0 where
  pub segment : SegmentRules
  pub named : Bool

-- the same, for a segment with these rules and a composite that names a list or doesn't
abbrev pub part_rules : SegmentRules → Bool → PartRules
part_rules segment named = record { segment = segment; named = named }

-- the code list of a part: none where the composite itself names a list
abbrev pub list_for : PartRules → PartDef → Option CodeList
list_for rules part = if rules.named then None else list_of rules.segment part.code.octets

-- the errors of a value that may be empty
abbrev pub part_errors : PartRules → ℕ → ℕ → PartDef → Octets → List LocalError
part_errors rules element component part value =
    if has_octet value
    then told_errors element component (test_results rules.segment.context part.repr (list_for rules part) value)
    else when part.must (error_at element component Missing)

-- the errors of components past the last one that is defined, numbered from c
abbrev pub surplus_components : ℕ → ℕ → List Octets → List LocalError
surplus_components element c [] = []
surplus_components element c (v ∷ vs) =
    when (has_octet v) (error_at element c TooManyComponents) ++ surplus_components element (c + 1) vs

-- the errors of these parts and of what is left after them, numbered from c
abbrev pub parts_errors : PartRules → ℕ → ℕ → List PartDef → List Octets → List LocalError
parts_errors rules element c [] values = surplus_components element c values
parts_errors rules element c (part ∷ parts) values =
    part_errors rules element c part (first_value values)
    ++ parts_errors rules element (c + 1) parts (later_values values)

-- the errors of a composite: those of its parts, if any value of it is filled; else `missing`, if it is mandatory
abbrev pub composite_errors : SegmentRules → ℕ → Bool → List PartDef → List Octets → List LocalError
composite_errors rules element must parts values =
    if list_any has_octet values
    then parts_errors (part_rules rules (is_list_named parts values)) element 1 parts values
    else when must (error_at element 0 Missing)

-- the errors of a stand-alone data element: those of its one value, and each filled component after it
abbrev pub alone_errors : SegmentRules → ℕ → PartDef → List Octets → List LocalError
alone_errors rules element part values =
    part_errors (part_rules rules false) element 0 part (first_value values)
    ++ surplus_components element 2 (later_values values)

-- the errors of an element that has an item
abbrev pub item_errors : SegmentRules → ℕ → ItemDef → List Octets → List LocalError
item_errors rules element (Alone part reps) values = alone_errors rules element part values
item_errors rules element (Composite code must reps) values =
    composite_errors rules element must (parts_of rules code.octets) values

-- a component is filled, and belongs to a repetition: they are numbered from 1
abbrev pub is_filled_component : Component → Bool
is_filled_component x = nat_lt 0 x.repetition && has_octet x.octets

-- the errors of the elements past the one of this number
abbrev pub surplus_elements : ℕ → List Component → List LocalError
surplus_elements n [] = []
surplus_elements n (x ∷ xs) =
    if nat_lt n x.element && is_filled_component x
    then error_at x.element 0 TooManyElements ∷ surplus_elements x.element xs
    else surplus_elements n xs

-- the errors of the elements past the one of this number, none of which is repeated, and of which the next ones have
-- these items
abbrev pub items_errors : SegmentRules → ℕ → List ItemDef → List Component → List LocalError
items_errors rules n [] components = surplus_elements n components
items_errors rules n (item ∷ items) components =
    item_errors rules (n + 1) item (front_values (n + 1) components)
    ++ items_errors rules (n + 1) items (after_front (n + 1) components)

-- the same item, which needs a value only if this says so
abbrev pub demanded : Bool → ItemDef → ItemDef
demanded must (Alone part reps) = Alone (record part { must = must }) reps
demanded must (Composite code is_mandatory reps) = Composite code must reps

-- an item may be there once
abbrev pub is_repeatable : ItemDef → Bool
is_repeatable item = nat_le 1 (reps_of item)

-- an item may be there only once
abbrev pub is_single_item : ItemDef → Bool
is_single_item item = reps_of item == 1

-- an item needs a value
abbrev pub is_mandatory : ItemDef → Bool
is_mandatory (Alone part reps) = part.must
is_mandatory (Composite code must reps) = must

-- a repetition has a value that its item may need: a stand-alone data element its first component, a composite any
abbrev pub has_needed : ItemDef → List Octets → Bool
has_needed (Alone part reps) values = is_first_filled values
has_needed (Composite code must reps) values = is_used values

-- the kinds of errors of a repetition, by their numbers
abbrev pub repetition_kinds : List Kind
repetition_kinds = TooManyElements ∷ TooManyComponents ∷ Missing ∷ value_kinds

-- the errors of a repetition as a whole, as if it were the only one
abbrev pub repetition_errors_whole : SegmentRules → Option ItemDef → List Octets → ℕ → List LocalError
repetition_errors_whole rules item values element =
    map (error_at element 0) (filter (is_broken_whole rules item values) repetition_kinds)

-- the errors of a repetition at a component
abbrev pub repetition_errors_at : SegmentRules → Option ItemDef → List Octets → ℕ → ℕ → List LocalError
repetition_errors_at rules item values element component =
    map (error_at element component) (filter (is_broken_at rules item values component) repetition_kinds)

-- the errors of a repetition, as if it were the only one
unfoldable pub repetition_errors : SegmentRules → Option ItemDef → List Octets → ℕ → List LocalError
repetition_errors rules item values element =
    repetition_errors_whole rules item values element
    ++ flat_map (repetition_errors_at rules item values element) (range_with_len 1 (component_count rules item values))

-- the errors of the elements past the one of this number, of which the next ones have these items, each with all its
-- repetitions
abbrev pub repeated_errors : SegmentRules → ℕ → List ItemDef → List Component → List LocalError
repeated_errors rules n [] components = surplus_elements n components
repeated_errors rules n (item ∷ items) components =
    element_errors rules (Some item) (repetitions_of components (n + 1)) (n + 1)
    ++ repeated_errors rules (n + 1) items (after_front (n + 1) components)

-- the errors of a segment whose tag has these rules, by its components after the tag field
abbrev pub errors_ruled : List Component → Option SegmentRules → List LocalError
errors_ruled elements None = error_at 0 0 UnknownSegment ∷ []
errors_ruled elements (Some rules) = repeated_errors rules 0 rules.items elements

-- the errors of a segment that has a tag or none, by its components after the tag field
abbrev pub errors_past : Directory → Context → List Component → Option Octets → List LocalError
errors_past parts context elements None = error_at 0 0 BadTag ∷ []
errors_past parts context elements (Some tag) = errors_ruled elements (rules_of parts context tag)
