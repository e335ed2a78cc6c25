-- The local errors of a segment: what is wrong in it by itself, whatever the other segments are.
use Rattle.std.specs.Prelude.{ℕ, ◌-◌, max, Bool, false, not, ◌&&◌, ◌==◌, List, [], ◌∷◌, ◌++◌, length, map, filter, drop, slice_get, Option, Some, None, unwrap_or, codes, if◌then◌else◌}
use Rattle.std.specs.List.{flat_map, list_all, list_any, range_with_len, zip}
use Rattle.std.specs.Str.{bytes_eq}
use Rattle.dir_compile.specs.Directory.{Directory}
use Rattle.edi_tables.specs.Octets.{Octets}
use Rattle.edi_tables.specs.declared.element.CodeList.{CodeList}
use Rattle.edi_tables.specs.declared.element.PartDef.{PartDef}
use Rattle.edi_tables.specs.declared.segment.ItemDef.{ItemDef}
use Rattle.edi_tables.specs.declared.segment.ItemDef.TheVariants.{Alone, Composite}
use Rattle.edi_tables.specs.Forms.{reps_of}
use Rattle.error_ledger.specs.declared.kind.Kind.{Kind}
use Rattle.error_ledger.specs.declared.kind.Kind.TheVariants.{BadTag, UnknownSegment, TooManyElements, TooManyComponents, Missing, TooManyRepetitions}
use Rattle.seg_lexer.specs.Fields.{Component}
use Rattle.seg_lexer.specs.Tag.{tag_of}
use Rattle.seg_lexer.specs.declared.context.Context.{Context}
use Rattle.element_check.specs.Rules.{SegmentRules, rules_of, parts_of, list_of}
use Rattle.element_check.specs.Value.{fails, value_kinds}
use Rattle.element_check.specs.declared.error.LocalError.{LocalError}

-- an error of a kind at a component of an element; component 0 is the element as a whole
abbrev pub error_at : ℕ → ℕ → Kind → LocalError
error_at element component kind = record { element = element; component = component; kind = kind }

-- a value has an octet
abbrev pub has_octet : Octets → Bool
has_octet value = not (length value == 0)

-- the values of the components of a repetition of an element, in order: component 1 is the first
abbrev pub values_in : List Component → ℕ → ℕ → List Octets
values_in components element repetition =
    map (λ x. x.octets) (filter (λ x. x.element == element && x.repetition == repetition) components)

-- the number of the last repetition of an element; an element that isn't written has one
abbrev pub last_repetition : List Component → ℕ → ℕ
last_repetition [] element = 1
last_repetition (x ∷ xs) element =
    if x.element == element then max x.repetition (last_repetition xs element) else last_repetition xs element

-- the values of each repetition of an element, in order
abbrev pub repetitions_of : List Component → ℕ → List (List Octets)
repetitions_of components element =
    map (values_in components element) (range_with_len 1 (last_repetition components element))

-- a repetition is used: a component of it has an octet
abbrev pub is_used : List Octets → Bool
is_used values = list_any has_octet values

-- the value of a component of a repetition; one that isn't written is empty
abbrev pub value_at : List Octets → ℕ → Octets
value_at values component = unwrap_or (slice_get values (component - 1)) []

-- a part of a composite says which list the codes of the composite are from (data element 1131)
abbrev pub names_list : PartDef → Bool
names_list part = bytes_eq part.code.octets (codes "1131")

-- the composite itself says where its codes are from: a component 1131 of it is filled
abbrev pub is_list_named : List PartDef → List Octets → Bool
is_list_named parts values = list_any (λ p. names_list p.0 && has_octet p.1) (zip parts values)

-- the data elements of an item, in order: the part of component 1 is the first
abbrev pub parts_in : SegmentRules → ItemDef → List PartDef
parts_in rules (Alone part reps) = part ∷ []
parts_in rules (Composite code must reps) = parts_of rules code.octets

-- a value is filled, and fails the test of a kind
abbrev pub is_failed : SegmentRules → PartDef → Option CodeList → Octets → Kind → Bool
is_failed rules part list value kind = has_octet value && fails rules.context part.repr list value kind

-- an item needs a value that a repetition lacks: a stand-alone data element its first component, a composite any one
abbrev pub is_missing : ItemDef → List Octets → Bool
is_missing (Alone part reps) values = part.must && not (has_octet (value_at values 1))
is_missing (Composite code must reps) values = must && not (is_used values)

-- a repetition breaks the rule of a kind at an element as a whole, which has this item or is past the last one
-- (the value of a stand-alone data element is tested here)
abbrev pub is_broken_whole : SegmentRules → Option ItemDef → List Octets → Kind → Bool
is_broken_whole rules None values TooManyElements = is_used values
is_broken_whole rules None values kind = false
is_broken_whole rules (Some item) values TooManyElements = false
is_broken_whole rules (Some item) values TooManyComponents = false
is_broken_whole rules (Some item) values Missing = is_missing item values
is_broken_whole rules (Some (Alone part reps)) values kind =
    is_failed rules part (list_of rules part.code.octets) (value_at values 1) kind
is_broken_whole rules (Some (Composite code must reps)) values kind = false

-- the code list that the values of a part of a composite must be in: none where the composite itself names a list
abbrev pub list_in : SegmentRules → List PartDef → List Octets → PartDef → Option CodeList
list_in rules parts values part = if is_list_named parts values then None else list_of rules part.code.octets

-- a repetition breaks the rule of a kind at a component of an element that has this item, by the part that it is and
-- its value: at one that is past the last part, or at a part of a composite
abbrev pub is_broken_part : SegmentRules → ItemDef → List Octets → Option PartDef × Octets → Kind → Bool
is_broken_part rules item values (None, value) TooManyComponents = has_octet value
is_broken_part rules item values (None, value) kind = false
is_broken_part rules (Alone alone reps) values (Some part, value) kind = false
is_broken_part rules (Composite code must reps) values (Some part, value) TooManyElements = false
is_broken_part rules (Composite code must reps) values (Some part, value) TooManyComponents = false
is_broken_part rules (Composite code must reps) values (Some part, value) Missing =
    is_used values && part.must && not (has_octet value)
is_broken_part rules (Composite code must reps) values (Some part, value) kind =
    is_failed rules part (list_in rules (parts_of rules code.octets) values part) value kind

-- a repetition breaks the rule of a kind at a component of an element, by its number; none does past the last item
abbrev pub is_broken_at : SegmentRules → Option ItemDef → List Octets → ℕ → Kind → Bool
is_broken_at rules None values component kind = false
is_broken_at rules (Some item) values component kind =
    is_broken_part rules item values (slice_get (parts_in rules item) (component - 1), value_at values component) kind

-- an item is repeated too often: a repetition after its greatest number of them is used
abbrev pub is_repeated_too_often : Option ItemDef → List (List Octets) → Bool
is_repeated_too_often None repetitions = false
is_repeated_too_often (Some item) repetitions = list_any is_used (drop (reps_of item) repetitions)

-- the rule of a kind is broken at an element as a whole, which has these repetitions: some repetition breaks it; but a
-- value is missing only where every repetition lacks it
abbrev pub is_element_broken : SegmentRules → Option ItemDef → List (List Octets) → Kind → Bool
is_element_broken rules item repetitions Missing =
    list_all (λ values. is_broken_whole rules item values Missing) repetitions
is_element_broken rules item repetitions TooManyRepetitions = is_repeated_too_often item repetitions
is_element_broken rules item repetitions kind = list_any (λ values. is_broken_whole rules item values kind) repetitions

-- the rule of a kind is broken at a component of an element, which has these repetitions: some repetition breaks it
abbrev pub is_component_broken : SegmentRules → Option ItemDef → List (List Octets) → ℕ → Kind → Bool
is_component_broken rules item repetitions component kind =
    list_any (λ values. is_broken_at rules item values component kind) repetitions

-- the kinds of errors of an element or a component, by their numbers
abbrev pub element_kinds : List Kind
element_kinds = TooManyElements ∷ TooManyComponents ∷ Missing ∷ value_kinds ++ TooManyRepetitions ∷ []

-- the errors at an element as a whole
abbrev pub errors_whole : SegmentRules → Option ItemDef → List (List Octets) → ℕ → List LocalError
errors_whole rules item repetitions element =
    map (error_at element 0) (filter (is_element_broken rules item repetitions) element_kinds)

-- the errors at a component of an element
abbrev pub component_errors_at : SegmentRules → Option ItemDef → List (List Octets) → ℕ → ℕ → List LocalError
component_errors_at rules item repetitions element component =
    map (error_at element component) (filter (is_component_broken rules item repetitions component) element_kinds)

-- how many components a repetition has: those that its item has, or those that are written, whichever are more
abbrev pub component_count : SegmentRules → Option ItemDef → List Octets → ℕ
component_count rules None values = length values
component_count rules (Some item) values = max (length (parts_in rules item)) (length values)

-- how many components an element has: those of its longest repetition
abbrev pub last_component : SegmentRules → Option ItemDef → List (List Octets) → ℕ
last_component rules item [] = 0
last_component rules item (values ∷ more) = max (component_count rules item values) (last_component rules item more)

-- the errors of an element, which has these repetitions: at the element as a whole, and then at each component
unfoldable pub element_errors : SegmentRules → Option ItemDef → List (List Octets) → ℕ → List LocalError
element_errors rules item repetitions element =
    errors_whole rules item repetitions element
    ++ flat_map (component_errors_at rules item repetitions element)
    (range_with_len 1 (last_component rules item repetitions))

-- the number of the last element that is written
abbrev pub last_written : List Component → ℕ
last_written [] = 0
last_written (x ∷ xs) = max x.element (last_written xs)

-- the errors of all elements: those that the segment has items for, or those that are written, whichever are more
unfoldable pub elements_errors : SegmentRules → List Component → List LocalError
elements_errors rules components =
    flat_map
    (λ element. element_errors rules (slice_get rules.items (element - 1)) (repetitions_of components element) element)
    (range_with_len 1 (max (length rules.items) (last_written components)))

-- the errors of a segment whose tag has these rules
abbrev pub errors_by : List Component → Option SegmentRules → List LocalError
errors_by components None = error_at 0 0 UnknownSegment ∷ []
errors_by components (Some rules) = elements_errors rules components

-- the errors of a segment that has a tag or none
abbrev pub errors_tagged : Directory → Context → List Component → Option Octets → List LocalError
errors_tagged parts context components None = error_at 0 0 BadTag ∷ []
errors_tagged parts context components (Some tag) = errors_by components (rules_of parts context tag)

-- the local errors of a segment, in order of element, component and kind: `bad-tag` alone where it has no tag,
-- `unknown-segment` alone where its tag is neither a service segment's nor in the directory,
-- and else every kind whose rule is broken, at each place
unfoldable pub local_errors_of : Directory → Context → List Component → List LocalError
local_errors_of parts context components = errors_tagged parts context components (tag_of components)
