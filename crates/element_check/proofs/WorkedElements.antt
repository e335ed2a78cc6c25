-- Worked segments, each computed by hand first: the local errors that the definitions give, by a small directory.
use Rattle.std.proofs.Common.{◌≡◌, ℕ, true, false, List, [], ◌∷◌, refl}
use Rattle.std.specs.Prelude.{Some, codes}
use Rattle.edi_tables.specs.declared.element.Class.TheVariants.{N, An}
use Rattle.error_ledger.specs.declared.kind.Kind.TheVariants.{BadTag, UnknownSegment, TooManyElements, TooManyComponents, Missing, Repertoire, WrongType, Decimal, TooLong, TooShort, Code, TooManyRepetitions}
use Rattle.edi_tables.specs.declared.segment.ItemDef.TheVariants.{Composite}
use Rattle.dir_compile.specs.declared.parts.Parts.{Parts}
use Rattle.seg_lexer.specs.Fields.{components_of, fields_of, separators_of, stretches}
use Rattle.seg_lexer.specs.Stretch.{places_that}
use Rattle.seg_lexer.specs.Released.{is_released, run_before, value_of}
use Rattle.seg_lexer.specs.Service.{default_service}
use Rattle.seg_lexer.specs.Tag.{tag_of}
use Rattle.seg_lexer.specs.declared.service.Service.{Service}
use Rattle.seg_lexer.specs.declared.context.Level.{Level}
use Rattle.seg_lexer.specs.declared.context.Level.TheVariants.{A, B}
use Rattle.service_tables.specs.ServiceTables.{C, M, alone, composite, exactly, part, service_items_of, service_parts_of, up_to}
use Rattle.element_check.specs.Local.{element_errors, elements_errors, error_at, local_errors_of, repetitions_of}
use Rattle.element_check.specs.Repertoire.{is_in_level_a}
use Rattle.element_check.specs.Rules.{list_of, parts_of, rules_of}
use Rattle.element_check.specs.Value.{is_decimal}
use Rattle.element_check.specs.declared.error.LocalError.{LocalError}

-- a directory of five segments, two composites and one code list
abbrev directory : Parts
directory = record {
  version = codes "D";
  release = codes "96A";
  agency = codes "UN";
  elements = [];
  lists = record { element = record { octets = codes "1001" }; values = codes "220" ∷ codes "380" ∷ [] } ∷ [];
  composites =
      record { code = record { octets = codes "C002" }; parts = part (codes "1001") An (up_to 3) C ∷ part (codes "1131") An (up_to 3) C ∷ [] }
      ∷ record { code = record { octets = codes "C507" }; parts = part (codes "2005") An (up_to 3) M ∷ part (codes "2380") An (up_to 35) C ∷ part (codes "2379") An (exactly 3) C ∷ [] }
      ∷ [];
  segments =
      record { tag = record { octets = codes "BGM" }; items = composite (codes "C002") C ∷ alone (codes "1004") An (up_to 35) C ∷ alone (codes "1225") An (up_to 3) C ∷ [] }
      ∷ record { tag = record { octets = codes "DTM" }; items = composite (codes "C507") M ∷ [] }
      ∷ record { tag = record { octets = codes "LIN" }; items = alone (codes "1082") N (up_to 6) C ∷ [] }
      ∷ record { tag = record { octets = codes "ALI" }; items = Composite (record { octets = codes "C002" }) false 2 ∷ [] }
      ∷ record { tag = record { octets = codes "FTX" }; items = Composite (record { octets = codes "C507" }) true 2 ∷ [] }
      ∷ [];
  messages = [];
}

-- the errors of a segment at a level, in a version of the syntax
abbrev errors_at : Level → ℕ → List ℕ → List LocalError
errors_at level version segment =
    local_errors_of directory (record { service = default_service; level = level; version = version }) (components_of (separators_of default_service) segment)

-- the same in version 3
abbrev errors_in : Level → List ℕ → List LocalError
errors_in level segment = errors_at level 3 segment

-- neither `-` nor a mark counts in the length of a number
errors-number : errors_in B (codes "LIN+-12,5000") ≡ []
unfolding local_errors_of elements_errors element_errors rules_of parts_of list_of is_in_level_a is_decimal service_items_of service_parts_of tag_of fields_of value_of places_that stretches is_released run_before
errors-number = refl

-- a mark that no digit follows
errors-open_mark : errors_in B (codes "LIN+12.") ≡ error_at 1 0 Decimal ∷ []
unfolding local_errors_of elements_errors element_errors rules_of parts_of list_of is_in_level_a is_decimal service_items_of service_parts_of tag_of fields_of value_of places_that stretches is_released run_before
errors-open_mark = refl

-- a letter in a number: no further test of its form
errors-letter : errors_in B (codes "LIN+1A") ≡ error_at 1 0 WrongType ∷ []
unfolding local_errors_of elements_errors element_errors rules_of parts_of list_of is_in_level_a is_decimal service_items_of service_parts_of tag_of fields_of value_of places_that stretches is_released run_before
errors-letter = refl

-- seven digits, where six are the most
errors-long_number : errors_in B (codes "LIN+-1234,567") ≡ error_at 1 0 TooLong ∷ []
unfolding local_errors_of elements_errors element_errors rules_of parts_of list_of is_in_level_a is_decimal service_items_of service_parts_of tag_of fields_of value_of places_that stretches is_released run_before
errors-long_number = refl

-- four octets, where three are the most
errors-long : errors_in B (codes "BGM+220+PO7+1234") ≡ error_at 3 0 TooLong ∷ []
unfolding local_errors_of elements_errors element_errors rules_of parts_of list_of is_in_level_a is_decimal service_items_of service_parts_of tag_of fields_of value_of places_that stretches is_released run_before
errors-long = refl

-- a code that the list doesn't have
errors-code : errors_in B (codes "BGM+999+1") ≡ error_at 1 1 Code ∷ []
unfolding local_errors_of elements_errors element_errors rules_of parts_of list_of is_in_level_a is_decimal service_items_of service_parts_of tag_of fields_of value_of places_that stretches is_released run_before
errors-code = refl

-- the composite itself names a list
errors-named_list : errors_in B (codes "BGM+999:ZZZ+1") ≡ []
unfolding local_errors_of elements_errors element_errors rules_of parts_of list_of is_in_level_a is_decimal service_items_of service_parts_of tag_of fields_of value_of places_that stretches is_released run_before
errors-named_list = refl

-- a mandatory composite of which no component is filled
errors-no_composite : errors_in B (codes "DTM+:") ≡ error_at 1 0 Missing ∷ []
unfolding local_errors_of elements_errors element_errors rules_of parts_of list_of is_in_level_a is_decimal service_items_of service_parts_of tag_of fields_of value_of places_that stretches is_released run_before
errors-no_composite = refl

-- a mandatory component is empty, and another is filled
errors-no_component : errors_in B (codes "DTM+:1996:1") ≡ error_at 1 1 Missing ∷ error_at 1 3 TooShort ∷ []
unfolding local_errors_of elements_errors element_errors rules_of parts_of list_of is_in_level_a is_decimal service_items_of service_parts_of tag_of fields_of value_of places_that stretches is_released run_before
errors-no_component = refl

-- of two components past the last one, the filled one; and an element past the last one
errors-surplus : errors_in B (codes "DTM+2:1:102::X++Y") ≡ error_at 1 5 TooManyComponents ∷ error_at 3 0 TooManyElements ∷ []
unfolding local_errors_of elements_errors element_errors rules_of parts_of list_of is_in_level_a is_decimal service_items_of service_parts_of tag_of fields_of value_of places_that stretches is_released run_before
errors-surplus = refl

-- level A has no small letters
errors-letters_a : errors_in A (codes "BGM++a") ≡ error_at 2 0 Repertoire ∷ []
unfolding local_errors_of elements_errors element_errors rules_of parts_of list_of is_in_level_a is_decimal service_items_of service_parts_of tag_of fields_of value_of places_that stretches is_released run_before
errors-letters_a = refl

-- level B has them
errors-letters_b : errors_in B (codes "BGM++a") ≡ []
unfolding local_errors_of elements_errors element_errors rules_of parts_of list_of is_in_level_a is_decimal service_items_of service_parts_of tag_of fields_of value_of places_that stretches is_released run_before
errors-letters_b = refl

-- a service segment has no code lists: its elements are tested all the same
errors-service : errors_in B (codes "UNT+x+") ≡ error_at 1 0 WrongType ∷ error_at 2 0 Missing ∷ []
unfolding local_errors_of elements_errors element_errors rules_of parts_of list_of is_in_level_a is_decimal service_items_of service_parts_of tag_of fields_of value_of places_that stretches is_released run_before
errors-service = refl

-- no tag
errors-tag : errors_in B (codes "bgm+1") ≡ error_at 0 0 BadTag ∷ []
unfolding local_errors_of elements_errors element_errors rules_of parts_of list_of is_in_level_a is_decimal service_items_of service_parts_of tag_of fields_of value_of places_that stretches is_released run_before
errors-tag = refl

-- a tag that nothing defines
errors-unknown : errors_in B (codes "XYZ+1") ≡ error_at 0 0 UnknownSegment ∷ []
unfolding local_errors_of elements_errors element_errors rules_of parts_of list_of is_in_level_a is_decimal service_items_of service_parts_of tag_of fields_of value_of places_that stretches is_released run_before
errors-unknown = refl

-- a date has six digits in version 3
errors-group_date : errors_at B 3 (codes "UNG+ORDERS+A+B+19960105:0930+1+UN+D:96A") ≡ error_at 4 1 TooLong ∷ []
unfolding local_errors_of elements_errors element_errors rules_of parts_of list_of is_in_level_a is_decimal service_items_of service_parts_of tag_of fields_of value_of places_that stretches is_released run_before
errors-group_date = refl

-- and eight in version 4
errors-group_date_of_version_4 : errors_at B 4 (codes "UNG+ORDERS+A+B+19960105:0930+1+UN+D:96A") ≡ []
unfolding local_errors_of elements_errors element_errors rules_of parts_of list_of is_in_level_a is_decimal service_items_of service_parts_of tag_of fields_of value_of places_that stretches is_released run_before
errors-group_date_of_version_4 = refl

-- where six are too few
errors-date_of_version_4 : errors_at B 4 (codes "UNB+UNOB:4+A+B+960105:0930+R") ≡ error_at 4 1 TooShort ∷ []
unfolding local_errors_of elements_errors element_errors rules_of parts_of list_of is_in_level_a is_decimal service_items_of service_parts_of tag_of fields_of value_of places_that stretches is_released run_before
errors-date_of_version_4 = refl

-- service characters with a repetition separator, `*`
abbrev repeating : Service
repeating = record default_service { repetition = Some 42 }

-- the errors of a segment in version 4
abbrev errors_repeated : List ℕ → List LocalError
errors_repeated segment =
    local_errors_of directory (record { service = repeating; level = B; version = 4 }) (components_of (separators_of repeating) segment)

-- the values of each repetition, of which the second has none
repetitions-three : repetitions_of (components_of (separators_of repeating) (codes "LIN+1:2**3")) 1 ≡ (codes "1" ∷ codes "2" ∷ []) ∷ ([] ∷ []) ∷ (codes "3" ∷ []) ∷ []
unfolding fields_of value_of places_that stretches is_released run_before
repetitions-three = refl

-- an element that isn't written has one repetition, without values
repetitions-none : repetitions_of (components_of (separators_of repeating) (codes "LIN+1*2")) 2 ≡ [] ∷ []
unfolding fields_of value_of places_that stretches is_released run_before
repetitions-none = refl

-- two repetitions where one is the most, with a type that is told before that
errors-repeated : errors_repeated (codes "LIN+1A*2") ≡ error_at 1 0 WrongType ∷ error_at 1 0 TooManyRepetitions ∷ []
unfolding local_errors_of elements_errors element_errors rules_of parts_of list_of is_in_level_a is_decimal service_items_of service_parts_of tag_of fields_of value_of places_that stretches is_released run_before
errors-repeated = refl

-- a repetition that isn't used is none too many
errors-unused_repetition : errors_repeated (codes "LIN+1*") ≡ []
unfolding local_errors_of elements_errors element_errors rules_of parts_of list_of is_in_level_a is_decimal service_items_of service_parts_of tag_of fields_of value_of places_that stretches is_released run_before
errors-unused_repetition = refl

-- a surplus component of a repetition comes after what is wrong with the element as a whole
errors-surplus_of_repetition : errors_repeated (codes "LIN+1:X*2") ≡ error_at 1 0 TooManyRepetitions ∷ error_at 1 2 TooManyComponents ∷ []
unfolding local_errors_of elements_errors element_errors rules_of parts_of list_of is_in_level_a is_decimal service_items_of service_parts_of tag_of fields_of value_of places_that stretches is_released run_before
errors-surplus_of_repetition = refl

-- a mandatory element that its second repetition fills
errors-second_filled : errors_repeated (codes "FTX+*2") ≡ []
unfolding local_errors_of elements_errors element_errors rules_of parts_of list_of is_in_level_a is_decimal service_items_of service_parts_of tag_of fields_of value_of places_that stretches is_released run_before
errors-second_filled = refl

-- and one that none fills
errors-none_filled : errors_repeated (codes "FTX+*:") ≡ error_at 1 0 Missing ∷ []
unfolding local_errors_of elements_errors element_errors rules_of parts_of list_of is_in_level_a is_decimal service_items_of service_parts_of tag_of fields_of value_of places_that stretches is_released run_before
errors-none_filled = refl

-- a mandatory component that one of two repetitions lacks
errors-one_lacks : errors_repeated (codes "FTX+2*:1") ≡ error_at 1 1 Missing ∷ []
unfolding local_errors_of elements_errors element_errors rules_of parts_of list_of is_in_level_a is_decimal service_items_of service_parts_of tag_of fields_of value_of places_that stretches is_released run_before
errors-one_lacks = refl

-- a third repetition, where two are the most
errors-third : errors_repeated (codes "FTX+2*2*2") ≡ error_at 1 0 TooManyRepetitions ∷ []
unfolding local_errors_of elements_errors element_errors rules_of parts_of list_of is_in_level_a is_decimal service_items_of service_parts_of tag_of fields_of value_of places_that stretches is_released run_before
errors-third = refl

-- a list that is named in one repetition is named in no other
errors-named_once : errors_repeated (codes "ALI+999:ZZZ*998") ≡ error_at 1 1 Code ∷ []
unfolding local_errors_of elements_errors element_errors rules_of parts_of list_of is_in_level_a is_decimal service_items_of service_parts_of tag_of fields_of value_of places_that stretches is_released run_before
errors-named_once = refl

-- one error of two repetitions is told once
errors-told_once : errors_repeated (codes "ALI+999*998") ≡ error_at 1 1 Code ∷ []
unfolding local_errors_of elements_errors element_errors rules_of parts_of list_of is_in_level_a is_decimal service_items_of service_parts_of tag_of fields_of value_of places_that stretches is_released run_before
errors-told_once = refl

-- errors come in order of components, over all repetitions
errors-in_order : errors_repeated (codes "ALI+220:1234*999") ≡ error_at 1 1 Code ∷ error_at 1 2 TooLong ∷ []
unfolding local_errors_of elements_errors element_errors rules_of parts_of list_of is_in_level_a is_decimal service_items_of service_parts_of tag_of fields_of value_of places_that stretches is_released run_before
errors-in_order = refl

-- an element past the last item is told once, and its repetitions aren't
errors-surplus_repeated : errors_repeated (codes "LIN+1+*X*Y") ≡ error_at 2 0 TooManyElements ∷ []
unfolding local_errors_of elements_errors element_errors rules_of parts_of list_of is_in_level_a is_decimal service_items_of service_parts_of tag_of fields_of value_of places_that stretches is_released run_before
errors-surplus_repeated = refl

-- a released separator parts nothing
errors-released : errors_repeated (codes "LIN+1?*2") ≡ error_at 1 0 WrongType ∷ []
unfolding local_errors_of elements_errors element_errors rules_of parts_of list_of is_in_level_a is_decimal service_items_of service_parts_of tag_of fields_of value_of places_that stretches is_released run_before
errors-released = refl
