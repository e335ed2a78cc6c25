-- A local error of an element names it, and one of the segment as a whole is at element 0.
use Rattle.std.proofs.Common.{◌≡◌, ℕ, zero, suc, ◌+◌, ◌-◌, ◌≤◌, Bool, true, false, Option, Some, None, List, map, arith, max, length, refl, le-leb}
use Rattle.std.specs.Prelude.{filter, nat_le, slice_get}
use Rattle.std.specs.List.{flat_map, range_with_len}
use Rattle.edi_tables.specs.declared.segment.ItemDef.{ItemDef}
use Rattle.error_ledger.specs.Kinds.{is_of_element, is_of_segment, number_of}
use Rattle.error_ledger.specs.declared.kind.Kind.{Kind}
use Rattle.error_ledger.specs.declared.kind.Kind.TheVariants.{BadTag, UnknownSegment}
use Rattle.dir_compile.specs.declared.parts.Parts.{Parts}
use Rattle.seg_lexer.specs.Fields.{Component}
use Rattle.seg_lexer.specs.Tag.{tag_of}
use Rattle.seg_lexer.specs.declared.context.Context.{Context}
use Rattle.element_check.specs.Local.{element_errors, elements_errors, element_kinds, error_at, component_errors_at, errors_by, errors_tagged, errors_whole, is_component_broken, is_element_broken, last_component, last_written, local_errors_of, repetitions_of}
use Rattle.element_check.specs.Rules.{SegmentRules, rules_of}
use Rattle.element_check.specs.declared.error.LocalError.{LocalError}
use Rattle.text_reading.proofs.Each.{Each, each-all, each-append, each-filter, each-flat, each-map}

each-above : (a n : ℕ) → 1 ≤ a → Each (λ k. nat_le 1 k ≡ true) (range_with_len a n)
each-above a zero low = tt
each-above a (suc n) low = (le-leb 1 a low, each-above (a + 1) n (omega arith))

abbrev IsFree : Kind → Type 0
IsFree kind = is_of_segment kind ≡ false

none_of_segment : Each IsFree element_kinds
unfolding number_of
none_of_segment = (refl, (refl, (refl, (refl, (refl, (refl, (refl, (refl, (refl, (refl, tt))))))))))

-- what holds of errors at element 0 whose kind is of no element, and of errors at an element whose kind is of no segment
module _ (P : LocalError → Type 0) (whole : (kind : Kind) → is_of_element kind ≡ false → P (error_at 0 0 kind))
    (within : (element component : ℕ) (kind : Kind) → is_of_segment kind ≡ false → nat_le 1 element ≡ true → P (error_at element component kind)) where
  element_each : (rules : SegmentRules) (item : Option ItemDef) (repetitions : List (List (List ℕ))) (element : ℕ) → nat_le 1 element ≡ true → Each P (element_errors rules item repetitions element)
  unfolding element_errors
  element_each rules item repetitions element low =
      let made : (c : ℕ) (broken : Kind → Bool) → Each P (map (error_at element c) (filter broken element_kinds)) =
      λ c broken. each-map IsFree P (error_at element c) (λ kind free. within element c kind free low) (filter broken element_kinds) (each-filter IsFree broken element_kinds none_of_segment) in
      each-append P (errors_whole rules item repetitions element) (flat_map (component_errors_at rules item repetitions element) (range_with_len 1 (last_component rules item repetitions)))
      (made 0 (is_element_broken rules item repetitions))
      (each-flat (λ c. Unit {0}) P (component_errors_at rules item repetitions element) (λ c t. made c (is_component_broken rules item repetitions c)) (range_with_len 1 (last_component rules item repetitions))
      (each-all (λ c. Unit {0}) (λ c. tt) (range_with_len 1 (last_component rules item repetitions))))

  elements_each : (rules : SegmentRules) (components : List Component) → Each P (elements_errors rules components)
  unfolding elements_errors
  elements_each rules components =
      let n : ℕ = max (length rules.items) (last_written components) in
      each-flat (λ k. nat_le 1 k ≡ true) P (λ element. element_errors rules (slice_get rules.items (element - 1)) (repetitions_of components element) element)
      (λ element low. element_each rules (slice_get rules.items (element - 1)) (repetitions_of components element) element low) (range_with_len 1 n) (each-above 1 n (omega arith))

  by_each : (components : List Component) (rules : Option SegmentRules) → Each P (errors_by components rules)
  unfolding number_of
  by_each components None = (whole UnknownSegment refl, tt)
  by_each components (Some rules) = elements_each rules components

  tagged_each : (parts : Parts) (context : Context) (components : List Component) (tag : Option (List ℕ)) → Each P (errors_tagged parts context components tag)
  unfolding number_of
  tagged_each parts context components None = (whole BadTag refl, tt)
  tagged_each parts context components (Some tag) = by_each components (rules_of parts context tag)

  pub local_each : (parts : Parts) (context : Context) (components : List Component) → Each P (local_errors_of parts context components)
  unfolding local_errors_of
  local_each parts context components = tagged_each parts context components (tag_of components)
