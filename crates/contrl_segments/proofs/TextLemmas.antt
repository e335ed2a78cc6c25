-- What is written of values that are lent.
use Rattle.std.proofs.Common.{◌≡◌, Bool, true, false, ◌&&◌, Some, List, [], ◌∷◌, ◌++◌, length, map, sym, ap, ◌∙◌, refl, arith}
use Rattle.std.specs.Borrow.{Bor}
use Rattle.std.specs.List.{flat_map, list_all}
use Rattle.std.proofs.lemmas.List.{append_assoc}
use Rattle.edi_tables.specs.declared.tag.Tag.{Tag}
use Rattle.contrl_segments.specs.declared.segment.WrittenValue.{WrittenValue}
use Rattle.error_ledger.specs.declared.error.ErrorLine.{ErrorLine}
use Rattle.error_ledger.specs.Kinds.{code_of}
use Rattle.contrl_segments.specs.Details.{details_of, position_of, tag_told}
use Rattle.contrl_segments.specs.Lent.{answer_lent, element_lent, value_lent}
use Rattle.contrl_segments.specs.Written.{Element, alone, element_text, elements_text, is_empty_element, is_empty_value, segment_text, trimmed, value_text, values_text}
use Rattle.contrl_segments.proofs.DecimalLemmas.{decimal-some}
use Rattle.contrl_segments.proofs.TrimLemmas.{trimmed-append}

flat_map-map : {X Y Z : Type 0} (f : Y → List Z) (g : X → Y) (xs : List X) → flat_map f (map g xs) ≡ flat_map (λ x. f (g x)) xs
flat_map-map f g [] = refl
flat_map-map f g (x ∷ xs) = ap (λ zs. f (g x) ++ zs) (flat_map-map f g xs)

pub values_text-lent : (first : WrittenValue) (later : List WrittenValue) → values_text (map value_lent (first ∷ later)) ≡ value_text (value_lent first) ++ flat_map (λ v. 58 ∷ value_text (value_lent v)) later
values_text-lent first later = ap (λ zs. value_text (value_lent first) ++ zs) (flat_map-map (λ v. 58 ∷ value_text v) value_lent later)

-- an element of which nothing is kept, and one of which some values are
pub element_text-none : (element : Element) (kept : List WrittenValue) → map value_lent kept ≡ trimmed is_empty_value element → length kept ≡ 0 → element_text element ≡ []
unfolding element_text
element_text-none element [] is none = ap values_text (sym is)
element_text-none element (k ∷ ks) is none = absurd (omega arith)

pub element_text-some : (element : Element) (kept : List WrittenValue) (first : WrittenValue) (later : List WrittenValue) → map value_lent kept ≡ trimmed is_empty_value element → kept ≡ first ∷ later
    → element_text element ≡ value_text (value_lent first) ++ flat_map (λ v. 58 ∷ value_text (value_lent v)) later
unfolding element_text
element_text-some element kept first later is some = ap values_text (sym is) ∙ (ap (λ zs. values_text (map value_lent zs)) some ∙ values_text-lent first later)

pub elements_text-append : (es fs : List Element) → elements_text (es ++ fs) ≡ elements_text es ++ elements_text fs
elements_text-append [] fs = refl
elements_text-append (e ∷ es) fs = ap (λ zs. 43 ∷ element_text e ++ zs) (elements_text-append es fs) ∙ sym (append_assoc (43 ∷ element_text e) (elements_text es) (elements_text fs))

-- the code of an error isn't empty
details-some : (e : ErrorLine) → list_all is_empty_element (details_of e) ≡ false
details-some e =
    ap (λ (b : Bool). (b && true) && (list_all is_empty_element (alone (tag_told e.kind e.tag) ∷ position_of e ∷ []))) (decimal-some (code_of e.kind))

-- so the elements of an answer with an error are those of its subject, and what is kept of the details
pub answer_text : (tag : Tag) (subject : List (Bor (List WrittenValue))) (e : ErrorLine)
    → segment_text (answer_lent tag subject (Some e)) ≡ tag.octets ++ elements_text (map element_lent subject) ++ elements_text (trimmed is_empty_element (details_of e)) ++ 39 ∷ []
unfolding segment_text
answer_text tag subject e =
    ap (λ es. tag.octets ++ elements_text es ++ 39 ∷ []) (trimmed-append is_empty_element (map element_lent subject) (details_of e) (details-some e))
    ∙ ap (λ zs. zs ++ 39 ∷ [])
    (ap (λ zs. tag.octets ++ zs) (elements_text-append (map element_lent subject) (trimmed is_empty_element (details_of e)))
    ∙ sym (append_assoc tag.octets (elements_text (map element_lent subject)) (elements_text (trimmed is_empty_element (details_of e)))))
