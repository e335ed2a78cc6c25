-- What element and code files give is formed.
use Rattle.std.proofs.Common.{◌≡◌, ℕ, true, Option, Some, None, Ok, List, [], ◌∷◌, ◌++◌, get_or, map, filter, refl, sym, ◌∙◌}
use Rattle.std.specs.List.{All, AllPass, list_all, flat_map, filter_map}
use Rattle.std.proofs.lemmas.Bool.{and_parts}
use Rattle.std.proofs.lemmas.List.Elements.{All-map, All-filter, All-tail, filter_passes}
use Rattle.std.proofs.lemmas.List.Sums.{list_all-from_AllPass}
use Rattle.edi_tables.specs.declared.element.Repr.{Repr}
use Rattle.edi_tables.specs.declared.element.ElementDef.{ElementDef}
use Rattle.edi_tables.specs.declared.element.CodeList.{CodeList}
use Rattle.edi_tables.specs.Forms.{is_element_code, is_code_value, is_repr_formed, is_element_formed, is_list_formed}
use Rattle.edi_octets.specs.Lines.{Line, lines_of}
use Rattle.edi_octets.specs.Profile.{fields_of, first_field, entries_of, with_earlier}
use Rattle.edi_octets.specs.Head.{is_code_and_name, head_faults, head_field}
use Rattle.edi_octets.proofs.AnswerLemmas.{none_from_ok}
use Rattle.edi_octets.proofs.EachLemmas.{passes_if_made, nothing-append, passes-filter_map, All-judged}
use Rattle.edi_octets.proofs.HeadLemmas.{head_faults-code, is_code_and_name-parts}
use Rattle.edi_octets.proofs.PlainLemmas.{IsPlain, IsEntry, is_field_octet, entries_of-entries, fields_of-plain, first_field-plain}
use Rattle.edi_octets.proofs.ProfileLemmas.{formed-if, repr_in-formed}
use Rattle.dir_lists.specs.Elements as elements
use Rattle.dir_lists.specs.Codes as codes

-- ---- data elements

repr_after_word-formed : (fields : List (List ℕ)) → passes_if_made is_repr_formed (elements.repr_after_word fields) ≡ true
repr_after_word-formed [] = refl
repr_after_word-formed (word ∷ []) = refl
repr_after_word-formed (word ∷ field ∷ []) = repr_in-formed field
repr_after_word-formed (word ∷ field ∷ next ∷ fields) = refl

repr_of_entry-formed : (lines : List Line) → passes_if_made is_repr_formed (elements.repr_of_entry lines) ≡ true
repr_of_entry-formed [] = refl
repr_of_entry-formed (line ∷ lines) =
    formed-if (elements.is_repr_line line) (elements.repr_of_line line) (elements.repr_of_entry lines) (repr_after_word-formed (fields_of line.octets)) (repr_of_entry-formed lines)

element_with-formed : (entry : List Line) (repr : Option Repr) → is_element_code (head_field entry) ≡ true → passes_if_made is_repr_formed repr ≡ true → passes_if_made is_element_formed (elements.element_with entry repr) ≡ true
element_with-formed entry None code is = refl
element_with-formed entry (Some repr) code is = rw code is

element_of-formed : (earlier : List (List Line)) (entry : List Line) → IsEntry entry → elements.element_faults earlier entry ≡ [] → passes_if_made is_element_formed (elements.element_of entry) ≡ true
element_of-formed earlier [] is none = refl
element_of-formed earlier (head ∷ body) is none =
    let lines = flat_map (λ p. elements.body_faults p.0 p.1) (with_earlier body) in
    let parts = nothing-append (head_faults is_element_code earlier head ++ lines) (elements.end_faults head body) none in
    let code = head_faults-code is_element_code earlier head (nothing-append (head_faults is_element_code earlier head) lines parts.0).0 in
    element_with-formed (head ∷ body) (elements.repr_of_entry body) code (repr_of_entry-formed body)

-- the elements of a file are formed
pub elements_in-formed : (file : List ℕ) (found : List ElementDef) → elements.elements_in file ≡ Ok found → list_all is_element_formed found ≡ true
unfolding elements.elements_in
elements_in-formed file found is =
    let entries = entries_of (lines_of file) in
    let judge = λ (p : List (List Line) × List Line). elements.element_faults p.0 p.1 in
    let parts = none_from_ok (flat_map judge (with_earlier entries)) (filter_map elements.element_of entries) found is in
    rw parts.1
    (list_all-from_AllPass is_element_formed (filter_map elements.element_of entries)
    (passes-filter_map is_element_formed elements.element_of entries
    (All-judged judge IsEntry (λ entry. passes_if_made is_element_formed (elements.element_of entry) ≡ true) element_of-formed entries (entries_of-entries file) parts.0)))

-- ---- code lists

value_of-formed : (line : Line) → IsPlain line → codes.is_value_line line ≡ true → is_code_value (codes.value_of line) ≡ true
value_of-formed line plain is =
    let fields = fields_of line.octets in
    let whole = and_parts _ (is_code_and_name codes.is_value fields) is in
    let value : codes.is_value (first_field fields) ≡ true = (and_parts (is_code_and_name (λ _. true) fields) (codes.is_value (first_field fields)) (sym (is_code_and_name-parts codes.is_value fields) ∙ whole.1)).1 in
    rw value (list_all-from_AllPass is_field_octet (first_field fields) (first_field-plain fields (fields_of-plain line.octets plain)))

values_of-formed : (lines : List Line) → All IsPlain lines → AllPass is_code_value (codes.values_of lines)
values_of-formed lines plain =
    let kept = filter codes.is_value_line lines in
    All-map (λ value. is_code_value value ≡ true) codes.value_of kept
    (λ k d lt. value_of-formed (get_or kept k d) (All-filter codes.is_value_line IsPlain lines plain k d lt) (filter_passes codes.is_value_line lines k d lt))

list_of-formed : (earlier : List (List Line)) (entry : List Line) → IsEntry entry → codes.list_faults earlier entry ≡ [] → is_list_formed (codes.list_of entry) ≡ true
list_of-formed earlier [] is none = let some = is.filled in cc
list_of-formed earlier (head ∷ body) is none =
    let code = head_faults-code is_element_code earlier head (nothing-append (head_faults is_element_code earlier head) (flat_map (λ p. codes.body_faults p.0 p.1) (with_earlier body)) none).0 in
    rw code (list_all-from_AllPass is_code_value (codes.values_of body) (values_of-formed body (All-tail IsPlain head body is.plain)))

-- the lists of a file are formed
pub codes_in-formed : (file : List ℕ) (found : List CodeList) → codes.codes_in file ≡ Ok found → list_all is_list_formed found ≡ true
unfolding codes.codes_in
codes_in-formed file found is =
    let entries = entries_of (lines_of file) in
    let judge = λ (p : List (List Line) × List Line). codes.list_faults p.0 p.1 in
    let parts = none_from_ok (flat_map judge (with_earlier entries)) (map codes.list_of entries) found is in
    rw parts.1
    (list_all-from_AllPass is_list_formed (map codes.list_of entries)
    (All-map (λ list. is_list_formed list ≡ true) codes.list_of entries
    (All-judged judge IsEntry (λ entry. is_list_formed (codes.list_of entry) ≡ true) list_of-formed entries (entries_of-entries file) parts.0)))
