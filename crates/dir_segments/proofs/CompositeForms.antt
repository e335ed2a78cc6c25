-- What composite files give is formed.
use Rattle.std.proofs.Common.{◌≡◌, ℕ, Bool, true, false, not, ◌==◌, ◌&&◌, ◌||◌, ◌≤◌, nat_le, nat_lt, if◌then◌else◌, Option, Some, None, is_some, Ok, List, [], ◌∷◌, ◌++◌, length, map, refl, sym, ap, ◌∙◌, arith, le-leb, ⊎_elim}
use borrow.Author.Tests.{ltb-false}
use Rattle.std.specs.List.{list_all, flat_map}
use Rattle.std.specs.Option.{option_or}
use Rattle.std.proofs.lemmas.Bool.{cases_Bool, and_parts, eqb-false}
use Rattle.std.proofs.lemmas.List.Elements.{All-map}
use Rattle.std.proofs.lemmas.List.Sums.{list_all-from_AllPass}
use Rattle.edi_tables.specs.declared.element.Code.{Code}
use Rattle.edi_tables.specs.declared.element.Repr.{Repr}
use Rattle.edi_tables.specs.declared.element.CompositeDef.{CompositeDef}
use Rattle.edi_tables.specs.Forms.{is_element_code, is_composite_code, is_repr_formed, is_count_formed, is_part_formed, is_composite_formed}
use Rattle.edi_octets.specs.declared.fault.DirFault.{DirFault}
use Rattle.edi_octets.specs.declared.fault.DirKind.{DirKind}
use Rattle.edi_octets.specs.declared.fault.DirKind.TheVariants.{BadLine, BadPosition, BadStatus, BadRepr}
use Rattle.edi_octets.specs.DirStop.{at_line}
use Rattle.edi_octets.specs.Lines.{Line, lines_of}
use Rattle.edi_octets.specs.Profile.{first_field, entries_of, with_earlier, position_of, is_greater}
use Rattle.edi_octets.specs.Head.{head_faults}
use Rattle.edi_octets.proofs.AnswerLemmas.{none_from_ok}
use Rattle.edi_octets.proofs.EachLemmas.{passes_if_made, nothing-append, All-each, passes-filter_map, length-filter_map, All-judged}
use Rattle.edi_octets.proofs.HeadLemmas.{head_faults-code}
use Rattle.edi_octets.proofs.PlainLemmas.{IsEntry, entries_of-entries}
use Rattle.edi_octets.proofs.ProfileLemmas.{repr_in-formed}
use Rattle.dir_segments.specs.Parts.{fields_past_position, last_of, is_placed, is_element_form, element_status, element_repr, element_fault, part_with, part_in, part_faults, count_faults}
use Rattle.dir_segments.specs.Composites.{part_lines, parts_faults, parts_in, composite_faults, composite_of, composites_in}
use Rattle.dir_segments.proofs.StopLemmas.{none_listed}

-- ---- parts

part_with-formed : (code : Code) (status : Option Bool) (repr : Option Repr) → is_element_code code.octets ≡ true → passes_if_made is_repr_formed repr ≡ true → passes_if_made is_part_formed (part_with code status repr) ≡ true
part_with-formed code (Some must) (Some repr) coded is = rw coded is
part_with-formed code (Some must) None coded is = refl
part_with-formed code None repr coded is = refl

pub part_in-formed : (fields : List (List ℕ)) → passes_if_made is_part_formed (part_in fields) ≡ true
part_in-formed fields =
    ⊎_elim
    (λ (form : is_element_form fields ≡ true). rw form (part_with-formed (record { octets = first_field fields }) (element_status fields) (element_repr fields) (and_parts (is_element_code (first_field fields)) (nat_le 4 (length fields)) form).0 (repr_in-formed _)))
    (λ (none : is_element_form fields ≡ false). rw none refl)
    (cases_Bool (is_element_form fields))

-- the rules on a composite's fields, and on a data element's
unfoldable pub composite_rules : Bool → Option Bool → Option DirKind
composite_rules greater status = if not greater then Some BadPosition else (if not (is_some status) then Some BadStatus else None)

element_rules : Bool → Option Bool → Option Repr → Option DirKind
element_rules greater status repr = option_or (composite_rules greater status) (if not (is_some repr) then Some BadRepr else None)

element_fault-rules : (before : Option ℕ) (line : Line) (status : Option Bool) (repr : Option Repr) → element_fault before line status repr ≡ element_rules (is_greater before (position_of line)) status repr
unfolding element_rules composite_rules
element_fault-rules before line status repr = refl

made-element : (greater : Bool) (status : Option Bool) (repr : Option Repr) (code : Code) → element_rules greater status repr ≡ None → is_some (part_with code status repr) ≡ true
unfolding element_rules composite_rules
made-element true (Some must) (Some repr) code none = refl
made-element true (Some must) None code none = cc
made-element true None repr code none = cc
made-element false status repr code none = cc

pub first_rule : (broken : Bool) (kind : DirKind) (others : Option DirKind) → (if broken then Some kind else others) ≡ None → (broken ≡ false) × (others ≡ None)
first_rule true kind others none = cc
first_rule false kind others none = (refl, none)

not-false : (b : Bool) → not b ≡ false → b ≡ true
not-false true is = refl
not-false false is = cc

pub part_in-made : (before : Option ℕ) (line : Line) (fields : List (List ℕ)) → element_fault before line (element_status fields) (element_repr fields) ≡ None → is_element_form fields ≡ true → is_some (part_in fields) ≡ true
part_in-made before line fields none form =
    rw form (made-element (is_greater before (position_of line)) (element_status fields) (element_repr fields) (record { octets = first_field fields }) (sym (element_fault-rules before line (element_status fields) (element_repr fields)) ∙ none))

-- a part line at which nothing is wrong gives a part
part_faults-made : (earlier : List Line) (line : Line) → Unit {0} → part_faults (last_of (map position_of earlier)) line ≡ [] → is_some (part_in (fields_past_position line)) ≡ true
part_faults-made earlier line given none =
    let before = last_of (map position_of earlier) in
    let fields = fields_past_position line in
    let good = is_placed line && is_element_form fields in
    let broken = element_fault before line (element_status fields) (element_repr fields) in
    let rules = first_rule (not good) BadLine broken (none_listed line (if not good then Some BadLine else broken) none) in
    part_in-made before line fields rules.1 (and_parts (is_placed line) (is_element_form fields) (not-false good rules.0)).1

-- ---- composites

between : (n : ℕ) → (n == 0) ≡ false → nat_lt 99 n ≡ false → is_count_formed n ≡ true
between n some few =
    let least : 1 ≤ n = omega (arith, eqb-false n 0 some) in
    let most : n ≤ 99 = ltb-false 99 n few in
    rw (le-leb 1 n least, le-leb n 99 most) refl

neither : (a b : Bool) (fault : DirFault) → (if a || b then fault ∷ [] else []) ≡ [] → (a ≡ false) × (b ≡ false)
neither true b fault none = cc
neither false true fault none = cc
neither false false fault none = (refl, refl)

-- the count of an entry that breaks no rule
pub counted : (head : Line) (n : ℕ) → count_faults head n ≡ [] → is_count_formed n ≡ true
counted head n none =
    let both = neither (n == 0) (nat_lt 99 n) (at_line BadLine head) none in between n both.0 both.1

composite_of-formed : (earlier : List (List Line)) (entry : List Line) → IsEntry entry → composite_faults earlier entry ≡ [] → is_composite_formed (composite_of entry) ≡ true
composite_of-formed earlier [] is none = let some = is.filled in cc
composite_of-formed earlier (head ∷ body) is none =
    let lines = part_lines body in
    let faults = nothing-append (head_faults is_composite_code earlier head) (parts_faults body ++ count_faults head (length lines)) none in
    let behind = nothing-append (parts_faults body) (count_faults head (length lines)) faults.1 in
    let code = head_faults-code is_composite_code earlier head faults.0 in
    let made = All-judged (λ (p : List Line × Line). part_faults (last_of (map position_of p.0)) p.1) (λ _. Unit {0}) (λ line. is_some (part_in (fields_past_position line)) ≡ true) part_faults-made lines (All-each (λ _. Unit {0}) (λ _. tt) lines) behind.0 in
    let many = ap is_count_formed (length-filter_map (λ line. part_in (fields_past_position line)) lines made) ∙ counted head (length lines) behind.1 in
    rw (code, many) (list_all-from_AllPass is_part_formed (parts_in body) (passes-filter_map is_part_formed (λ line. part_in (fields_past_position line)) lines (All-each (λ line. passes_if_made is_part_formed (part_in (fields_past_position line)) ≡ true) (λ line. part_in-formed (fields_past_position line)) lines)))

-- the composites of a file are formed
pub composites_in-formed : (file : List ℕ) (found : List CompositeDef) → composites_in file ≡ Ok found → list_all is_composite_formed found ≡ true
unfolding composites_in
composites_in-formed file found is =
    let entries = entries_of (lines_of file) in
    let judge = λ (p : List (List Line) × List Line). composite_faults p.0 p.1 in
    let parts = none_from_ok (flat_map judge (with_earlier entries)) (map composite_of entries) found is in
    rw parts.1
    (list_all-from_AllPass is_composite_formed (map composite_of entries)
    (All-map (λ composite. is_composite_formed composite ≡ true) composite_of entries
    (All-judged judge IsEntry (λ entry. is_composite_formed (composite_of entry) ≡ true) composite_of-formed entries (entries_of-entries file) parts.0)))
