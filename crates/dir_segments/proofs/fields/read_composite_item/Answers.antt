use Rattle.std.proofs.Common.{rules, ◌≡◌, ◌∙◌, ◌&&◌, ℕ, List, Bor, Some, sym, ap, true, false, nat_le, length, refl}
use Rattle.std.proofs.lemmas.Bool.{and_right}
use Rattle.edi_tables.specs.Forms.{is_composite_code}
use Rattle.edi_octets.specs.Left.{cells_left}
use Rattle.edi_octets.specs.Profile.{first_field}
use Rattle.dir_segments.specs.declared.fields.CompositeItem.{CompositeItem}
use Rattle.dir_segments.specs.Parts.{field_from_end, is_composite_form}
use Rattle.dir_segments.specs.Repetitions.{is_repetition_number}
use Rattle.dir_segments.proofs.RepetitionLemmas.{is_composite_form-item, composite_with_number, composite_without_number, number_read, too_few, no_number}
use Rattle.dir_segments.proofs.fields.read_composite_item.Goals as goal
use Rattle.dir_segments.proofs.fields.read_composite_item.Goals.{in-Some, in_default, in_default-via-in-Some+else-has_fourth, in_default-via-in_default, then-not-is_composite_code-via-then-not-is_composite_code, then-not-is_composite_code-via-else-not-is_composite_code+then-not-has_third}

abbrev status_read : Bor (List ℕ) × ℕ → List ℕ
status_read p = p.0.now

abbrev number_of : Bor (List ℕ) × ℕ → ℕ
number_of p = p.1

pub returns-then-not-is_composite_code : goal.returns-then-not-is_composite_code
returns-then-not-is_composite_code c =
    let fields = cells_left c.args.fields in
    let coded : c.is_composite_code.result ≡ is_composite_code (first_field fields) = c.is_composite_code.ensures ∙ ap is_composite_code c.first_of-first.ensures in
    let none : is_composite_form fields ≡ false = elim c.then-not-is_composite_code.branch [
      | then-not-is_composite_code-via-then-not-is_composite_code w ↦
          let other : is_composite_code (first_field fields) ≡ false = sym coded ∙ w.if-not-is_composite_code.true in
          rw other refl
      | then-not-is_composite_code-via-else-not-is_composite_code+then-not-has_third w ↦
          let few : nat_le 3 (length fields) ≡ false = sym w.has_third.ensures ∙ w.if-not-has_third.true in
          rw few (and_right (is_composite_code (first_field fields)) false refl)
    ] in
    is_composite_form-item fields ∙ none

pub returns : goal.returns
returns c =
    let fields = cells_left c.args.fields in
    let coded : is_composite_code (first_field fields) ≡ true = ap is_composite_code (sym c.first_of-first.ensures) ∙ sym c.is_composite_code.ensures ∙ c.if-not-is_composite_code.false in
    let many : nat_le 3 (length fields) ≡ true = sym c.has_third.ensures ∙ c.if-not-has_third.false in
    let item : CompositeItem = record { code = c.in_ok-code.code; must = c.read_status.result; reps = c.match-read_number.reps.1 } in
    let coded_as : c.in_ok-code.code.octets ≡ first_field fields = search (rules, c.in_ok-code.ensures, c.first_of-first.ensures) in
    elim c.match-read_number.branch [
      | in-Some w ↦
          let enough : nat_le 4 (length fields) ≡ true = sym w.has_fourth.ensures ∙ w.if-has_fourth.true in
          let status = ap status_read w.reps-is ∙ c.last_three.ensures.before in
          let number : Some item.reps ≡ number_read c.last_three.result.2.now = ap (λ n. Some n) (ap number_of w.reps-is) ∙ w.in-Some.ensures in
          composite_with_number item fields c.last_three.result.2.now c.match-read_number.reps.0.now coded enough c.last_three.ensures.last status number coded_as c.read_status.ensures
      | in_default w ↦
          let status = ap status_read w.reps-is ∙ c.last_three.ensures.last in
          let none : (nat_le 4 (length fields) && is_repetition_number (field_from_end 1 fields)) ≡ false = elim w.in_default.branch [
            | in_default-via-in-Some+else-has_fourth w' ↦ too_few (nat_le 4 (length fields)) (is_repetition_number (field_from_end 1 fields)) (sym w'.has_fourth.ensures ∙ w'.if-has_fourth.false)
            | in_default-via-in_default w' ↦ no_number (nat_le 4 (length fields)) c.last_three.result.2.now (field_from_end 1 fields) c.last_three.ensures.last w'.in_default.ensures
          ] in
          composite_without_number item fields c.match-read_number.reps.0.now coded many none status coded_as c.read_status.ensures (ap number_of w.reps-is)
    ]
