use Rattle.std.proofs.Common.{◌≡◌, true, false, Some, Vec, Global, sym, ap, ◌∙◌, [], ◌∷◌, ◌++◌, rules}
use Rattle.std.proofs.lemmas.Result.{err_from_is_err_and}
use Rattle.edi_tables.specs.declared.element.PartDef.{PartDef}
use Rattle.edi_octets.specs.Left.{line_shown, body_left}
use Rattle.edi_octets.specs.Profile.{fields_of}
use Rattle.dir_segments.specs.Parts.{is_item_line, part_in}
use Rattle.dir_segments.specs.Segments.{details_of, detail_faults, is_part_line, repeated_parts}
use Rattle.dir_segments.proofs.ItemLemmas.{details_of-detail, details_text, details_part, details_stop}
use Rattle.dir_segments.proofs.StopLemmas.{no_faults, value_given}
use Rattle.dir_segments.proofs.details.read_details.Goals as goal

pub returns-in_err-part : goal.returns-in_err-part
returns-in_err-part c =
    let err = err_from_is_err_and c.from_residual.result c.from_residual.ensures.1 in
    let line = line_shown c.in-Some.line in
    let later = body_left c.next.new.self in
    let detail : is_item_line line ≡ false = sym c.is_item_line.ensures ∙ c.if-is_item_line.false in
    let here = ap details_of c.in-Some.ensures.steps ∙ details_of-detail line later detail in
    let all = details_of (body_left c.args.behind) in
    rw (err.1, err.2) (details_stop c.args.below_composite (λ (part : PartDef). Some part) (λ (parts : Vec PartDef Global). parts.items) c.in_err-part.field-0.0 all (details_of (body_left c.loop-line.line-iterator)) line (details_of later) c.loop-line.parts.items (part_in (fields_of line.octets)) (repeated_parts all) c.loop-line.invariant here c.in_err-part.ensures)

pub loop-line-preserved-then-not-is_part_line : goal.loop-line-preserved-then-not-is_part_line
loop-line-preserved-then-not-is_part_line c =
    let line = line_shown c.in-Some.line in
    let later = body_left c.next.new.self in
    let detail : is_item_line line ≡ false = sym c.is_item_line.ensures ∙ c.if-is_item_line.false in
    let here = ap details_of c.in-Some.ensures.steps ∙ details_of-detail line later detail in
    let text : is_part_line line ≡ false = sym c.is_part_line.ensures ∙ c.if-not-is_part_line.true in
    details_text c.args.below_composite (details_of (body_left c.args.behind)) (details_of (body_left c.loop-line.line-iterator)) line (details_of later) c.loop-line.parts.items c.loop-line.invariant here text

pub loop-line-preserved : goal.loop-line-preserved
loop-line-preserved c =
    let line = line_shown c.in-Some.line in
    let later = body_left c.next.new.self in
    let detail : is_item_line line ≡ false = sym c.is_item_line.ensures ∙ c.if-is_item_line.false in
    let here = ap details_of c.in-Some.ensures.steps ∙ details_of-detail line later detail in
    let is : is_part_line line ≡ true = sym c.is_part_line.ensures ∙ c.if-not-is_part_line.false in
    let some = λ (part : PartDef). Some part in
    let faults = detail_faults c.args.below_composite line in
    let found = part_in (fields_of line.octets) in
    let none = no_faults some c.in_ok-part.part faults found c.in_ok-part.ensures in
    let value = value_given some c.in_ok-part.part faults found c.in_ok-part.ensures in
    let pushed : c.push.new.self.items ≡ c.loop-line.parts.items ++ c.in_ok-part.part ∷ [] = search rules in
    rw pushed (details_part c.args.below_composite (details_of (body_left c.args.behind)) (details_of (body_left c.loop-line.line-iterator)) line (details_of later) c.loop-line.parts.items c.in_ok-part.part c.loop-line.invariant here is none value)
