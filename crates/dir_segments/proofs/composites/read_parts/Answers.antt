use Rattle.std.proofs.Common.{◌≡◌, ℕ, true, length, Vec, Global, sym, ap, ◌∙◌, [], ◌∷◌, ◌++◌, rules}
use Rattle.std.proofs.lemmas.Result.{err_from_is_err_and}
use Rattle.edi_tables.specs.declared.element.PartDef.{PartDef}
use Rattle.edi_octets.specs.Left.{line_shown, body_left}
use Rattle.dir_segments.specs.Composites.{part_lines, parts_in}
use Rattle.edi_octets.specs.Profile.{position_of}
use Rattle.dir_segments.specs.Parts.{is_item_line, fields_past_position, part_in, part_faults, count_faults}
use Rattle.dir_segments.proofs.StopLemmas.{placed, placed_none, placed_value}
use Rattle.dir_segments.proofs.FrontLemmas.{read_more, read_stops}
use Rattle.dir_segments.proofs.PartLemmas.{part_lines-item}
use Rattle.dir_segments.proofs.composites.read_parts.Goals as goal

pub returns-in_err-position : goal.returns-in_err-position
returns-in_err-position c =
    let err = err_from_is_err_and c.from_residual.result c.from_residual.ensures.1 in
    let body = body_left c.args.entry.now.body in
    let line = line_shown c.in-Some.line in
    let later = body_left c.next.new.self in
    let item : is_item_line line ≡ true = sym c.is_item_line.ensures ∙ c.if-not-is_item_line.false in
    let here = ap part_lines c.in-Some.ensures.steps ∙ part_lines-item line later item in
    let tail = count_faults (line_shown c.args.entry.now.head) (length (part_lines body)) in
    rw (err.1, err.2) (read_stops part_faults position_of (λ l. part_in (fields_past_position l)) placed (λ (parts : Vec PartDef Global). parts.items) c.in_err-position.field-0.0 (part_lines body) (part_lines (body_left c.loop-line.line-iterator)) line (part_lines later) c.loop-line.before c.loop-line.parts.items tail (position_of line, part_in (fields_past_position line)) (parts_in body) c.loop-line.invariant here c.in_err-position.ensures)

pub loop-line-preserved : goal.loop-line-preserved
loop-line-preserved c =
    let body = body_left c.args.entry.now.body in
    let line = line_shown c.in-Some.line in
    let later = body_left c.next.new.self in
    let item : is_item_line line ≡ true = sym c.is_item_line.ensures ∙ c.if-not-is_item_line.false in
    let here = ap part_lines c.in-Some.ensures.steps ∙ part_lines-item line later item in
    let read : ℕ × PartDef = (c.in_ok-position.position, c.in_ok-position.part) in
    let faults = part_faults c.loop-line.before line in
    let none = placed_none read faults (position_of line) (part_in (fields_past_position line)) c.in_ok-position.ensures in
    let value = placed_value read faults (position_of line) (part_in (fields_past_position line)) c.in_ok-position.ensures in
    let pushed : c.push.new.self.items ≡ c.loop-line.parts.items ++ c.in_ok-position.part ∷ [] = search rules in
    rw pushed (read_more part_faults position_of (λ l. part_in (fields_past_position l)) (part_lines body) (part_lines (body_left c.loop-line.line-iterator)) line (part_lines later) c.loop-line.before c.loop-line.parts.items c.in_ok-position.position c.in_ok-position.part c.loop-line.invariant here none value.0 value.1)
