use Rattle.std.proofs.Common.{[], sym, ◌∙◌}
use Rattle.std.proofs.lemmas.Result.{err_from_is_err_and}
use Rattle.edi_octets.specs.Left.{line_shown, cells_left}
use Rattle.dir_messages.proofs.DrawingLemmas.{breaks-rest, breaks-order, breaks-form, row-drawn}
use Rattle.dir_messages.proofs.drawing.Drawing.row_of.Goals as goal

pub returns-in_default-clause-judged : goal.returns-in_default-clause-judged
returns-in_default-clause-judged c earlier drawn =
    breaks-rest earlier (line_shown c.args.line.now) c.args.self.now c.args.position drawn c.requires.position c.in_default.ensures

pub returns-then-not-is_greater-clause-judged : goal.returns-then-not-is_greater-clause-judged
returns-then-not-is_greater-clause-judged c earlier drawn =
    breaks-order earlier (line_shown c.args.line.now) c.args.self.now c.args.position drawn c.requires.position c.in-Some.ensures.0 (sym c.is_greater.ensures ∙ c.if-not-is_greater.true)

pub returns-in_err-tag-clause-judged : goal.returns-in_err-tag-clause-judged
returns-in_err-tag-clause-judged c earlier drawn =
    let read = c.in-Some.read in
    let kinds = breaks-form earlier (line_shown c.args.line.now) c.args.self.now c.args.position drawn c.requires.position (cells_left read.middle) read.ends c.in-Some.ensures.0 (sym c.is_greater.ensures ∙ c.if-not-is_greater.false) c.in-Some.ensures.1 c.in-Some.ensures.4 in
    let p = err_from_is_err_and c.from_residual.result c.from_residual.ensures.1 in
    rw (p.1, p.2) ([], kinds ∙ c.in_err-tag.ensures.judged)

pub returns-clause-judged : goal.returns-clause-judged
returns-clause-judged c earlier drawn =
    let line = line_shown c.args.line.now in
    let read = c.in-Some.read in
    let kinds = breaks-form earlier line c.args.self.now c.args.position drawn c.requires.position (cells_left read.middle) read.ends c.in-Some.ensures.0 (sym c.is_greater.ensures ∙ c.if-not-is_greater.false) c.in-Some.ensures.1 c.in-Some.ensures.4 in
    let row = row-drawn earlier line c.args.self.now c.args.position drawn c.requires.position (cells_left read.middle) read.must read.max c.in_ok-tag.tag c.in-Some.ensures.1 c.in-Some.ensures.2 c.in-Some.ensures.3 c.in_ok-tag.ensures.judged.1 in
    record {
      sound = kinds ∙ c.in_ok-tag.ensures.judged.0;
      row = rw c.min.ensures row;
      ends = sym c.in-Some.ensures.4;
    }
