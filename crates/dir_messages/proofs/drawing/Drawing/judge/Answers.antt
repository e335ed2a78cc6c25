use Rattle.std.proofs.Common.{◌≡◌, false, sym, ◌∙◌}
use Rattle.std.specs.List.{filter}
use Rattle.edi_octets.specs.Left.{line_shown}
use Rattle.dir_messages.specs.Message.{is_type_line, is_table_line}
use Rattle.dir_messages.proofs.DrawingLemmas.{no_type_line, judges-fault, judges-drawn}
use Rattle.dir_messages.proofs.drawing.Drawing.judge.Goals as goal

pub returns-in_ok-push-in-Ok : goal.returns-in_ok-push-in-Ok
returns-in_ok-push-in-Ok c earlier drawn =
    let line = line_shown c.args.line.now in
    let text : is_type_line line ≡ false = no_type_line line c.type_name.result c.type_name.ensures (sym c.is_some.ensures ∙ c.if-is_some.false) in
    judges-drawn earlier line c.args.self.now c.push.new.self c.in-Some.position c.in-Ok.drawn text c.in-Some.ensures.0 drawn (c.in-Ok.ensures.judged (filter is_table_line earlier) drawn) c.in_ok-push-in-Ok.ensures c.in-Some.ensures.1

pub returns-in-Err : goal.returns-in-Err
returns-in-Err c earlier drawn =
    let line = line_shown c.args.line.now in
    let text : is_type_line line ≡ false = no_type_line line c.type_name.result c.type_name.ensures (sym c.is_some.ensures ∙ c.if-is_some.false) in
    rw c.at-in-Err.ensures (judges-fault earlier line c.in-Err.kind text c.in-Some.ensures.0 (c.in-Err.ensures.judged (filter is_table_line earlier) drawn))
