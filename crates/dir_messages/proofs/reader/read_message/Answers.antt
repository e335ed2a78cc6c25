use Rattle.std.proofs.Common.{◌≡◌, true, false, length, sym, ap, subst, arith, is_some, refl}
use Rattle.edi_tables.specs.declared.segment.MessageDef.{MessageDef}
use Rattle.edi_tables.specs.First.{IsVerdict}
use Rattle.edi_tables.specs.Forms.{is_message_formed}
use Rattle.edi_octets.specs.DirStop.{fault_in}
use Rattle.edi_octets.specs.Left.{lines_left, line_shown}
use Rattle.dir_messages.specs.Message.{is_type_line, message_in}
use Rattle.dir_messages.proofs.FormLemmas.{message_in-formed}
use Rattle.edi_octets.proofs.AnswerLemmas.{IfOk-answered}
use Rattle.dir_messages.proofs.DrawingLemmas.{no_type_line}
use Rattle.dir_messages.proofs.ReaderLemmas.{IsSought-whole, IsSought-more, sought-found, sought-nowhere}
use Rattle.dir_messages.proofs.reader.read_message.Goals as goal

pub loop-line-init : goal.loop-line-init
loop-line-init c = IsSought-whole c.args.file.now (lines_left c.of-lines.result) c.of-lines.ensures.lines

pub read_drawing-requires : goal.read_drawing-requires
read_drawing-requires c = omega (arith, c.loop-line.invariant.counted, ap length c.in-Some.ensures.steps, c.of-lines.ensures.few, ap length c.of-lines.ensures.lines)

pub returns-in-Some-type_name : goal.returns-in-Some-type_name
returns-in-Some-type_name c =
    let line = line_shown c.in-Some.line in
    let type : is_type_line line ≡ true = ap (λ o. is_some o) (sym c.in-Some-type_name.ensures) in
    let found = sought-found c.args.file.now line (lines_left c.loop-line.lines) (lines_left c.next.new.self) c.loop-line.count c.loop-line.invariant c.in-Some.ensures.steps type in
    let answers : IsVerdict (λ (m : MessageDef). m) fault_in c.read_drawing.result (message_in c.args.file.now) =
    subst (λ file. IsVerdict (λ (m : MessageDef). m) fault_in c.read_drawing.result file) (sym found) (c.read_drawing.ensures line refl (sym c.in-Some-type_name.ensures)) in
    record {
      answers = answers;
      forms = IfOk-answered (λ (m : MessageDef). m) (λ m. is_message_formed m ≡ true) c.read_drawing.result (message_in c.args.file.now) (message_in-formed c.args.file.now) answers;
    }

pub overflow_add-count : goal.overflow_add-count
overflow_add-count c = omega (arith, c.loop-line.invariant.counted, ap length c.in-Some.ensures.steps, c.of-lines.ensures.few, ap length c.of-lines.ensures.lines)

pub loop-line-preserved : goal.loop-line-preserved
loop-line-preserved c =
    let line = line_shown c.in-Some.line in
    let text : is_type_line line ≡ false = no_type_line line c.type_name.result c.type_name.ensures (ap (λ o. is_some o) c.in_default-type_name.is) in
    IsSought-more c.args.file.now line (lines_left c.loop-line.lines) (lines_left c.next.new.self) c.loop-line.count c.loop-line.invariant c.in-Some.ensures.steps text

pub returns-clause-answers : goal.returns-clause-answers
returns-clause-answers c = rw c.at.ensures (sought-nowhere c.args.file.now (lines_left c.loop-line.lines) c.loop-line.count c.loop-line.invariant c.in_default.ensures.steps.0)
