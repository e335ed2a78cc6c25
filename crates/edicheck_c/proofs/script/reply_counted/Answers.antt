use Rattle.std.proofs.Common.{Some}
use Rattle.edi_ports.specs.MemSource.{faults_of, rest_of}
use Rattle.script_answers.specs.Ran.{Ran}
use Rattle.script_answers.proofs.EditLemmas.{edit_answered}
use Rattle.edicheck_c.proofs.ReplyLemmas.{done_replied, stopped_replied}
use Rattle.edicheck_c.proofs.script.reply_counted.Goals as goal

pub returns-in-Done : goal.returns-in-Done
returns-in-Done g c =
    let ran : Ran = record {
      input_before = record { octets = Some (rest_of c.in_ok-input.input); faults = faults_of c.in_ok-input.input };
      input_after = record { octets = Some (rest_of c.answer_script.new.input); faults = faults_of c.answer_script.new.input };
      sink_before = record { octets = Some c.new-replies.result.octets; faults = c.new-replies.result.faults };
      sink_after = record { octets = Some c.answer_script.new.out.octets; faults = c.answer_script.new.out.faults };
      status = c.answer_script.result;
    } in
    done_replied c.args.directory.now c.args.text.now c.args.script.now c.into_octets.result ran c.printing.result
    (record {
      answered = edit_answered c.in_ok-engine.engine c.new-editor.result c.args.directory.now c.args.text.now ran c.in_ok-engine.ensures.opened c.new-editor.ensures c.answer_script.ensures.run;
      input = c.in_ok-input.ensures;
      empty = c.new-replies.ensures;
      put = c.into_octets.ensures;
      ended = c.in-Done.is;
    })
    c.printing.ensures

pub returns-in-BadScript : goal.returns-in-BadScript
returns-in-BadScript g c =
    let ran : Ran = record {
      input_before = record { octets = Some (rest_of c.in_ok-input.input); faults = faults_of c.in_ok-input.input };
      input_after = record { octets = Some (rest_of c.answer_script.new.input); faults = faults_of c.answer_script.new.input };
      sink_before = record { octets = Some c.new-replies.result.octets; faults = c.new-replies.result.faults };
      sink_after = record { octets = Some c.answer_script.new.out.octets; faults = c.answer_script.new.out.faults };
      status = c.answer_script.result;
    } in
    stopped_replied c.args.directory.now c.args.text.now c.args.script.now c.into_octets-in-BadScript.result ran c.printing-in-BadScript.result
    (record {
      answered = edit_answered c.in_ok-engine.engine c.new-editor.result c.args.directory.now c.args.text.now ran c.in_ok-engine.ensures.opened c.new-editor.ensures c.answer_script.ensures.run;
      input = c.in_ok-input.ensures;
      empty = c.new-replies.ensures;
      put = c.into_octets-in-BadScript.ensures;
      ended = c.in-BadScript.is;
    })
    c.printing-in-BadScript.ensures
