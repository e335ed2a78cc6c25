use Rattle.std.proofs.Common.{ap}
use Rattle.run_outcome.specs.Held.{held_of}
use Rattle.script_answers.specs.Ran.{Ran, left_of_input}
use Rattle.script_answers.proofs.EditLemmas.{edit_answered, edit_in_room}
use Rattle.kept_text.specs.Reading.{Reading}
use Rattle.edicheck_core.specs.declared.words.ScriptKind.TheVariants.{Edits}
use Rattle.edicheck_core.proofs.AnsweredLemmas.{refused_in_room}
use Rattle.edicheck_core.proofs.ScriptLemmas.{script_begun}
use Rattle.edicheck_core.proofs.script.edit_counted.Goals as goal

pub returns-in-Ok-clause-run : goal.returns-in-Ok-clause-run
returns-in-Ok-clause-run g c =
    let ran : Ran = record {
      input_before = left_of_input g.I.Source c.args.input.now;
      input_after = left_of_input g.I.Source c.answer_script.new.input;
      sink_before = held_of g.O.Sink c.args.out.now;
      sink_after = held_of g.O.Sink c.answer_script.new.out;
      status = c.answer_script.result;
    } in
    script_begun Edits c.in-Ok.engine.directory c.args.directory.now c.args.octets.now ran (ap (λ (r : Reading). r.directory) c.in-Ok.ensures.opened) c.directory-directory.ensures.lawful_trees
    (edit_answered c.in-Ok.engine c.new-editor.result c.args.directory.now c.args.octets.now ran c.in-Ok.ensures.opened c.new-editor.ensures c.answer_script.ensures.run)

pub returns-in-Ok-clause-room : goal.returns-in-Ok-clause-room
returns-in-Ok-clause-room g c = λ sound.
    edit_in_room c.in-Ok.engine c.new-editor.result c.args.directory.now c.args.octets.now (g.I.Source.rest c.args.input.now) (g.O.Sink.has_room c.args.out.now) c.answer_script.result
    c.in-Ok.ensures.opened c.new-editor.ensures (c.answer_script.ensures.room sound)

pub returns-in-Err-clause-room : goal.returns-in-Err-clause-room
returns-in-Err-clause-room g c = λ sound.
    refused_in_room Edits (g.O.Sink.has_room c.args.out.now) c.args.directory.now c.args.octets.now (g.I.Source.rest c.args.input.now)
    c.memory_refused.result c.finish-in-Err.result c.memory_refused.ensures c.finish-in-Err.ensures.room
