use Rattle.std.proofs.Common.{◌⊎◌, Option}
use Rattle.edi_ports.specs.Faults.{HasRisen}
use Rattle.edicheck_core.specs.Due.{HasFailed}
use Rattle.edicheck_core.specs.Form.{Asked, form_of}
use Rattle.edicheck_core.specs.Inputs.{inputs_of}
use Rattle.edicheck_core.specs.Scripted.{IsAnsweredInRoom, IsAnsweredWhole}
use Rattle.edicheck_core.specs.declared.words.ScriptKind.{ScriptKind}
use Rattle.edicheck_core.specs.declared.words.ScriptKind.TheVariants.{Edits, Sessions}
use Rattle.edicheck_core.proofs.AnsweredLemmas.{told_words}
use Rattle.edicheck_core.proofs.program.run.Goals as goal

pub returns-in-Some-Script-clause-script : goal.returns-in-Some-Script-clause-script
returns-in-Some-Script-clause-script g c = λ manifest name begun asked told.
    let before = inputs_of g.S.Shelf c.args.shelf.now g.I.Source c.args.input.now in
    let now = inputs_of g.S.Shelf c.answer_text.new.shelf g.I.Source c.answer_text.new.input in
    told_words c.in-Some-Script.kind Edits c.in-Some-Script.manifest.now c.in-Some-Script.text.now manifest name (form_of c.args.words.now) (g.S.Shelf.files c.args.shelf.now) begun
    (λ (kind : ScriptKind) (asked : Option Asked). IsAnsweredWhole kind (g.I.Source.rest c.args.input.now) (HasFailed asked before now) (HasRisen (g.O.Sink.faults c.args.out.now) (g.O.Sink.faults c.answer_text.new.out)) c.answer_text.result)
    (rw c.in-Some-Script.field-0-is at c.in-Some-Script.ensures.form) asked told (λ told. c.answer_text.ensures.script begun told)

pub returns-in-Some-Script-clause-room : goal.returns-in-Some-Script-clause-room
returns-in-Some-Script-clause-room g c = λ manifest name begun asked told.
    let before = inputs_of g.S.Shelf c.args.shelf.now g.I.Source c.args.input.now in
    let now = inputs_of g.S.Shelf c.answer_text.new.shelf g.I.Source c.answer_text.new.input in
    told_words c.in-Some-Script.kind Edits c.in-Some-Script.manifest.now c.in-Some-Script.text.now manifest name (form_of c.args.words.now) (g.S.Shelf.files c.args.shelf.now) begun
    (λ (kind : ScriptKind) (asked : Option Asked). (g.I.Source.is_steady c.args.input.now × g.S.Shelf.is_steady c.args.shelf.now) ⊎ (HasFailed asked before now → ⊥)
    → IsAnsweredInRoom kind begun (g.I.Source.rest c.args.input.now) (g.O.Sink.has_room c.args.out.now) c.answer_text.result)
    (rw c.in-Some-Script.field-0-is at c.in-Some-Script.ensures.form) asked told (λ told. c.answer_text.ensures.room begun told)

pub returns-in-Some-Script-clause-session_script : goal.returns-in-Some-Script-clause-session_script
returns-in-Some-Script-clause-session_script g c = λ manifest name begun asked told.
    let before = inputs_of g.S.Shelf c.args.shelf.now g.I.Source c.args.input.now in
    let now = inputs_of g.S.Shelf c.answer_text.new.shelf g.I.Source c.answer_text.new.input in
    told_words c.in-Some-Script.kind Sessions c.in-Some-Script.manifest.now c.in-Some-Script.text.now manifest name (form_of c.args.words.now) (g.S.Shelf.files c.args.shelf.now) begun
    (λ (kind : ScriptKind) (asked : Option Asked). IsAnsweredWhole kind (g.I.Source.rest c.args.input.now) (HasFailed asked before now) (HasRisen (g.O.Sink.faults c.args.out.now) (g.O.Sink.faults c.answer_text.new.out)) c.answer_text.result)
    (rw c.in-Some-Script.field-0-is at c.in-Some-Script.ensures.form) asked told (λ told. c.answer_text.ensures.script begun told)

pub returns-in-Some-Script-clause-session_room : goal.returns-in-Some-Script-clause-session_room
returns-in-Some-Script-clause-session_room g c = λ manifest name begun asked told.
    let before = inputs_of g.S.Shelf c.args.shelf.now g.I.Source c.args.input.now in
    let now = inputs_of g.S.Shelf c.answer_text.new.shelf g.I.Source c.answer_text.new.input in
    told_words c.in-Some-Script.kind Sessions c.in-Some-Script.manifest.now c.in-Some-Script.text.now manifest name (form_of c.args.words.now) (g.S.Shelf.files c.args.shelf.now) begun
    (λ (kind : ScriptKind) (asked : Option Asked). (g.I.Source.is_steady c.args.input.now × g.S.Shelf.is_steady c.args.shelf.now) ⊎ (HasFailed asked before now → ⊥)
    → IsAnsweredInRoom kind begun (g.I.Source.rest c.args.input.now) (g.O.Sink.has_room c.args.out.now) c.answer_text.result)
    (rw c.in-Some-Script.field-0-is at c.in-Some-Script.ensures.form) asked told (λ told. c.answer_text.ensures.room begun told)
