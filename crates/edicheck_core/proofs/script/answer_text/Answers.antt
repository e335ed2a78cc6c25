use Rattle.std.proofs.Common.{ap, refl, inl, inr, ⊎_elim}
use Rattle.run_outcome.specs.Held.{held_of}
use Rattle.run_outcome.specs.Outcome.{Outcome}
use Rattle.edicheck_core.specs.Inputs.{inputs_of}
use Rattle.edicheck_core.proofs.AnsweredLemmas.{opened_in_room, refusal_in_room, scripted_opened, unopened_in_room, unopened_whole, whole_where}
use Rattle.edicheck_core.proofs.script.answer_text.Goals as goal

pub returns-in-Ok-clause-scripted : goal.returns-in-Ok-clause-scripted
returns-in-Ok-clause-scripted g c =
    scripted_opened c.args.kind c.args.manifest.now c.args.text.now
    (record {
      before = inputs_of g.S.Shelf c.args.shelf.now g.I.Source c.args.input.now;
      after = inputs_of g.S.Shelf c.open_both.new.shelf g.I.Source c.answer_opened.new.input;
      sink_before = held_of g.O.Sink c.args.out.now;
      sink_after = held_of g.O.Sink c.answer_opened.new.out;
      status = c.answer_opened.result;
    })
    (record { directory = c.in-Ok.opening.directory; text = c.in-Ok.opening.text.items })
    c.in-Ok.ensures.opening (rw c.deref.ensures.value at c.answer_opened.ensures.run)

pub returns-in-Ok-clause-script : goal.returns-in-Ok-clause-script
returns-in-Ok-clause-script g c = λ begun told.
    whole_where c.args.kind (g.I.Source.rest c.args.input.now) _ _ _ c.answer_opened.result
    (λ failed. inl (refl, failed)) c.answer_opened.ensures.complete

pub returns-in-Ok-clause-room : goal.returns-in-Ok-clause-room
returns-in-Ok-clause-room g c = λ begun told sound.
    let answered = (rw c.deref.ensures.value at c.answer_opened.ensures.room) in
    opened_in_room c.args.kind c.args.manifest.now c.args.text.now (g.S.Shelf.files c.args.shelf.now)
    (record { directory = c.in-Ok.opening.directory; text = c.in-Ok.opening.text.items }) begun
    (g.I.Source.rest c.args.input.now) (g.O.Sink.has_room c.args.out.now) c.answer_opened.result
    c.in-Ok.ensures.opening told
    (answered (⊎_elim (λ steady. inl steady.0) (λ unfailed. inr (λ failed. unfailed (inl (refl, failed)))) sound))

pub returns-in-Err-clause-refused : goal.returns-in-Err-clause-refused
returns-in-Err-clause-refused g c = λ due n told steady room fits long.
    refusal_in_room c.args.kind c.args.manifest.now c.args.text.now (inputs_of g.S.Shelf c.args.shelf.now g.I.Source c.args.input.now)
    _ due c.in-Err.made n c.finish.result c.in-Err.ensures.opening told
    (λ is failed. (c.in-Err.ensures.fair.steady steady).0 (ap (λ (o : Outcome). o.status) is))
    fits long (λ fit. c.finish.ensures.room n room fit)

pub returns-in-Err-clause-script : goal.returns-in-Err-clause-script
returns-in-Err-clause-script g c = λ begun told.
    unopened_whole c.args.kind c.args.manifest.now c.args.text.now (g.S.Shelf.files c.args.shelf.now) begun _ _ c.in-Err.made
    (g.I.Source.rest c.args.input.now) (held_of g.O.Sink c.args.out.now) (held_of g.O.Sink c.finish.new.out) c.finish.result
    c.in-Err.ensures.opening told (λ failed. inr (refl, failed)) c.finish.ensures.finish

pub returns-in-Err-clause-room : goal.returns-in-Err-clause-room
returns-in-Err-clause-room g c = λ begun told sound.
    unopened_in_room c.args.kind c.args.manifest.now c.args.text.now (g.S.Shelf.files c.args.shelf.now) begun _ c.in-Err.made
    (g.I.Source.rest c.args.input.now) (g.O.Sink.has_room c.args.out.now) c.finish.result
    c.in-Err.ensures.opening told
    (λ is failed.
    ⊎_elim
    (λ steady. (c.in-Err.ensures.fair.steady steady.1).0 (ap (λ (o : Outcome). o.status) is))
    (λ unfailed. unfailed (inr (refl, failed)))
    sound)
    c.finish.ensures.room
