use Rattle.std.proofs.Common.{◌≡◌, ◌∙◌, ap, sym, true, false, Err, arith, ⊎_elim}
use Rattle.std.proofs.lemmas.Bool.{false≢true}
use Rattle.edi_ports.specs.Faults.{HasRisen}
use Rattle.edit_script.specs.declared.command.Command.TheVariants.{End}
use Rattle.run_outcome.specs.Held.{held_of}
use Rattle.run_outcome.proofs.PutLemmas.{risen_later}
use Rattle.script_answers.proofs.EndedLemmas.{left_more, left_refused, stop_caused}
use Rattle.script_answers.proofs.NextLemmas.{next_in}
use Rattle.script_answers.proofs.RoomLemmas.{roomy_more, roomy_stopped, roomy_taken}
use Rattle.script_answers.proofs.RunLemmas.{progress_more, put_told, room_told, run_cut, run_done, run_stopped}
use Rattle.script_answers.proofs.script.answer_script.Goals as goal

pub returns-in-Err-clause-run : goal.returns-in-Err-clause-run
returns-in-Err-clause-run g c = (
  stop_caused _ _ c.in-Err.stop (held_of g.O.Sink c.commands.out) (held_of g.O.Sink c.tell_stop.new.out) c.tell_stop.result
      (λ fault. risen_later _ _ _ c.commands.invariant.input (c.in-Err.ensures.fair.cause (ap Err fault)))
      (λ risen. risen_later _ _ _ c.commands.invariant.sink risen)
      c.tell_stop.ensures.finish,
  run_stopped {S = g.A.Answering.State} g.A.Answering.grammar g.A.Answering.IsStep (g.A.Answering.state c.args.answering.now) (g.A.Answering.state c.commands.answering) _ c.commands.reader c.next_command.new.self
      (g.I.Source.rest c.args.input.now) (g.I.Source.rest c.commands.input) (g.I.Source.rest c.next_command.new.input) (g.O.Sink.held c.args.out.now)
      (held_of g.O.Sink c.commands.out) (held_of g.O.Sink c.tell_stop.new.out) c.in-Err.stop c.tell_stop.result
      c.commands.invariant.progress (next_in g.A.Answering.grammar (g.I.Source.rest c.commands.input) (g.I.Source.rest c.next_command.new.input) c.commands.reader c.next_command.new.self c.commands.invariant.grammar c.in-Err.ensures.next)
      (λ fault. risen_later _ _ _ c.commands.invariant.input (c.in-Err.ensures.fair.cause (ap Err fault)))
      c.tell_stop.ensures.finish,
)

pub returns-in-Err-clause-complete : goal.returns-in-Err-clause-complete
returns-in-Err-clause-complete g c =
    left_refused g.A.Answering.grammar (g.I.Source.rest c.args.input.now) (g.I.Source.rest c.commands.input) (g.I.Source.rest c.next_command.new.input) c.commands.reader c.next_command.new.self c.in-Err.stop _ _
    (held_of g.O.Sink c.commands.out) (held_of g.O.Sink c.tell_stop.new.out) c.tell_stop.result
    c.commands.invariant.still (next_in g.A.Answering.grammar (g.I.Source.rest c.commands.input) (g.I.Source.rest c.next_command.new.input) c.commands.reader c.next_command.new.self c.commands.invariant.grammar c.in-Err.ensures.next)
    (λ fault. risen_later _ _ _ c.commands.invariant.input (c.in-Err.ensures.fair.cause (ap Err fault)))
    (λ risen. risen_later _ _ _ c.commands.invariant.sink risen)
    c.tell_stop.ensures.finish

pub returns-in-Err-clause-room : goal.returns-in-Err-clause-room
returns-in-Err-clause-room g c = λ sound.
    roomy_stopped {S = g.A.Answering.State} g.A.Answering.grammar g.A.Answering.IsStep (g.A.Answering.state c.args.answering.now) (g.A.Answering.state c.commands.answering)
    (g.I.Source.rest c.args.input.now) (g.I.Source.rest c.commands.input) (g.I.Source.rest c.next_command.new.input) c.commands.reader c.next_command.new.self
    (g.O.Sink.has_room c.args.out.now) (g.O.Sink.has_room c.commands.out) c.in-Err.stop c.tell_stop.result
    g.met.A.Answering.replies c.commands.invariant.roomy (next_in g.A.Answering.grammar (g.I.Source.rest c.commands.input) (g.I.Source.rest c.next_command.new.input) c.commands.reader c.next_command.new.self c.commands.invariant.grammar c.in-Err.ensures.next)
    (λ fault.
    ⊎_elim
    (λ steady. (c.in-Err.ensures.fair.steady (c.commands.invariant.steady steady)).0 (ap Err fault))
    (λ unfailed. unfailed (risen_later _ _ _ c.commands.invariant.input (c.in-Err.ensures.fair.cause (ap Err fault))))
    sound)
    c.tell_stop.ensures.room

pub returns-then-not-answer-clause-run : goal.returns-then-not-answer-clause-run
returns-then-not-answer-clause-run g c = (
  risen_later _ _ _ c.commands.invariant.sink c.if-not-answer.ensures.cause,
  run_cut {S = g.A.Answering.State} g.A.Answering.grammar g.A.Answering.IsStep (g.A.Answering.state c.args.answering.now) (g.A.Answering.state c.commands.answering) (g.A.Answering.state c.answer.new.self) (HasRisen (g.I.Source.faults c.args.input.now) (g.I.Source.faults c.next_command.new.input)) c.commands.reader c.next_command.new.self
      (g.I.Source.rest c.args.input.now) (g.I.Source.rest c.commands.input) (g.I.Source.rest c.next_command.new.input)
      (g.O.Sink.held c.args.out.now) (g.O.Sink.held c.commands.out) (g.O.Sink.held c.answer.new.out) c.in-Ok.command
      c.commands.invariant.progress (next_in g.A.Answering.grammar (g.I.Source.rest c.commands.input) (g.I.Source.rest c.next_command.new.input) c.commands.reader c.next_command.new.self c.commands.invariant.grammar c.in-Ok.ensures.next)
      (put_told {S = g.A.Answering.State} g.A.Answering.IsStep (g.A.Answering.state c.commands.answering) _ (g.A.Answering.state c.answer.new.self) _ _ (g.O.Sink.has_room c.commands.out) (g.O.Sink.has_room c.answer.new.out) c.answer.result false c.if-not-answer.true c.answer.ensures.answered),
)

pub returns-then-not-answer-clause-room : goal.returns-then-not-answer-clause-room
returns-then-not-answer-clause-room g c = λ sound cs more same lawful ended short has.
    absurd (
    roomy_taken {S = g.A.Answering.State} g.A.Answering.grammar g.A.Answering.IsStep (g.A.Answering.state c.args.answering.now) (g.A.Answering.state c.commands.answering) (g.A.Answering.state c.answer.new.self)
    (g.I.Source.rest c.args.input.now) (g.I.Source.rest c.commands.input) (g.I.Source.rest c.next_command.new.input) c.commands.reader c.next_command.new.self
    (g.O.Sink.has_room c.args.out.now) (g.O.Sink.has_room c.commands.out) (g.O.Sink.has_room c.answer.new.out) c.in-Ok.command
    g.met.A.Answering.replies c.commands.invariant.roomy (next_in g.A.Answering.grammar (g.I.Source.rest c.commands.input) (g.I.Source.rest c.next_command.new.input) c.commands.reader c.next_command.new.self c.commands.invariant.grammar c.in-Ok.ensures.next)
    (room_told {S = g.A.Answering.State} g.A.Answering.IsStep (g.A.Answering.state c.commands.answering) _ (g.A.Answering.state c.answer.new.self) _ _ (g.O.Sink.has_room c.commands.out) (g.O.Sink.has_room c.answer.new.out) c.answer.result false c.if-not-answer.true c.answer.ensures.answered)
    cs more same lawful ended short has
    )

pub returns-then-is_end-clause-run : goal.returns-then-is_end-clause-run
returns-then-is_end-clause-run g c = (
  tt,
  run_done {S = g.A.Answering.State} g.A.Answering.grammar g.A.Answering.IsStep (g.A.Answering.state c.args.answering.now) (g.A.Answering.state c.commands.answering) (g.A.Answering.state c.answer.new.self) (HasRisen (g.I.Source.faults c.args.input.now) (g.I.Source.faults c.next_command.new.input)) c.commands.reader c.next_command.new.self
      (g.I.Source.rest c.args.input.now) (g.I.Source.rest c.commands.input) (g.I.Source.rest c.next_command.new.input)
      (g.O.Sink.held c.args.out.now) (g.O.Sink.held c.commands.out) (g.O.Sink.held c.answer.new.out) c.in-Ok.command
      c.commands.invariant.progress (next_in g.A.Answering.grammar (g.I.Source.rest c.commands.input) (g.I.Source.rest c.next_command.new.input) c.commands.reader c.next_command.new.self c.commands.invariant.grammar c.in-Ok.ensures.next)
      (put_told {S = g.A.Answering.State} g.A.Answering.IsStep (g.A.Answering.state c.commands.answering) _ (g.A.Answering.state c.answer.new.self) _ _ (g.O.Sink.has_room c.commands.out) (g.O.Sink.has_room c.answer.new.out) c.answer.result true c.if-not-answer.false c.answer.ensures.answered)
      (c.is_end.ensures.0 c.if-is_end.true),
)

pub commands-preserved : goal.commands-preserved
commands-preserved g c =
    let not_end : c.in-Ok.command ≡ End → ⊥ = λ is. absurd (false≢true (sym c.if-is_end.false ∙ c.is_end.ensures.1 is)) in
    record {
      grammar = c.in-Ok.ensures.next.kept ∙ c.commands.invariant.grammar;
      progress = progress_more {S = g.A.Answering.State} g.A.Answering.grammar g.A.Answering.IsStep (g.A.Answering.state c.args.answering.now) (g.A.Answering.state c.commands.answering) (g.A.Answering.state c.answer.new.self) c.commands.reader c.next_command.new.self
          (g.I.Source.rest c.args.input.now) (g.I.Source.rest c.commands.input) (g.I.Source.rest c.next_command.new.input)
          (g.O.Sink.held c.args.out.now) (g.O.Sink.held c.commands.out) (g.O.Sink.held c.answer.new.out) c.in-Ok.command
          c.commands.invariant.progress (next_in g.A.Answering.grammar (g.I.Source.rest c.commands.input) (g.I.Source.rest c.next_command.new.input) c.commands.reader c.next_command.new.self c.commands.invariant.grammar c.in-Ok.ensures.next)
          (put_told {S = g.A.Answering.State} g.A.Answering.IsStep (g.A.Answering.state c.commands.answering) _ (g.A.Answering.state c.answer.new.self) _ _ (g.O.Sink.has_room c.commands.out) (g.O.Sink.has_room c.answer.new.out) c.answer.result true c.if-not-answer.false c.answer.ensures.answered)
          not_end;
      input = omega (arith, c.commands.invariant.input, c.next_command.ensures.fair.counted);
      sink = omega (arith, c.commands.invariant.sink, c.answer.ensures.counted);
      steady = λ steady. (c.next_command.ensures.fair.steady (c.commands.invariant.steady steady)).1;
      still = left_more g.A.Answering.grammar (g.I.Source.rest c.args.input.now) (g.I.Source.rest c.commands.input) (g.I.Source.rest c.next_command.new.input) c.commands.reader c.next_command.new.self c.in-Ok.command
          c.commands.invariant.still (next_in g.A.Answering.grammar (g.I.Source.rest c.commands.input) (g.I.Source.rest c.next_command.new.input) c.commands.reader c.next_command.new.self c.commands.invariant.grammar c.in-Ok.ensures.next) not_end;
      roomy = roomy_more {S = g.A.Answering.State} g.A.Answering.grammar g.A.Answering.IsStep (g.A.Answering.state c.args.answering.now) (g.A.Answering.state c.commands.answering) (g.A.Answering.state c.answer.new.self)
          (g.I.Source.rest c.args.input.now) (g.I.Source.rest c.commands.input) (g.I.Source.rest c.next_command.new.input) c.commands.reader c.next_command.new.self
          (g.O.Sink.has_room c.args.out.now) (g.O.Sink.has_room c.commands.out) (g.O.Sink.has_room c.answer.new.out) c.in-Ok.command
          g.met.A.Answering.replies c.commands.invariant.roomy (next_in g.A.Answering.grammar (g.I.Source.rest c.commands.input) (g.I.Source.rest c.next_command.new.input) c.commands.reader c.next_command.new.self c.commands.invariant.grammar c.in-Ok.ensures.next)
          (room_told {S = g.A.Answering.State} g.A.Answering.IsStep (g.A.Answering.state c.commands.answering) _ (g.A.Answering.state c.answer.new.self) _ _ (g.O.Sink.has_room c.commands.out) (g.O.Sink.has_room c.answer.new.out) c.answer.result true c.if-not-answer.false c.answer.ensures.answered)
          not_end;
    }
