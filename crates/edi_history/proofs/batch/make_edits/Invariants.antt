use Rattle.edi_history.proofs.Made.{IsMade}
use Rattle.edi_history.proofs.batch.make_edits.Given as goal

abbrev pub invariant-loop-edit : goal.invariant-loop-edit
invariant-loop-edit g l =
    IsMade l.initial.engine l.edits l.initial.lexed l.initial.placed l.edit-index l.engine l.lexed l.placed
