use Rattle.std.proofs.Common.{Err, refl, subst}
use Rattle.edit_script.specs.Next.{Reader, IsNext}
use Rattle.edit_script.specs.Stop.{script_stop_of}
use Rattle.edit_script.proofs.NextLemmas.{halts_next}
use Rattle.edit_script.proofs.reader.ScriptReader.next_command.Goals as goal

pub returns-in-Err-clause-next : goal.returns-in-Err-clause-next
returns-in-Err-clause-next g c =
    let inside = c.self.inside in
    let reader : Reader = record { left = inside.allowance.left; number = inside.number; grammar = inside.grammar } in
    let after : Reader = record { left = c.take_command.new.allowance.left; number = inside.number; grammar = inside.grammar } in
    let before = g.I.Source.rest c.args.input.now in
    let now = g.I.Source.rest c.take_command.new.input in
    rw c.at_command.ensures (subst (λ (r : Reader). IsNext before now r after (Err (script_stop_of inside.number c.in-Err.halt))) c.self.view_is (halts_next before now reader after c.in-Err.halt refl refl c.in-Err.ensures.reads))
