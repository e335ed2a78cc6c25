use Rattle.std.proofs.Common.{Ok, [], refl}
use Rattle.std.proofs.lemmas.Result.{err_from_is_err_and}
use Rattle.edit_script.specs.declared.command.Command.TheVariants as command
use Rattle.edit_script.specs.declared.name.Name.TheVariants.{Replace, Contrl, Undo, Redo, Batch}
use Rattle.edit_script.specs.Command.{IsTextOf}
use Rattle.edit_script.specs.Rest.{IsRestText}
use Rattle.edit_script.specs.Texts.{IsNameText, names_of}
use Rattle.edit_script.proofs.ChainLemmas.{reads_first, reads_rest}
use Rattle.edit_script.proofs.GrammarLemmas.{command_chain}
use Rattle.edit_script.proofs.ReadingLemmas.{takes_nothing}
use Rattle.edit_script.proofs.reader.take_command.Goals as goal

pub returns-in_err-take_name-clause-reads : goal.returns-in_err-take_name-clause-reads
returns-in_err-take_name-clause-reads g c =
    let p = err_from_is_err_and c.from_residual.result c.from_residual.ensures.1 in
    rw (p.1, p.2) (reads_first (IsNameText (names_of c.args.grammar)) IsRestText (IsTextOf c.args.grammar) _ (command_chain c.args.grammar) _ _ _ c.in_err-take_name.ensures.reads)

pub returns-in-Replace-clause-reads : goal.returns-in-Replace-clause-reads
returns-in-Replace-clause-reads g c =
    let name = rw c.in-Replace.is at c.in_ok-take_name.ensures.reads in
    reads_rest (IsNameText (names_of c.args.grammar)) IsRestText (IsTextOf c.args.grammar) (command_chain c.args.grammar) _ _ _ Replace _ name c.take_replace.ensures.reads

pub returns-in-Contrl-clause-reads : goal.returns-in-Contrl-clause-reads
returns-in-Contrl-clause-reads g c =
    let name = rw c.in-Contrl.is at c.in_ok-take_name.ensures.reads in
    reads_rest (IsNameText (names_of c.args.grammar)) IsRestText (IsTextOf c.args.grammar) (command_chain c.args.grammar) _ _ _ Contrl _ name c.take_contrl.ensures.reads

pub returns-in-Undo-clause-reads : goal.returns-in-Undo-clause-reads
returns-in-Undo-clause-reads g c =
    let name = rw c.in-Undo.is at c.in_ok-take_name.ensures.reads in
    reads_rest (IsNameText (names_of c.args.grammar)) IsRestText (IsTextOf c.args.grammar) (command_chain c.args.grammar) _ _ _ Undo (Ok command.Undo) name ([], takes_nothing _, (refl, tt, refl))

pub returns-in-Redo-clause-reads : goal.returns-in-Redo-clause-reads
returns-in-Redo-clause-reads g c =
    let name = rw c.in-Redo.is at c.in_ok-take_name.ensures.reads in
    reads_rest (IsNameText (names_of c.args.grammar)) IsRestText (IsTextOf c.args.grammar) (command_chain c.args.grammar) _ _ _ Redo (Ok command.Redo) name ([], takes_nothing _, (refl, tt, refl))

pub returns-in-Batch-clause-reads : goal.returns-in-Batch-clause-reads
returns-in-Batch-clause-reads g c =
    let name = rw c.in-Batch.is at c.in_ok-take_name.ensures.reads in
    reads_rest (IsNameText (names_of c.args.grammar)) IsRestText (IsTextOf c.args.grammar) (command_chain c.args.grammar) _ _ _ Batch _ name c.take_batch.ensures.reads
