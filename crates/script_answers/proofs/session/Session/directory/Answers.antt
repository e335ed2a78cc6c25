use Rattle.script_answers.proofs.SessionLemmas.{session_trees}
use Rattle.script_answers.proofs.session.Session.directory.Goals as goal

pub returns-clause-lawful_trees : goal.returns-clause-lawful_trees
returns-clause-lawful_trees g c = session_trees c.args.self.now c.engine.result.now (rw (← c.self.view_is) c.engine.ensures) c.directory.ensures.lawful_trees
