use Rattle.std.proofs.Common.{subst}
use Rattle.text_reading.specs.Placed.{AreMessagesPlaced}
use Rattle.kept_text.specs.Reading.{Reading}
use Rattle.edi_engine.proofs.engine.Engine.tree.Goals as goal

pub returns-clause-placed : goal.returns-clause-placed
returns-clause-placed c = subst (λ (r : Reading). AreMessagesPlaced r.directory r.text) c.self.view_is c.list_tree.ensures.placed
