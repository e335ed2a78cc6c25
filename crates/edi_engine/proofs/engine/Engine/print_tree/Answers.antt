use Rattle.std.proofs.Common.{subst}
use Rattle.text_reading.specs.Placed.{AreMessagesPlaced}
use Rattle.kept_text.specs.Reading.{Reading}
use Rattle.edi_engine.proofs.engine.Engine.print_tree.Goals as goal

pub returns-clause-placed : goal.returns-clause-placed
returns-clause-placed c = subst (λ (r : Reading). AreMessagesPlaced r.directory r.text) c.self.view_is c.print_tree.ensures.placed
