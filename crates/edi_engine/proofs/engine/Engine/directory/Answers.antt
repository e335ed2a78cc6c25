use Rattle.std.proofs.Common.{subst}
use Rattle.text_reading.specs.Placed.{AreMessagesPlaced}
use Rattle.text_reading.proofs.PlacedLaws.{are_placed}
use Rattle.kept_text.specs.Reading.{Reading}
use Rattle.edi_engine.proofs.engine.Engine.directory.Goals as goal

pub returns-clause-lawful_trees : goal.returns-clause-lawful_trees
returns-clause-lawful_trees c text =
    subst (λ (r : Reading). AreMessagesPlaced r.directory text) c.self.view_is (are_placed _ c.directory.ensures.lawful text)
