use Rattle.std.proofs.Common.{subst}
use Rattle.dir_compile.specs.Directory.{IsDirectory}
use Rattle.kept_text.specs.Reading.{Reading}
use Rattle.kept_text.proofs.kept.KeptText.directory.Goals as goal

pub returns-clause-lawful : goal.returns-clause-lawful
returns-clause-lawful c = subst (λ (r : Reading). IsDirectory r.directory) c.self.view_is c.self.invariant.directory
