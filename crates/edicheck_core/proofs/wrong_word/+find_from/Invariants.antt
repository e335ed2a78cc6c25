use Rattle.std.proofs.Common.{length}
use Rattle.edicheck_core.proofs.wrong_word.+find_from.Given as goal

abbrev pub decreases-find_from : goal.decreases-find_from
decreases-find_from l = length l.expected.now
