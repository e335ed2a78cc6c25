use Rattle.std.proofs.Common.{◌+◌}
use Rattle.std.proofs.lemmas.List.{take_rest}
use Rattle.dir_store.proofs.EndLemmas.{line-cut, line-none}
use Rattle.dir_store.proofs.line.read_line.Goals as goal

pub returns-in-Some : goal.returns-in-Some
returns-in-Some c =
    rw (take_rest c.args.octets.now (c.in-Some.end + 1)) (line-cut c.args.octets.now c.in-Some.end c.in-Some.ensures)

pub returns-in-None : goal.returns-in-None
returns-in-None c = line-none c.args.octets.now c.in-None.ensures
