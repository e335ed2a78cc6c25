use Rattle.std.proofs.Common.{◌-◌, arith}
use Rattle.error_ledger.proofs.LineLemmas.{spaces_before, spaces_in_front}
use Rattle.error_ledger.proofs.line.put_spaces.Goals as goal

pub returns-clause-line : goal.returns-clause-line
returns-clause-line c = spaces_in_front c.args.room.now c.args.at c.args.spaces c.requires.fits c.requires.before

pub returns-clause-before : goal.returns-clause-before
returns-clause-before c =
    spaces_before c.args.room.now c.args.at (c.args.at - c.args.spaces) (omega arith) c.requires.before
