use Rattle.std.proofs.Common.{◌-◌, length, ◌∙◌, arith}
use Rattle.std.proofs.lemmas.Slice.{take-put_mid_below}
use Rattle.error_ledger.proofs.LineLemmas.{spaces_before}
use Rattle.error_ledger.proofs.line.put.Goals as goal

pub returns-clause-before : goal.returns-clause-before
returns-clause-before c =
    let start = c.args.at - length c.args.part.now in
    take-put_mid_below start (c.args.at - start) c.args.room.now c.copy_from_slice.new.self start (omega arith) (omega arith)
    ∙ spaces_before c.args.room.now c.args.at start (omega arith) c.requires.before
