use Rattle.std.proofs.Common.{◌≡◌, ◌+◌, ◌++◌, drop, replicate, decimal, ap, ◌∙◌, append_assoc}
use Rattle.error_ledger.proofs.LineLemmas.{spaces_more, room_before, room_line}
use Rattle.error_ledger.proofs.line.put_numeral.Goals as goal

whole : (c : goal.After-put) → c.put.new.room ≡ replicate (c.put.result + c.octets-spaces.result.1) 32 ++ (decimal c.args.numeral.now ++ drop c.args.at c.args.room.now)
whole c =
    spaces_more c.put.new.room (decimal c.args.numeral.now ++ drop c.args.at c.args.room.now) c.put.result c.octets-spaces.result.1
    c.put.ensures.before
    (c.put.ensures.line ∙ ap (λ xs. xs ++ drop c.args.at c.args.room.now) c.octets-spaces.ensures.digits
    ∙ append_assoc (replicate c.octets-spaces.result.1 32) (decimal c.args.numeral.now) (drop c.args.at c.args.room.now))

pub returns-clause-line : goal.returns-clause-line
returns-clause-line c = room_line c.put.new.room _ (c.put.result + c.octets-spaces.result.1) (whole c)

pub returns-clause-before : goal.returns-clause-before
returns-clause-before c = room_before c.put.new.room _ (c.put.result + c.octets-spaces.result.1) (whole c)
