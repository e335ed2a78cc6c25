use Rattle.std.proofs.Common.{sym, ap, ◌∙◌}
use Rattle.std.specs.Prelude.{nat_lt}
use Rattle.edi_tables.specs.Walk.{reached_node}
use Rattle.edi_tables.specs.Places.{lies_before}
use Rattle.edi_tables.proofs.MissingLaws.{passes_must}
use Rattle.edi_tables.proofs.table.Table.misses.Goals as goal

pub returns-in-Some : goal.returns-in-Some
returns-in-Some c =
    let nodes = c.args.self.now in
    ap (λ bound. nat_lt c.in-Some.must bound) c.reached.ensures
    ∙ ap (λ found. lies_before found (reached_node nodes c.args.entry c.args.candidate)) (sym c.in-Some.is ∙ c.requires.must)
    ∙ sym (passes_must nodes c.args.entry c.args.candidate)

pub returns-in-None : goal.returns-in-None
returns-in-None c =
    let nodes = c.args.self.now in
    ap (λ found. lies_before found (reached_node nodes c.args.entry c.args.candidate)) (sym c.in-None.is ∙ c.requires.must)
    ∙ sym (passes_must nodes c.args.entry c.args.candidate)
