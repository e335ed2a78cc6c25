use Rattle.std.proofs.Common.{◌≡◌, ◌++◌}
use Rattle.edi_tables.specs.Growing.{HasGrown}
use Rattle.error_ledger.specs.Printing.{indentation}
use Rattle.error_ledger.proofs.tree_text.put_indentation.Given as goal

abbrev pub invariant-loop-group : goal.invariant-loop-group
invariant-loop-group l = record { put : l.out ≡ l.fn.out ++ indentation l._group; grown : HasGrown l.fn.out l.out }
