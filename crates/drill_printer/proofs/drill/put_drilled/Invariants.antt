use Rattle.drill_printer.proofs.drill.put_drilled.Given as goal

abbrev pub ghosts-put_edited-L-Ledger : goal.ghosts-put_edited-L-Ledger
ghosts-put_edited-L-Ledger a = record { name = a.lexing.name; parts = a.lexing.parts }

abbrev pub ghosts-put_edited-M-Ledger : goal.ghosts-put_edited-M-Ledger
ghosts-put_edited-M-Ledger a = record { name = a.placing.name; parts = a.placing.parts }
