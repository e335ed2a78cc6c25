use Rattle.edicheck_c.proofs.kept.edit_kept.Given as goal

abbrev pub ghosts-edit_counted-L-Ledger : goal.ghosts-edit_counted-L-Ledger
ghosts-edit_counted-L-Ledger a = record { name = a.lexing.name; parts = a.lexing.parts }

abbrev pub ghosts-edit_counted-M-Ledger : goal.ghosts-edit_counted-M-Ledger
ghosts-edit_counted-M-Ledger a = record { name = a.placing.name; parts = a.placing.parts }
