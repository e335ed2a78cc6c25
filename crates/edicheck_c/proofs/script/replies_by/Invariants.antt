use Rattle.edicheck_c.proofs.script.replies_by.Given as goal

abbrev pub ghosts-reply_counted-L-Ledger : goal.ghosts-reply_counted-L-Ledger
ghosts-reply_counted-L-Ledger a = record { name = a.lexing.name; parts = a.lexing.parts }

abbrev pub ghosts-reply_counted-M-Ledger : goal.ghosts-reply_counted-M-Ledger
ghosts-reply_counted-M-Ledger a = record { name = a.placing.name; parts = a.placing.parts }
