use Rattle.edicheck_core.proofs.script.answer_opened.Given as goal

abbrev pub ghosts-edit_counted-L-Ledger : goal.ghosts-edit_counted-L-Ledger
ghosts-edit_counted-L-Ledger g a = record { name = a.lexing.name; parts = a.lexing.parts }

abbrev pub ghosts-edit_counted-M-Ledger : goal.ghosts-edit_counted-M-Ledger
ghosts-edit_counted-M-Ledger g a = record { name = a.placing.name; parts = a.placing.parts }

abbrev pub ghosts-session_counted-L-Ledger : goal.ghosts-session_counted-L-Ledger
ghosts-session_counted-L-Ledger g a = record { name = a.lexing.name; parts = a.lexing.parts }

abbrev pub ghosts-session_counted-M-Ledger : goal.ghosts-session_counted-M-Ledger
ghosts-session_counted-M-Ledger g a = record { name = a.placing.name; parts = a.placing.parts }
