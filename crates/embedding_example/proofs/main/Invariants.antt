use Rattle.embedding_example.proofs.main.Given as goal

abbrev pub ghosts-correct-L-Ledger : goal.ghosts-correct-L-Ledger
ghosts-correct-L-Ledger a = record { name = a.lexing.name; parts = a.lexing.parts }

abbrev pub ghosts-correct-M-Ledger : goal.ghosts-correct-M-Ledger
ghosts-correct-M-Ledger a = record { name = a.placing.name; parts = a.placing.parts }
