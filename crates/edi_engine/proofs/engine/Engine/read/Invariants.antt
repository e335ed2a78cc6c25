use Rattle.edi_engine.proofs.engine.Engine.read.Given as goal

abbrev pub ghosts-read_counted-L-Ledger : goal.ghosts-read_counted-L-Ledger
ghosts-read_counted-L-Ledger a = record { name = a.lexing.name; parts = a.lexing.parts }

abbrev pub ghosts-read_counted-M-Ledger : goal.ghosts-read_counted-M-Ledger
ghosts-read_counted-M-Ledger a = record { name = a.placing.name; parts = a.placing.parts }
