use Rattle.kept_text.proofs.passing.PassingSegments.pass.Given as goal

abbrev pub ghosts-read_batch_uncounted-L-Ledger : goal.ghosts-read_batch_uncounted-L-Ledger
ghosts-read_batch_uncounted-L-Ledger a = record { name = a.lexing.name; parts = a.lexing.parts }

abbrev pub ghosts-read_batch_uncounted-M-Ledger : goal.ghosts-read_batch_uncounted-M-Ledger
ghosts-read_batch_uncounted-M-Ledger a = record { name = a.placing.name; parts = a.placing.parts }
