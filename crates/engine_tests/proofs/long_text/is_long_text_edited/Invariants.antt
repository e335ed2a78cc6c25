use Rattle.engine_tests.proofs.long_text.is_long_text_edited.Given as goal

abbrev pub ghosts-is_read_and_edited-L-Ledger : goal.ghosts-is_read_and_edited-L-Ledger
ghosts-is_read_and_edited-L-Ledger a = record { name = a.lexing.name; parts = a.lexing.parts }

abbrev pub ghosts-is_read_and_edited-M-Ledger : goal.ghosts-is_read_and_edited-M-Ledger
ghosts-is_read_and_edited-M-Ledger a = record { name = a.placing.name; parts = a.placing.parts }
