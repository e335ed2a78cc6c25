use Rattle.history_tests.proofs.edi_history_calls.a_history_answers_as_worked_out_by_hand.Given as goal

abbrev pub ghosts-answer_all-L-Ledger : goal.ghosts-answer_all-L-Ledger
ghosts-answer_all-L-Ledger g a = record { name = a.lexing.name; parts = a.lexing.parts }

abbrev pub ghosts-answer_all-M-Ledger : goal.ghosts-answer_all-M-Ledger
ghosts-answer_all-M-Ledger g a = record { name = a.placing.name; parts = a.placing.parts }
