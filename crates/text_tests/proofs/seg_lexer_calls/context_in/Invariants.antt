use Rattle.text_tests.proofs.seg_lexer_calls.context_in.Given as goal

abbrev pub ghosts-context_by : goal.ghosts-context_by
ghosts-context_by a = record { name = a.blank.name; parts = a.blank.parts }
