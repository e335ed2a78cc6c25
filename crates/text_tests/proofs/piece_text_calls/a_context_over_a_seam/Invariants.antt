use Rattle.text_tests.proofs.piece_text_calls.a_context_over_a_seam.Given as goal

abbrev pub ghosts-context_of : goal.ghosts-context_of
ghosts-context_of g a = record { name = a.blank.name; parts = a.blank.parts }
