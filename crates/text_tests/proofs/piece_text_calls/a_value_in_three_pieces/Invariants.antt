use Rattle.text_tests.proofs.piece_text_calls.a_value_in_three_pieces.Given as goal

abbrev pub ghosts-first_lexed : goal.ghosts-first_lexed
ghosts-first_lexed g a = record { name = a.blank.name; parts = a.blank.parts }
