use Rattle.text_tests.proofs.seq_tree_calls.expect_marked.Given as goal

abbrev pub ghosts-expect_marked_counted : goal.ghosts-expect_marked_counted
ghosts-expect_marked_counted g a = record { name = a.blank.name; parts = a.blank.parts }
