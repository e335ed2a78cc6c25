use Rattle.check_tests.proofs.table_walk_calls.readings_go_as_worked_by_hand.Given as goal

-- the test's counter is seen as the ledger of its blank
abbrev pub ghosts-expect_all : goal.ghosts-expect_all
ghosts-expect_all g a = record { name = a.blank.name; parts = a.blank.parts }
