use Rattle.edi_engine.proofs.opening.put_tail.Given as goal

abbrev pub ghosts-find_tail : goal.ghosts-find_tail
ghosts-find_tail g a = record { name = a.blank.name; parts = a.blank.parts }
