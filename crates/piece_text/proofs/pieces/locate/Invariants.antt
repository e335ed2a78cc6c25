use Rattle.piece_text.proofs.pieces.locate.Given as goal

-- the counter of a call that counts nothing represents the ledger of its blank
abbrev pub ghosts-locate_counted : goal.ghosts-locate_counted
ghosts-locate_counted a = record { name = a.blank.name; parts = a.blank.parts }
