use Rattle.listing_printer.proofs.text.print_text.Given as goal

abbrev pub ghosts-list_segments : goal.ghosts-list_segments
ghosts-list_segments a = record { name = a.blank.name; parts = a.blank.parts }
