use Rattle.segment_records.proofs.walked_segment.Segments.after.Given as goal

abbrev pub ghosts-octets_before : goal.ghosts-octets_before
ghosts-octets_before a = record { name = a.blank.name; parts = a.blank.parts }

abbrev pub ghosts-mode_after : goal.ghosts-mode_after
ghosts-mode_after a = record { name = a.blank.name; parts = a.blank.parts }
