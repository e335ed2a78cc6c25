-- Worked cases, which the checker computes.
use Rattle.std.proofs.Common.{◌≡◌, true, false, Some, None, Ok, Err, [], ◌∷◌, ◌++◌, codes, refl}
use Rattle.edi_tables.specs.Rows.{table_faults}
use Rattle.edi_octets.specs.declared.fault.DirKind.TheVariants.{CloseWithoutOpen, NoUnhUnt}
use Rattle.edi_octets.specs.Lines.{Line, lines_from, cells_of}
use Rattle.edi_octets.specs.Profile.{fields_of, indentation_of}
use Rattle.dir_messages.specs.Message.{status_of, max_of, ends_drawn, middle_of, message_in}

abbrev table_line : Line
table_line = record { number = 7; octets = codes "0020 + BGM A C 5 M 02 -|+" }

-- the last status counts, and a mark alone after the position is skipped
last_status : status_of table_line ≡ Some true
last_status = refl

greatest_count : max_of table_line ≡ 2
greatest_count = refl

one_end : ends_drawn table_line ≡ 1
one_end = refl

before_status : middle_of table_line ≡ codes "BGM" ∷ codes "A" ∷ codes "C" ∷ codes "5" ∷ []
before_status = refl

-- a table of a group and its trigger
drawn : message_in (codes "Message Type : ABC123" ++ 10 ∷ codes "0010 UNH a M 1" ++ 10 ∷ codes "0020 -- Segment group 1 C 7 +" ++ 10 ∷ codes "0030 NAD b M 1 +" ++ 10 ∷ codes "0040 UNT c M 1") ≡ Ok (record { name = codes "ABC123"; rows = record { tag = Some (record { octets = codes "UNH" }); must = true; max = 1; depth = 0 } ∷ record { tag = None; must = false; max = 7; depth = 0 } ∷ record { tag = Some (record { octets = codes "NAD" }); must = true; max = 1; depth = 1 } ∷ record { tag = Some (record { octets = codes "UNT" }); must = true; max = 1; depth = 0 } ∷ [] })
unfolding message_in lines_from fields_of cells_of indentation_of table_faults
drawn = refl

-- an end where no group is open, at its line; and no table line, at the type line
surplus_end : message_in (codes "Message Type : ABC123" ++ 10 ∷ codes "0010 UNH a M 1 +") ≡ Err (record { line = 2; kind = CloseWithoutOpen })
unfolding message_in lines_from fields_of cells_of indentation_of table_faults
surplus_end = refl

no_row : message_in (10 ∷ codes "Message Type : ABC123") ≡ Err (record { line = 2; kind = NoUnhUnt })
unfolding message_in lines_from fields_of cells_of indentation_of table_faults
no_row = refl
