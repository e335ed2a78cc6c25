-- Worked cases, which the checker computes.
use Rattle.std.proofs.Common.{◌≡◌, true, false, Ok, Err, [], ◌∷◌, ◌++◌, codes, refl}
use Rattle.edi_tables.specs.declared.element.Class.TheVariants.{An}
use Rattle.edi_tables.specs.declared.segment.ItemDef.TheVariants.{Alone, Composite}
use Rattle.edi_octets.specs.declared.fault.DirKind.TheVariants.{BadStatus, PartsDiffer}
use Rattle.edi_octets.specs.Lines.{lines_from, cells_of}
use Rattle.edi_octets.specs.Profile.{fields_of, indentation_of, entries_of, repr_in}
use Rattle.dir_segments.specs.Repetitions.{item_fields, reps_in}
use Rattle.dir_segments.specs.Segments.{segments_in_file}
use Rattle.dir_segments.proofs.WorkedComposites.{quantity}

-- a part line that isn't the composite's part, at the line of the item
other_part : segments_in_file (quantity ∷ []) (codes "----------" ++ 10 ∷ codes "ABC A" ++ 10 ∷ codes "010 C001 B C" ++ 10 ∷ codes "     1001 C C n..5") ≡ Err (record { line = 3; kind = PartsDiffer })
unfolding segments_in_file lines_from fields_of cells_of indentation_of entries_of repr_in item_fields reps_in
other_part = refl

-- numbers of repetitions: the last field of a composite, and the one before the last of a data element
numbers : segments_in_file (quantity ∷ []) (codes "----------" ++ 10 ∷ codes "ABC A" ++ 10 ∷ codes "010 C001 Name here M 5" ++ 10 ∷ codes "020 1001 Document name C 5 an..3") ≡ Ok (record { tag = record { octets = codes "ABC" }; items = Composite (record { octets = codes "C001" }) true 5 ∷ Alone (record { code = record { octets = codes "1001" }; must = false; repr = record { class = An; exact = false; max = 3 } }) 5 ∷ [] } ∷ [])
unfolding segments_in_file lines_from fields_of cells_of indentation_of entries_of repr_in item_fields reps_in
numbers = refl

-- a mark that is skipped is no field, so this line has four, and its last is no number
skipped_mark : segments_in_file [] (codes "----------" ++ 10 ∷ codes "ABC A" ++ 10 ∷ codes "010 * C001 M 5") ≡ Err (record { line = 3; kind = BadStatus })
unfolding segments_in_file lines_from fields_of cells_of indentation_of entries_of repr_in item_fields reps_in
skipped_mark = refl
