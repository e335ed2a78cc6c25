-- Worked cases, which the checker computes.
use Rattle.std.proofs.Common.{◌≡◌, true, false, Ok, [], ◌∷◌, ◌++◌, codes, refl}
use Rattle.edi_tables.specs.declared.element.Class.TheVariants.{N}
use Rattle.edi_tables.specs.declared.element.CompositeDef.{CompositeDef}
use Rattle.edi_octets.specs.declared.fault.DirKind.TheVariants.{BadLine}
use Rattle.edi_octets.specs.DirStop.{at_line}
use Rattle.edi_octets.specs.Lines.{Line, lines_from, cells_of}
use Rattle.edi_octets.specs.Profile.{fields_of, indentation_of, entries_of, repr_in}
use Rattle.dir_segments.specs.Parts.{count_faults}
use Rattle.dir_segments.specs.Composites.{composites_in}

-- an entry has at most 99 parts or items
most : (head : Line) → count_faults head 99 ≡ []
most head = refl

too_many : (head : Line) → count_faults head 100 ≡ at_line BadLine head ∷ []
too_many head = refl

abbrev pub quantity : CompositeDef
quantity =
    record { code = record { octets = codes "C001" }; parts = record { code = record { octets = codes "1001" }; must = true; repr = record { class = N; exact = false; max = 5 } } ∷ [] }

-- a mark alone after the position is skipped
composite : composites_in (codes "----------" ++ 10 ∷ codes "C001 A" ++ 10 ∷ codes "010 * 1001 B M n..5") ≡ Ok (quantity ∷ [])
unfolding composites_in lines_from fields_of cells_of indentation_of entries_of repr_in
composite = refl
