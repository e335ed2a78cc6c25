-- Worked cases, each computed by hand first: what the definitions give for whole files.
use Rattle.std.proofs.Common.{◌≡◌, [], ◌∷◌, ◌++◌, Ok, Err, false, refl}
use Rattle.std.specs.Prelude.{codes}
use Rattle.edi_tables.specs.declared.element.Class.TheVariants.{An}
use Rattle.edi_octets.specs.declared.fault.DirKind.TheVariants.{NoRepr, Twice}
use Rattle.edi_octets.specs.Lines.{lines_from, cells_of}
use Rattle.edi_octets.specs.Profile.{fields_of, indentation_of, entries_of, repr_in}
use Rattle.dir_lists.specs.Codes.{codes_in}
use Rattle.dir_lists.specs.Elements.{elements_in}

-- one entry, its representation indented
elements_in-one : elements_in (codes "----------" ++ 10 ∷ codes "1001 A" ++ 10 ∷ codes " Repr: an..3" ++ 10 ∷ []) ≡ Ok (record { code = record { octets = codes "1001" }; repr = record { class = An; exact = false; max = 3 } } ∷ [])
unfolding elements_in lines_from entries_of fields_of cells_of repr_in
elements_in-one = refl

-- an entry ends before the next head, so its fault comes first
elements_in-no_repr : elements_in (codes "----------" ++ 10 ∷ codes "1001 A" ++ 10 ∷ codes "----------" ++ 10 ∷ codes "1002" ++ 10 ∷ []) ≡ Err (record { line = 2; kind = NoRepr })
unfolding elements_in lines_from entries_of fields_of cells_of repr_in
elements_in-no_repr = refl

-- two codes, and text between them
codes_in-two : codes_in (codes "----------" ++ 10 ∷ codes "1001 A" ++ 10 ∷ codes " 1 One" ++ 10 ∷ codes "Desc: x" ++ 10 ∷ codes "       2 Two") ≡ Ok (record { element = record { octets = codes "1001" }; values = codes "1" ∷ codes "2" ∷ [] } ∷ [])
unfolding codes_in lines_from entries_of fields_of cells_of indentation_of
codes_in-two = refl

-- a code that the entry has already
codes_in-twice : codes_in (codes "----------" ++ 10 ∷ codes "1001 A" ++ 10 ∷ codes " 1 One" ++ 10 ∷ codes " 1 Two" ++ 10 ∷ []) ≡ Err (record { line = 4; kind = Twice })
unfolding codes_in lines_from entries_of fields_of cells_of indentation_of
codes_in-twice = refl
