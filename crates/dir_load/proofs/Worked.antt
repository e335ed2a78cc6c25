-- Worked cases, which the checker computes.
use Rattle.std.proofs.Common.{◌≡◌, ℕ, false, List, [], ◌∷◌, ◌++◌, Ok, Err, refl}
use Rattle.std.specs.Prelude.{codes}
use Rattle.edi_ports.specs.declared.shelf.ShelfFile.{ShelfFile}
use Rattle.edi_tables.specs.declared.element.Class.TheVariants.{An}
use Rattle.edi_octets.specs.declared.fault.DirKind.TheVariants.{BadLine, BadCode}
use Rattle.edi_octets.specs.Lines.{lines_from, cells_of}
use Rattle.edi_octets.specs.Name.{is_name_of}
use Rattle.edi_octets.specs.Profile.{fields_of, indentation_of, entries_of, repr_in}
use Rattle.dir_lists.specs.Elements.{elements_in}
use Rattle.dir_segments.specs.Composites.{composites_in}
use Rattle.dir_compile.specs.declared.stop.CompileKind.TheVariants.{UnknownElement}
use Rattle.dir_compile.specs.Compile.{compile_faults}
use Rattle.dir_compile.specs.Directory.{directory_of}
use Rattle.dir_compile.specs.InOrder.{ordered_parts}
use Rattle.edi_ports.specs.declared.named.Unread.TheVariants.{Absent}
use Rattle.dir_store.specs.Store.{definitions_at, parts_at, section_at, store_of}
use Rattle.dir_load.specs.declared.stop.FileFault.TheVariants.{Unread, Grammar}
use Rattle.dir_load.specs.declared.stop.Refusal.TheVariants.{File, Parts, Store}
use Rattle.dir_load.specs.Manifest.{manifest_in}
use Rattle.dir_load.specs.Load.{load_of}

abbrev file : List ℕ → List ℕ → ShelfFile
file name octets = record { name = name; octets = octets }

abbrev manifest : ShelfFile
manifest = file (codes "m") (codes "directory D 96A UN" ++ 10 ∷ codes "elements e" ++ 10 ∷ codes "message t")

abbrev message : ShelfFile
message = file (codes "t") (codes "Message Type : TSTMSG" ++ 10 ∷ codes "0010 UNH a M 1" ++ 10 ∷ codes "0020 UNT b M 1")

-- no manifest
no_manifest : load_of (message ∷ []) (codes "m") ≡ Err (File (codes "m") (Unread Absent))
unfolding load_of
no_manifest = refl

-- kinds out of order, though neither file is there
out_of_order : load_of (file (codes "m") (codes "directory D 96A UN" ++ 10 ∷ codes "codes c" ++ 10 ∷ codes "elements e") ∷ []) (codes "m") ≡ Err (File (codes "m") (Grammar (record { line = 3; kind = BadLine })))
unfolding load_of manifest_in lines_from is_name_of
out_of_order = refl

-- a file that breaks a rule, and after it one that isn't there
faulty_before_absent : load_of (manifest ∷ file (codes "e") (codes "----------" ++ 10 ∷ codes "12 a") ∷ []) (codes "m") ≡ Err (File (codes "e") (Grammar (record { line = 2; kind = BadCode })))
unfolding load_of manifest_in lines_from is_name_of elements_in entries_of fields_of cells_of indentation_of
faulty_before_absent = refl

abbrev elements : ShelfFile
elements = file (codes "e") (codes "----------" ++ 10 ∷ codes "1001 a" ++ 10 ∷ codes "Repr: an..3")

abbrev with_composites : ShelfFile
with_composites = file (codes "m") (codes "directory D 96A UN" ++ 10 ∷ codes "elements e" ++ 10 ∷ codes "composites c")

-- a data element, and a composite that has it
one_composite : load_of (with_composites ∷ elements ∷ file (codes "c") (codes "----------" ++ 10 ∷ codes "C002 a" ++ 10 ∷ codes "010 1001 a C an..3") ∷ []) (codes "m") ≡ Ok (record {
  version = codes "D";
  release = codes "96A";
  agency = codes "UN";
  elements = record { code = record { octets = codes "1001" }; repr = record { class = An; exact = false; max = 3 } } ∷ [];
  lists = [];
  composites = record { code = record { octets = codes "C002" }; parts = record { code = record { octets = codes "1001" }; must = false; repr = record { class = An; exact = false; max = 3 } } ∷ [] } ∷ [];
  segments = [];
  messages = [];
})
unfolding load_of manifest_in lines_from is_name_of elements_in composites_in entries_of fields_of cells_of indentation_of repr_in directory_of compile_faults ordered_parts
one_composite = refl

-- a composite that has another
other_element : load_of (with_composites ∷ elements ∷ file (codes "c") (codes "----------" ++ 10 ∷ codes "C002 a" ++ 10 ∷ codes "010 9999 a C an..3") ∷ []) (codes "m") ≡ Err (Parts UnknownElement (codes "9999"))
unfolding load_of manifest_in lines_from is_name_of elements_in composites_in entries_of fields_of cells_of indentation_of repr_in directory_of compile_faults
other_element = refl

-- a store whose third line breaks a rule, in either version
faulty_store : load_of (file (codes "m") (codes "EDIDIR1" ++ 10 ∷ codes "D 96A UN" ++ 10 ∷ codes "E two" ++ 10 ∷ []) ∷ []) (codes "m") ≡ Err (Store (codes "m") 17)
unfolding load_of store_of parts_at definitions_at section_at
faulty_store = refl

faulty_new_store : load_of (file (codes "m") (codes "EDIDIR2" ++ 10 ∷ codes "D 96A UN" ++ 10 ∷ codes "E two" ++ 10 ∷ []) ∷ []) (codes "m") ≡ Err (Store (codes "m") 17)
unfolding load_of store_of parts_at definitions_at section_at
faulty_new_store = refl

-- without LF there is no store, and there is none of version 3
no_store : load_of (file (codes "m") (codes "EDIDIR2") ∷ []) (codes "m") ≡ Err (File (codes "m") (Grammar (record { line = 1; kind = BadLine })))
unfolding load_of manifest_in lines_from
no_store = refl

no_version : load_of (file (codes "m") (codes "EDIDIR3" ++ 10 ∷ codes "D 96A UN" ++ 10 ∷ []) ∷ []) (codes "m") ≡ Err (File (codes "m") (Grammar (record { line = 1; kind = BadLine })))
unfolding load_of manifest_in lines_from
no_version = refl
