-- What a run reads.
use Rattle.std.specs.Prelude.{ℕ, List, Option}
use Rattle.edi_tables.specs.Octets.{Octets}
use Rattle.edi_ports.specs.declared.shelf.ShelfFile.{ShelfFile}
use Rattle.edi_ports.specs.declared.shelf.Shelf as shelf
use Rattle.edi_ports.specs.declared.source.Source as source

-- the files of a shelf and the rest of an input, where these are known, and the counts of their faults
pub record Inputs : Type 0 where
  pub files : Option (List ShelfFile)
  pub shelf_faults : ℕ
  pub rest : Option Octets
  pub input_faults : ℕ

-- what is seen of a shelf and an input
abbrev pub inputs_of : {S I : Type 0} → shelf.Ghosts S → S → source.Ghosts I → I → Inputs
inputs_of shelf s input i = record {
  files = shelf.files s;
  shelf_faults = shelf.faults s;
  rest = input.rest i;
  input_faults = input.faults i;
}
