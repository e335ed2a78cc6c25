-- Worked cases, which the checker computes.
use Rattle.std.proofs.Common.{◌≡◌, ℕ, Bool, true, false, Some, List, [], ◌∷◌, ◌++◌, refl}
use Rattle.std.specs.Prelude.{codes}
use Rattle.std.specs.Fmt.{digits}
use Rattle.edi_tables.specs.declared.segment.TableRow.{TableRow}
use Rattle.edi_tables.specs.Rows.{parent_of, end_of}
use Rattle.edi_tables.specs.Walk.{later_siblings, groups_round, candidates_of, later_nodes, missing_between}
use Rattle.edi_tables.specs.Collisions.{shared_pairs, followers_of, front_of, collisions_of}
use Rattle.dir_compile.specs.declared.parts.Parts.{Parts}
use Rattle.listing_printer.specs.Tables.{node_line, collision_line, table_text, labels_line, tables_text}

abbrev segment : List ℕ → Bool → ℕ → TableRow
segment name must max = record { tag = Some (record { octets = name }); must = must; max = max; depth = 0 }

-- a directory of one message, whose date may come before the reference or after it
two_dates : Parts
two_dates = record {
  version = codes "D";
  release = codes "96A";
  agency = codes "UN";
  elements = [];
  lists = [];
  composites = [];
  segments = [];
  messages = record {
    name = codes "TSTCOL";
    rows =
        segment (codes "UNH") true 1 ∷ segment (codes "BGM") true 1 ∷ segment (codes "DTM") false 5 ∷ segment (codes "RFF") false 1
        ∷ segment (codes "DTM") false 1 ∷ segment (codes "UNT") true 1 ∷ [];
  } ∷ [];
}

-- what is printed of it
two_dates_shown : tables_text two_dates
    ≡ codes "directory D 96A UN" ++ 10 ∷ codes "table TSTCOL 6" ++ 10 ∷ codes "0 0 UNH M 1" ++ 10 ∷ codes "1 0 BGM M 1" ++ 10 ∷ codes "2 0 DTM C 5" ++ 10 ∷ codes "3 0 RFF C 1"
    ++ 10 ∷ codes "4 0 DTM C 1" ++ 10 ∷ codes "5 0 UNT M 1" ++ 10 ∷ codes "collisions 2" ++ 10 ∷ codes "UNH BGM DTM | 0 1 2 | 0 1 4" ++ 10 ∷ codes "UNH BGM DTM DTM | 0 1 2 2 | 0 1 2 4" ++ 10 ∷ []
unfolding two_dates digits tables_text labels_line table_text node_line collision_line collisions_of shared_pairs followers_of front_of candidates_of later_siblings groups_round missing_between later_nodes parent_of end_of
two_dates_shown = refl
