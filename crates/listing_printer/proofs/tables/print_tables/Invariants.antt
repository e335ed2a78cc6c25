use Rattle.std.proofs.Common.{◌≡◌, ◌++◌, take}
use Rattle.std.specs.List.{flat_map}
use Rattle.listing_printer.specs.Tables.{labels_line, listed_message}
use Rattle.listing_printer.proofs.tables.print_tables.Given as goal

abbrev pub invariant-loop-i : goal.invariant-loop-i
invariant-loop-i l = l.out ≡ labels_line l.directory ++ flat_map listed_message (take l.i l.directory.messages)
