use Rattle.std.proofs.Common.{◌≡◌, ◌++◌, take}
use Rattle.listing_printer.specs.Tables.{entries_shown}
use Rattle.listing_printer.proofs.tables.put_entries.Given as goal

abbrev pub invariant-loop-i : goal.invariant-loop-i
invariant-loop-i l = l.out ≡ l.fn.out ++ entries_shown (take l.i l.entries)
