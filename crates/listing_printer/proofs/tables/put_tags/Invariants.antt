use Rattle.std.proofs.Common.{◌≡◌, ◌++◌, take}
use Rattle.listing_printer.specs.Tables.{tags_shown}
use Rattle.listing_printer.proofs.tables.put_tags.Given as goal

abbrev pub invariant-loop-i : goal.invariant-loop-i
invariant-loop-i l = l.out ≡ l.fn.out ++ tags_shown (take l.i l.tags)
