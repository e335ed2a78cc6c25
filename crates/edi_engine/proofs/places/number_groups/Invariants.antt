use Rattle.std.proofs.Common.{◌≡◌, map, take}
use Rattle.dir_compile.specs.Directory.{tables_of}
use Rattle.segment_records.specs.Groups.{numbers_in}
use Rattle.edi_engine.proofs.places.number_groups.Given as goal

abbrev pub invariant-loop-i : goal.invariant-loop-i
invariant-loop-i l = l.numbers.items ≡ map numbers_in (take l.i (tables_of l.directory))
