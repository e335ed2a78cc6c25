use Rattle.std.proofs.Common.{◌≡◌, drop}
use Rattle.table_walk.specs.Reading.{reading_from, reading_of}
use Rattle.table_walk.proofs.Sound.{Sound}
use Rattle.table_walk.proofs.read.read_tags.Given as goal

abbrev pub invariant-loop-tag : goal.invariant-loop-tag
invariant-loop-tag l =
    Sound l.table l.placed.items × (reading_from l.table l.placed.items (drop l.tag-index l.tag-items) ≡ reading_of l.table l.tags)
