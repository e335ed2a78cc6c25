-- What the fields of a directory keep.
use Rattle.std.specs.Prelude.{◌≡◌, length, map}
use Rattle.collision_check.specs.Listed.{collision_seen}
use Rattle.edi_tables.specs.Collisions.{collisions_of}
use Rattle.dir_compile.specs.declared.directory.Directory.TheInside.{Inside}
use Rattle.dir_compile.specs.Codes.{AreNumbersOf}
use Rattle.dir_compile.specs.Names.{IsNamesOf}
use Rattle.dir_compile.specs.Directory.{IsDirectory, tables_of}

-- its parts are a directory's, each name is at the place of its definition, the numbers of codes are those of its
-- lists, and the tables and collisions are those of the parts
pub record IsIndexed (d : Inside) : Type 0 where
  pub lawful : IsDirectory d.parts
  pub names : IsNamesOf d.names d.parts
  pub many : length d.numbers.items ≡ length d.parts.lists
  pub numbers : AreNumbersOf d.parts.lists d.numbers.items
  pub tables : d.tables.items ≡ tables_of d.parts
  pub collisions : map (map collision_seen) d.collisions.items ≡ map collisions_of (tables_of d.parts)
