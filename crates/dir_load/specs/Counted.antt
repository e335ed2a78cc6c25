-- The lines of a manifest that are left.
use Rattle.std.specs.Prelude.{List, filter}
use Rattle.edi_octets.specs.Left.{lines_left}
use Rattle.edi_octets.specs.Lines.{Line}
use Rattle.dir_load.specs.declared.counted.CountedLines.{CountedLines}
use Rattle.dir_load.specs.Manifest.{is_counted}

-- the lines that are left, except those of spaces alone
abbrev pub counted_left : CountedLines → List Line
counted_left counted = filter is_counted (lines_left counted.lines)
