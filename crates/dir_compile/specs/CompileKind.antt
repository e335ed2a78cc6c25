-- The printed words of the faults of a directory's parts.
use Rattle.std.specs.Prelude.{codes}
use Rattle.edi_tables.specs.Octets.{Octets}
use Rattle.dir_compile.specs.declared.stop.CompileKind.{CompileKind}
use Rattle.dir_compile.specs.declared.stop.CompileKind.TheVariants.{Twice, UnknownElement, ReprDiffers, Reserved, UnknownComposite, UnknownSegment, BadTable}

-- the word that is printed for a kind
abbrev pub word_of : CompileKind → Octets
word_of Twice = codes "twice"
word_of UnknownElement = codes "unknown-element"
word_of ReprDiffers = codes "repr-differs"
word_of Reserved = codes "reserved"
word_of UnknownComposite = codes "unknown-composite"
word_of UnknownSegment = codes "unknown-segment"
word_of BadTable = codes "bad-table"
