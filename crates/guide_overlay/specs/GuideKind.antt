-- The printed words of the faults of a guide.
use Rattle.std.specs.Prelude.{codes}
use Rattle.edi_tables.specs.Octets.{Octets}
use Rattle.guide_overlay.specs.declared.stop.GuideKind.{GuideKind}
use Rattle.guide_overlay.specs.declared.stop.GuideKind.TheVariants.{BadIndex, BadLine, NotNarrower, Twice, UnknownName}

-- the word that is printed for a kind
abbrev pub word_of : GuideKind → Octets
word_of BadLine = codes "bad-line"
word_of UnknownName = codes "unknown-name"
word_of Twice = codes "twice"
word_of BadIndex = codes "bad-index"
word_of NotNarrower = codes "not-narrower"
