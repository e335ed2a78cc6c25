-- The printed words of the kinds of a directory file's faults.
use Rattle.std.specs.Prelude.{codes}
use Rattle.edi_tables.specs.Octets.{Octets}
use Rattle.edi_octets.specs.declared.fault.DirKind.{DirKind}
use Rattle.edi_octets.specs.declared.fault.DirKind.TheVariants.{BadLine, BadCode, BadRepr, NoRepr, BadPosition, BadStatus, Twice, PartsDiffer, NoType, BadGroup, CloseWithoutOpen, NotClosed, TooMany, NoUnhUnt, EnvelopeTag, BadMax, TooDeep, NoTrigger}

-- the word that is printed for a kind
abbrev pub word_of : DirKind → Octets
word_of BadLine = codes "bad-line"
word_of BadCode = codes "bad-code"
word_of BadRepr = codes "bad-repr"
word_of NoRepr = codes "no-repr"
word_of BadPosition = codes "bad-position"
word_of BadStatus = codes "bad-status"
word_of Twice = codes "twice"
word_of PartsDiffer = codes "parts-differ"
word_of NoType = codes "no-type"
word_of BadGroup = codes "bad-group"
word_of CloseWithoutOpen = codes "close-without-open"
word_of NotClosed = codes "not-closed"
word_of TooMany = codes "too-many"
word_of NoUnhUnt = codes "no-unh-unt"
word_of EnvelopeTag = codes "envelope-tag"
word_of BadMax = codes "bad-max"
word_of TooDeep = codes "too-deep"
word_of NoTrigger = codes "no-trigger"
