-- For bodies: the octets of a reply.
use Rattle.std.specs.Prelude.{[], ◌∷◌, ◌++◌, length, codes, decimal}
use Rattle.edi_octets.specs.Decimal.{count_line}
use Rattle.edi_tables.specs.Octets.{Octets}
use Rattle.script_answers.specs.declared.reply.Reply.{Reply}
use Rattle.script_answers.specs.declared.reply.Reply.TheVariants.{Fixed, Edited, Refused, Lines, Tree, Counted}
use Rattle.script_answers.specs.Reply.{line_of}

-- all octets of a reply, in the order in which they are put
abbrev pub octets_of : Reply → Octets
octets_of (Fixed octets) = octets.now
octets_of (Edited length) = line_of (codes "ok " ++ decimal length)
octets_of (Refused words edit) = line_of (words.now ++ decimal edit)
octets_of (Lines lines) = lines
octets_of (Tree lines text) = count_line (codes "tree") lines ++ text
octets_of (Counted head octets) = head.now ++ decimal (length octets) ++ 10 ∷ (octets ++ 10 ∷ [])
