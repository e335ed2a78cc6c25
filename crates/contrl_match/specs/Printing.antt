-- The printed form of findings.
use Rattle.std.specs.Prelude.{List, [], ◌∷◌, ◌++◌, length, codes, decimal}
use Rattle.std.specs.List.{flat_map}
use Rattle.edi_tables.specs.Octets.{Octets}
use Rattle.edi_octets.specs.Decimal.{count_line}
use Rattle.edi_octets.specs.Shown.{octet_shown}
use Rattle.contrl_match.specs.declared.finding.Finding.{Finding}
use Rattle.contrl_match.specs.declared.finding.Where.{Where}
use Rattle.contrl_match.specs.declared.finding.Where.TheVariants.{Interchange, Group, Message, Segment}

-- the word of what a finding is about
abbrev pub level_word : Where → Octets
level_word Interchange = codes "interchange"
level_word Group = codes "group"
level_word Message = codes "message"
level_word Segment = codes "segment"

-- the tag that is named, its octets as those of values are shown; `-` where none is
abbrev pub tag_shown : Octets → Octets
tag_shown [] = codes "-"
tag_shown (x ∷ xs) = flat_map octet_shown (x ∷ xs)

-- the line of a finding: its level, segment, tag, element, component and code
abbrev pub finding_line : Finding → Octets
finding_line f =
    level_word f.level ++ codes " " ++ decimal f.segment ++ codes " " ++ tag_shown f.tag ++ codes " "
    ++ decimal f.element ++ codes " " ++ decimal f.component ++ codes " " ++ flat_map octet_shown f.code ++ 10 ∷ []

-- how many findings there are, and a line for each
abbrev pub findings_text : List Finding → Octets
findings_text list = count_line (codes "findings") (length list) ++ flat_map finding_line list
