-- What the lines and sections of a guide mean, as a body keeps them.
use Rattle.std.specs.Prelude.{◌≡◌, Bool, true, List, [], ◌∷◌, ◌++◌, map, Option, Some, None}
use Rattle.std.specs.List.{list_all}
use Rattle.std.specs.Borrow.{Bor}
use Rattle.edi_tables.specs.Octets.{Octets}
use Rattle.guide_overlay.specs.Rows.NodeChange.{Drop, Keep}
use Rattle.guide_overlay.specs.declared.line.DetailText.{DetailText}
use Rattle.guide_overlay.specs.declared.line.DetailText.TheVariants as text
use Rattle.guide_overlay.specs.declared.line.LineRead.{LineRead}
use Rattle.guide_overlay.specs.declared.line.LineRead.TheVariants as read
use Rattle.guide_overlay.specs.declared.line.Topic.{Topic}
use Rattle.guide_overlay.specs.declared.stop.GuideKind.{GuideKind}
use Rattle.guide_overlay.specs.declared.sections.SectionText.{SectionText}
use Rattle.guide_overlay.specs.declared.sections.Reading.{Reading}
use Rattle.guide_overlay.specs.Guide.{Detail, GuideLine, Section, is_named, values_in}
use Rattle.guide_overlay.specs.Guide.Detail.{Node, Item, Part, Value}
use Rattle.guide_overlay.specs.Guide.GuideLine.{Head, Under}

-- the detail that a detail in a text is
abbrev pub detail_seen : DetailText → Detail
detail_seen (text.Dropped node) = Node node Drop
detail_seen (text.Kept node must max) = Node node (Keep must max)
detail_seen (text.Item item must reps) = Item item must reps
detail_seen (text.Part part must) = Part part must
detail_seen (text.Value value) = Value value.now

-- the line that a line in a text is
abbrev pub line_seen : LineRead → GuideLine
line_seen (read.Head topic name) = Head topic name.now
line_seen (read.Under detail) = Under (detail_seen detail)

-- the name of a head has its form
abbrev pub is_line_named : GuideLine → Bool
is_line_named (Head topic name) = is_named topic name
is_line_named (Under detail) = true

-- the rules that an answer of at most one rule tells
abbrev pub kinds_told : Option GuideKind → List GuideKind
kinds_told None = []
kinds_told (Some kind) = kind ∷ []

-- the section that a section in a text is
abbrev pub section_seen : SectionText → Section
section_seen section =
    record { topic = section.topic; name = section.name.now; details = map detail_seen section.details.items }

-- the section of the head that was read last, with the details under it; none where no head was read
abbrev pub last_seen : Option (Topic × Bor Octets) → List Detail → List Section
last_seen None details = []
last_seen (Some head) details = record { topic = head.0; name = head.1.now; details = details } ∷ []

-- the sections that were read
abbrev pub sections_seen : Reading → List Section
sections_seen reading =
    map section_seen reading.finished.items ++ last_seen reading.last (map detail_seen reading.details.items)

-- the last section with one more detail
abbrev pub with_detail : List Section → Detail → List Section
with_detail [] detail = []
with_detail (section ∷ []) detail = record section { details = section.details ++ detail ∷ [] } ∷ []
with_detail (section ∷ next ∷ more) detail = section ∷ with_detail (next ∷ more) detail

-- the sections with one more line
abbrev pub sections_after : List Section → Option GuideLine → List Section
sections_after sections None = sections
sections_after sections (Some (Head topic name)) =
    sections ++ record { topic = topic; name = name; details = [] } ∷ []
sections_after sections (Some (Under detail)) = with_detail sections detail

-- words that are lent
abbrev pub words_seen : List (Bor Octets) → List Octets
words_seen words = map (λ word. word.now) words

-- each name has its form, there is a last section where there is one, and the names and the values of the last section
-- are those that are found by their hash
pub record IsGuideReading (reading : Reading) : Type 0 where
  pub named : list_all (λ section. is_named section.topic section.name) (sections_seen reading) ≡ true
  pub begun : reading.last ≡ None → reading.finished.items ≡ []
  pub names : words_seen reading.names.keys ≡ map (λ section. section.name) (sections_seen reading)
  pub values : words_seen reading.values.keys ≡ values_in (map detail_seen reading.details.items)
