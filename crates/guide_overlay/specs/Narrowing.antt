-- What is true of the sections of a guide without a fault, for the body that narrows and for proofs.
use Rattle.std.specs.Prelude.{◌≡◌, Bool, true, false, List, [], map, All, AllPairs}
use Rattle.std.specs.Str.{bytes_eq}
use Rattle.edi_tables.specs.Forms.{is_code_value}
use Rattle.edi_tables.specs.Octets.{Octets}
use Rattle.dir_compile.specs.declared.parts.Parts.{Parts}
use Rattle.guide_overlay.specs.declared.line.Topic.{Topic}
use Rattle.guide_overlay.specs.Guide.{Detail, Section, base_kinds, is_known, is_named, is_same_detail, topic_of}
use Rattle.guide_overlay.specs.Guide.Detail.{Node, Item, Part, Value}

-- a value that is kept has the form of a code value
abbrev pub is_value_formed : Detail → Bool
is_value_formed (Value value) = is_code_value value
is_value_formed (Node node change) = true
is_value_formed (Item item must reps) = true
is_value_formed (Part part must) = true

-- a detail for a topic, which narrows what the directory has of that name
pub record IsNarrowingDetail (dir : Parts) (topic : Topic) (name : Octets) (detail : Detail) : Type 0 where
  pub under : topic_of detail ≡ topic
  pub formed : is_value_formed detail ≡ true
  pub narrower : base_kinds dir name detail ≡ []

-- a section of something of the directory, with such details, no two of them of the same node, item, part or value
pub record IsNarrowing (dir : Parts) (section : Section) : Type 0 where
  pub named : is_named section.topic section.name ≡ true
  pub known : is_known dir section.topic section.name ≡ true
  pub details : All (IsNarrowingDetail dir section.topic section.name) section.details
  pub apart : AllPairs (λ earlier later. is_same_detail later earlier ≡ false) section.details

-- such sections, no two of the same name
pub record AreNarrowing (dir : Parts) (sections : List Section) : Type 0 where
  pub each : All (IsNarrowing dir) sections
  pub apart : AllPairs (λ earlier later. bytes_eq later earlier ≡ false) (map (λ section. section.name) sections)
