-- The head, the mark and the place in the tree of a segment, by what is seen of it.
use Rattle.std.specs.Prelude.{◌≡◌, Bool, false, List, Option, is_some}
use Rattle.std.specs.Option.{option_map}
use Rattle.dir_compile.specs.Directory.{Directory}
use Rattle.edi_tables.specs.Octets.{Octets}
use Rattle.envelope_check.specs.Heads.{kind_of}
use Rattle.envelope_check.specs.Head.{Head}
use Rattle.envelope_check.specs.declared.head.HeadKind.{HeadKind}
use Rattle.envelope_check.specs.declared.head.HeadKind.TheVariants.{Unh}
use Rattle.envelope_check.specs.declared.head.SegmentMark.{SegmentMark}
use Rattle.error_ledger.specs.declared.tree.TreeLine.{TreeLine}
use Rattle.seg_lexer.specs.Fields.{Component, components_at}
use Rattle.seg_lexer.specs.declared.service.Service.{Service}
use Rattle.segment_records.specs.Places.{place_by}
use Rattle.segment_records.specs.Heads.{count_in, given_by, name_in, reference_in}
use Rattle.segment_records.specs.WalkedSegments.{SeenSegment, as_segment}

-- a UNH that is at an entry
abbrev pub tabled_seen : SeenSegment → HeadKind → Bool
tabled_seen seen Unh = is_some seen.kept.step.entry
tabled_seen seen _ = false

-- the components of a segment, in its text
abbrev pub components_seen : Service → Octets → SeenSegment → List Component
components_seen service text seen = components_at service text (as_segment seen).start (as_segment seen).end

-- a segment as a head of this kind, with the values that its text gives
abbrev pub head_seen : Service → Octets → SeenSegment → HeadKind → Head
head_seen service text seen kind = record {
  segment = seen.number;
  start = (as_segment seen).start;
  kind = kind;
  reference = reference_in (components_seen service text seen) kind;
  count = count_in (components_seen service text seen) kind;
  name = name_in (components_seen service text seen) kind;
  tabled = tabled_seen seen kind;
}

-- the mark of a segment: its first octet and its tag
abbrev pub mark_seen : SeenSegment → SegmentMark
mark_seen seen = record { start = (as_segment seen).start; tag = seen.kept.tag }

-- the member of the tree for a segment: its number, its tag and its place
abbrev pub line_in_tree : Directory → SeenSegment → TreeLine
line_in_tree dir seen = record {
  segment = seen.number;
  tag = seen.kept.tag;
  place = place_by dir seen.before (as_segment seen) seen.kept.step;
}

-- a segment as a head, where its tag is one of the six
abbrev pub head_when : Service → Octets → SeenSegment → Option Head
head_when service text seen = option_map (head_seen service text seen) (kind_of seen.kept.tag)

-- what is kept of a segment has the values that its text gives, where it is a head
abbrev pub KeepsValues : Service → Octets → SeenSegment → Type 0
KeepsValues service text seen = seen.kept.given ≡ given_by seen.kept.tag (components_seen service text seen)
