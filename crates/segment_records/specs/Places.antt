-- Where the segments of a text are in the tree: each in its message's segment table.
use Rattle.std.specs.Prelude.{ℕ, ◌+◌, ◌-◌, List, length, filter, take, Option, Some, None, codes, if◌then◌else◌}
use Rattle.std.specs.List.{range_with_len}
use Rattle.dir_compile.specs.Directory.{Directory}
use Rattle.edi_tables.specs.declared.table.Node.{Node}
use Rattle.edi_tables.specs.Walk.{groups_round, is_group_at, is_trigger_at}
use Rattle.edi_tables.specs.Pairs.{count_in}
use Rattle.edi_tables.specs.Placement.{group_count}
use Rattle.error_ledger.specs.declared.tree.TreePlace.{TreePlace}
use Rattle.error_ledger.specs.declared.tree.TreePlace.TheVariants as place
use Rattle.error_ledger.specs.declared.tree.GroupMark.{GroupMark}
use Rattle.table_walk.specs.Reading.{member_at}
use Rattle.segment_records.specs.Segments.{Segment}
use Rattle.segment_records.specs.Messages.{Position, message_reading, nodes_at, position_at}
use Rattle.segment_records.specs.Messages.Position.{Outside, Untabled, Within}
use Rattle.segment_records.specs.Steps.{Step, is_named, is_no_part}
use Rattle.segment_records.specs.declared.mode.Mode.{Mode}
use Rattle.segment_records.specs.declared.mode.Mode.TheVariants as mode

-- the number of a group among the groups of its table, from 1
abbrev pub group_number : List Node → ℕ → ℕ
group_number nodes group = length (filter (is_group_at nodes) (range_with_len 0 (group + 1)))

-- the group that an entry opens, where it is a trigger, with its count
abbrev pub opened_by : List Node → (ℕ → ℕ) → ℕ → Option GroupMark
opened_by nodes count entry =
    if is_trigger_at nodes entry
    then Some (record { number = group_number nodes (entry - 1); count = count (entry - 1) })
    else None

-- a segment at an entry or at none, with the counts of groups
abbrev pub place_with : List Node → (ℕ → ℕ) → Option ℕ → TreePlace
place_with nodes count None = place.Unplaced
place_with nodes count (Some entry) =
    place.Placed entry (length (groups_round nodes entry)) (opened_by nodes count entry)

-- where the member of a reading at place k is; a group is counted with this placement
abbrev pub place_in : List Node → List (Option ℕ) → ℕ → TreePlace
place_in nodes placed k = place_with nodes (group_count nodes (take (k + 1) placed)) (member_at placed k)

-- where the segment at place i is, in this position
abbrev pub tree_place_of : Directory → List Segment → ℕ → Position → TreePlace
tree_place_of dir segments i Outside = place.Outside
tree_place_of dir segments i Untabled = place.Untabled
tree_place_of dir segments i (Within table e) =
    place_in (nodes_at dir table) (message_reading dir segments table e) (i + 1 - e.first)

-- where the segment at place i is
unfoldable pub place_at : Directory → List Segment → ℕ → TreePlace
place_at dir segments i = tree_place_of dir segments i (position_at dir segments i)

-- where a segment is by its step: UNH at entry 0
abbrev pub opening_place : Option ℕ → TreePlace
opening_place None = place.Untabled
opening_place (Some entry) = place.Placed entry 0 None

-- where a segment that neither opens nor leaves a message is
abbrev pub inner_place : Directory → Mode → Option ℕ → TreePlace
inner_place dir mode.Outside entry = place.Outside
inner_place dir mode.Untabled entry = place.Untabled
inner_place dir (mode.Within table pairs) entry =
    place_with (nodes_at dir table) (λ group. count_in pairs group + 1) entry

-- where a segment is by its step and the mode before it
unfoldable pub place_by : Directory → Mode → Segment → Step → TreePlace
place_by dir before segment step =
    if is_named (codes "UNH") segment then opening_place step.entry
    else if is_no_part segment then place.Outside
    else inner_place dir before step.entry
