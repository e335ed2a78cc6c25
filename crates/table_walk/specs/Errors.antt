-- What is wrong in the structure of a message, by its segment table.
use Rattle.std.specs.Prelude.{◌-◌, ℕ, Bool, false, List, [], ◌∷◌, ◌++◌, length, take, map, Option, Some, None, if◌then◌else◌}
use Rattle.std.specs.List.{flat_map, range_with_len}
use Rattle.edi_tables.specs.declared.tag.Tag.{Tag}
use Rattle.edi_tables.specs.declared.table.Node.{Node}
use Rattle.edi_tables.specs.Walk.{missing_between, missing_past}
use Rattle.edi_tables.specs.Placement.{last_placed, is_over}
use Rattle.table_walk.specs.Reading.{member_at, reading_of}

-- a mandatory node is missing, an entry or its group is one too many, or a segment is at no entry
pub data Fault : Type 0 where
  Missing : ℕ → Fault
  Over : ℕ → Fault
  Unplaced : Fault

-- the place of a segment in its message, from 0, and what is wrong there
pub record StructureError : Type 0 where
  pub at : ℕ
  pub fault : Fault

-- what going to a member passes, after these
abbrev pub missing_before : List Node → List (Option ℕ) → Option ℕ → List ℕ
missing_before nodes placed None = []
missing_before nodes placed (Some c) = missing_between nodes (last_placed placed) c

-- whether a member is one too many, after these
abbrev pub is_member_over : List Node → List (Option ℕ) → Option ℕ → Bool
is_member_over nodes placed None = false
is_member_over nodes placed (Some c) = is_over nodes placed c

-- what is wrong with a member, after these
abbrev pub faults_of : List Node → List (Option ℕ) → Option ℕ → List Fault
faults_of nodes placed None = Unplaced ∷ []
faults_of nodes placed (Some c) =
    map Missing (missing_between nodes (last_placed placed) c) ++ (if is_over nodes placed c then Over c ∷ [] else [])

-- what is wrong with the segment at place k by itself
abbrev pub faults_at : List Node → List (Option ℕ) → ℕ → List Fault
faults_at nodes placed k = faults_of nodes (take k placed) (member_at placed k)

-- these faults, at this place
abbrev pub at_place : ℕ → List Fault → List StructureError
at_place k faults = map (λ fault. record { at = k; fault = fault }) faults

-- the nodes that are missing at the last segment of a message that isn't closed
abbrev pub open_faults : List Node → List (Option ℕ) → Bool → List Fault
open_faults nodes placed closed = if closed then [] else map Missing (missing_past nodes (last_placed placed))

-- what is wrong where the segments of a message are: with each after UNH by itself, and at the end
abbrev pub errors_of_placed : List Node → List (Option ℕ) → Bool → List StructureError
errors_of_placed nodes placed closed =
    flat_map (λ k. at_place k (faults_at nodes placed k)) (range_with_len 1 (length placed - 1))
    ++ at_place (length placed - 1) (open_faults nodes placed closed)

-- what is wrong in the structure of a message with these tags
unfoldable pub structure_errors_of : List Node → List (Option Tag) → Bool → List StructureError
structure_errors_of nodes tags closed = errors_of_placed nodes (reading_of nodes tags) closed
