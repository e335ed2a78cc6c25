-- Where a segment is in the tree by its record, and that it lies in what it opens.
use Rattle.std.proofs.Common.{◌≡◌, ℕ, ◌+◌, ◌-◌, ◌<◌, ◌≤◌, Bool, true, false, List, [], length, Option, Some, None, refl, sym, ap, ◌∙◌, subst, arith}
use Rattle.std.specs.Prelude.{map, All, IfSome, codes, ◌||◌, if◌then◌else◌}
use Rattle.std.proofs.lemmas.List.Elements.{All-map, All-weaker}
use Rattle.edi_tables.specs.declared.tag.Tag.{Tag}
use Rattle.edi_tables.specs.declared.table.Node.{Node}
use Rattle.edi_tables.specs.Rows.{IsTable}
use Rattle.edi_tables.specs.Walk.{groups_round, is_trigger_at, is_trigger_of, parent_at}
use Rattle.edi_tables.specs.Pairs.{count_in}
use Rattle.edi_tables.proofs.Walking.{groups_round_some}
use Rattle.dir_compile.specs.declared.parts.Parts.{Parts}
use Rattle.dir_compile.specs.Directory.{IsDirectory}
use Rattle.error_ledger.specs.declared.tree.TreeLine.{TreeLine}
use Rattle.error_ledger.specs.declared.tree.TreePlace.{TreePlace}
use Rattle.error_ledger.specs.declared.tree.TreePlace.TheVariants as place
use Rattle.error_ledger.specs.declared.tree.GroupMark.{GroupMark}
use Rattle.error_ledger.specs.Printing.{IsWellPlaced, LiesInWhatItOpens}
use Rattle.segment_records.specs.Messages.{nodes_at}
use Rattle.segment_records.specs.Places.{group_number, inner_place, opened_by, opening_place, place_by, place_with}
use Rattle.segment_records.specs.Records.{IsModeOf}
use Rattle.segment_records.specs.Segments.{Segment}
use Rattle.segment_records.specs.Steps.{Step, inner_step, is_named, is_no_part}
use Rattle.segment_records.specs.Taken.{read_as}
use Rattle.segment_records.specs.declared.mode.Mode.{Mode}
use Rattle.segment_records.specs.declared.mode.Mode.TheVariants.{Outside, Untabled, Within}
use Rattle.segment_records.proofs.Tables.{table_is}
use Rattle.table_walk.specs.Steps.{IsShaped, member_in}
use Rattle.segment_records.specs.WalkedSegments.{Follows, SeenSegment, as_segment}
use Rattle.segment_records.specs.Bounds.{bounds_message}
use Rattle.segment_records.specs.Told.{line_in_tree}
use Rattle.segment_records.proofs.Nodes.{member_within}

-- the cases of a place, as code tells them apart
module _ (dir : Parts) (before : Mode) (segment : Segment) (step : Step) where
  pub place_at_unh : is_named (codes "UNH") segment ≡ true → place_by dir before segment step ≡ opening_place step.entry
  unfolding place_by
  place_at_unh is =
      ap (λ (b : Bool). if b then opening_place step.entry else (if is_no_part segment then place.Outside else inner_place dir before step.entry)) is

  place_after_unh : is_named (codes "UNH") segment ≡ false → place_by dir before segment step ≡ (if is_no_part segment then place.Outside else inner_place dir before step.entry)
  unfolding place_by
  place_after_unh is =
      ap (λ (b : Bool). if b then opening_place step.entry else (if is_no_part segment then place.Outside else inner_place dir before step.entry)) is

  pub place_outside : is_named (codes "UNH") segment ≡ false → is_no_part segment ≡ true → place_by dir before segment step ≡ place.Outside
  place_outside is out = place_after_unh is ∙ ap (λ (b : Bool). if b then place.Outside else inner_place dir before step.entry) out

  pub place_inside : is_named (codes "UNH") segment ≡ false → is_no_part segment ≡ false → place_by dir before segment step ≡ inner_place dir before step.entry
  place_inside is out = place_after_unh is ∙ ap (λ (b : Bool). if b then place.Outside else inner_place dir before step.entry) out

-- an entry that opens a group lies in it
module _ (nodes : List Node) (table : IsTable nodes) where
  trigger_round : (entry : ℕ) (parent : Option ℕ) → parent_at nodes entry ≡ parent → is_trigger_of parent entry ≡ true → 1 ≤ length (groups_round nodes entry)
  trigger_round entry None is trigger = absurd (let no : ⊥ = cc in no)
  trigger_round entry (Some group) is trigger =
      let round = ap length (groups_round_some nodes table entry group is) in omega arith

  opened_well : (count : ℕ → ℕ) (entry : ℕ) (trigger : Bool) → is_trigger_at nodes entry ≡ trigger
      → IfSome (opened_by nodes count entry) (λ (_ : GroupMark). 1 ≤ length (groups_round nodes entry))
  opened_well count entry trigger is =
      subst (λ (o : Option GroupMark). IfSome o (λ (_ : GroupMark). 1 ≤ length (groups_round nodes entry)))
      (ap (λ (b : Bool). let o : Option GroupMark = if b then Some (record { number = group_number nodes (entry - 1); count = count (entry - 1) }) else None in o) (sym is))
      (by trigger is)
    where
      by : (trigger : Bool) → is_trigger_at nodes entry ≡ trigger
          → IfSome (let o : Option GroupMark = if trigger then Some (record { number = group_number nodes (entry - 1); count = count (entry - 1) }) else None in o) (λ (_ : GroupMark). 1 ≤ length (groups_round nodes entry))
      by true is = trigger_round entry (parent_at nodes entry) refl is
      by false is = tt

  pub placed_well : (count : ℕ → ℕ) (entry : Option ℕ) → LiesInWhatItOpens (place_with nodes count entry)
  placed_well count None = tt
  placed_well count (Some entry) = opened_well count entry (is_trigger_at nodes entry) refl

opening_well : (entry : Option ℕ) → LiesInWhatItOpens (opening_place entry)
opening_well None = tt
opening_well (Some entry) = tt

inner_well : (dir : Parts) → IsDirectory dir → (before : Mode) (entry : Option ℕ) → IsModeOf dir 4194303 before → LiesInWhatItOpens (inner_place dir before entry)
inner_well dir directory Outside entry of = tt
inner_well dir directory Untabled entry of = tt
inner_well dir directory (Within table pairs) entry of =
    placed_well (nodes_at dir table) (table_is dir directory table of.0) (λ group. count_in pairs group + 1) entry

place_well : (dir : Parts) → IsDirectory dir → (before : Mode) (segment : Segment) (step : Step) → IsModeOf dir 4194303 before
    → (unh out : Bool) → is_named (codes "UNH") segment ≡ unh → is_no_part segment ≡ out → LiesInWhatItOpens (place_by dir before segment step)
place_well dir directory before segment step of true out is_unh is_out =
    subst LiesInWhatItOpens (sym (place_at_unh dir before segment step is_unh)) (opening_well step.entry)
place_well dir directory before segment step of false true is_unh is_out =
    subst LiesInWhatItOpens (sym (place_outside dir before segment step is_unh is_out)) tt
place_well dir directory before segment step of false false is_unh is_out =
    subst LiesInWhatItOpens (sym (place_inside dir before segment step is_unh is_out)) (inner_well dir directory before step.entry of)

-- the members of the tree lie in what they open
pub well_all : (dir : Parts) → IsDirectory dir → (seen : List SeenSegment) → All (Follows dir) seen → All IsWellPlaced (map (line_in_tree dir) seen)
well_all dir directory seen follow =
    All-map IsWellPlaced (line_in_tree dir) seen (All-weaker (Follows dir) (λ (s : SeenSegment). IsWellPlaced (line_in_tree dir s)) well seen follow)
  where
    well : (seen : SeenSegment) → Follows dir seen → IsWellPlaced (line_in_tree dir seen)
    well seen it = place_well dir directory seen.before (as_segment seen) seen.kept.step it.before _ _ refl refl

-- a segment with this tag alone
abbrev pub tag_segment : Option Tag → Segment
tag_segment tag = record { from = 0; start = 0; end = 0; components = []; tag = tag }

-- the entry of a segment of a message is one of the table's nodes
pub entry_within : (dir : Parts) (seen : SeenSegment) → Follows dir seen → (table : ℕ) (pairs : List (ℕ × ℕ)) (nodes : List Node)
    → seen.before ≡ Within table pairs → nodes_at dir table ≡ nodes → IsTable nodes
    → is_named (codes "UNH") (as_segment seen) ≡ false → is_no_part (as_segment seen) ≡ false
    → (entry : Option ℕ) → entry ≡ seen.kept.step.entry → IfSome entry (λ at. at < length nodes)
entry_within dir seen it table pairs nodes before_is nodes_is lawful unh out entry entry_is =
    let inside : bounds_message seen.kept.tag ≡ false = ap (λ (b : Bool). b || is_no_part (as_segment seen)) unh ∙ out in
    let of : IsModeOf dir 4194303 (Within table pairs) = subst (IsModeOf dir 4194303) before_is it.before in
    let shaped : IsShaped nodes pairs = subst (λ (ns : List Node). IsShaped ns pairs) nodes_is of.1 in
    let member : entry ≡ member_in nodes pairs seen.kept.tag =
    entry_is ∙ ap (λ (step : Step). step.entry) (it.inner inside)
    ∙ ap (λ (before : Mode). (inner_step dir before (read_as seen.kept.tag [])).entry) before_is
    ∙ ap (λ (ns : List Node). member_in ns pairs seen.kept.tag) nodes_is in
    by nodes pairs shaped lawful seen.kept.tag entry member
  where
    by : (nodes : List Node) (pairs : List (ℕ × ℕ)) → IsShaped nodes pairs → IsTable nodes → (tag : Option Tag) (entry : Option ℕ)
        → entry ≡ member_in nodes pairs tag → IfSome entry (λ at. at < length nodes)
    by nodes pairs shaped lawful tag None is = tt
    by nodes pairs shaped lawful tag (Some c) is = member_within nodes pairs shaped lawful tag (Some c) c is refl

pub line_is : (dir : Parts) (seen : SeenSegment) (tag : Option Tag) (place : TreePlace) → tag ≡ seen.kept.tag
    → place ≡ place_by dir seen.before (as_segment seen) seen.kept.step
    → (let line : TreeLine = record { segment = seen.number; tag = tag; place = place } in line ≡ line_in_tree dir seen)
line_is dir seen tag place tag_is place_is = λ i. record { segment = seen.number; tag = tag_is i; place = place_is i }
