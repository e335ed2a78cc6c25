-- The errors of each segment by its record are those that the definitions say.
use Rattle.std.proofs.Common.{◌≡◌, ℕ, zero, suc, ◌+◌, ◌<◌, ◌≤◌, Bool, true, false, not, ◌&&◌, List, [], ◌∷◌, ◌++◌, length, Option, Some, None, refl, sym, ap, ◌∙◌, arith}
use Rattle.std.specs.Prelude.{map, codes, ◌||◌, if◌then◌else◌}
use Rattle.std.specs.List.{slice_get, enumerate_from, flat_map}
use Rattle.std.specs.Option.{option_map}
use Rattle.std.proofs.lemmas.Bool.{lt-ltb, le-ltb}
use Rattle.std.proofs.lemmas.List.{map-append}
use Rattle.std.proofs.lemmas.Option.{slice_get_within}
use Rattle.edi_tables.specs.declared.tag.Tag.{Tag}
use Rattle.edi_tables.specs.declared.table.Node.{Node}
use Rattle.edi_tables.specs.Extents.{tag_in}
use Rattle.dir_compile.specs.declared.parts.Parts.{Parts}
use Rattle.dir_compile.specs.Directory.{IsDirectory}
use Rattle.error_ledger.specs.declared.error.ErrorLine.{ErrorLine}
use Rattle.element_check.specs.declared.error.LocalError.{LocalError}
use Rattle.element_check.specs.Local.{local_errors_of}
use Rattle.seg_lexer.specs.Context.{context_of}
use Rattle.seg_lexer.specs.declared.context.Context.{Context}
use Rattle.table_walk.specs.Errors.{Fault, StructureError}
use Rattle.table_walk.specs.Errors.Fault.{Missing, Over, Unplaced}
use Rattle.segment_records.specs.Laws.{end_faults, ends_after, missing_at_end, step_faults}
use Rattle.segment_records.specs.Messages.{structure_errors_at, mode_after, nodes_at, position_at}
use Rattle.segment_records.specs.Records.{kept_of}
use Rattle.segment_records.specs.Segments.{Segment, segments_of_text, tags_in}
use Rattle.segment_records.specs.Steps.{Step, is_named, is_no_part, step_of}
use Rattle.segment_records.specs.declared.mode.Mode.{Mode}
use Rattle.segment_records.specs.declared.mode.Mode.TheVariants.{Outside, Untabled, Within}
use Rattle.segment_records.proofs.FaultLaws.{steps_tell_faults}
use Rattle.segment_records.proofs.Held.{length_tags, tag_is}
use Rattle.segment_records.proofs.ModeLaws.{steps_are_modes}
use Rattle.segment_records.specs.Errors.{error_with, fault_line, local_lines, nodes_in, segment_lines, structure_lines}
use Rattle.segment_records.specs.Line.{end_lines, ends_before, fault_lines, faults_of_step, lines_seen, local_seen, nodes_of_mode, step_lines, structure_seen}
use Rattle.segment_records.specs.WalkedSegments.{SeenSegment, as_segment, seen_at, seen_in}
use Rattle.segment_records.specs.Bounds.{bounds_message}
use Rattle.segment_records.proofs.Following.{stretch_in}
use Rattle.segment_records.proofs.Looking.{all_enumerated, flat_map_alike, seen_is}
use Rattle.segment_records.proofs.Nearby.{nodes_after, nodes_before}

-- a segment with this first octet and this tag
abbrev plain : ℕ → Option Tag → Segment
plain start tag = record { from = 0; start = start; end = 0; components = []; tag = tag }

-- an error of a segment has its first octet and its tag
fault_plain : (nodes : List Node) (k : ℕ) (segment : Segment) (fault : Fault) → fault_line nodes k segment fault ≡ fault_line nodes k (plain segment.start segment.tag) fault
fault_plain nodes k segment (Missing node) = refl
fault_plain nodes k segment (Over entry) = refl
fault_plain nodes k segment Unplaced = refl

mapped_twice : {A B C : Type 0} (f : B → C) (g : A → B) (xs : List A) → map (λ x. f (g x)) xs ≡ map f (map g xs)
mapped_twice f g [] = refl
mapped_twice f g (x ∷ xs) = ap (λ ys. f (g x) ∷ ys) (mapped_twice f g xs)

past_all : {A : Type 0} (xs : List A) (k : ℕ) → slice_get xs k ≡ None → length xs ≤ k
past_all [] k none = omega arith
past_all (x ∷ xs) zero none = absurd (let no : ⊥ = cc in no)
past_all (x ∷ xs) (suc k) none = let more = past_all xs k none in omega arith

module _ (dir : Parts) (directory : IsDirectory dir) (context : Context) (segments : List Segment) (i : ℕ) (segment : Segment)
    (is : slice_get segments i ≡ Some segment) (low : segment.from ≤ segment.start) where
  abbrev seen : SeenSegment
  seen = seen_at dir context segments (i, segment)

  abbrev tags : List (Option Tag)
  tags = tags_in segments

  abbrev step : Step
  step = step_of dir (mode_after dir segments i) segment

  within : i < length segments
  within = slice_get_within segments i segment is

  pub start_is : (as_segment seen).start ≡ segment.start
  start_is = omega arith

  mode_next : mode_after dir segments (i + 1) ≡ step.after
  mode_next = steps_are_modes dir directory segments i segment is

  tag_here : tag_in tags i ≡ segment.tag
  tag_here = tag_is dir segments i segment is

  -- faults are reported alike
  told_alike : (nodes : List Node) (faults : List Fault) → map (fault_line nodes (i + 1) segment) faults ≡ fault_lines nodes seen faults
  told_alike nodes faults =
      let one : (fault : Fault) → fault_line nodes (i + 1) segment fault ≡ fault_line nodes (i + 1) (as_segment seen) fault =
      λ fault. fault_plain nodes (i + 1) segment fault
      ∙ ap (λ (n : ℕ). fault_line nodes (i + 1) (plain n segment.tag) fault) (sym start_is)
      ∙ sym (fault_plain nodes (i + 1) (as_segment seen) fault) in
      λ j. map (λ (fault : Fault). one fault j) faults

  abbrev nodes_here : List Node
  nodes_here = nodes_in dir (position_at dir segments i)

  abbrev told : List Fault → List ErrorLine
  told faults = map (fault_line nodes_here (i + 1) segment) faults

  walked_by : (a b : Bool) (table : ℕ) → ((a || b) ≡ false → nodes_here ≡ nodes_at dir table)
      → told (if not a && not b then faults_of_step step else []) ≡ (if a || b then [] else fault_lines (nodes_at dir table) seen (faults_of_step step))
  walked_by true b table nodes = refl
  walked_by false true table nodes = refl
  walked_by false false table nodes =
      ap (λ (ns : List Node). map (fault_line ns (i + 1) segment) (faults_of_step step)) (nodes refl) ∙ told_alike (nodes_at dir table) (faults_of_step step)

  step_by : (before : Mode) → mode_after dir segments i ≡ before → told (step_faults before segment step) ≡ step_lines dir before seen
  step_by Outside same = refl
  step_by Untabled same = refl
  step_by (Within table pairs) same =
      walked_by (is_named (codes "UNH") segment) (is_no_part segment) table
      (λ inside. nodes_before dir segments i within (ap bounds_message tag_here ∙ inside) ∙ ap (nodes_of_mode dir) same)

  -- what ends with the segment
  ends_by : (next : Option Segment) → slice_get segments (i + 1) ≡ next
      → ends_after tags i ≡ ends_before (option_map (kept_of dir context (mode_after dir segments (i + 1))) next)
  ends_by None none =
      let last : length tags ≤ i + 1 = omega (arith, length_tags dir segments, past_all segments (i + 1) none) in
      ap (λ (b : Bool). not b || bounds_message (tag_in tags (i + 1))) (le-ltb (i + 1) (length tags) last)
  ends_by (Some next) there =
      let before : i + 1 < length tags = omega (arith, length_tags dir segments, slice_get_within segments (i + 1) next there) in
      ap (λ (b : Bool). not b || bounds_message (tag_in tags (i + 1))) (lt-ltb (i + 1) (length tags) before)
      ∙ ap bounds_message (tag_is dir segments (i + 1) next there)

  end_by : (b : Bool) (after : Mode) → mode_after dir segments (i + 1) ≡ after
      → told (if b then map Missing (missing_at_end dir after) else [])
      ≡ (if b then fault_lines (nodes_of_mode dir after) seen (map Missing (missing_at_end dir after)) else [])
  end_by false after same = refl
  end_by true Outside same = refl
  end_by true Untabled same = refl
  end_by true (Within table pairs) same =
      let faults : List Fault = map Missing (missing_at_end dir (Within table pairs)) in
      ap (λ (ns : List Node). map (fault_line ns (i + 1) segment) faults) (nodes_after dir segments i within table pairs same)
      ∙ told_alike (nodes_at dir table) faults

  end_alike : told (end_faults dir tags i (mode_after dir segments (i + 1))) ≡ end_lines dir seen
  end_alike =
      ap (λ (after : Mode). told (end_faults dir tags i after)) mode_next
      ∙ ap (λ (b : Bool). told (if b then map Missing (missing_at_end dir step.after) else [])) (ends_by (slice_get segments (i + 1)) refl)
      ∙ end_by (ends_before seen.next) step.after mode_next

  structure_alike : structure_seen dir seen ≡ structure_lines dir segments i segment
  structure_alike =
      let before : Mode = mode_after dir segments i in
      let one : List Fault = step_faults before segment step in
      let two : List Fault = end_faults dir tags i (mode_after dir segments (i + 1)) in
      sym (mapped_twice (fault_line nodes_here (i + 1) segment) (λ (error : StructureError). error.fault) (structure_errors_at dir segments i)
      ∙ ap told (steps_tell_faults dir directory segments i segment is)
      ∙ map-append (fault_line nodes_here (i + 1) segment) one two
      ∙ ap (λ (xs : List ErrorLine). xs ++ told two) (step_by before refl)
      ∙ ap (λ (xs : List ErrorLine). step_lines dir before seen ++ xs) end_alike)

  local_alike : local_seen seen ≡ local_lines dir context (i + 1) segment
  local_alike =
      ap (λ (n : ℕ). map (λ (error : LocalError). error_with (i + 1) (record { start = n; tag = segment.tag }) error.element error.component error.kind) (local_errors_of dir context segment.components)) start_is

  pub lines_alike : lines_seen dir seen ≡ segment_lines dir context segments (i, segment)
  lines_alike =
      ap (λ (xs : List ErrorLine). xs ++ local_seen seen) structure_alike
      ∙ ap (λ (xs : List ErrorLine). structure_lines dir segments i segment ++ xs) local_alike

-- the errors of all segments
pub lines_are : (dir : Parts) → IsDirectory dir → (text : List ℕ) → flat_map (lines_seen dir) (seen_in dir text)
    ≡ flat_map (segment_lines dir (context_of text) (segments_of_text text)) (enumerate_from 0 (segments_of_text text))
lines_are dir directory text =
    let context = context_of text in
    let segments : List Segment = segments_of_text text in
    ap (flat_map (lines_seen dir)) (seen_is dir directory text)
    ∙ flat_map_alike (seen_at dir context segments) (lines_seen dir) (segment_lines dir context segments) (enumerate_from 0 segments)
    (all_enumerated (λ (p : ℕ × Segment). lines_seen dir (seen_at dir context segments p) ≡ segment_lines dir context segments p) segments
    (λ i segment is. lines_alike dir directory context segments i segment is (stretch_in dir directory text i segment is).low))
