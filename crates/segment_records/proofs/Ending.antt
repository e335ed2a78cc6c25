-- The structure errors of a segment, by the mode before it and the mode after it.
use Rattle.std.proofs.Common.{◌≡◌, ℕ, Bool, true, false, List, [], sym, ap, ◌∙◌}
use Rattle.std.specs.Prelude.{map, if◌then◌else◌}
use Rattle.edi_tables.specs.declared.table.Node.{Node}
use Rattle.edi_tables.specs.Pairs.{entry_in}
use Rattle.edi_tables.specs.Walk.{missing_past}
use Rattle.dir_compile.specs.declared.parts.Parts.{Parts}
use Rattle.table_walk.specs.Errors.Fault.{Missing}
use Rattle.segment_records.specs.Laws.{missing_at_end}
use Rattle.segment_records.specs.Messages.{nodes_at}
use Rattle.segment_records.specs.declared.mode.Mode.{Mode}
use Rattle.segment_records.specs.declared.mode.Mode.TheVariants.{Within}
use Rattle.segment_records.specs.Line.{end_lines, ends_before, fault_lines, faults_of_step, nodes_of_mode, step_lines}
use Rattle.segment_records.specs.WalkedSegments.{SeenSegment}
use Rattle.segment_records.specs.Bounds.{bounds_message}

-- in a message that ends
pub ends_within : (dir : Parts) (seen : SeenSegment) (table : ℕ) (pairs : List (ℕ × ℕ)) (nodes : List Node)
    → seen.kept.step.after ≡ Within table pairs → nodes_at dir table ≡ nodes → ends_before seen.next ≡ true
    → fault_lines nodes seen (map Missing (missing_past nodes (entry_in pairs))) ≡ end_lines dir seen
ends_within dir seen table pairs nodes after_is nodes_is ends =
    ap (λ (ns : List Node). fault_lines ns seen (map Missing (missing_past ns (entry_in pairs)))) (sym nodes_is)
    ∙ ap (λ (after : Mode). fault_lines (nodes_of_mode dir after) seen (map Missing (missing_at_end dir after))) (sym after_is)
    ∙ sym (ap (λ (b : Bool). if b then fault_lines (nodes_of_mode dir seen.kept.step.after) seen (map Missing (missing_at_end dir seen.kept.step.after)) else []) ends)

-- and with a segment that is part of one
pub steps_within : (dir : Parts) (seen : SeenSegment) (table : ℕ) (pairs : List (ℕ × ℕ)) (nodes : List Node)
    → seen.before ≡ Within table pairs → nodes_at dir table ≡ nodes → bounds_message seen.kept.tag ≡ false
    → fault_lines nodes seen (faults_of_step seen.kept.step) ≡ step_lines dir seen.before seen
steps_within dir seen table pairs nodes before_is nodes_is inside =
    ap (λ (ns : List Node). fault_lines ns seen (faults_of_step seen.kept.step)) (sym nodes_is)
    ∙ sym (ap (λ (before : Mode). step_lines dir before seen) before_is
    ∙ ap (λ (b : Bool). if b then [] else fault_lines (nodes_at dir table) seen (faults_of_step seen.kept.step)) inside)
