use Rattle.std.proofs.Common.{◌≡◌, ◌≤◌, ◌-◌}
use Rattle.segment_records.specs.Count.{segment_count_of}
use Rattle.edi_engine.proofs.Telling.{IsTold}
use Rattle.edi_engine.proofs.checked.tell_all.Given as goal

-- what was told of the segments that are passed, and how many are left
abbrev pub invariant-loop-seen : goal.invariant-loop-seen
invariant-loop-seen l = record {
  directory : l.segments.directory ≡ l.directory;
  text : l.segments.text ≡ l.initial.segments.text;
  within : l.segments.passed ≤ segment_count_of l.segments.text;
  wanted : l.tree.wanted ≡ l.initial.tree.wanted;
  told : IsTold l.directory l.segments.text l.segments.passed l.errors.lines.items l.errors.heads.items l.tree.wanted l.tree.text l.tree.lines;
}

abbrev pub decreases-loop-seen : goal.decreases-loop-seen
decreases-loop-seen l = segment_count_of l.segments.text - l.segments.passed
