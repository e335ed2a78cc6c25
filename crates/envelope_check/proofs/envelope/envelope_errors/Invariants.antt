use Rattle.std.proofs.Common.{◌≡◌, ◌-◌, ◌≤◌, length, drop}
use Rattle.envelope_check.proofs.Progress.{IsDone}
use Rattle.envelope_check.proofs.envelope.envelope_errors.Given as goal

abbrev pub invariant-loop-known : goal.invariant-loop-known
invariant-loop-known g l = record {
  same : g.M.SegmentMarks.marks l.marks ≡ g.M.SegmentMarks.marks l.fn.marks;
  within : l.done ≤ length l.heads;
  done : IsDone l.heads (g.M.SegmentMarks.marks l.fn.marks) l.known.segments l.known (drop l.done l.heads) l.errors.items;
}

abbrev pub decreases-loop-known : goal.decreases-loop-known
decreases-loop-known g l = l.total - l.known.segments
