use Rattle.std.proofs.Common.{◌≡◌, ◌+◌, ◌-◌, ◌≤◌, ℕ, Some, length}
use Rattle.std.specs.List.{slice_get}
use Rattle.clean_segments.specs.Clean.{AreClean}
use Rattle.seg_lexer.specs.Segments.{boundaries_of, ends_of}
use Rattle.segment_records.specs.Known.{AreKnown}
use Rattle.segment_records.proofs.Rests.{rest_count}
use Rattle.kept_text.specs.Again.{NoneBefore}
use Rattle.kept_text.proofs.StretchRead.{AreRead}
use Rattle.kept_text.proofs.stretch.read_stretch.Given as goal

-- the segments so far were read, and none of them ends where an old one did
abbrev pub invariant-loop-start : goal.invariant-loop-start
invariant-loop-start g l = record {
  read : AreRead l.directory l.context (g.O.Octets.octets l.text) l.before l.from l.records.items l.to;
  apart : (k : ℕ) → slice_get (boundaries_of l.context.service (g.O.Octets.octets l.text)) k ≡ Some l.from
      → NoneBefore l.old l.context.service.body l.span (ends_of l.context.service (g.O.Octets.octets l.text)) (k, k + length l.records.items);
  clean : AreClean l.directory l.context (g.O.Octets.octets l.text) l.clean;
  known : AreKnown l.directory l.known;
  lexed : l.lexed ≤ l.initial.lexed + length l.records.items;
  placed : l.placed ≤ l.initial.placed + length l.records.items;
  lexed_most : l.lexed + rest_count l.context.service (g.O.Octets.octets l.text) l.to
      ≤ l.initial.lexed + rest_count l.context.service (g.O.Octets.octets l.text) l.from;
  placed_most : l.placed + rest_count l.context.service (g.O.Octets.octets l.text) l.to
      ≤ l.initial.placed + rest_count l.context.service (g.O.Octets.octets l.text) l.from;
}

abbrev pub decreases-loop-start : goal.decreases-loop-start
decreases-loop-start g l = length (g.O.Octets.octets l.text) - l.to
