use Rattle.std.proofs.Common.{◌≡◌, ◌<◌, ◌∷◌, ◌∙◌, ℕ, Some, drop, length, sym, subst, arith}
use Rattle.std.specs.List.{slice_get}
use Rattle.envelope_check.specs.declared.head.SegmentMark.{SegmentMark}
use Rattle.kept_text.specs.Reading.{Reading}
use Rattle.segment_records.specs.Heads.{marks_of}
use Rattle.segment_records.specs.Look.{seen_of}
use Rattle.segment_records.specs.Segments.{segments_of_text}
use Rattle.segment_records.specs.WalkedSegments.{seen_in}
use Rattle.segment_records.proofs.Headed.{count_marks}
use Rattle.segment_records.proofs.Looking.{next_left}
use Rattle.edi_engine.proofs.Marked.{mark_here, marks_count, some_left}
use Rattle.edi_engine.proofs.marks.KeptMarksSegmentMarks.mark.Goals as goal

pub go_to-requires : goal.go_to-requires
go_to-requires c =
    let within = c.requires in
    omega (arith, count_marks c.args.self.now.kept.now.text)

pub unreachable-requires : goal.unreachable-requires
unreachable-requires c =
    let marks = c.go_to.new.self in
    let dir = marks.kept.now.directory in
    let text = marks.kept.now.text in
    let same = c.go_to.ensures.same in
    let there = c.go_to.ensures.there in
    let within : c.args.i < length (marks_of (segments_of_text text)) =
    subst (λ (r : Reading). c.args.i < length (marks_of (segments_of_text r.text))) (sym same) c.requires in
    let before : marks.place < length (seen_in dir text) = omega (arith, marks_count dir marks.lawful text) in
    some_left (seen_in dir text) marks.place before (sym marks.walked ∙ c.in_default.ensures.steps.0)

pub invariant_of-self : goal.invariant_of-self
invariant_of-self c =
    let marks = c.go_to.new.self in
    let seen = seen_in marks.kept.now.directory marks.kept.now.text in
    record {
      walked = sym (next_left seen (seen_of c.in-Some.seen) c.next.new.self marks.place (sym marks.walked ∙ c.in-Some.ensures.steps));
      few = marks.few;
      lawful = marks.lawful;
    }

pub returns-clause-is : goal.returns-clause-is
returns-clause-is c =
    let marks = c.go_to.new.self in
    let dir = marks.kept.now.directory in
    let text = marks.kept.now.text in
    let seen = seen_of c.in-Some.seen in
    let mark : SegmentMark = record { start = c.start.result; tag = c.tag.result } in
    let left = subst (λ (n : ℕ). drop n (seen_in dir text) ≡ seen ∷ c.next.new.self) c.go_to.ensures.there (sym marks.walked ∙ c.in-Some.ensures.steps) in
    subst (λ (r : Reading). slice_get (marks_of (segments_of_text r.text)) c.args.i ≡ Some mark) c.go_to.ensures.same
    (mark_here dir marks.lawful text c.args.i seen c.next.new.self left mark c.start.ensures c.tag.ensures)
